use Rattle.low_ir.specs.declared.code.LowSource.TheVariants.{Word}
use Rattle.rv_select.proofs.Emitting.{stores_more}
use Rattle.rv_select.proofs.parts.put_stores.Goals as goal

pub loop-i-preserved : goal.loop-i-preserved
loop-i-preserved c =
    stores_more c.args.first c.loop-i.i c.args.args.now (Word 0) _ _ _ _
    (rw c.as_slice-args.ensures at c.loop-i-test.true) c.loop-i.invariant
    (rw c.as_slice-args.ensures at c.in_ok-put_source.ensures)
    (rw (c.in_ok-word.ensures, c.real.ensures, c.as_slice-args.ensures) at c.in_ok-push.ensures.ok)

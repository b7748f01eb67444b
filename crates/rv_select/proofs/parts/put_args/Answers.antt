use Rattle.std.proofs.Common.{ap, ◌∙◌, get_or}
use Rattle.low_ir.specs.declared.code.LowSource.TheVariants.{Word}
use Rattle.rv_select.specs.Select.{put_item}
use Rattle.rv_select.proofs.Emitting.{args_more}
use Rattle.rv_select.proofs.parts.put_args.Goals as goal

pub loop-i-preserved : goal.loop-i-preserved
loop-i-preserved c =
    let item = c.in_ok-put_item.ensures
    ∙ ap (λ r. put_item c.args.first r (get_or c.as_slice-args.result.now c.loop-i.i (Word 0))) c.real.ensures in
    args_more c.args.first c.loop-i.i c.args.args.now (Word 0) _ _ _ _
    (rw c.as_slice-args.ensures at c.loop-i-test.true) (rw c.as_slice-args.ensures at item) c.loop-i.invariant
    c.in_ok-push.ensures.ok

use Rattle.rv_select.proofs.Emitting.{params_more}
use Rattle.rv_select.proofs.parts.put_head.Goals as goal

pub loop-i-preserved : goal.loop-i-preserved
loop-i-preserved c =
    params_more c.args.first c.loop-i.i _ _ _ c.loop-i.invariant
    (rw (c.in_ok-local.ensures, c.real.ensures) at c.in_ok-push-2.ensures.ok)

use Rattle.std.proofs.Common.{◌∙◌}
use Rattle.closure_convert.proofs.Gathering.{ahead_popped}
use Rattle.closure_convert.proofs.waits.Waits.ahead_of.Goals as goal

pub loop-wait-preserved : goal.loop-wait-preserved
loop-wait-preserved c =
    rw c.in_ok-body.ensures
    (ahead_popped _ _ c.in-Some.wait _ c.in-Some.ensures.items ∙ c.loop-wait.invariant)

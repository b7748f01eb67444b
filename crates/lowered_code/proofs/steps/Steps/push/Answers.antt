use Rattle.lowered_code.proofs.Gathering.{ahead_more}
use Rattle.lowered_code.proofs.steps.Steps.push.Goals as goal

pub returns : goal.returns
returns c = λ k. rw c.in_ok-append.ensures (ahead_more _ _ k)

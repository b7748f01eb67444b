use Rattle.closure_convert.proofs.Gathering.{ahead_more}
use Rattle.closure_convert.proofs.waits.Waits.push.Goals as goal

pub returns-clause-waits : goal.returns-clause-waits
returns-clause-waits c = λ rest. rw c.in_ok-push.ensures.items (ahead_more _ _ rest)

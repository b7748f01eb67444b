use Rattle.std.proofs.Common.{◌≡◌}
use Rattle.reg_assign.specs.Walks.{IsWalk, IsClosed, left}
use Rattle.reg_assign.proofs.assign.finish.Given as goal

abbrev pub invariant-loop-place : goal.invariant-loop-place
invariant-loop-place l = (l.walk.number ≡ l.fn.walk.number) × IsWalk l.items l.walk × IsClosed l.items l.walk

abbrev pub decreases-loop-place : goal.decreases-loop-place
decreases-loop-place l = left l.walk

use Rattle.std.proofs.Common.{◌≡◌}
use Rattle.reg_assign.specs.Numbers.{register_at}
use Rattle.reg_assign.specs.Walks.{IsWalk}
use Rattle.reg_assign.proofs.Walking.{AreReached}
use Rattle.reg_assign.proofs.walks.begin.Given as goal

-- what leads to the reads so far is found
abbrev pub invariant-loop-place : goal.invariant-loop-place
invariant-loop-place l =
    (l.walk.number ≡ l.number) × (l.walk.done ≡ 0) × IsWalk l.items l.walk
    × AreReached l.items (register_at l.number) l.place-items l.place-index l.walk

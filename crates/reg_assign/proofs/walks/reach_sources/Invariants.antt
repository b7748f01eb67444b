use Rattle.reg_assign.specs.Numbers.{register_at}
use Rattle.reg_assign.specs.Walks.{IsWalk, Grows}
use Rattle.reg_assign.proofs.Walking.{AreFound}
use Rattle.reg_assign.proofs.walks.reach_sources.Given as goal

-- the sources so far are found, but for those that write the register
abbrev pub invariant-loop-source : goal.invariant-loop-source
invariant-loop-source l =
    IsWalk l.items l.walk × Grows l.fn.walk l.walk
    × AreFound l.items (register_at l.fn.walk.number) l.source-items l.source-index l.walk

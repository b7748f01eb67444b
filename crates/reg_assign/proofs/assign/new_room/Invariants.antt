use Rattle.std.proofs.Common.{length}
use Rattle.reg_assign.specs.Walks.{IsIdle}
use Rattle.reg_assign.proofs.Assigned.{RealsUpto}
use Rattle.reg_assign.proofs.assign.new_room.Given as goal

-- the real registers so far are noted
abbrev pub invariant-loop-r : goal.invariant-loop-r
invariant-loop-r l = IsIdle (length l.items) l.r l.walk × RealsUpto l.items l.busy.items l.r

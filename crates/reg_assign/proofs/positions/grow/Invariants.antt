use Rattle.std.proofs.Common.{◌≡◌, ℕ, suc, ◌-◌, length}
use Rattle.reg_assign.specs.Flow.{under}
use Rattle.reg_assign.proofs.positions.grow.Given as goal

-- the lists that were added are empty
abbrev pub invariant-loop-alloc : goal.invariant-loop-alloc
invariant-loop-alloc l = (k : ℕ) → under l.lists.items k ≡ under l.fn.lists.items k

abbrev pub decreases-loop-alloc : goal.decreases-loop-alloc
decreases-loop-alloc l = suc l.number - length l.lists.items

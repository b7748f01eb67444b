use Rattle.std.proofs.Common.{ℕ, ◌<◌, length}
use Rattle.reg_assign.specs.Numbers.{register_at}
use Rattle.placed_code.specs.Places.{place_in}
use Rattle.reg_assign.specs.Flow.{IsKept}
use Rattle.reg_assign.specs.Walks.{IsIdle}
use Rattle.reg_assign.proofs.check.are_kept.Given as goal

-- the registers so far are kept
abbrev pub invariant-loop-number : goal.invariant-loop-number
invariant-loop-number l =
    IsIdle (length l.items) l.number l.walk
    × ((k : ℕ) → k < l.number → IsKept l.items (place_in l.places) (register_at k))

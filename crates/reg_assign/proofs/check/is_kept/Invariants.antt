use Rattle.std.proofs.Common.{ℕ, ◌<◌, ◌≡◌}
use Rattle.std.specs.Prelude.{slice_index}
use Rattle.reg_assign.specs.Numbers.{register_at}
use Rattle.placed_code.specs.Places.{place_in}
use Rattle.reg_assign.specs.Walks.{IsWalk, IsClosed, left}
use Rattle.reg_assign.specs.Fits.{IsFine}
use Rattle.reg_assign.proofs.check.is_kept.Given as goal

-- the register may be needed behind the places so far
abbrev pub invariant-loop-place : goal.invariant-loop-place
invariant-loop-place l =
    (l.walk.number ≡ l.number) × IsWalk l.items l.walk × IsClosed l.items l.walk
    × ((j : ℕ) → j < l.walk.done
    → IsFine l.items (place_in l.places) (register_at l.number) (slice_index l.walk.found.items j))

abbrev pub decreases-loop-place : goal.decreases-loop-place
decreases-loop-place l = left l.walk

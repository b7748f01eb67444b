use Rattle.std.proofs.Common.{ℕ, ◌<◌, ◌≡◌}
use Rattle.std.specs.Int.{bit_at}
use Rattle.std.specs.Prelude.{slice_index}
use Rattle.reg_assign.specs.Room.{Tells}
use Rattle.reg_assign.proofs.assign.in_use.Given as goal

-- of the places so far
abbrev pub invariant-loop-place : goal.invariant-loop-place
invariant-loop-place l =
    Tells (λ r. (j : ℕ) → j < l.place-index → bit_at (slice_index l.busy (slice_index l.at j)) r ≡ 0) l.taken

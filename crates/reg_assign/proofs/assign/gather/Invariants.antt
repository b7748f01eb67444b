use Rattle.std.proofs.Common.{ℕ, ◌<◌, ◌≡◌, true, Some}
use Rattle.std.specs.Int.{bit_at}
use Rattle.std.specs.Prelude.{slice_get, slice_index}
use Rattle.rv_select.specs.declared.code.Place.TheVariants.{InReg}
use Rattle.rv_select.specs.declared.code.VirtualItem.{VirtualItem}
use Rattle.rv_select.specs.Holding.{may_hold, SparedBy}
use Rattle.placed_code.specs.Places.{place_in}
use Rattle.reg_assign.specs.Walks.{IsWalk, IsClosed, left}
use Rattle.reg_assign.specs.Room.{IsTaken}
use Rattle.reg_assign.proofs.assign.gather.Given as goal

-- the bits are those that were told and those of the places so far
abbrev pub invariant-loop-place : goal.invariant-loop-place
invariant-loop-place l =
    (l.walk.number ≡ l.number) × IsWalk l.items l.walk × IsClosed l.items l.walk
    × ((r : ℕ) → may_hold r ≡ true → bit_at l.all r ≡ 1 → IsTaken l.items (place_in l.places) l.number l.taken r)
    × ((r : ℕ) → may_hold r ≡ true → bit_at l.all r ≡ 0 → bit_at l.taken r ≡ 0)
    × ((r : ℕ) → may_hold r ≡ true → bit_at l.all r ≡ 0 → (j : ℕ) → j < l.walk.done → (item : VirtualItem)
    → slice_get l.items (slice_index l.walk.found.items j) ≡ Some item → SparedBy (place_in l.places) item (InReg r))

abbrev pub decreases-loop-place : goal.decreases-loop-place
decreases-loop-place l = left l.walk

-- When places fit a code.
use Rattle.std.specs.Prelude.{ℕ, ◌≤◌, ◌≡◌, ◌⊎◌, List, length, Some, slice_get}
use Rattle.rv_select.specs.declared.code.VReg.{VReg}
use Rattle.rv_select.specs.declared.code.Place.{Place}
use Rattle.rv_select.specs.declared.code.Place.TheVariants.{InReg, Slot}
use Rattle.rv_select.specs.declared.code.VirtualItem.{VirtualItem}
use Rattle.rv_select.specs.declared.code.VirtualItem.TheVariants.{Procedure}
use Rattle.reg_assign.specs.declared.check.Spot.{Spot}
use Rattle.reg_assign.specs.declared.check.Spot.TheVariants.{Numbered, InSlot}
use Rattle.placed_code.specs.Places.{place_in}
use Rattle.rv_select.specs.Holding.{place_of, SparedBy}
use Rattle.placed_code.specs.Check.{HasHolding}
use Rattle.reg_assign.specs.Flow.{IsVirtual}

-- there is a place for each of so many registers, none of them a real register that code or the machine needs, and the
-- code has a holding
pub record Fit (items : List VirtualItem) (registers : ℕ) (places : List Place) : Type 0 where
  pub each : registers ≤ length places
  pub holds : HasHolding items (place_in places)

-- the place that is told
abbrev pub spot_place : Spot → Place
spot_place (Numbered r) = InReg r
spot_place (InSlot i) = Slot i

-- where no virtual register has a word: before the first item, and before a procedure
abbrev pub IsBeginning : List VirtualItem → ℕ → Type 0
IsBeginning items p =
    (p ≡ 0) ⊎ ((k : ℕ) × (first : ℕ) × (count : ℕ) × (slice_get items p ≡ Some (Procedure k first count)))

-- a register may be needed behind the item at a place
abbrev pub IsFine : List VirtualItem → (ℕ → Place) → VReg → ℕ → Type 0
IsFine items place a p =
    (IsVirtual a → IsBeginning items p → ⊥)
    × ((item : VirtualItem) → slice_get items p ≡ Some item → SparedBy place item (place_of place a))

-- Which real registers are free for a virtual one, as bits of numbers.
use Rattle.std.specs.Prelude.{ℕ, ◌<◌, ◌≡◌, ◌⊎◌, true, List, length, slice_index, slice_get, Some, Contains}
use Rattle.std.specs.Int.{bit_at}
use Rattle.rv_select.specs.declared.code.VReg.{VReg}
use Rattle.rv_select.specs.declared.code.Place.{Place}
use Rattle.rv_select.specs.declared.code.Place.TheVariants.{InReg, Slot}
use Rattle.rv_select.specs.declared.code.VirtualItem.{VirtualItem}
use Rattle.rv_select.specs.Holding.{Among, reads, place_of, may_hold, SparedBy}
use Rattle.reg_assign.specs.declared.assign.Room.{Room}
use Rattle.placed_code.specs.Places.{place_in}
use Rattle.placed_code.specs.Check.{HasHolding, with_place}
use Rattle.reg_assign.specs.Flow.{Behind}
use Rattle.reg_assign.specs.Walks.{IsIdle, IsWalk, IsClosed}
use Rattle.reg_assign.specs.declared.walks.Walk.{Walk}
use Rattle.reg_assign.specs.Numbers.{register_at}

-- the bits of a number are 0 just where something holds of the real registers that may hold others
abbrev pub Tells : (ℕ → Type 0) → ℕ → Type 0
Tells P bits =
    (r : ℕ) → may_hold r ≡ true → (bit_at bits r ≡ 0 → P r) × (bit_at bits r ≡ 1 → P r → ⊥)

-- a register behind an item is kept in a real one
pub record IsBusy (items : List VirtualItem) (place : ℕ → Place) (p r : ℕ) : Type 0 where
  pub register : VReg
  pub here : place_of place register ≡ InReg r
  pub behind : Behind items register p

-- the places whose items read a register, and those behind whose items it is needed
pub record Known (items : List VirtualItem) (a : VReg) : Type 0 where
  pub reading : List ℕ
  pub found : List ℕ
  pub reads_only : (p : ℕ) → Contains reading p
      → (item : VirtualItem) × (slice_get items p ≡ Some item) × Among a (reads item)
  pub reads_all : (p : ℕ) (item : VirtualItem) → slice_get items p ≡ Some item → Among a (reads item)
      → Contains reading p
  pub only : (p : ℕ) → Contains found p → Behind items a p
  pub all : (p : ℕ) → Behind items a p → Contains found p

-- a real register is taken for the register of a number: one of some bits says so, or an item changes it behind which
-- the register is needed
abbrev pub IsTaken : List VirtualItem → (ℕ → Place) → ℕ → ℕ → ℕ → Type 0
IsTaken items place number bits r =
    (bit_at bits r ≡ 1)
    ⊎ ((p : ℕ) × (b : Behind items (register_at number) p) × (SparedBy place b.item (InReg r) → ⊥))

-- it is left: none does, and all places were found behind whose items the register is needed
pub record IsLeft (items : List VirtualItem) (place : ℕ → Place) (number bits r : ℕ) (w : Walk) : Type 0 where
  pub free : bit_at bits r ≡ 0
  pub same : w.number ≡ number
  pub walk : IsWalk items w
  pub closed : IsClosed items w
  pub all : w.done ≡ length w.found.items
  pub spared : (j : ℕ) → j < w.done → (item : VirtualItem) → slice_get items (slice_index w.found.items j) ≡ Some item
      → SparedBy place item (InReg r)

-- what is noted of a code whose registers have these places, so many of which were given
pub record IsRoom (items : List VirtualItem) (place : ℕ → Place) (number : ℕ) (room : Room) : Type 0 where
  pub idle : IsIdle (length items) number room.walk
  pub size : length room.busy.items ≡ length items
  -- the bits of each item are those of the real registers in use behind it
  pub bits : (p : ℕ) → p < length items → Tells (λ r. IsBusy items place p r → ⊥) (slice_index room.busy.items p)
  -- of each register in a real one that may hold others it is known where it is needed
  pub known : (r : ℕ) (a : VReg) → may_hold r ≡ true → place_of place a ≡ InReg r → Known items a
  pub holds : HasHolding items place

-- a register has the place that it can have
abbrev pub IsChosen : List VirtualItem → (ℕ → Place) → ℕ → Place → Type 0
IsChosen items place v (InReg r) = (may_hold r ≡ true) × HasHolding items (with_place place v (InReg r))
IsChosen items place v (Slot i) =
    (i ≡ v) × ((r : ℕ) → may_hold r ≡ true → HasHolding items (with_place place v (InReg r)) → ⊥)

-- So many registers have places, which fit and are unbettered in one place at a time: where one has a slot, no holding
-- exists once that one place is made any real register that may hold others, and all others are as they are. Places of
-- which several differ from these may leave fewer registers in slots.
pub record IsBest (items : List VirtualItem) (registers : ℕ) (places : List Place) : Type 0 where
  pub each : length places ≡ registers
  pub holds : HasHolding items (place_in places)
  pub maximal : (v i r : ℕ) → v < registers → place_in places v ≡ Slot i → may_hold r ≡ true
      → HasHolding items (with_place (place_in places) v (InReg r)) → ⊥

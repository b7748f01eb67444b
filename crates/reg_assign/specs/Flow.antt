-- Where a register is needed behind items, and lists of items by the registers that they name.
use Rattle.std.specs.Prelude.{ℕ, ◌<◌, ◌≡◌, ◌⊎◌, [], Bool, true, false, List, Option, Some, None, slice_get, unwrap_or}
use Rattle.std.specs.Prelude.{Contains}
use Rattle.rv_select.specs.declared.code.VReg.{VReg}
use Rattle.rv_select.specs.declared.code.VReg.TheVariants.{Real, Virtual}
use Rattle.rv_select.specs.declared.code.Place.{Place}
use Rattle.rv_select.specs.declared.code.VirtualItem.{VirtualItem}
use Rattle.rv_select.specs.declared.code.VirtualItem.TheVariants.{Mark, Procedure}
use Rattle.rv_select.specs.Holding.{Among, reads, writes, target, place_of, SparedBy, MayFollow}
use Rattle.placed_code.specs.Check.{Needed}
use Rattle.reg_assign.specs.Numbers.{register_at}

-- ---- one register

-- an item may go on to where a register is needed
pub record LeadsToNeed (items : List VirtualItem) (a : VReg) (p : ℕ) (item : VirtualItem) : Type 0 where
  pub next : ℕ
  pub follows : MayFollow items item p next
  pub needed : Needed items next a

-- and doesn't write it
pub record Behind (items : List VirtualItem) (a : VReg) (p : ℕ) : Type 0 where
  pub item : VirtualItem
  pub there : slice_get items p ≡ Some item
  pub away : Among a (writes item) → ⊥
  pub leads : LeadsToNeed items a p item

-- a register that is needed nowhere before the code or a procedure
abbrev pub IsVirtual : VReg → Type 0
IsVirtual (Real r) = ⊥
IsVirtual (Virtual v) = Unit {0}

-- the part of a holding that speaks of one register
pub record IsKept (items : List VirtualItem) (place : ℕ → Place) (a : VReg) : Type 0 where
  pub held : ℕ → Bool
  pub start : IsVirtual a → held 0 ≡ false
  pub procedures : (p k first count : ℕ) → slice_get items p ≡ Some (Procedure k first count) → IsVirtual a
      → held p ≡ false
  pub finds : (p : ℕ) (item : VirtualItem) → slice_get items p ≡ Some item → Among a (reads item) → held p ≡ true
  pub flows : (p q : ℕ) (item : VirtualItem) → slice_get items p ≡ Some item → MayFollow items item p q
      → held q ≡ true → Among a (writes item) ⊎ ((held p ≡ true) × SparedBy place item (place_of place a))

-- the number of a mark
abbrev pub mark_of : VirtualItem → Option ℕ
mark_of (Mark m) = Some m
mark_of item = None

-- ---- registers that code may name

-- there are 32 real ones
abbrev pub IsTold : VReg → Type 0
IsTold (Real r) = r < 32
IsTold (Virtual v) = Unit {0}

-- an item reads these alone, or so many words that the first register beyond them is read too
abbrev pub ReadsTold : VirtualItem → Type 0
ReadsTold item = (x : VReg) → Among x (reads item) → IsTold x ⊎ Among (Real 32) (reads item)

abbrev pub WritesTold : VirtualItem → Type 0
WritesTold item = (x : VReg) → Among x (writes item) → IsTold x

pub record EachTold (items : List VirtualItem) : Type 0 where
  pub reads : (p : ℕ) (item : VirtualItem) → slice_get items p ≡ Some item → ReadsTold item
  pub writes : (p : ℕ) (item : VirtualItem) → slice_get items p ≡ Some item → WritesTold item

-- ---- lists by numbers

-- the list of a number
abbrev pub under : List (List ℕ) → ℕ → List ℕ
under lists k = unwrap_or (slice_get lists k) []

-- under each number stand the places of the items that have to do with it
pub record IsListed (P : VirtualItem → ℕ → Type 0) (items : List VirtualItem) (lists : ℕ → List ℕ) : Type 0 where
  pub only : (k p : ℕ) → Contains (lists k) p → (item : VirtualItem) × (slice_get items p ≡ Some item) × P item k
  pub all : (k p : ℕ) (item : VirtualItem) → slice_get items p ≡ Some item → P item k → Contains (lists k) p

abbrev pub IsRead : VirtualItem → ℕ → Type 0
IsRead item k = Among (register_at k) (reads item)

abbrev pub IsWritten : VirtualItem → ℕ → Type 0
IsWritten item k = Among (register_at k) (writes item)

abbrev pub IsTarget : VirtualItem → ℕ → Type 0
IsTarget item m = target item ≡ Some m

-- one more place is put under the numbers for which something holds
pub record Adds (P : ℕ → Type 0) (p : ℕ) (old new : ℕ → List ℕ) : Type 0 where
  pub only : (k q : ℕ) → Contains (new k) q → Contains (old k) q ⊎ ((q ≡ p) × P k)
  pub still : (k q : ℕ) → Contains (old k) q → Contains (new k) q
  pub added : (k : ℕ) → P k → Contains (new k) p

-- What holds along a walk back from where a register is read.
use Rattle.std.specs.Prelude.{ℕ, suc, ◌+◌, ◌-◌, ◌≤◌, ◌<◌, ◌^◌, ◌≡◌, ◌++◌, ◌==◌, not, List, length}
use Rattle.std.specs.Prelude.{Option, Some, None}
use Rattle.std.specs.Prelude.{slice_get, slice_index, All, Contains, count_by}
use Rattle.rv_select.specs.declared.code.VReg.{VReg}
use Rattle.rv_select.specs.declared.code.VirtualItem.{VirtualItem}
use Rattle.rv_select.specs.Holding.{Among, reads, writes, MayFollow}
use Rattle.reg_assign.specs.declared.walks.Walk.{Walk}
use Rattle.reg_assign.specs.Numbers.{register_at}
use Rattle.reg_assign.specs.Flow.{LeadsToNeed, Behind}

-- no place of so many is noted for the register of this number or a later one
pub record IsIdle (count number : ℕ) (w : Walk) : Type 0 where
  pub size : length w.seen.items ≡ count
  pub older : All (λ s. s ≤ number) w.seen.items

-- the item at a place, if one stands there, leads to where the register is needed
abbrev pub Leads : List VirtualItem → VReg → ℕ → Type 0
Leads items a p = (item : VirtualItem) → slice_get items p ≡ Some item → LeadsToNeed items a p item

-- what is found are places behind whose items the register is needed, and each place that is noted is found
pub record IsWalk (items : List VirtualItem) (w : Walk) : Type 0 where
  pub size : length w.seen.items ≡ length items
  pub older : All (λ s. s ≤ suc w.number) w.seen.items
  pub noted : (p : ℕ) → p < length items → slice_index w.seen.items p ≡ suc w.number → Contains w.found.items p
  pub sound : All (λ p. Behind items (register_at w.number) p) w.found.items
  pub within : w.done ≤ length w.found.items
  pub fits : suc w.number < 2 ^ 64

-- the places that are not noted, and those that the walk didn't go on from
abbrev pub left : Walk → ℕ
left w = count_by (λ s. not (s == suc w.number)) w.seen.items + (length w.found.items - w.done)

-- more places were found
pub record Grows (old new : Walk) : Type 0 where
  pub number : new.number ≡ old.number
  pub done : new.done ≡ old.done
  pub more : List ℕ
  pub found : new.found.items ≡ old.found.items ++ more
  pub less : left new ≤ left old

-- the items that lead to a place and don't write the register are among these
abbrev pub Reaches : List VirtualItem → VReg → List ℕ → ℕ → Type 0
Reaches items a found q =
    (p : ℕ) (item : VirtualItem) → slice_get items p ≡ Some item → MayFollow items item p q
    → (Among a (writes item) → ⊥) → Contains found p

-- all are found that lead to where the register is read
abbrev pub HasRoots : List VirtualItem → Walk → Type 0
HasRoots items w =
    (q : ℕ) (item : VirtualItem) → slice_get items q ≡ Some item → Among (register_at w.number) (reads item)
    → Reaches items (register_at w.number) w.found.items q

-- and all that lead to the places that the walk went on from
pub record IsClosed (items : List VirtualItem) (w : Walk) : Type 0 where
  pub roots : HasRoots items w
  pub closed : (j : ℕ) → j < w.done
      → Reaches items (register_at w.number) w.found.items (slice_index w.found.items j)

-- one step of a walk: it gave the next place, or all were given
abbrev pub Steps : Walk → Walk → Option ℕ → Type 0
Steps old new None = (new ≡ old) × (old.done ≡ length old.found.items)
Steps old new (Some p) =
    (new.number ≡ old.number) × (new.done ≡ suc old.done) × (slice_index old.found.items old.done ≡ p)
    × (old.done < length old.found.items)
    × ((more : List ℕ) × (new.found.items ≡ old.found.items ++ more)) × (suc (left new) ≤ left old)

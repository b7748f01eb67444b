use Rattle.std.proofs.Common.{◌≡◌, ◌++◌, ℕ, drop}
use Rattle.placed_code.specs.Slotted.{EachHasFew}
use Rattle.placed_code.specs.Places.{place_in}
use Rattle.placed_code.specs.Rename.{kept_in, densely, rename_all}
use Rattle.reg_assign.proofs.apply.put_renamed.Given as goal

-- what is done, and what is left under the names of its procedure, are all; each procedure before has few registers
abbrev pub invariant-loop-item : goal.invariant-loop-item
invariant-loop-item l =
    (count : ℕ) × (l.kept.slots.keys ≡ kept_in (place_in l.places) l.kept.first count)
    × (l.renamed ++ rename_all (densely (place_in l.places)) l.kept.first count (drop l.item-index l.items)
    ≡ l.fn.renamed ++ rename_all (densely (place_in l.places)) 0 0 l.items)
    × (EachHasFew (drop l.item-index l.items) → EachHasFew l.items)

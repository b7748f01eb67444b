-- Places of marks, found from the last item on.
use Rattle.std.proofs.Common.{ℕ, suc, ◌+◌, ◌≤◌, ◌≡◌, arith, Bool, true, false, Option, List, [], ◌∷◌, length, drop}
use Rattle.std.specs.Prelude.{◌==◌, if◌then◌else◌}
use Rattle.rv_machine.specs.declared.real.RealItem.{RealItem}
use Rattle.rv_machine.specs.declared.real.RealItem.TheVariants.{Op, Mark, Jump, Branch, Address}
use Rattle.assembler.specs.Layout.{mark_place}
use Rattle.assembler.specs.Tables.{place_or}

-- the places of the marks from an item on are found
abbrev pub FindsFrom : List RealItem → ℕ → (ℕ → Option ℕ) → Type 0
FindsFrom items place found =
    (mark : ℕ) → place_or (length items) (found mark) ≡ place + mark_place mark (drop place items)

pub mark_inside : (mark : ℕ) (items : List RealItem) → mark_place mark items ≤ length items
mark_inside mark [] = omega arith
mark_inside mark (Op i ∷ rest) = let h = mark_inside mark rest in omega arith
mark_inside mark (Mark m ∷ rest) = by (m == mark) (mark_inside mark rest)
  where
    by : (same : Bool) → mark_place mark rest ≤ length rest
        → (if same then 0 else suc (mark_place mark rest)) ≤ suc (length rest)
    by true h = omega arith
    by false h = omega arith
mark_inside mark (Jump rd m ∷ rest) = let h = mark_inside mark rest in omega arith
mark_inside mark (Branch cond a b m ∷ rest) = let h = mark_inside mark rest in omega arith
mark_inside mark (Address rd m ∷ rest) = let h = mark_inside mark rest in omega arith

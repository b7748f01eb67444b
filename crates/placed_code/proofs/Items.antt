-- The items of a code from a place on, and those that are no procedure.
use Rattle.std.proofs.Common.{ℕ, zero, suc, ◌≡◌, List, [], ◌∷◌, Some, drop, ap}
use Rattle.std.specs.Prelude.{slice_get}
use Rattle.rv_select.specs.declared.code.VirtualItem.{VirtualItem}
use Rattle.rv_select.specs.declared.code.VirtualItem.TheVariants.{Procedure}

-- what stands at a place is the first from there on
pub drop_here : {X : Type 0} (xs : List X) (p : ℕ) (x : X) → slice_get xs p ≡ Some x → drop p xs ≡ x ∷ drop (suc p) xs
drop_here [] zero x e = absurd (cc)
drop_here [] (suc p) x e = absurd (cc)
drop_here (y ∷ ys) zero x e = let same : y ≡ x = cc in ap (λ z. z ∷ ys) same
drop_here (y ∷ ys) (suc p) x e = drop_here ys p x e

-- an item that is no procedure
abbrev pub IsBody : VirtualItem → Type 0
IsBody (Procedure k first count) = ⊥
IsBody item = Unit {0}

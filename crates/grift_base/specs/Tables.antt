-- Tables: lists that hold each entry once, in order of first use.
use Rattle.std.specs.Prelude.{ℕ, ◌≡◌, ◌<◌, ◌⊎◌, List, [], ◌∷◌, ◌++◌, length, slice_get, Contains}

-- no two places hold the same
abbrev pub HasNoRepeats : {T : Type 0} → List T → Type 0
HasNoRepeats xs = (i j : ℕ) → i < length xs → slice_get xs i ≡ slice_get xs j → i ≡ j

-- x is now in the table: nothing changed where it was there before, and else it went last
abbrev pub Interns : {T : Type 0} → List T → T → List T → Type 0
Interns old x new = (Contains old x × (new ≡ old)) ⊎ ((¬ Contains old x) × (new ≡ old ++ x ∷ []))

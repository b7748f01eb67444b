-- Rows that are put into a table of types, and work that puts them there.
use Rattle.std.specs.Prelude.{ℕ, suc, nat_eq, Bool, true, false, cond, ◌&&◌, List, [], ◌∷◌, ◌++◌, length}
use Rattle.std.specs.Prelude.{Option, Some, None, option_map}
use Rattle.grift_base.specs.Types.{TypeRow, TypeRows, parts_of, same_head}

abbrev pub equal_numbers : List ℕ → List ℕ → Bool
equal_numbers [] [] = true
equal_numbers [] (b ∷ bs) = false
equal_numbers (a ∷ rest) [] = false
equal_numbers (a ∷ rest) (b ∷ bs) = nat_eq a b && equal_numbers rest bs

-- whether two rows have the same constructor and the same parts
abbrev pub equal_rows : TypeRow → TypeRow → Bool
equal_rows row other = same_head row other && equal_numbers (parts_of row) (parts_of other)

-- the first place of something that passes
abbrev pub place_where : {A : Type 0} → (A → Bool) → List A → Option ℕ
place_where passes [] = None
place_where passes (a ∷ rest) = cond (passes a) (Some 0) (option_map suc (place_where passes rest))

-- this place, or that of a behind the list, and the list that then has it
abbrev pub at_place_or_last : {A : Type 0} → Option ℕ → A → List A → ℕ × List A
at_place_or_last (Some place) a old = (place, old)
at_place_or_last None a old = (length old, old ++ a ∷ [])

-- work that forms types: an answer, and the table after it
abbrev pub Forming : Type 0 → Type 0
Forming A = TypeRows → A × TypeRows

abbrev pub then_form : {A B : Type 0} → A × TypeRows → (A → Forming B) → B × TypeRows
then_form formed next = next formed.0 formed.1

abbrev pub ◌>>=◌ : {A B : Type 0} → Forming A → (A → Forming B) → Forming B
◌>>=◌ work next = λ types. then_form (work types) next

abbrev pub formed : {A : Type 0} → A → Forming A
formed a = λ types. (a, types)

-- the place of the row, which goes last where the table does not have it yet
abbrev pub intern : TypeRow → Forming ℕ
intern row = λ types. at_place_or_last (place_where (equal_rows row) types) row types

-- Tables of types: a row has one place, and each part of a row has a row.
use Rattle.std.proofs.Common.{◌≡◌, ℕ, zero, suc, ◌+◌, ◌<◌, List, [], ◌∷◌, ◌++◌, length, Some, refl, sym, ap, ◌∙◌, subst}
use Rattle.std.proofs.Common.{arith, Bool, true, false, slice_get, get_or}
use Rattle.std.specs.Prelude.{◌&&◌, cond, All}
use Rattle.std.proofs.lemmas.Bool.{eqb-true}
use Rattle.std.proofs.lemmas.Option.{slice_get_within, get_or_from_slice_get}
use Rattle.grift_base.specs.Types.{TypeRow, IntRow, BoolRow, UnitRow, DynRow, FunRow, TupleRow, RefRow, VectRow}
use Rattle.grift_base.specs.Types.{TypeRows, row_at, parts_of, is_dyn, is_base, same_head, dyn_from, dyn_place}
use Rattle.core_calc.specs.Typing.{IsTypeTable}
use Rattle.core_calc.proofs.ListPlaces.{none_is_not_some, same_some}

pub false_is_not_true : false ≡ true → ⊥
false_is_not_true e = cc

pub both_true : (a b : Bool) → (a && b) ≡ true → (a ≡ true) × (b ≡ true)
both_true true true e = (refl, refl)
both_true true false e = absurd (false_is_not_true e)
both_true false b e = absurd (false_is_not_true e)

pub first_false : (a b : Bool) → (a && b) ≡ false → b ≡ true → a ≡ false
first_false false b e f = refl
first_false true b e f = absurd (false_is_not_true (sym e ∙ f))

-- ---- rows with equal heads

pub row_is_dyn : (row : TypeRow) → is_dyn row ≡ true → row ≡ DynRow
row_is_dyn DynRow e = refl
row_is_dyn _ e = absurd (false_is_not_true e)

-- rows with equal heads are both base types or both not, and both Dyn or both not
pub same_kind : (row other : TypeRow) → same_head row other ≡ true → (is_base row ≡ is_base other) ×
    (is_dyn row ≡ is_dyn other)
same_kind IntRow IntRow e = (refl, refl)
same_kind BoolRow BoolRow e = (refl, refl)
same_kind UnitRow UnitRow e = (refl, refl)
same_kind DynRow DynRow e = (refl, refl)
same_kind (FunRow parameters answer) (FunRow others other) e = (refl, refl)
same_kind (TupleRow parts) (TupleRow others) e = (refl, refl)
same_kind (RefRow content) (RefRow other) e = (refl, refl)
same_kind (VectRow content) (VectRow other) e = (refl, refl)
same_kind row other e = absurd (false_is_not_true e)

-- base types with equal heads are the same
pub same_base : (row other : TypeRow) → same_head row other ≡ true → is_base row ≡ true → row ≡ other
same_base IntRow IntRow e b = refl
same_base BoolRow BoolRow e b = refl
same_base UnitRow UnitRow e b = refl
same_base DynRow other e b = absurd (false_is_not_true b)
same_base (FunRow parameters answer) other e b = absurd (false_is_not_true b)
same_base (TupleRow parts) other e b = absurd (false_is_not_true b)
same_base (RefRow content) other e b = absurd (false_is_not_true b)
same_base (VectRow content) other e b = absurd (false_is_not_true b)
same_base row other e b = absurd (false_is_not_true e)

-- a row with the head of this one
pub function_like : (row : TypeRow) (wanted : List ℕ) (answer : ℕ) → same_head row (FunRow wanted answer) ≡ true →
    (parameters : List ℕ) × (given : ℕ) × (row ≡ FunRow parameters given) × (length parameters ≡ length wanted)
function_like (FunRow parameters given) wanted answer e =
    (parameters, given, refl, eqb-true (length parameters) (length wanted) e)
function_like row wanted answer e = absurd (false_is_not_true e)

pub tuple_like : (row : TypeRow) (parts : List ℕ) → same_head row (TupleRow parts) ≡ true → (others : List ℕ) ×
    (row ≡ TupleRow others) × (length others ≡ length parts)
tuple_like (TupleRow others) parts e = (others, refl, eqb-true (length others) (length parts) e)
tuple_like row parts e = absurd (false_is_not_true e)

pub reference_like : (row : TypeRow) (content : ℕ) → same_head row (RefRow content) ≡ true → (other : ℕ) ×
    (row ≡ RefRow other)
reference_like (RefRow other) content e = (other, refl)
reference_like row content e = absurd (false_is_not_true e)

pub vector_like : (row : TypeRow) (content : ℕ) → same_head row (VectRow content) ≡ true → (other : ℕ) ×
    (row ≡ VectRow other)
vector_like (VectRow other) content e = (other, refl)
vector_like row content e = absurd (false_is_not_true e)

-- ---- the table

-- the type has a row
abbrev pub HasRow : TypeRows → ℕ → Type 0
HasRow types type = (row : TypeRow) × (row_at types type ≡ Some row)

-- what stands in the list are types that have rows
abbrev pub HaveRows : TypeRows → List ℕ → Type 0
HaveRows types [] = Unit {0}
HaveRows types (type ∷ rest) = HasRow types type × HaveRows types rest

within_has_row : (types : TypeRows) (type : ℕ) → type < length types → HasRow types type
within_has_row [] type below = absurd (omega arith)
within_has_row (row ∷ types) zero below = (row, refl)
within_has_row (row ∷ types) (suc type) below = within_has_row types type (omega arith)

have_rows : (types : TypeRows) (parts : List ℕ) → ((k part : ℕ) → slice_get parts k ≡ Some part → HasRow types part) →
    HaveRows types parts
have_rows types [] each = tt
have_rows types (part ∷ parts) each = (each 0 part refl, have_rows types parts (λ k p e. each (suc k) p e))

pub row_of_part : (types : TypeRows) (parts : List ℕ) → HaveRows types parts → (k part : ℕ) →
    slice_get parts k ≡ Some part → HasRow types part
row_of_part types [] rows k part e = absurd (none_is_not_some part e)
row_of_part types (p ∷ parts) rows zero part e = subst (λ x. HasRow types x) (same_some p part e) rows.0
row_of_part types (p ∷ parts) rows (suc k) part e = row_of_part types parts rows.1 k part e

pub have_rows_split : (types : TypeRows) (parameters : List ℕ) (answer : ℕ) →
    HaveRows types (parameters ++ answer ∷ []) → HaveRows types parameters × HasRow types answer
have_rows_split types [] answer rows = (tt, rows.0)
have_rows_split types (p ∷ parameters) answer rows =
    let rest = have_rows_split types parameters answer rows.1 in
    ((rows.0, rest.0), rest.1)

-- where Dyn has a place in the table, there is a first place
first_dyn : (types : TypeRows) (here k : ℕ) → slice_get types k ≡ Some DynRow → (j : ℕ) ×
    (dyn_from types here ≡ Some (here + j)) × (slice_get types j ≡ Some DynRow)
first_dyn [] here k e = absurd (none_is_not_some DynRow e)
first_dyn (row ∷ types) here k e = first (λ i f. first_dyn types (suc here) i f) (is_dyn row) refl
  where
    later : (k : ℕ) → is_dyn row ≡ false → slice_get (row ∷ types) k ≡ Some DynRow → (i : ℕ) ×
        (slice_get types i ≡ Some DynRow)
    later zero d e = absurd (false_is_not_true (sym d ∙ ap is_dyn (same_some row DynRow e)))
    later (suc i) d e = (i, e)

    up : (j : ℕ) → dyn_from types (suc here) ≡ Some (suc here + j) → is_dyn row ≡ false →
        dyn_from (row ∷ types) here ≡ Some (here + suc j)
    up j e d =
        let sum : suc here + j ≡ here + suc j = omega arith in
        ap (λ b. cond b (Some here) (dyn_from types (suc here))) d ∙ e ∙ ap Some sum

    at_once : is_dyn row ≡ true → dyn_from (row ∷ types) here ≡ Some (here + 0)
    at_once d =
        let sum : here ≡ here + 0 = omega arith in ap (λ b. cond b (Some here) (dyn_from types (suc here))) d ∙
        ap Some sum

    first : ((i : ℕ) → slice_get types i ≡ Some DynRow → (j : ℕ) × (dyn_from types (suc here) ≡ Some (suc here + j)) ×
        (slice_get types j ≡ Some DynRow)) → (b : Bool) → is_dyn row ≡ b → (j : ℕ) ×
        (dyn_from (row ∷ types) here ≡ Some (here + j)) × (slice_get (row ∷ types) j ≡ Some DynRow)
    first rest true d = (0, at_once d, ap Some (row_is_dyn row d))
    first rest false d =
        let i = later k d e in
        let found = rest i.0 i.1 in
        (suc found.0, up found.0 found.1 d, found.2)

module _ (types : TypeRows) (table : IsTypeTable types) where
  -- a row has one place
  pub same_type : (a b : ℕ) (row : TypeRow) → row_at types a ≡ Some row → row_at types b ≡ Some row → a ≡ b
  same_type a b row e f = table.distinct a b (slice_get_within types a row e) (e ∙ sym f)

  -- each part of a row has a row
  pub parts_have_rows : (type : ℕ) (row : TypeRow) → row_at types type ≡ Some row → HaveRows types (parts_of row)
  parts_have_rows type row e =
      have_rows types (parts_of row) (λ k part f. within_has_row types part (below k part f))
    where
      row_there : get_or types type row ≡ row
      row_there = get_or_from_slice_get types type row row e

      below : (k part : ℕ) → slice_get (parts_of row) k ≡ Some part → part < length types
      below k part f =
          let all = table.closed type row (slice_get_within types type row e) in
          let all' = subst (λ r. All (λ part. part < length types) (parts_of r)) row_there all in
          let one = all' k part (slice_get_within (parts_of row) k part f) in
          subst (λ p. p < length types) (get_or_from_slice_get (parts_of row) k part part f) one

  -- the place of Dyn that a search finds is the one that is known
  pub dyn_found : (type : ℕ) → row_at types type ≡ Some DynRow → dyn_place types ≡ Some type
  dyn_found type e =
      let found = first_dyn types 0 type e in
      let sum : 0 + found.0 ≡ found.0 = omega arith in
      found.1 ∙ ap Some (sum ∙ same_type found.0 type DynRow found.2 e)

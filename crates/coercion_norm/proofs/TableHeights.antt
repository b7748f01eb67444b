-- The heights that a table gives its types are those that bounds speak of.
use Rattle.std.proofs.Common.{◌≡◌, ℕ, zero, suc, ◌≤◌, Option, Some, None, refl, sym, ap, ◌∙◌, subst}
use Rattle.std.proofs.Common.{List, [], ◌∷◌, length, get_or, slice_get, unwrap_or, All, arith}
use Rattle.std.proofs.lemmas.List.Elements.{All-head, All-tail}
use Rattle.std.proofs.lemmas.Option.{get_or_from_slice_get, slice_get_within, unwrap_or-slice_get}
use Rattle.grift_base.specs.Types.{TypeRow, TypeRows, IntRow, BoolRow, UnitRow, DynRow, FunRow, TupleRow, RefRow}
use Rattle.grift_base.specs.Types.{VectRow, row_at, parts_of}
use Rattle.type_graph.specs.Trees.{AreFinite, row_parts, above_all, height_to, height}
use Rattle.type_graph.specs.TypeTables.{HasWidth, HaveWidths}
use Rattle.type_graph.proofs.Public.{height_by_parts}
use Rattle.coercion_norm.specs.Coercions.{kind_of, rows_of}
use Rattle.coercion_norm.specs.Heights.{TypeNoHigher, AreHeights}

-- what has no part is of no kind
pub no_kind : (row : TypeRow) → HasWidth row → length (parts_of row) ≡ 0 → kind_of row ≡ None
no_kind IntRow wide e = refl
no_kind BoolRow wide e = refl
no_kind UnitRow wide e = refl
no_kind DynRow wide e = refl
no_kind (FunRow [] answer) wide e = absurd (omega (arith, e))
no_kind (FunRow (part ∷ parts) answer) wide e = absurd (omega (arith, e))
no_kind (TupleRow parts) wide e = let some = wide.0 in absurd (omega (arith, e, some))
no_kind (RefRow content) wide e = absurd (omega (arith, e))
no_kind (VectRow content) wide e = absurd (omega (arith, e))

-- what is of no kind has no part
pub no_parts : (row : TypeRow) → kind_of row ≡ None → parts_of row ≡ []
no_parts IntRow e = refl
no_parts BoolRow e = refl
no_parts UnitRow e = refl
no_parts DynRow e = refl
no_parts _ e = absurd (cc e)

above_all_within : (count : ℕ → ℕ) (parts : List ℕ) (n : ℕ) → All (λ part. count part ≤ n) parts
    → above_all count parts ≤ suc n
above_all_within count [] n all = omega arith
above_all_within count (part ∷ parts) n all =
    let first = All-head (λ part. count part ≤ n) part parts all in
    let rest = above_all_within count parts n (All-tail (λ part. count part ≤ n) part parts all) in
    omega (arith, first, rest)

within_above_all : (count : ℕ → ℕ) (parts : List ℕ) (n : ℕ) → above_all count parts ≤ suc n
    → All (λ part. count part ≤ n) parts
within_above_all count [] n most k d below = absurd (omega arith)
within_above_all count (part ∷ parts) n most zero d below = omega arith
within_above_all count (part ∷ parts) n most (suc k) d below =
    within_above_all count parts n (omega arith) k d (omega arith)

none_above : (count : ℕ → ℕ) (parts : List ℕ) → above_all count parts ≤ 0 → length parts ≡ 0
none_above count [] least = refl
none_above count (part ∷ parts) least = absurd (omega arith)

height_of_missing : (depth : ℕ) (types : TypeRows) (type : ℕ) → row_at types type ≡ None →
    height_to depth types type ≡ 0
height_of_missing zero types type missing = refl
height_of_missing (suc depth) types type missing =
    ap (λ row. above_all (λ part. height_to depth types part) (row_parts row)) missing

module _ (types : TypeRows) (finite : AreFinite types) (wide : HaveWidths types) where
  -- a type's height by its row, which is Dyn where there is none; and that row is no empty tuple
  by_row : (type : ℕ)
      → (height types type ≡ above_all (height types) (parts_of (rows_of types type))) × HasWidth (rows_of types type)
  by_row type = go (slice_get types type) refl
    where
      go : (row : Option TypeRow) → slice_get types type ≡ row
          → (height types type ≡ above_all (height types) (parts_of (rows_of types type)))
          × HasWidth (rows_of types type)
      go None missing = let e : rows_of types type ≡ DynRow =
          sym (unwrap_or-slice_get types type DynRow) ∙ ap (λ row. unwrap_or row DynRow) missing in (
            height_of_missing (length types) types type missing
                ∙ sym (ap (λ row. above_all (height types) (parts_of row)) e),
            subst HasWidth (sym e) tt,
          )
      go (Some row) found = let e : rows_of types type ≡ row = get_or_from_slice_get types type row DynRow found in (
        height_by_parts types finite type (slice_get_within types type row found)
            ∙ ap (λ row. above_all (height types) (row_parts row)) found
            ∙ sym (ap (λ row. above_all (height types) (parts_of row)) e),
        subst HasWidth (sym e) (wide type row found),
      )

  type_height_from_bound : (n type : ℕ) → TypeNoHigher (rows_of types) n type → height types type ≤ n
  type_height_from_bound zero type low =
      let e = (by_row type).0 ∙ ap (above_all (height types)) (no_parts (rows_of types type) low) in omega (arith, e)
  type_height_from_bound (suc n) type low =
      let e = (by_row type).0 in
      let most = above_all_within (height types) (parts_of (rows_of types type)) n
      (λ k d below. type_height_from_bound n (get_or (parts_of (rows_of types type)) k d) (low k d below)) in
      omega (arith, e, most)

  bound_from_type_height : (n type : ℕ) → height types type ≤ n → TypeNoHigher (rows_of types) n type
  bound_from_type_height zero type low =
      let e = (by_row type).0 in
      no_kind (rows_of types type) (by_row type).1
      (none_above (height types) (parts_of (rows_of types type)) (omega (arith, e, low)))
  bound_from_type_height (suc n) type low = λ k d below.
      let e = (by_row type).0 in
      bound_from_type_height n (get_or (parts_of (rows_of types type)) k d)
      (within_above_all (height types) (parts_of (rows_of types type)) n (omega (arith, e, low)) k d below)

  pub heights_of_a_table : AreHeights (rows_of types) (height types)
  heights_of_a_table type n = (type_height_from_bound n type, bound_from_type_height n type)

-- The words that are placed for types are those of their objects, and types stand where they are told to.
use Rattle.std.proofs.Common.{◌≡◌, ◌⊎◌, inl, inr, ℕ, zero, suc, ◌+◌, ◌*◌, ◌<◌, ◌≤◌, true, refl, sym, ap}
use Rattle.std.proofs.Common.{◌∙◌, subst, arith, List, [], ◌∷◌, ◌++◌, length, Some, All}
use Rattle.std.specs.Prelude.{slice_index}
use Rattle.std.proofs.lemmas.List.{get_or_past}
use Rattle.grift_base.specs.Types.{TypeRow, TypeRows, IntRow, BoolRow, UnitRow, DynRow}
use Rattle.grift_base.specs.Types.{is_dyn, parts_of, row_at}
use Rattle.type_graph.specs.Trees.{height}
use Rattle.type_graph.specs.TypeTables.{HasWidth, IsOrderedTable}
use Rattle.type_graph.proofs.Public.{slice_get_at, parts_within}
use Rattle.coercion_norm.specs.Coercions.{kind_of, rows_of}
use Rattle.coercion_norm.specs.Objects.{Object, bytes_of_all, object_at, words_of_all}
use Rattle.coercion_norm.specs.ObjectsOfRows.{object_of_type, type_objects}
use Rattle.coercion_norm.specs.Held.{TypesStand}
use Rattle.coercion_norm.specs.Placed.{AreTypeAddresses, SayTypes, words_before}
use Rattle.coercion_norm.specs.Statics.{layout_over}
use Rattle.coercion_norm.proofs.CastLemmas.{kind_width, narrow, row_is}
use Rattle.coercion_norm.proofs.ObjectLists.{bytes_of_all_words, last_stands, object_kept}
use Rattle.coercion_norm.proofs.TableHeights.{heights_of_a_table}
use Rattle.coercion_norm.proofs.TypePlacing.{below_or_last, words_long, words_rise}

within_or_past : (type many : ℕ) → (type < many) ⊎ (many ≤ type)
within_or_past type many = grind arith

less_or_same_or_more : (a b : ℕ) → (a < b) ⊎ ((a ≡ b) ⊎ (b < a))
less_or_same_or_more a b = grind arith

dyn_is : (row : TypeRow) → is_dyn row ≡ true → row ≡ DynRow
dyn_is IntRow e = absurd (cc e)
dyn_is BoolRow e = absurd (cc e)
dyn_is UnitRow e = absurd (cc e)
dyn_is DynRow e = refl
dyn_is _ e = absurd (cc e)

module _ (types : TypeRows) (table : IsOrderedTable types) where
  found : (type : ℕ) → type < length types → (row : TypeRow) × (row_at types type ≡ Some row)
  found type within = slice_get_at types type within

  -- ---- where objects stand

  module _ (start : ℕ) (type_at : List ℕ) (told : AreTypeAddresses types start (length types) type_at) where
    abbrev give : ℕ → ℕ
    give type = slice_index type_at type

    abbrev objects : ℕ → List Object
    objects = type_objects types give

    end : (many : ℕ) → start + bytes_of_all (objects many) ≡ start + 8 * words_before types many
    end many =
        let bytes = bytes_of_all_words (objects many) in
        let long = words_long types table start type_at told many in
        omega (arith, bytes, long)

    stands : (many type : ℕ) → many ≤ length types → type < many
        → object_at (objects many) start (give type) ≡ Some (object_of_type types give type)
    stands zero type le l = absurd (omega (arith, l))
    stands (suc many) type le l = elim (below_or_last type many (omega (arith, l))) [
      | inl less ↦ object_kept (objects many) (object_of_type types give many ∷ []) start (give type)
          (object_of_type types give type) (stands many type (omega (arith, le)) less)
      | inr same ↦ subst (λ k. object_at (objects many ++ object_of_type types give many ∷ []) start (give k)
          ≡ Some (object_of_type types give k)) (sym same)
          (last_stands (objects many) [] (object_of_type types give many) start (give many)
          (told.each many (omega (arith, le)) ∙ sym (end many)))
    ]

    -- words that are those of all objects say them
    pub types_said : (words : List ℕ) → words ≡ words_of_all (objects (length types))
        → SayTypes types start words type_at
    types_said words e = record {
      as_many = told.as_many;
      says = e;
      stand = λ type within. stands (length types) type (omega arith) within;
      rising = λ type other less within.
          let one = told.each type (omega (arith, less, within)) in
          let two = told.each other within in
          let rise = words_rise types type other less in
          omega (arith, one, two, rise);
    }

  -- ---- all types

  dyn_at : (type : ℕ) → type < length types → is_dyn (rows_of types type) ≡ true → row_at types type ≡ Some DynRow
  dyn_at type within e =
      let f = found type within in
      let row = row_is types type f.0 f.1 in
      f.1 ∙ ap Some (dyn_is f.0 (sym (ap is_dyn row) ∙ e))

  low : (type : ℕ) → height types type < 65535
  low type = elim (within_or_past type (length types)) [
    | inl within ↦ (let l = table.low type within in omega (arith, l))
    | inr past ↦ (let l = (heights_of_a_table types table.finite table.widths type 0).0
        (ap kind_of (get_or_past types type DynRow past)) in
        omega (arith, l))
  ]

  module _ (start : ℕ) (words type_at : List ℕ) (said : SayTypes types start words type_at) where
    once : (a b : ℕ) → a < length types → b < length types → slice_index type_at a ≡ slice_index type_at b → a ≡ b
    once a b la lb e = elim (less_or_same_or_more a b) [
      | inl less ↦ (let r = said.rising a b less lb in absurd (omega (arith, r, e)))
      | inr other ↦ (elim other [
        | inl same ↦ same
        | inr more ↦ (let r = said.rising b a more la in absurd (omega (arith, r, e)))
      ])
    ]

    -- types stand, whatever stands behind them
    pub types_stand : (later more : List Object) (region tallest : ℕ)
        → TypesStand (layout_over types type_at start
        ((type_objects types (λ t. slice_index type_at t) (length types) ++ later) ++ more) region tallest 8)
    types_stand later more region tallest = record {
      stands = λ type within.
          let give : ℕ → ℕ = λ t. slice_index type_at t in
          let first = type_objects types give (length types) in
          object_kept (first ++ later) more start (slice_index type_at type) (object_of_type types give type)
          (object_kept first later start (slice_index type_at type) (object_of_type types give type)
          (said.stand type within));
      parts = λ type within.
          let f = found type within in
          subst (λ row. All (λ part. part < length types) (parts_of row)) (sym (row_is types type f.0 f.1))
          (parts_within types type f.0 table.finite f.1);
      narrow = λ type within kind e.
          let f = found type within in
          let wide = subst HasWidth (sym (row_is types type f.0 f.1)) (table.widths type f.0 f.1) in
          (kind_width (rows_of types type) kind wide e, narrow (rows_of types type) wide);
      once = once;
      one_dyn = λ a b la lb da db. table.distinct a b la (dyn_at a la da ∙ sym (dyn_at b lb db));
      heights = heights_of_a_table types table.finite table.widths;
      low = low;
    }

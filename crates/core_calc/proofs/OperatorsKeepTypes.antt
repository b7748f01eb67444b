-- Operators on typed values keep types.
use Rattle.std.proofs.Common.{◌≡◌, ℕ, zero, suc, ◌<◌, ◌≤◌, ◌^◌, List, [], ◌∷◌, ◌++◌, length, Option, Some, None, refl}
use Rattle.std.proofs.Common.{sym, ap, ◌∙◌, subst, arith, Bool, true, false, slice_get, if◌then◌else◌, ◌⊎◌, inl, inr}
use Rattle.std.specs.Prelude.{ℤ, pos, negsuc, ◌+ℤ◌, ◌-ℤ◌, ◌*ℤ◌, not, int_lt, int_le, int_rem, int_div, unsigned_abs}
use Rattle.std.specs.Prelude.{codes, replicate, slice_set}
use Rattle.std.specs.Ordering.{int_eq}
use Rattle.std.specs.Int.{int_wrap, int_wrapping_div, cast_unsigned, w64}
use Rattle.std.specs.Int.RustNames.{FitsSigned}
use Rattle.std.specs.Fmt.{signed_decimal}
use Rattle.std.proofs.lemmas.Int.{SFits-int_wrap, rem_below, fits_signed_from_abs}
use Rattle.std.proofs.lemmas.List.{length-replicate}
use borrow.Author.Gap.{read_sfits}
use Rattle.grift_base.specs.World.{WorldState, printing}
use Rattle.grift_base.specs.Types.{TypeRow, IntRow, BoolRow, UnitRow, RefRow, VectRow, TypeRows, row_at, same_head}
use Rattle.grift_base.specs.Types.{content_of, parts_of}
use Rattle.grift_base.specs.declared.operators.PrimOp.{PrimOp}
use Rattle.grift_base.specs.declared.operators.PrimOp.TheVariants.{Add, Sub, Mul, Quot, Rem, Lt, Le, Eq, Ge, Gt, Not}
use Rattle.grift_base.specs.declared.operators.PrimOp.TheVariants.{PrintInt, Newline, ReadInt, MakeBox, Unbox, BoxSet}
use Rattle.grift_base.specs.declared.operators.PrimOp.TheVariants.{MakeVector, VectorRef, VectorSet, VectorLength}
use Rattle.grift_base.specs.declared.verdicts.Trap.TheVariants.{ZeroDivisor, Index}
use Rattle.core_calc.specs.Terms.{Term, Value, Cast, Prim, ValueTerm, IntValue, BoolValue, UnitValue, LocValue}
use Rattle.core_calc.specs.Terms.{WrapValue, terms_from}
use Rattle.core_calc.specs.Outcome.{Store, Outcome, Goes, Traps}
use Rattle.core_calc.specs.Operators.{cell_behind, gives, on_int, on_ints, on_bool, computes, divides, compares, prints}
use Rattle.core_calc.specs.Operators.{newline_step, new_cell, writes_cell, with_element, cast_written, make_box_step}
use Rattle.core_calc.specs.Operators.{unbox_cell, unbox_step, box_set_step, make_vector_step, vector_ref_step}
use Rattle.core_calc.specs.Operators.{vector_set_step, vector_length_step, reads, read_step, operator_step}
use Rattle.grift_base.specs.Reading.{next_number, past_run}
use Rattle.grift_base.proofs.Public.{next_number_fits}
use Rattle.core_calc.specs.Typing.{CellType, HasType, OperatorHasType, ValueHasType, IsTypeTable, CellHasType}
use Rattle.core_calc.specs.Typing.{StoreHasTypes, KeepsType}
use Rattle.core_calc.proofs.ListPlaces.{none_is_not_some, same_some, both_some, get_last, get_replicate, length_set}
use Rattle.core_calc.proofs.ListPlaces.{get_set}
use Rattle.core_calc.proofs.RowsOfTables.{false_is_not_true, reference_like, vector_like, HasRow, HaveRows}
use Rattle.core_calc.proofs.RowsOfTables.{parts_have_rows}
use Rattle.core_calc.proofs.TypedValues.{can_be, form, values_have_their_types_heads-integers}
use Rattle.core_calc.proofs.TypedValues.{values_have_their_types_heads-truth_values, ListHasTypes}
use Rattle.core_calc.proofs.StoredCells.{no_more_cells, cell_there, one_more_cell, cell_changed, keeps_some}
use Rattle.core_calc.proofs.StoredCells.{keeps_if_some, keeps_if, keeps_parts}
use Rattle.core_calc.proofs.CallsKeepTypes.{goes_on}

-- ---- numbers fit a word

int_wrapping_div_fits : (a b : ℤ) → FitsSigned w64 (int_wrapping_div w64 a b)
int_wrapping_div_fits a b = read_sfits w64 (cast_unsigned w64 (int_div a b))

-- a divisor's absolute value
divisor_abs : (b : ℤ) → FitsSigned w64 b → int_eq b (pos 0) ≡ false →
    (0 < unsigned_abs b) × (unsigned_abs b ≤ 2 ^ 63)
divisor_abs (pos zero) h e = absurd (cc)
divisor_abs (pos (suc n)) h e = (omega arith, omega arith)
divisor_abs (negsuc n) h e = (omega arith, omega arith)

int_rem_fits : (a b : ℤ) → FitsSigned w64 b → int_eq b (pos 0) ≡ false → FitsSigned w64 (int_rem a b)
int_rem_fits a b fits e =
    let divisor = divisor_abs b fits e in
    let below = rem_below a b divisor.0 in
    let bounded = divisor.1 in
    fits_signed_from_abs w64 (int_rem a b) (omega arith)

small_size : (n : ℕ) → n ≤ 1 → FitsSigned w64 (pos n)
small_size n h = omega arith

same_reference : (a b : ℕ) → RefRow a ≡ RefRow b → a ≡ b
same_reference a b e = cc

same_vector : (a b : ℕ) → VectRow a ≡ VectRow b → a ≡ b
same_vector a b e = cc

module _ (types : TypeRows) (labels : ℕ) (table : IsTypeTable types) (cells : List CellType) (store : Store)
    (stored : StoreHasTypes types labels store cells) (world : WorldState) where
  abbrev Has : ℕ → List CellType → Term → Type 0
  Has type new term = HasType types labels new [] term type

  abbrev Kept : ℕ → Outcome Term → Type 0
  Kept type outcome = KeepsType types labels type cells outcome

  abbrev ValueHas : Value → ℕ → Type 0
  ValueHas v type = ValueHasType types labels cells v type

  abbrev ListHas : List Value → List ℕ → Type 0
  ListHas values wanted = ListHasTypes types labels cells values wanted

  abbrev Is : ℕ → TypeRow → Type 0
  Is type row = row_at types type ≡ Some row

  stays : (term : Term) (w : WorldState) (type : ℕ) → HasType types labels cells [] term type →
      Kept type (Goes term store w)
  stays term w type h = goes_on types labels table cells store stored world term w type h

  -- ---- so many values

  no_value : (values : List Value) → ListHas values [] → values ≡ []
  no_value [] h = refl
  no_value (v ∷ values) h = absurd h

  a_term_has_one_type-values : (values : List Value) (a : ℕ) → ListHas values (a ∷ []) → (v : Value) ×
      (values ≡ v ∷ []) × ValueHas v a
  a_term_has_one_type-values [] a h = absurd h
  a_term_has_one_type-values (v ∷ []) a h = (v, refl, h.0)
  a_term_has_one_type-values (v ∷ u ∷ values) a h = absurd h.1

  two_values : (values : List Value) (a b : ℕ) → ListHas values (a ∷ b ∷ []) → (v u : Value) × (values ≡ v ∷ u ∷ []) ×
      ValueHas v a × ValueHas u b
  two_values [] a b h = absurd h
  two_values (v ∷ []) a b h = absurd h.1
  two_values (v ∷ u ∷ []) a b h = (v, u, refl, h.0, h.1.0)
  two_values (v ∷ u ∷ x ∷ values) a b h = absurd h.1.1

  three_values : (values : List Value) (a b c : ℕ) → ListHas values (a ∷ b ∷ c ∷ []) → (v u x : Value) ×
      (values ≡ v ∷ u ∷ x ∷ []) × ValueHas v a × ValueHas u b × ValueHas x c
  three_values [] a b c h = absurd h
  three_values (v ∷ []) a b c h = absurd h.1
  three_values (v ∷ u ∷ []) a b c h = absurd h.1.1
  three_values (v ∷ u ∷ x ∷ []) a b c h = (v, u, x, refl, h.0, h.1.0, h.1.1.0)
  three_values (v ∷ u ∷ x ∷ y ∷ values) a b c h = absurd h.1.1.1

  -- ---- integers and truth values

  on_int_keeps : (type : ℕ) (go : ℤ → Outcome Term) (values : List Value) (a : ℕ) → ListHas values (a ∷ []) →
      Is a IntRow → ((n : ℤ) → FitsSigned w64 n → Kept type (go n)) → Kept type (on_int types store world go values)
  on_int_keeps type go values a h row keeps =
      let one = a_term_has_one_type-values values a h in
      let n = values_have_their_types_heads-integers types labels cells one.0 a one.2 row in
      let is : values ≡ IntValue n.0 ∷ [] = one.1 ∙ ap (λ v. v ∷ []) n.1 in
      subst (λ vs. Kept type (on_int types store world go vs)) (sym is) (keeps n.0 n.2)

  on_ints_keeps : (type : ℕ) (go : ℤ → ℤ → Outcome Term) (values : List Value) (a b : ℕ) → ListHas values (a ∷ b ∷ []) →
      Is a IntRow → Is b IntRow → ((m n : ℤ) → FitsSigned w64 m → FitsSigned w64 n → Kept type (go m n)) →
      Kept type (on_ints types store world go values)
  on_ints_keeps type go values a b h row other keeps =
      let two = two_values values a b h in
      let m = values_have_their_types_heads-integers types labels cells two.0 a two.3 row in
      let n = values_have_their_types_heads-integers types labels cells two.1 b two.4 other in
      let is : values ≡ IntValue m.0 ∷ IntValue n.0 ∷ [] =
      two.2 ∙ ap (λ v. v ∷ two.1 ∷ []) m.1 ∙ ap (λ v. IntValue m.0 ∷ v ∷ []) n.1 in
      subst (λ vs. Kept type (on_ints types store world go vs)) (sym is) (keeps m.0 n.0 m.2 n.2)

  computes_keeps : (type : ℕ) (f : ℤ → ℤ → ℤ) (values : List Value) (a b : ℕ) → ListHas values (a ∷ b ∷ []) →
      Is a IntRow → Is b IntRow → Is type IntRow → Kept type (computes types store world f values)
  computes_keeps type f values a b h row other answer =
      on_ints_keeps type (λ m n. gives types store world (IntValue (int_wrap w64 (f m n)))) values a b h row other
      (λ m n p q. stays (ValueTerm (IntValue (int_wrap w64 (f m n)))) world type (
        SFits-int_wrap w64 (f m n),
        answer,
      ))

  compares_keeps : (type : ℕ) (test : ℤ → ℤ → Bool) (values : List Value) (a b : ℕ) → ListHas values (a ∷ b ∷ []) →
      Is a IntRow → Is b IntRow → Is type BoolRow → Kept type (compares types store world test values)
  compares_keeps type test values a b h row other answer =
      on_ints_keeps type (λ m n. gives types store world (BoolValue (test m n))) values a b h row other
      (λ m n p q. stays (ValueTerm (BoolValue (test m n))) world type answer)

  divides_keeps : (type : ℕ) (f : ℤ → ℤ → ℤ) (values : List Value) (a b : ℕ) →
      ((m n : ℤ) → FitsSigned w64 m → FitsSigned w64 n → int_eq n (pos 0) ≡ false → FitsSigned w64 (f m n)) →
      ListHas values (a ∷ b ∷ []) → Is a IntRow → Is b IntRow → Is type IntRow →
      Kept type (divides types store world f values)
  divides_keeps type f values a b fits h row other answer =
      on_ints_keeps type (λ m n. if int_eq n (pos 0) then Traps ZeroDivisor world
      else gives types store world (IntValue (f m n))) values a b h row other
      (λ m n p q. keeps_if types labels cells (Has type) (int_eq n (pos 0)) (Traps ZeroDivisor world)
      (gives types store world (IntValue (f m n))) (λ e. tt) (λ e. stays (ValueTerm (IntValue (f m n))) world type
      (fits m n p q e, answer)))

  not_keeps : (type : ℕ) (values : List Value) (a : ℕ) → ListHas values (a ∷ []) → Is a BoolRow → Is type BoolRow →
      Kept type (on_bool types store world (λ b. gives types store world (BoolValue (not b))) values)
  not_keeps type values a h row answer =
      let one = a_term_has_one_type-values values a h in
      let b = values_have_their_types_heads-truth_values types labels cells one.0 a one.2 row in
      let is : values ≡ BoolValue b.0 ∷ [] = one.1 ∙ ap (λ v. v ∷ []) b.1 in
      subst (λ vs. Kept type (on_bool types store world (λ b. gives types store world (BoolValue (not b))) vs)) (sym is)
      (stays (ValueTerm (BoolValue (not b.0))) world type answer)

  newline_keeps : (type : ℕ) (values : List Value) → ListHas values [] → Is type UnitRow →
      Kept type (newline_step types store world values)
  newline_keeps type values h answer =
      subst (λ vs. Kept type (newline_step types store world vs)) (sym (no_value values h))
      (stays (ValueTerm UnitValue) (printing (codes "\n") world) type answer)

  -- ---- cells

  new_cell_keeps : (type content : ℕ) (cell : List Value) (is_vector : Bool) (size : ℕ) →
      CellHasType types labels cells cell (record { content = content; size = size }) →
      ((new : List CellType) → slice_get new (length store) ≡ Some (record { content = content; size = size }) →
      ValueHasType types labels new (LocValue (length store) is_vector) type) →
      Kept type (new_cell types store world cell is_vector)
  new_cell_keeps type content cell is_vector size h located =
      let cell_type : CellType = record { content = content; size = size } in (
        cells ++ cell_type ∷ [],
        (cell_type ∷ [], refl),
        one_more_cell types labels cells store stored cell cell_type h,
        located (cells ++ cell_type ∷ []) (get_last cells cell_type (length store) stored.0),
      )

  one_in_cell : (v : Value) (content : ℕ) → ValueHas v content →
      CellHasType types labels cells (v ∷ []) (record { content = content; size = 1 })
  one_in_cell v content h = (refl, small_size 1 (omega arith), at)
    where
      at : (index : ℕ) (u : Value) → slice_get (v ∷ []) index ≡ Some u → ValueHas u content
      at zero u e = subst (λ x. ValueHas x content) (same_some v u e) h
      at (suc index) u e = absurd (none_is_not_some u e)

  make_box_keeps : (type content : ℕ) (values : List Value) → ListHas values (content ∷ []) → Is type (RefRow content) →
      Kept type (make_box_step types store world values)
  make_box_keeps type content values h answer =
      let one = a_term_has_one_type-values values content h in
      subst (λ vs. Kept type (make_box_step types store world vs)) (sym one.1)
      (new_cell_keeps type content (one.0 ∷ []) false 1 (one_in_cell one.0 content one.2) (λ new e. (
        content,
        e,
        answer,
      )))

  make_vector_at : (type content : ℕ) (n : ℤ) (v : Value) → FitsSigned w64 n → ValueHas v content →
      Is type (VectRow content) → Kept type (make_vector_step types store world (IntValue n ∷ v ∷ []))
  make_vector_at type content (pos n) v fits h answer =
      new_cell_keeps type content (replicate n v) true n (
        length-replicate n v,
        fits,
        λ i u e. subst (λ x. ValueHas x content) (get_replicate n v i u e) h,
      ) (λ new e. (content, n, e, answer))
  make_vector_at type content (negsuc n) v fits h answer = tt

  make_vector_keeps : (type index content : ℕ) (values : List Value) → ListHas values (index ∷ content ∷ []) →
      Is index IntRow → Is type (VectRow content) → Kept type (make_vector_step types store world values)
  make_vector_keeps type index content values h row answer =
      let two = two_values values index content h in
      let n = values_have_their_types_heads-integers types labels cells two.0 index two.3 row in
      let is : values ≡ IntValue n.0 ∷ two.1 ∷ [] = two.2 ∙ ap (λ v. v ∷ two.1 ∷ []) n.1 in
      subst (λ vs. Kept type (make_vector_step types store world vs)) (sym is)
      (make_vector_at type content n.0 two.1 n.2 two.4 answer)

  -- ---- through wrappers

  -- what a wrapper's two types hold, where the outer one is that of a reference or a vector
  held_inside : (holds : ℕ → TypeRow) → ((content : ℕ) → parts_of (holds content) ≡ content ∷ []) →
      ((row : TypeRow) (content : ℕ) → same_head row (holds content) ≡ true → (other : ℕ) × (row ≡ holds other)) →
      (v : Value) (from label to box content : ℕ) → ValueHas (WrapValue v from label to) box →
      Is box (holds content) → (inner : ℕ) × Is from (holds inner) × Is to (holds content) × ValueHas v from ×
      HasRow types inner × HasRow types content × (label < labels)
  held_inside holds part like v from label to box content typed row =
      let to_row : row_at types to ≡ Some (holds content) = ap (λ t. row_at types t) typed.2 ∙ row in
      let same : typed.1 ≡ holds content = both_some (row_at types to) typed.1 (holds content) typed.5 to_row in
      let other = like typed.0 content (subst (λ o. same_head typed.0 o ≡ true) same typed.6) in
      let from_row : row_at types from ≡ Some (holds other.0) = typed.4 ∙ ap Some other.1 in (
        other.0,
        from_row,
        to_row,
        typed.3,
        (subst (HaveRows types) (part other.0) (parts_have_rows types table from (holds other.0) from_row)).0,
        (subst (HaveRows types) (part content) (parts_have_rows types table to (holds content) to_row)).0,
        typed.9,
      )

  reference_inside : (v : Value) (from label to box content : ℕ) → ValueHas (WrapValue v from label to) box →
      Is box (RefRow content) → (inner : ℕ) × Is from (RefRow inner) × Is to (RefRow content) × ValueHas v from ×
      HasRow types inner × HasRow types content × (label < labels)
  reference_inside = held_inside RefRow (λ content. refl) reference_like

  vector_inside : (v : Value) (from label to box content : ℕ) → ValueHas (WrapValue v from label to) box →
      Is box (VectRow content) → (inner : ℕ) × Is from (VectRow inner) × Is to (VectRow content) × ValueHas v from ×
      HasRow types inner × HasRow types content × (label < labels)
  vector_inside = held_inside VectRow (λ content. refl) vector_like

  -- ---- boxes

  unbox_cell_keeps : (type : ℕ) (cell : List Value) →
      CellHasType types labels cells cell (record { content = type; size = 1 }) →
      Kept type (unbox_cell types store world cell)
  unbox_cell_keeps type [] h = absurd (omega (arith, h.0))
  unbox_cell_keeps type (v ∷ []) h = stays (ValueTerm v) world type (h.2 0 v refl)
  unbox_cell_keeps type (v ∷ u ∷ cell) h = absurd (omega (arith, h.0))

  unbox_at : (v : Value) (type box : ℕ) → ValueHas v box → Is box (RefRow type) → can_be v (RefRow type) ≡ true →
      Kept type (unbox_step types store world (v ∷ []))
  unbox_at (LocValue cell true) type box h row can = absurd (false_is_not_true can)
  unbox_at (LocValue cell false) type box h row can =
      let same = same_reference h.0 type (both_some (row_at types box) (RefRow h.0) (RefRow type) h.2 row) in
      let known : slice_get cells cell ≡ Some (record { content = type; size = 1 }) =
      subst (λ t. slice_get cells cell ≡ Some (record { content = t; size = 1 })) same h.1 in
      let there = cell_there types labels cells store stored cell (record { content = type; size = 1 }) known in
      keeps_some types labels cells (Has type) (slice_get store cell) (unbox_cell types store world) there.0 there.1
      (unbox_cell_keeps type there.0 there.2)
  unbox_at (WrapValue v from label to) type box h row can =
      let inside = reference_inside v from label to box type h row in
      keeps_parts types labels cells (Has type) content_of from to
      (λ i o. Goes (Cast (Prim Unbox (terms_from (ValueTerm v ∷ []))) i o label) store world) (RefRow inside.0)
      (RefRow type) inside.0 type inside.1 inside.2 refl refl
      (stays (Cast (Prim Unbox (terms_from (ValueTerm v ∷ []))) inside.0 type label) world type (
        refl,
        (from ∷ [], (from, [], refl, inside.3, refl), (from, refl, inside.1)),
        inside.5,
        inside.6,
      ))
  unbox_at v type box h row can = absurd (false_is_not_true can)

  unbox_keeps : (type box : ℕ) (values : List Value) → ListHas values (box ∷ []) → Is box (RefRow type) →
      Kept type (unbox_step types store world values)
  unbox_keeps type box values h row =
      let one = a_term_has_one_type-values values box h in
      subst (λ vs. Kept type (unbox_step types store world vs)) (sym one.1)
      (unbox_at one.0 type box one.2 row (form types labels cells one.0 box (RefRow type) one.2 row))

  -- a cell that is changed to one of its type
  writes_keeps : (type place : ℕ) (cell : List Value) (cell_type : CellType) → slice_get cells place ≡ Some cell_type →
      CellHasType types labels cells cell cell_type → Is type UnitRow →
      Kept type (writes_cell types store world place cell)
  writes_keeps type place cell cell_type known h answer =
      (cells, no_more_cells cells, cell_changed types labels cells store stored place cell cell_type known h, answer)

  box_set_at : (box : Value) (v : Value) (type whole content : ℕ) → ValueHas box whole → ValueHas v content →
      Is whole (RefRow content) → Is type UnitRow → can_be box (RefRow content) ≡ true →
      Kept type (box_set_step types store world (box ∷ v ∷ []))
  box_set_at (LocValue cell true) v type whole content h g row answer can = absurd (false_is_not_true can)
  box_set_at (LocValue cell false) v type whole content h g row answer can =
      let same = same_reference h.0 content (both_some (row_at types whole) (RefRow h.0) (RefRow content) h.2 row) in
      let known : slice_get cells cell ≡ Some (record { content = content; size = 1 }) =
      subst (λ t. slice_get cells cell ≡ Some (record { content = t; size = 1 })) same h.1 in
      let there = cell_there types labels cells store stored cell (record { content = content; size = 1 }) known in
      keeps_some types labels cells (Has type) (slice_get store cell) (λ old. writes_cell types store world cell
      (v ∷ [])) there.0 there.1 (writes_keeps type cell (v ∷ []) (record { content = content; size = 1 }) known
      (one_in_cell v content g) answer)
  box_set_at (WrapValue box from label to) v type whole content h g row answer can =
      let inside = reference_inside box from label to whole content h row in
      keeps_parts types labels cells (Has type) content_of from to
      (λ i o. Goes (Prim BoxSet (terms_from (ValueTerm box ∷ Cast (ValueTerm v) o i label ∷ []))) store world)
      (RefRow inside.0) (RefRow content) inside.0 content inside.1 inside.2 refl refl
      (stays (Prim BoxSet (terms_from (ValueTerm box ∷ Cast (ValueTerm v) content inside.0 label ∷ []))) world type (
        from ∷ inside.0 ∷ [],
        (
          from,
          inside.0 ∷ [],
          refl,
          inside.3,
          (inside.0, [], refl, (refl, g, inside.4, inside.6), refl),
        ),
        (from, inside.0, refl, inside.1, answer),
      ))
  box_set_at box v type whole content h g row answer can = absurd (false_is_not_true can)

  box_set_keeps : (type box content : ℕ) (values : List Value) → ListHas values (box ∷ content ∷ []) →
      Is box (RefRow content) → Is type UnitRow → Kept type (box_set_step types store world values)
  box_set_keeps type box content values h row answer =
      let two = two_values values box content h in
      subst (λ vs. Kept type (box_set_step types store world vs)) (sym two.2)
      (box_set_at two.0 two.1 type box content two.3 two.4 row answer
      (form types labels cells two.0 box (RefRow content) two.3 row))

  -- ---- vectors

  with_element_keeps : (type : ℕ) (cell : List Value) (i : ℤ) (go : ℕ → Value → Outcome Term) →
      ((place : ℕ) (v : Value) → i ≡ pos place → slice_get cell place ≡ Some v → Kept type (go place v)) →
      Kept type (with_element types store world cell i go)
  with_element_keeps type cell (pos place) go keeps =
      keeps_if_some types labels cells (Has type) (slice_get cell place) (go place) (Traps Index world)
      (λ v e. keeps place v refl e) (λ e. tt)
  with_element_keeps type cell (negsuc n) go keeps = tt

  -- the cell of a vector
  vector_cell : (cell whole content : ℕ) → ValueHas (LocValue cell true) whole → Is whole (VectRow content) →
      (size : ℕ) × (elements : List Value) × (slice_get store cell ≡ Some elements) ×
      (slice_get cells cell ≡ Some (record { content = content; size = size })) ×
      CellHasType types labels cells elements (record { content = content; size = size })
  vector_cell cell whole content h row =
      let same = same_vector h.0 content (both_some (row_at types whole) (VectRow h.0) (VectRow content) h.3 row) in
      let known : slice_get cells cell ≡ Some (record { content = content; size = h.1 }) =
      subst (λ t. slice_get cells cell ≡ Some (record { content = t; size = h.1 })) same h.2 in
      let there = cell_there types labels cells store stored cell (record { content = content; size = h.1 }) known in
      (h.1, there.0, there.1, known, there.2)

  -- behind all wrappers of a vector stands a cell
  cell_of_vector : (v : Value) (whole content : ℕ) → ValueHas v whole → Is whole (VectRow content) →
      can_be v (VectRow content) ≡ true → (elements : List Value) × (cell_behind v store ≡ Some elements)
  cell_of_vector (LocValue cell true) whole content h row can =
      let at = vector_cell cell whole content h row in (at.1, at.2)
  cell_of_vector (LocValue cell false) whole content h row can = absurd (false_is_not_true can)
  cell_of_vector (WrapValue v from label to) whole content h row can =
      let inside = vector_inside v from label to whole content h row in
      cell_of_vector v from inside.0 inside.3 inside.1
      (form types labels cells v from (VectRow inside.0) inside.3 inside.1)
  cell_of_vector v whole content h row can = absurd (false_is_not_true can)

  vector_ref_at : (v : Value) (n : ℤ) (type whole index : ℕ) → ValueHas v whole → FitsSigned w64 n →
      Is whole (VectRow type) → Is index IntRow → can_be v (VectRow type) ≡ true →
      Kept type (vector_ref_step types store world (v ∷ IntValue n ∷ []))
  vector_ref_at (LocValue cell false) n type whole index h fits row int can = absurd (false_is_not_true can)
  vector_ref_at (LocValue cell true) n type whole index h fits row int can =
      let at = vector_cell cell whole type h row in
      keeps_some types labels cells (Has type) (slice_get store cell) (λ elements.
      with_element types store world elements n (λ place v. gives types store world v)) at.1 at.2
      (with_element_keeps type at.1 n (λ place v. gives types store world v) (λ place v e f.
      stays (ValueTerm v) world type (at.4.2 place v f)))
  vector_ref_at (WrapValue v from label to) n type whole index h fits row int can =
      let inside = vector_inside v from label to whole type h row in
      keeps_parts types labels cells (Has type) content_of from to
      (λ i o. Goes (Cast (Prim VectorRef (terms_from (ValueTerm v ∷ ValueTerm (IntValue n) ∷ []))) i o label) store
      world) (VectRow inside.0) (VectRow type) inside.0 type inside.1 inside.2 refl refl
      (stays (Cast (Prim VectorRef (terms_from (ValueTerm v ∷ ValueTerm (IntValue n) ∷ []))) inside.0 type label)
      world type (
        refl,
        (
          from ∷ index ∷ [],
          (from, index ∷ [], refl, inside.3, (index, [], refl, (fits, int), refl)),
          (from, index, refl, inside.1, int),
        ),
        inside.5,
        inside.6,
      ))
  vector_ref_at v n type whole index h fits row int can = absurd (false_is_not_true can)

  vector_ref_keeps : (type vector index : ℕ) (values : List Value) → ListHas values (vector ∷ index ∷ []) →
      Is vector (VectRow type) → Is index IntRow → Kept type (vector_ref_step types store world values)
  vector_ref_keeps type vector index values h row int =
      let two = two_values values vector index h in
      let n = values_have_their_types_heads-integers types labels cells two.1 index two.4 int in
      let is : values ≡ two.0 ∷ IntValue n.0 ∷ [] = two.2 ∙ ap (λ v. two.0 ∷ v ∷ []) n.1 in
      subst (λ vs. Kept type (vector_ref_step types store world vs)) (sym is)
      (vector_ref_at two.0 n.0 type vector index two.3 n.2 row int (form types labels cells two.0 vector
      (VectRow type) two.3 row))

  element_changed : (elements : List Value) (place : ℕ) (v : Value) (cell_type : CellType) →
      CellHasType types labels cells elements cell_type → ValueHas v cell_type.content →
      CellHasType types labels cells (slice_set elements place v) cell_type
  element_changed elements place v cell_type h g =
      (length_set elements place v ∙ h.0, h.1, λ i u e. at i u (get_set elements place v i u e))
    where
      at : (i : ℕ) (u : Value) → ((i ≡ place) × (v ≡ u)) ⊎ (slice_get elements i ≡ Some u) →
          ValueHas u cell_type.content
      at i u (inl e) = subst (λ x. ValueHas x cell_type.content) e.1 g
      at i u (inr e) = h.2 i u e

  vector_set_at : (vector : Value) (n : ℤ) (v : Value) (type whole index content : ℕ) → ValueHas vector whole →
      FitsSigned w64 n → ValueHas v content → Is whole (VectRow content) → Is index IntRow → Is type UnitRow →
      can_be vector (VectRow content) ≡ true →
      Kept type (vector_set_step types store world (vector ∷ IntValue n ∷ v ∷ []))
  vector_set_at (LocValue cell false) n v type whole index content h fits g row int answer can =
      absurd (false_is_not_true can)
  vector_set_at (LocValue cell true) n v type whole index content h fits g row int answer can =
      let at = vector_cell cell whole content h row in
      keeps_some types labels cells (Has type) (slice_get store cell) (λ elements.
      with_element types store world elements n (λ place old. writes_cell types store world cell
      (slice_set elements place v))) at.1 at.2
      (with_element_keeps type at.1 n (λ place old. writes_cell types store world cell (slice_set at.1 place v))
      (λ place old e f. writes_keeps type cell (slice_set at.1 place v) (record {
        content = content;
        size = at.0;
      }) at.3 (element_changed at.1 place v (record { content = content; size = at.0 }) at.4 g) answer))
  vector_set_at (WrapValue vector from label to) n v type whole index content h fits g row int answer can =
      let inside = vector_inside vector from label to whole content h row in
      let cell =
      cell_of_vector vector from inside.0 inside.3 inside.1 (form types labels cells vector from
      (VectRow inside.0) inside.3 inside.1) in
      let write : Term → Term =
      λ written. Prim VectorSet (terms_from (ValueTerm vector ∷ ValueTerm (IntValue n) ∷ written ∷ [])) in
      keeps_some types labels cells (Has type) (cell_behind vector store) (λ elements.
      with_element types store world elements n (λ place old. cast_written types store world write v from to label))
      cell.0 cell.1 (with_element_keeps type cell.0 n (λ place old.
      cast_written types store world write v from to label) (λ place old e f. keeps_parts types labels cells
      (Has type) content_of from to (λ i o. Goes (write (Cast (ValueTerm v) o i label)) store world)
      (VectRow inside.0) (VectRow content) inside.0 content inside.1 inside.2 refl refl
      (stays (write (Cast (ValueTerm v) content inside.0 label)) world type (
        from ∷ index ∷ inside.0 ∷ [],
        (
          from,
          index ∷ inside.0 ∷ [],
          refl,
          inside.3,
          (
            index,
            inside.0 ∷ [],
            refl,
            (fits, int),
            (inside.0, [], refl, (refl, g, inside.4, inside.6), refl),
          ),
        ),
        (
          from,
          index,
          inside.0,
          refl,
          inside.1,
          int,
          answer,
        ),
      ))))
  vector_set_at vector n v type whole index content h fits g row int answer can = absurd (false_is_not_true can)

  vector_set_keeps : (type vector index content : ℕ) (values : List Value) →
      ListHas values (vector ∷ index ∷ content ∷ []) → Is vector (VectRow content) → Is index IntRow → Is type UnitRow →
      Kept type (vector_set_step types store world values)
  vector_set_keeps type vector index content values h row int answer =
      let three = three_values values vector index content h in
      let n = values_have_their_types_heads-integers types labels cells three.1 index three.5 int in
      let is : values ≡ three.0 ∷ IntValue n.0 ∷ three.2 ∷ [] = three.3 ∙ ap (λ v. three.0 ∷ v ∷ three.2 ∷ []) n.1 in
      subst (λ vs. Kept type (vector_set_step types store world vs)) (sym is)
      (vector_set_at three.0 n.0 three.2 type vector index content three.4 n.2 three.6 row int answer
      (form types labels cells three.0 vector (VectRow content) three.4 row))

  vector_length_at : (v : Value) (type whole content : ℕ) → ValueHas v whole → Is whole (VectRow content) →
      Is type IntRow → can_be v (VectRow content) ≡ true → Kept type (vector_length_step types store world (v ∷ []))
  vector_length_at (LocValue cell false) type whole content h row answer can = absurd (false_is_not_true can)
  vector_length_at (LocValue cell true) type whole content h row answer can =
      let at = vector_cell cell whole content h row in
      let fits : FitsSigned w64 (pos (length at.1)) = subst (λ n. FitsSigned w64 (pos n)) (sym at.4.0) at.4.1 in
      keeps_some types labels cells (Has type) (slice_get store cell) (λ elements.
      gives types store world (IntValue (pos (length elements)))) at.1 at.2
      (stays (ValueTerm (IntValue (pos (length at.1)))) world type (fits, answer))
  vector_length_at (WrapValue v from label to) type whole content h row answer can =
      let inside = vector_inside v from label to whole content h row in
      stays (Prim VectorLength (terms_from (ValueTerm v ∷ []))) world type (
        from ∷ [],
        (from, [], refl, inside.3, refl),
        (inside.0, (from, refl, inside.1), answer),
      )
  vector_length_at v type whole content h row answer can = absurd (false_is_not_true can)

  vector_length_keeps : (type vector content : ℕ) (values : List Value) → ListHas values (vector ∷ []) →
      Is vector (VectRow content) → Is type IntRow → Kept type (vector_length_step types store world values)
  vector_length_keeps type vector content values h row answer =
      let one = a_term_has_one_type-values values vector h in
      subst (λ vs. Kept type (vector_length_step types store world vs)) (sym one.1)
      (vector_length_at one.0 type vector content one.2 row answer (form types labels cells one.0 vector
      (VectRow content) one.2 row))

  -- ---- input

  reads_keep : (type : ℕ) (number : Option ℤ) → ((n : ℤ) → number ≡ Some n → FitsSigned w64 n) → Is type IntRow →
      Kept type (reads types store world number)
  reads_keep type (Some n) fits answer = stays (ValueTerm (IntValue n)) (past_run world) type (fits n refl, answer)
  reads_keep type None fits answer = tt

  read_keeps : (type : ℕ) (values : List Value) → ListHas values [] → Is type IntRow →
      Kept type (read_step types store world values)
  read_keeps type values h answer =
      subst (λ vs. Kept type (read_step types store world vs)) (sym (no_value values h))
      (reads_keep type (next_number world) (λ n e. next_number_fits world n e) answer)

  -- ---- the step of an operator

  pub operator_keeps : (operator : PrimOp) (values : List Value) (operands : List ℕ) (type : ℕ) →
      ListHas values operands → OperatorHasType types operator operands type →
      Kept type (operator_step types store world operator values)
  operator_keeps Add values operands type h o =
      computes_keeps type (λ a b. a +ℤ b) values o.0.0 o.0.1 (subst (ListHas values) o.0.2 h) o.0.3 o.0.4 o.1
  operator_keeps Sub values operands type h o =
      computes_keeps type (λ a b. a -ℤ b) values o.0.0 o.0.1 (subst (ListHas values) o.0.2 h) o.0.3 o.0.4 o.1
  operator_keeps Mul values operands type h o =
      computes_keeps type (λ a b. a *ℤ b) values o.0.0 o.0.1 (subst (ListHas values) o.0.2 h) o.0.3 o.0.4 o.1
  operator_keeps Quot values operands type h o =
      divides_keeps type (int_wrapping_div w64) values o.0.0 o.0.1 (λ m n p q e. int_wrapping_div_fits m n)
      (subst (ListHas values) o.0.2 h) o.0.3 o.0.4 o.1
  operator_keeps Rem values operands type h o =
      divides_keeps type int_rem values o.0.0 o.0.1 (λ m n p q e. int_rem_fits m n q e)
      (subst (ListHas values) o.0.2 h) o.0.3 o.0.4 o.1
  operator_keeps Lt values operands type h o =
      compares_keeps type int_lt values o.0.0 o.0.1 (subst (ListHas values) o.0.2 h) o.0.3 o.0.4 o.1
  operator_keeps Le values operands type h o =
      compares_keeps type int_le values o.0.0 o.0.1 (subst (ListHas values) o.0.2 h) o.0.3 o.0.4 o.1
  operator_keeps Eq values operands type h o =
      compares_keeps type int_eq values o.0.0 o.0.1 (subst (ListHas values) o.0.2 h) o.0.3 o.0.4 o.1
  operator_keeps Ge values operands type h o =
      compares_keeps type (λ a b. int_le b a) values o.0.0 o.0.1 (subst (ListHas values) o.0.2 h) o.0.3 o.0.4 o.1
  operator_keeps Gt values operands type h o =
      compares_keeps type (λ a b. int_lt b a) values o.0.0 o.0.1 (subst (ListHas values) o.0.2 h) o.0.3 o.0.4 o.1
  operator_keeps Not values operands type h o =
      not_keeps type values o.0.0 (subst (ListHas values) o.0.1 h) o.0.2 o.1
  operator_keeps PrintInt values operands type h o =
      on_int_keeps type (λ a. prints types store world (signed_decimal a)) values o.0.0
      (subst (ListHas values) o.0.1 h) o.0.2 (λ n fits. stays (ValueTerm UnitValue)
      (printing (signed_decimal n) world) type o.1)
  operator_keeps Newline values operands type h o = newline_keeps type values (subst (ListHas values) o.0 h) o.1
  operator_keeps ReadInt values operands type h o = read_keeps type values (subst (ListHas values) o.0 h) o.1
  operator_keeps MakeBox values operands type h o = make_box_keeps type o.0 values (subst (ListHas values) o.1 h) o.2
  operator_keeps Unbox values operands type h o = unbox_keeps type o.0 values (subst (ListHas values) o.1 h) o.2
  operator_keeps BoxSet values operands type h o =
      box_set_keeps type o.0 o.1 values (subst (ListHas values) o.2 h) o.3 o.4
  operator_keeps MakeVector values operands type h o =
      make_vector_keeps type o.0 o.1 values (subst (ListHas values) o.2 h) o.3 o.4
  operator_keeps VectorRef values operands type h o =
      vector_ref_keeps type o.0 o.1 values (subst (ListHas values) o.2 h) o.3 o.4
  operator_keeps VectorSet values operands type h o =
      vector_set_keeps type o.0 o.1 o.2 values (subst (ListHas values) o.3 h) o.4 o.5 o.6
  operator_keeps VectorLength values operands type h o =
      vector_length_keeps type o.1.0 o.0 values (subst (ListHas values) o.1.1 h) o.1.2 o.2

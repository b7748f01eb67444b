-- What a cast that goes up says of the rows of its types, and of their parts.
use Rattle.std.proofs.Common.{◌≡◌, ℕ, zero, suc, ℤ, pos, Bool, true, false, List, [], ◌∷◌, length}
use Rattle.std.proofs.Common.{Some, refl, sym, ap, ap₂, ◌∙◌, slice_get}
use Rattle.std.specs.Prelude.{◌&&◌}
use Rattle.std.proofs.lemmas.Bool.{and_parts, eq-eqb}
use Rattle.grift_base.specs.Types.{TypeRow, TypeRows, IntRow, BoolRow, UnitRow, DynRow, FunRow, TupleRow, RefRow}
use Rattle.grift_base.specs.Types.{VectRow, row_at, is_dyn, same_head, tuple_part, content_of}
use Rattle.type_graph.specs.Trees.{related}
use Rattle.core_calc.proofs.Public.{none_is_not_some, same_some}
use Rattle.blame_audit.specs.Up.{up_rows, up_at, up_to, Up}

pub false_is_not_true : {A : Type 0} → false ≡ true → A
false_is_not_true e = absurd (no e)
  where
    no : false ≡ true → ⊥
    no e = cc

related_lengths : (f : ℕ → ℕ → Bool) (xs ys : List ℕ) → related f xs ys ≡ true → length xs ≡ length ys
related_lengths f [] [] e = refl
related_lengths f [] (y ∷ ys) e = false_is_not_true e
related_lengths f (x ∷ xs) [] e = false_is_not_true e
related_lengths f (x ∷ xs) (y ∷ ys) e = ap suc (related_lengths f xs ys (and_parts (f x y) (related f xs ys) e).1)

-- where the cast goes up to a type that isn't Dyn, the heads are equal
pub up_has_head : (f : ℕ → ℕ → Bool) (row other : TypeRow) → up_rows f row other ≡ true → is_dyn other ≡ false →
    same_head row other ≡ true
up_has_head f row DynRow e no_dyn = false_is_not_true (sym no_dyn)
up_has_head f IntRow IntRow e no_dyn = refl
up_has_head f BoolRow BoolRow e no_dyn = refl
up_has_head f UnitRow UnitRow e no_dyn = refl
up_has_head f (FunRow parameters answer) (FunRow others other) e no_dyn =
    let turned = and_parts (related f others parameters) (f answer other) e in
    eq-eqb (length parameters) (length others) (sym (related_lengths f others parameters turned.0))
up_has_head f (TupleRow parts) (TupleRow others) e no_dyn =
    eq-eqb (length parts) (length others) (related_lengths f parts others e)
up_has_head f (RefRow content) (RefRow other) e no_dyn = refl
up_has_head f (VectRow content) (VectRow other) e no_dyn = refl
up_has_head f _ _ e no_dyn = false_is_not_true e

-- ... so it doesn't come out of Dyn
pub up_from_no_dyn : (f : ℕ → ℕ → Bool) (row other : TypeRow) → up_rows f row other ≡ true → is_dyn other ≡ false →
    is_dyn row ≡ true → ⊥
up_from_no_dyn f row DynRow e no_dyn dyn = false_is_not_true (sym no_dyn)
up_from_no_dyn f DynRow _ e no_dyn dyn = false_is_not_true e
up_from_no_dyn f _ _ e no_dyn dyn = false_is_not_true dyn

related_at : (f : ℕ → ℕ → Bool) (xs ys : List ℕ) (k x y : ℕ) → related f xs ys ≡ true → slice_get xs k ≡ Some x →
    slice_get ys k ≡ Some y → f x y ≡ true
related_at f [] ys k x y e at_x at_y = absurd (none_is_not_some x at_x)
related_at f (a ∷ xs) [] k x y e at_x at_y = false_is_not_true e
related_at f (a ∷ xs) (b ∷ ys) zero x y e at_x at_y =
    sym (ap₂ f (same_some a x at_x) (same_some b y at_y)) ∙ (and_parts (f a b) (related f xs ys) e).0
related_at f (a ∷ xs) (b ∷ ys) (suc k) x y e at_x at_y =
    related_at f xs ys k x y (and_parts (f a b) (related f xs ys) e).1 at_x at_y

-- ---- parts of types, to every depth

module _ (types : TypeRows) where
  -- rows whose parts go up to every depth
  abbrev pub RowsUp : TypeRow → TypeRow → Type 0
  RowsUp row other = (depth : ℕ) → up_rows (up_to depth types) row other ≡ true

  pub rows_up : (a b : ℕ) (row other : TypeRow) → Up types a b → row_at types a ≡ Some row →
      row_at types b ≡ Some other → RowsUp row other
  rows_up a b row other up at_a at_b depth =
      sym (ap₂ (λ r o. up_at (up_to depth types) r o) at_a at_b) ∙ up (suc depth)

  pub function_parameters_up : (parameters others : List ℕ) (answer other : ℕ) →
      RowsUp (FunRow parameters answer) (FunRow others other) →
      (depth : ℕ) → related (up_to depth types) others parameters ≡ true
  function_parameters_up parameters others answer other up depth =
      (and_parts (related (up_to depth types) others parameters) (up_to depth types answer other) (up depth)).0

  pub function_answer_up : (parameters others : List ℕ) (answer other : ℕ) →
      RowsUp (FunRow parameters answer) (FunRow others other) → Up types answer other
  function_answer_up parameters others answer other up depth =
      (and_parts (related (up_to depth types) others parameters) (up_to depth types answer other) (up depth)).1

  pub tuple_part_up : (row other : TypeRow) (k : ℤ) (inner outer : ℕ) → RowsUp row other →
      tuple_part row k ≡ Some inner → tuple_part other k ≡ Some outer → Up types inner outer
  tuple_part_up (TupleRow parts) (TupleRow others) (pos k) inner outer up at_row at_other depth =
      related_at (up_to depth types) parts others k inner outer (up depth) at_row at_other
  tuple_part_up (TupleRow parts) _ (pos k) inner outer up at_row at_other depth =
      absurd (none_is_not_some outer at_other)
  tuple_part_up _ other k inner outer up at_row at_other depth = absurd (none_is_not_some inner at_row)

  two_up : (a b c d : ℕ) → ((depth : ℕ) → (up_to depth types a b && up_to depth types c d) ≡ true) →
      Up types a b × Up types c d
  two_up a b c d up = (
    λ depth. (and_parts (up_to depth types a b) (up_to depth types c d) (up depth)).0,
    λ depth. (and_parts (up_to depth types a b) (up_to depth types c d) (up depth)).1,
  )

  both_ways : (content other inner outer : ℕ) → ((depth : ℕ) →
      (up_to depth types content other && up_to depth types other content) ≡ true) → Some content ≡ Some inner →
      Some other ≡ Some outer → Up types inner outer × Up types outer inner
  both_ways content other inner outer up at_row at_other =
      two_up inner outer outer inner (λ depth. sym (ap₂ (λ c o. up_to depth types c o && up_to depth types o c)
      (same_some content inner at_row) (same_some other outer at_other)) ∙ up depth)

  pub content_up : (row other : TypeRow) (inner outer : ℕ) → RowsUp row other → content_of row ≡ Some inner →
      content_of other ≡ Some outer → Up types inner outer × Up types outer inner
  content_up (RefRow content) (RefRow other) inner outer up at_row at_other =
      both_ways content other inner outer up at_row at_other
  content_up (VectRow content) (VectRow other) inner outer up at_row at_other =
      both_ways content other inner outer up at_row at_other
  content_up (RefRow content) (VectRow other) inner outer up at_row at_other = false_is_not_true (up 0)
  content_up (VectRow content) (RefRow other) inner outer up at_row at_other = false_is_not_true (up 0)
  content_up (RefRow content) _ inner outer up at_row at_other = absurd (none_is_not_some outer at_other)
  content_up (VectRow content) _ inner outer up at_row at_other = absurd (none_is_not_some outer at_other)
  content_up _ other inner outer up at_row at_other = absurd (none_is_not_some inner at_row)

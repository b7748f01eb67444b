-- What operators on boxes and vectors come to, once their operands and their cell were asked.
use Rattle.std.proofs.Common.{◌≡◌, ℕ, zero, suc, ◌<◌, ℤ, pos, negsuc, Bool, true, false, cond, List, [], ◌∷◌}
use Rattle.std.proofs.Common.{length, map, Option, Some, None, refl, sym, ap, ◌∙◌, subst, arith, slice_get, get_or}
use Rattle.std.specs.Prelude.{nat_lt, int_lt, nat_abs, replicate, slice_set, option_and_then, option_map, IfSome}
use Rattle.std.proofs.lemmas.List.{map-set, length-map}
use Rattle.std.proofs.lemmas.Option.{slice_get-get_or, slice_get-map, slice_get_read, slice_get_within}
use Rattle.std.proofs.lemmas.Bool.Decides.{nat_tests}
use Rattle.grift_base.specs.World.{WorldState}
use Rattle.grift_base.specs.Types.{TypeRows}
use Rattle.grift_base.specs.declared.verdicts.Trap.TheVariants.{Index}
use Rattle.grift_base.specs.declared.operators.PrimOp.TheVariants.{VectorSet}
use Rattle.core_calc.specs.Terms.{Term, Value, Prim, ValueTerm, IntValue, UnitValue, LocValue, WrapValue}
use Rattle.core_calc.specs.Terms.{terms_from}
use Rattle.core_calc.specs.Outcome.{Store, Outcome, Goes, Traps, if_some, with_some}
use Rattle.core_calc.specs.Operators.{cell_behind, with_element, cast_written, writes_cell, new_cell}
use Rattle.core_calc.specs.Operators.{make_vector_step, vector_set_step}
use Rattle.core_calc.proofs.Public.{same_some, some_is_not_none}
use Rattle.core_redexes.specs.Moves.{after}
use Rattle.core_redexes.specs.Turns.{HasElement, place_below, vector_cell, element_set, element_written, written_in}

true_is_not_false : true ≡ false → ⊥
true_is_not_false e = cc

none_below : (k : ℕ) → nat_lt k 0 ≡ false
none_below k = grind (arith, nat_tests)

first_below : (n : ℕ) → nat_lt 0 (suc n) ≡ true
first_below n = grind (arith, nat_tests)

next_below : (k n : ℕ) → nat_lt k n ≡ nat_lt (suc k) (suc n)
next_below k n = grind (arith, nat_tests)

-- a cell has something at each place below its length
place_there : {A B : Type 0} (cell : List A) (k : ℕ) (there other : Outcome B) →
    if_some (slice_get cell k) (λ old. there) other ≡ cond (nat_lt k (length cell)) there other
place_there [] k there other = ap (λ b. cond b there other) (sym (none_below k))
place_there (v ∷ cell) zero there other = ap (λ b. cond b there other) (sym (first_below (length cell)))
place_there (v ∷ cell) (suc k) there other =
    place_there cell k there other ∙ ap (λ b. cond b there other) (next_below k (length cell))

place_chosen : {B : Type 0} (b : Bool) (k : ℕ) (go : ℕ → Outcome B) (other : Outcome B) →
    cond b (go k) other ≡ if_some (cond b (Some k) None) go other
place_chosen true k go other = refl
place_chosen false k go other = refl

module _ (types : TypeRows) (store : Store) (world : WorldState) where
  -- where only the place counts
  pub element_placed : (cell : List Value) (i : ℤ) (go : ℕ → Outcome Term) →
      with_element types store world cell i (λ place v. go place)
      ≡ if_some (place_below i (length cell)) go (Traps Index world)
  element_placed cell (pos k) go =
      place_there cell k (go k) (Traps Index world)
      ∙ place_chosen (nat_lt k (length cell)) k go (Traps Index world)
  element_placed cell (negsuc k) go = refl

  -- the cell behind all wrappers is that of the number
  cell_numbered : (v : Value) → cell_behind v store ≡ option_and_then (slice_get store) (vector_cell v)
  cell_numbered (LocValue cell true) = refl
  cell_numbered (LocValue cell false) = refl
  cell_numbered (WrapValue v from label to) = cell_numbered v
  cell_numbered _ = refl

  -- a write to a vector at an index, once its cell and the place were found
  abbrev set_where : Option (List Value) → Value → ℤ → Value → Outcome Term
  set_where found vector i v =
      with_some found (λ elements. if_some (place_below i (length elements))
      (λ place. element_set types store world vector i place v) (Traps Index world))

  set_bare : (cell : ℕ) (i : ℤ) (v : Value) (found : Option (List Value)) → slice_get store cell ≡ found →
      with_some found (λ elements. with_element types store world elements i (λ place old.
      writes_cell types store world cell (slice_set elements place v)))
      ≡ set_where found (LocValue cell true) i v
  set_bare cell i v None e = refl
  set_bare cell i v (Some elements) e =
      element_placed elements i (λ place. Goes (ValueTerm UnitValue) (slice_set store cell (slice_set elements place v))
      world)
      ∙ ap (λ found. if_some (place_below i (length elements)) (λ place.
      Goes (ValueTerm UnitValue) (written_in store cell found place v) world) (Traps Index world)) (sym e)

  set_wrapped : (i : ℤ) (there : Outcome Term) (found : Option (List Value)) →
      with_some found (λ elements. with_element types store world elements i (λ place old. there))
      ≡ with_some found (λ elements. if_some (place_below i (length elements)) (λ place. there) (Traps Index world))
  set_wrapped i there None = refl
  set_wrapped i there (Some elements) = element_placed elements i (λ place. there)

  pub set_at_index : (vector : Value) (i : ℤ) (v : Value) →
      vector_set_step types store world (vector ∷ IntValue i ∷ v ∷ [])
      ≡ set_where (option_and_then (slice_get store) (vector_cell vector)) vector i v
  set_at_index (LocValue cell true) i v = set_bare cell i v (slice_get store cell) refl
  set_at_index (LocValue cell false) i v = refl
  set_at_index (WrapValue w from label to) i v =
      ap (λ found. with_some found (λ elements. with_element types store world elements i (λ place old.
      cast_written types store world (λ written. Prim VectorSet (terms_from (ValueTerm w ∷ ValueTerm (IntValue i) ∷
      written ∷ []))) v from to label))) (cell_numbered w)
      ∙ set_wrapped i (cast_written types store world (λ written. Prim VectorSet (terms_from (ValueTerm w ∷
      ValueTerm (IntValue i) ∷ written ∷ []))) v from to label) (option_and_then (slice_get store) (vector_cell w))
  set_at_index _ i v = refl

  -- a new vector of a length that isn't negative
  pub vector_made : (size v : Value) (n m : ℤ) (cell : List Value) → size ≡ IntValue n → m ≡ n →
      int_lt m (pos 0) ≡ false → cell ≡ replicate (nat_abs m) v →
      make_vector_step types store world (size ∷ v ∷ []) ≡ new_cell types store world cell true
  vector_made size v n m cell is e f g =
      ap (λ (x : Value). make_vector_step types store world (x ∷ v ∷ [])) (is ∙ ap IntValue (sym e))
      ∙ made m f ∙ ap (λ (x : List Value). new_cell types store world x true) (sym g)
    where
      made : (m : ℤ) → int_lt m (pos 0) ≡ false →
          make_vector_step types store world (IntValue m ∷ v ∷ []) ≡
          new_cell types store world (replicate (nat_abs m) v) true
      made (pos k) f = refl
      made (negsuc k) f = absurd (true_is_not_false f)

  -- a box's cell is changed
  pub box_written : (old : Term) (k : ℕ) (values : List Value) (next : Store) → k < length store →
      next ≡ slice_set store k values →
      after (with_some (slice_get store k) (λ cell. writes_cell types store world k values)) old store world
      ≡ after (Goes (ValueTerm UnitValue) next world) old store world
  box_written old k values next h e =
      ap (λ (found : Option (List Value)). after (with_some found (λ cell. writes_cell types store world k values)) old
      store world) (slice_get-get_or store k [] h)
      ∙ ap (λ (next : Store). after (Goes (ValueTerm UnitValue) next world) old store world) (sym e)

  -- what a write to a vector comes to, by the cell that was found
  pub set_found : (vector index v : Value) (i : ℤ) (found : Option (List Value)) → index ≡ IntValue i →
      option_and_then (slice_get store) (vector_cell vector) ≡ found →
      vector_set_step types store world (vector ∷ index ∷ v ∷ []) ≡ set_where found vector i v
  set_found vector index v i found e f =
      ap (λ (x : Value). vector_set_step types store world (vector ∷ x ∷ v ∷ [])) e ∙ set_at_index vector i v
      ∙ ap (λ (found : Option (List Value)). set_where found vector i v) f

  -- and by the place that was found
  pub set_placed : (vector v : Value) (i m : ℤ) (elements : List Value) (n : ℕ) (placed : Option ℕ) → m ≡ i →
      n ≡ length elements → placed ≡ place_below m n →
      set_where (Some elements) vector i v
      ≡ if_some placed (λ place. element_set types store world vector m place v) (Traps Index world)
  set_placed vector v i m elements n placed e f g =
      ap (λ (x : ℤ). set_where (Some elements) vector x v) (sym e)
      ∙ ap (λ (k : ℕ). if_some (place_below m k) (λ place. element_set types store world vector m place v)
      (Traps Index world)) (sym f)
      ∙ ap (λ (found : Option ℕ). if_some found (λ place. element_set types store world vector m place v)
      (Traps Index world)) (sym g)

-- ---- cells as they are held

-- a cell is changed in the list of cells
pub written_cell : {A : Type 0} (f : A → List Value) (xs : List A) (k : ℕ) (a : A) (values : List Value) →
    f a ≡ values → map f (slice_set xs k a) ≡ slice_set (map f xs) k values
written_cell f xs k a values e = map-set f xs k a ∙ ap (λ (x : List Value). slice_set (map f xs) k x) e

-- a place of a cell is changed
pub written_place : {A : Type 0} (f : A → List Value) (xs : List A) (k : ℕ) (before next : A) (place : ℕ) (v : Value) →
    k < length (map f xs) → before ≡ get_or xs k before → f next ≡ slice_set (f before) place v →
    map f (slice_set xs k next) ≡ element_written (map f xs) k place v
written_place f xs k before next place v h is e =
    let within : k < length xs = omega (arith, length-map xs f) in
    written_cell f xs k next (slice_set (f before) place v) e
    ∙ ap (λ (found : Option (List Value)). written_in (map f xs) k found place v)
    (sym (slice_get-map f xs k ∙ ap (option_map f) (slice_get_read xs (length xs) k before refl within is)))

cell_of_location : (store : Store) (cell k : ℕ) (elements : List Value) (place : ℕ) → Some k ≡ Some cell →
    slice_get store k ≡ Some elements → place < length elements →
    (cell < length store) × IfSome (slice_get store cell) (λ elements. place < length elements)
cell_of_location store cell k elements place e f h =
    let there : slice_get store cell ≡ Some elements =
    subst (λ (x : ℕ). slice_get store x ≡ Some elements) (same_some k cell e) f in (
      slice_get_within store cell elements there,
      subst (λ (found : Option (List Value)). IfSome found (λ elements. place < length elements)) (sym there) h,
    )

-- the place that was found is one of the cell
pub has_element : (store : Store) (vector : Value) (k : ℕ) (elements : List Value) (place : ℕ) →
    Some k ≡ vector_cell vector → slice_get store k ≡ Some elements → place < length elements →
    HasElement store vector place
has_element store (LocValue cell true) k elements place e f h = cell_of_location store cell k elements place e f h
has_element store (LocValue cell false) k elements place e f h = absurd (some_is_not_none k e)
has_element store _ k elements place e f h = tt

-- No step takes output back.
use Rattle.std.proofs.Common.{ℕ, zero, suc, ℤ, pos, negsuc, Bool, true, false, List, [], ◌∷◌, Option, Some, None, refl}
use Rattle.std.proofs.Common.{if◌then◌else◌, slice_get}
use Rattle.std.specs.Prelude.{codes, not, ◌&&◌}
use Rattle.std.specs.Ordering.{int_eq}
use Rattle.std.specs.Fmt.{signed_decimal}
use Rattle.run_laws.specs.Runs.{IsPrefix}
use Rattle.run_laws.specs.Reductions.{ReductionOnlyAddsOutput}
use Rattle.run_laws.proofs.Public.{prefix_refl}
use Rattle.grift_base.specs.World.{WorldState}
use Rattle.grift_base.specs.Types.{TypeRow, TypeRows, FunRow, row_at, is_dyn, is_base, same_head, tuple_part, dyn_place}
use Rattle.grift_base.specs.Types.{content_of}
use Rattle.grift_base.specs.declared.places.Pos.{Pos}
use Rattle.grift_base.specs.declared.operators.PrimOp.{PrimOp}
use Rattle.grift_base.specs.declared.operators.PrimOp.TheVariants.{Add, Sub, Mul, Quot, Rem, Lt, Le, Eq, Ge, Gt, Not}
use Rattle.grift_base.specs.declared.operators.PrimOp.TheVariants.{PrintInt, Newline, ReadInt, MakeBox, Unbox, BoxSet}
use Rattle.grift_base.specs.declared.operators.PrimOp.TheVariants.{MakeVector, VectorRef, VectorSet, VectorLength}
use Rattle.grift_base.specs.declared.verdicts.Trap.TheVariants.{ZeroDivisor}
use Rattle.core_calc.specs.Terms.{Term, Terms, Members, Bindings, Value, IntLit, BoolLit, UnitLit, Var, Lambda, Group}
use Rattle.core_calc.specs.Terms.{Let, Call, Enter, If, Seq, Cast, Proj, ProjDyn, Tuple, Prim, ValueTerm, NoTerms}
use Rattle.core_calc.specs.Terms.{TermThen, NoMembers, MemberThen, NoBindings, BindingThen, IntValue, BoolValue}
use Rattle.core_calc.specs.Terms.{FunValue, MemberValue, TupleValue, LocValue, WrapValue, InjectValue, as_value}
use Rattle.core_calc.specs.Terms.{all_values, terms_from, value_list, bound_values, binding_names}
use Rattle.core_calc.specs.Substitution.{Substitution, bind, group_values}
use Rattle.core_calc.specs.Outcome.{Store, Outcome, Goes, Blames, Traps, Stuck, inside, if_some, with_some}
use Rattle.core_calc.specs.Casts.{with_rows, with_part_of_both, cast_out, cast_between, cast_step}
use Rattle.core_calc.specs.Calls.{cast_arguments, enter_wrapped, enter_body, enter_member, enter_step, value_at}
use Rattle.core_calc.specs.Calls.{proj_step, proj_to_dyn, proj_dyn_step}
use Rattle.core_calc.specs.Operators.{cell_behind, gives, on_int, on_ints, on_bool, divides, newline_step, with_element}
use Rattle.core_calc.specs.Operators.{cast_read, cast_written, make_box_step, unbox_cell, unbox_step, box_set_step}
use Rattle.core_calc.specs.Operators.{make_vector_step, vector_ref_step, vector_set_step, vector_length_step, reads}
use Rattle.core_calc.specs.Operators.{read_step, operator_step}
use Rattle.grift_base.specs.Reading.{next_number}
use Rattle.core_calc.specs.Step.{if_step, let_step, step, step_terms, step_bindings}
use Rattle.core_calc.specs.Calculus.{CalcState, state_after_step, calculus}

-- what was printed still stands first in the output, wherever the step leads
abbrev Keeps : {A : Type 0} → List ℕ → Outcome A → Type 0
Keeps printed (Goes a store world) = IsPrefix printed world.output
Keeps printed (Blames label) = Unit {0}
Keeps printed (Traps trap world) = IsPrefix printed world.output
Keeps printed Stuck = Unit {0}

keeps_inside : {A B : Type 0} (printed : List ℕ) (place : A → B) (outcome : Outcome A) → Keeps printed outcome →
    Keeps printed (inside place outcome)
keeps_inside printed place (Goes a store world) keeps = keeps
keeps_inside printed place (Blames label) keeps = tt
keeps_inside printed place (Traps trap world) keeps = keeps
keeps_inside printed place Stuck keeps = tt

keeps_if_some : {A B : Type 0} (printed : List ℕ) (option : Option A) (go : A → Outcome B) (other : Outcome B) →
    ((a : A) → Keeps printed (go a)) → Keeps printed other → Keeps printed (if_some option go other)
keeps_if_some printed (Some a) go other some none = some a
keeps_if_some printed None go other some none = none

keeps_with_some : {A B : Type 0} (printed : List ℕ) (option : Option A) (go : A → Outcome B) →
    ((a : A) → Keeps printed (go a)) → Keeps printed (with_some option go)
keeps_with_some printed option go some = keeps_if_some printed option go Stuck some tt

keeps_if : {A : Type 0} (printed : List ℕ) (b : Bool) (first second : Outcome A) → Keeps printed first →
    Keeps printed second → Keeps printed (if b then first else second)
keeps_if printed true first second yes_keeps no_keeps = yes_keeps
keeps_if printed false first second yes_keeps no_keeps = no_keeps

keeps_with_rows : {A : Type 0} (printed : List ℕ) (types : TypeRows) (from to : ℕ) (go : TypeRow → TypeRow →
    Outcome A) → ((row other : TypeRow) → Keeps printed (go row other)) → Keeps printed (with_rows types from to go)
keeps_with_rows printed types from to go keeps =
    keeps_with_some printed (row_at types from) (λ row. with_some (row_at types to) (λ other. go row other))
    (λ row. keeps_with_some printed (row_at types to) (λ other. go row other) (λ other. keeps row other))

keeps_with_part_of_both : {A : Type 0} (printed : List ℕ) (types : TypeRows) (part : TypeRow →
    Option ℕ) (from to : ℕ) (go : ℕ → ℕ → Outcome A) → ((inner outer : ℕ) → Keeps printed (go inner outer)) →
    Keeps printed (with_part_of_both types part from to go)
keeps_with_part_of_both printed types part from to go keeps =
    keeps_with_rows printed types from to (λ row other.
    with_some (part row) (λ inner. with_some (part other) (λ outer. go inner outer))) (λ row other.
    keeps_with_some printed (part row) (λ inner. with_some (part other) (λ outer. go inner outer))
    (λ inner. keeps_with_some printed (part other) (λ outer. go inner outer) (λ outer. keeps inner outer)))

module _ (types : TypeRows) (store : Store) (world : WorldState) where
  -- the output stays as it is
  same : IsPrefix world.output world.output
  same = prefix_refl world.output world.output refl

  -- ---- casts and calls

  keeps_cast_out : (v : Value) (to label : ℕ) → Keeps world.output (cast_out types store world v to label)
  keeps_cast_out (InjectValue v kept) to label = same
  keeps_cast_out _ to label = tt

  keeps_cast_between : (row other : TypeRow) (v : Value) (from to label : ℕ) →
      Keeps world.output (cast_between types store world row other v from to label)
  keeps_cast_between row other v from to label =
      let wrapped : Outcome Term = Goes (ValueTerm (WrapValue v from label to)) store world in
      let base : Outcome Term = if is_base row then Goes (ValueTerm v) store world else wrapped in
      let apart : Outcome Term = if not (same_head row other) then Blames label else base in
      let out : Outcome Term = if is_dyn row then cast_out types store world v to label else apart in
      let into : Outcome Term = if is_dyn other then Goes (ValueTerm (InjectValue v from)) store world else out in
      let base_keeps : Keeps world.output base =
      keeps_if world.output (is_base row) (Goes (ValueTerm v) store world) wrapped same same in
      let apart_keeps : Keeps world.output apart =
      keeps_if world.output (not (same_head row other)) (Blames label) base tt base_keeps in
      let out_keeps : Keeps world.output out =
      keeps_if world.output (is_dyn row) (cast_out types store world v to label) apart
      (keeps_cast_out v to label) apart_keeps in
      let into_keeps : Keeps world.output into =
      keeps_if world.output (is_dyn other) (Goes (ValueTerm (InjectValue v from)) store world) out same out_keeps in
      keeps_if world.output (is_dyn row && is_dyn other) (Goes (ValueTerm v) store world) into same into_keeps

  keeps_cast_step : (v : Value) (from to label : ℕ) → Keeps world.output (cast_step types store world v from to label)
  keeps_cast_step v from to label =
      keeps_with_rows world.output types from to (λ row other. cast_between types store world row other v from to label)
      (λ row other. keeps_cast_between row other v from to label)

  keeps_enter_wrapped : (row other : TypeRow) (v : Value) (arguments : Terms) (label : ℕ) →
      Keeps world.output (enter_wrapped types store world row other v arguments label)
  keeps_enter_wrapped (FunRow parameters answer) (FunRow wanted_parameters wanted) v arguments label =
      keeps_with_some world.output (cast_arguments arguments wanted_parameters parameters label)
      (λ casts. Goes (Cast (Enter (ValueTerm v) casts) answer wanted label) store world) (λ casts. same)
  keeps_enter_wrapped _ _ v arguments label = tt

  keeps_enter_body : (parameters : List ℕ) (body : Term) (group : Substitution) (values : List Value) →
      Keeps world.output (enter_body types store world parameters body group values)
  keeps_enter_body parameters body group values =
      keeps_with_some world.output (bind parameters values) _ (λ bound. same)

  keeps_enter_member : (members : Members) (place : ℕ) (group : Substitution) (values : List Value) →
      Keeps world.output (enter_member types store world members place group values)
  keeps_enter_member NoMembers place group values = tt
  keeps_enter_member (MemberThen name parameters body type rest) zero group values =
      keeps_enter_body parameters body group values
  keeps_enter_member (MemberThen name parameters body type rest) (suc place) group values =
      keeps_enter_member rest place group values

  keeps_enter_step : (v : Value) (arguments : Terms) (arguments_step : Outcome Term) →
      Keeps world.output arguments_step → Keeps world.output (enter_step types store world v arguments arguments_step)
  keeps_enter_step (WrapValue v from label to) arguments arguments_step keeps =
      keeps_with_rows world.output types from to (λ row other.
      enter_wrapped types store world row other v arguments label) (λ row other.
      keeps_enter_wrapped row other v arguments label)
  keeps_enter_step (FunValue parameters body type) arguments arguments_step keeps =
      keeps_if_some world.output (all_values arguments) (enter_body types store world parameters body []) arguments_step
      (keeps_enter_body parameters body []) keeps
  keeps_enter_step (MemberValue members place) arguments arguments_step keeps =
      keeps_if_some world.output (all_values arguments) (enter_member types store world members place
      (group_values members)) arguments_step (keeps_enter_member members place (group_values members)) keeps
  keeps_enter_step _ arguments arguments_step keeps =
      keeps_if_some world.output (all_values arguments) (λ values. Stuck) arguments_step (λ values. tt) keeps

  keeps_proj_step : (v : Value) (k : ℤ) → Keeps world.output (proj_step types store world v k)
  keeps_proj_step (TupleValue values) k =
      keeps_with_some world.output (value_at types store world (value_list values) k)
      (λ v. Goes (ValueTerm v) store world) (λ v. same)
  keeps_proj_step (WrapValue v from label to) k =
      keeps_with_part_of_both world.output types (λ row. tuple_part row k) from to (λ inner outer.
      Goes (Cast (Proj (ValueTerm v) k) inner outer label) store world) (λ inner outer. same)
  keeps_proj_step _ k = tt

  keeps_proj_to_dyn : (v : Value) (k : ℤ) (part label : ℕ) →
      Keeps world.output (proj_to_dyn types store world v k part label)
  keeps_proj_to_dyn v k part label =
      keeps_with_some world.output (dyn_place types)
      (λ dyn. Goes (Cast (Proj (ValueTerm v) k) part dyn label) store world) (λ dyn. same)

  keeps_proj_dyn_step : (v : Value) (k : ℤ) (label : ℕ) → Keeps world.output (proj_dyn_step types store world v k label)
  keeps_proj_dyn_step (InjectValue v kept) k label =
      keeps_with_some world.output (row_at types kept)
      (λ row. if_some (tuple_part row k) (λ part. proj_to_dyn types store world v k part label) (Blames label))
      (λ row. keeps_if_some world.output (tuple_part row k) (λ part. proj_to_dyn types store world v k part label)
      (Blames label) (λ part. keeps_proj_to_dyn v k part label) tt)
  keeps_proj_dyn_step _ k label = tt

  -- ---- operators

  keeps_on_int : (go : ℤ → Outcome Term) (values : List Value) → ((a : ℤ) → Keeps world.output (go a)) →
      Keeps world.output (on_int types store world go values)
  keeps_on_int go (IntValue a ∷ []) keeps = keeps a
  keeps_on_int go _ keeps = tt

  keeps_on_ints : (go : ℤ → ℤ → Outcome Term) (values : List Value) → ((a b : ℤ) → Keeps world.output (go a b)) →
      Keeps world.output (on_ints types store world go values)
  keeps_on_ints go (IntValue a ∷ rest) keeps = keeps_on_int (go a) rest (keeps a)
  keeps_on_ints go _ keeps = tt

  keeps_on_bool : (go : Bool → Outcome Term) (values : List Value) → ((b : Bool) → Keeps world.output (go b)) →
      Keeps world.output (on_bool types store world go values)
  keeps_on_bool go (BoolValue b ∷ []) keeps = keeps b
  keeps_on_bool go _ keeps = tt

  keeps_divides : (f : ℤ → ℤ → ℤ) (values : List Value) → Keeps world.output (divides types store world f values)
  keeps_divides f values =
      keeps_on_ints _ values (λ a b. keeps_if world.output (int_eq b (pos 0)) (Traps ZeroDivisor world)
      (gives types store world (IntValue (f a b))) same same)

  keeps_newline : (values : List Value) → Keeps world.output (newline_step types store world values)
  keeps_newline [] = (codes "\n", refl)
  keeps_newline (v ∷ values) = tt

  keeps_with_element : (cell : List Value) (i : ℤ) (go : ℕ → Value → Outcome Term) →
      ((place : ℕ) (v : Value) → Keeps world.output (go place v)) →
      Keeps world.output (with_element types store world cell i go)
  keeps_with_element cell (pos place) go keeps =
      keeps_if_some world.output (slice_get cell place) (go place) _ (keeps place) same
  keeps_with_element cell (negsuc n) go keeps = same

  keeps_cast_read : (term : Term) (from to label : ℕ) →
      Keeps world.output (cast_read types store world term from to label)
  keeps_cast_read term from to label =
      keeps_with_part_of_both world.output types content_of from to _ (λ inner outer. same)

  keeps_cast_written : (write : Term → Term) (v : Value) (from to label : ℕ) →
      Keeps world.output (cast_written types store world write v from to label)
  keeps_cast_written write v from to label =
      keeps_with_part_of_both world.output types content_of from to _ (λ inner outer. same)

  keeps_make_box : (values : List Value) → Keeps world.output (make_box_step types store world values)
  keeps_make_box (v ∷ []) = same
  keeps_make_box _ = tt

  keeps_unbox_cell : (cell : List Value) → Keeps world.output (unbox_cell types store world cell)
  keeps_unbox_cell (v ∷ []) = same
  keeps_unbox_cell _ = tt

  keeps_unbox : (values : List Value) → Keeps world.output (unbox_step types store world values)
  keeps_unbox (LocValue cell false ∷ []) = keeps_with_some world.output (slice_get store cell) _ keeps_unbox_cell
  keeps_unbox (WrapValue v from label to ∷ []) = keeps_cast_read _ from to label
  keeps_unbox _ = tt

  keeps_box_set : (values : List Value) → Keeps world.output (box_set_step types store world values)
  keeps_box_set (LocValue cell false ∷ v ∷ []) = keeps_with_some world.output (slice_get store cell) _ (λ old. same)
  keeps_box_set (WrapValue box from label to ∷ v ∷ []) =
      keeps_cast_written (λ written. Prim BoxSet (terms_from (ValueTerm box ∷ written ∷ []))) v from to label
  keeps_box_set _ = tt

  keeps_make_vector : (values : List Value) → Keeps world.output (make_vector_step types store world values)
  keeps_make_vector (IntValue (pos n) ∷ v ∷ []) = same
  keeps_make_vector (IntValue (negsuc n) ∷ v ∷ []) = same
  keeps_make_vector _ = tt

  keeps_vector_ref : (values : List Value) → Keeps world.output (vector_ref_step types store world values)
  keeps_vector_ref (LocValue cell true ∷ IntValue i ∷ []) =
      keeps_with_some world.output (slice_get store cell) _ (λ elements. keeps_with_element elements i _
      (λ place v. same))
  keeps_vector_ref (WrapValue vector from label to ∷ index ∷ []) = keeps_cast_read _ from to label
  keeps_vector_ref _ = tt

  keeps_vector_set : (values : List Value) → Keeps world.output (vector_set_step types store world values)
  keeps_vector_set (LocValue cell true ∷ IntValue i ∷ v ∷ []) =
      keeps_with_some world.output (slice_get store cell) _ (λ elements. keeps_with_element elements i _ (λ place old.
      same))
  keeps_vector_set (WrapValue vector from label to ∷ IntValue i ∷ v ∷ []) =
      keeps_with_some world.output (cell_behind vector store) _ (λ elements. keeps_with_element elements i _
      (λ place old. keeps_cast_written (λ written.
      Prim VectorSet (terms_from (ValueTerm vector ∷ ValueTerm (IntValue i) ∷ written ∷ []))) v from to label))
  keeps_vector_set _ = tt

  keeps_vector_length : (values : List Value) → Keeps world.output (vector_length_step types store world values)
  keeps_vector_length (LocValue cell true ∷ []) =
      keeps_with_some world.output (slice_get store cell) _ (λ elements. same)
  keeps_vector_length (WrapValue vector from label to ∷ []) = same
  keeps_vector_length _ = tt

  keeps_reads : (number : Option ℤ) → Keeps world.output (reads types store world number)
  keeps_reads (Some n) = same
  keeps_reads None = same

  keeps_read : (values : List Value) → Keeps world.output (read_step types store world values)
  keeps_read [] = keeps_reads (next_number world)
  keeps_read (v ∷ values) = tt

  keeps_operator : (operator : PrimOp) (values : List Value) →
      Keeps world.output (operator_step types store world operator values)
  keeps_operator Add values = keeps_on_ints _ values (λ a b. same)
  keeps_operator Sub values = keeps_on_ints _ values (λ a b. same)
  keeps_operator Mul values = keeps_on_ints _ values (λ a b. same)
  keeps_operator Quot values = keeps_divides _ values
  keeps_operator Rem values = keeps_divides _ values
  keeps_operator Lt values = keeps_on_ints _ values (λ a b. same)
  keeps_operator Le values = keeps_on_ints _ values (λ a b. same)
  keeps_operator Eq values = keeps_on_ints _ values (λ a b. same)
  keeps_operator Ge values = keeps_on_ints _ values (λ a b. same)
  keeps_operator Gt values = keeps_on_ints _ values (λ a b. same)
  keeps_operator Not values = keeps_on_bool _ values (λ b. same)
  keeps_operator PrintInt values = keeps_on_int _ values (λ a. (signed_decimal a, refl))
  keeps_operator Newline values = keeps_newline values
  keeps_operator ReadInt values = keeps_read values
  keeps_operator MakeBox values = keeps_make_box values
  keeps_operator Unbox values = keeps_unbox values
  keeps_operator BoxSet values = keeps_box_set values
  keeps_operator MakeVector values = keeps_make_vector values
  keeps_operator VectorRef values = keeps_vector_ref values
  keeps_operator VectorSet values = keeps_vector_set values
  keeps_operator VectorLength values = keeps_vector_length values

  -- ---- terms

  keeps_if_step : (v : Value) (on_true on_false : Term) →
      Keeps world.output (if_step types store world v on_true on_false)
  keeps_if_step (BoolValue true) on_true on_false = same
  keeps_if_step (BoolValue false) on_true on_false = same
  keeps_if_step _ on_true on_false = tt

  keeps_let_step : (bindings : Bindings) (body : Term) (values : List Value) →
      Keeps world.output (let_step types store world bindings body values)
  keeps_let_step bindings body values =
      keeps_with_some world.output (bind (binding_names bindings) values) _ (λ bound. same)

  mutual
    pub keeps_step : (term : Term) → Keeps world.output (step types store world term)
    keeps_step (IntLit n) = tt
    keeps_step (BoolLit b) = tt
    keeps_step UnitLit = tt
    keeps_step (ValueTerm v) = tt
    keeps_step (Var name) = tt
    keeps_step (Lambda parameters body type) = same
    keeps_step (Group group body) = same
    keeps_step (Let bindings body) =
        keeps_if_some world.output (bound_values bindings) _ _ (keeps_let_step bindings body)
        (keeps_inside world.output (λ next. Let next body) (step_bindings types store world bindings)
        (keeps_step_bindings bindings))
    keeps_step (Call function arguments) =
        keeps_if_some world.output (as_value function) _ _ (λ f. keeps_if_some world.output (all_values arguments) _ _
        (λ values. same) (keeps_inside world.output (Call function) (step_terms types store world arguments)
        (keeps_step_terms arguments))) (keeps_inside world.output (λ next. Call next arguments)
        (step types store world function) (keeps_step function))
    keeps_step (Enter function arguments) =
        keeps_with_some world.output (as_value function) _ (λ f. keeps_enter_step f arguments _
        (keeps_inside world.output (Enter function) (step_terms types store world arguments)
        (keeps_step_terms arguments)))
    keeps_step (If condition on_true on_false) =
        keeps_if_some world.output (as_value condition) _ _ (λ v. keeps_if_step v on_true on_false)
        (keeps_inside world.output (λ next. If next on_true on_false) (step types store world condition)
        (keeps_step condition))
    keeps_step (Seq NoTerms) = tt
    keeps_step (Seq (TermThen term NoTerms)) = same
    keeps_step (Seq (TermThen term (TermThen second rest))) =
        keeps_if_some world.output (as_value term) _ _ (λ v. same)
        (keeps_inside world.output (λ next. Seq (TermThen next (TermThen second rest)))
        (step types store world term) (keeps_step term))
    keeps_step (Cast term from to label) =
        keeps_if_some world.output (as_value term) _ _ (λ v. keeps_cast_step v from to label)
        (keeps_inside world.output (λ next. Cast next from to label) (step types store world term)
        (keeps_step term))
    keeps_step (Proj term k) =
        keeps_if_some world.output (as_value term) _ _ (λ v. keeps_proj_step v k)
        (keeps_inside world.output (λ next. Proj next k) (step types store world term) (keeps_step term))
    keeps_step (ProjDyn term k label) =
        keeps_if_some world.output (as_value term) _ _ (λ v. keeps_proj_dyn_step v k label)
        (keeps_inside world.output (λ next. ProjDyn next k label) (step types store world term) (keeps_step term))
    keeps_step (Tuple parts) =
        keeps_if_some world.output (all_values parts) _ _ (λ values. same)
        (keeps_inside world.output Tuple (step_terms types store world parts) (keeps_step_terms parts))
    keeps_step (Prim operator operands) =
        keeps_if_some world.output (all_values operands) _ _ (keeps_operator operator)
        (keeps_inside world.output (Prim operator) (step_terms types store world operands)
        (keeps_step_terms operands))

    keeps_step_terms : (terms : Terms) → Keeps world.output (step_terms types store world terms)
    keeps_step_terms NoTerms = tt
    keeps_step_terms (TermThen term rest) =
        keeps_if_some world.output (as_value term) _ _ (λ v. keeps_inside world.output (TermThen term)
        (step_terms types store world rest) (keeps_step_terms rest))
        (keeps_inside world.output (λ next. TermThen next rest) (step types store world term) (keeps_step term))

    keeps_step_bindings : (bindings : Bindings) → Keeps world.output (step_bindings types store world bindings)
    keeps_step_bindings NoBindings = tt
    keeps_step_bindings (BindingThen name bound rest) =
        keeps_if_some world.output (as_value bound) _ _ (λ v. keeps_inside world.output (BindingThen name bound)
        (step_bindings types store world rest) (keeps_step_bindings rest))
        (keeps_inside world.output (λ next. BindingThen name next rest) (step types store world bound)
        (keeps_step bound))

-- where the step's state has the output that the outcome has
keeps_state : (state : CalcState) (outcome : Outcome Term) → Keeps state.world.output outcome →
    IsPrefix state.world.output (state_after_step state outcome).world.output
keeps_state state (Goes term store world) keeps = keeps
keeps_state state (Blames label) keeps = prefix_refl state.world.output state.world.output refl
keeps_state state (Traps trap world) keeps = keeps
keeps_state state Stuck keeps = prefix_refl state.world.output state.world.output refl

pub calculus_adds_output : (types : TypeRows) (labels : List Pos) → ReductionOnlyAddsOutput (calculus types labels)
calculus_adds_output types labels state running =
    keeps_state state (step types state.store state.world state.term)
    (keeps_step types state.store state.world state.term)

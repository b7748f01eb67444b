-- A typed term that is no value takes a step, which keeps its type.
use Rattle.std.proofs.Common.{◌≡◌, ◌≢◌, ℕ, List, [], ◌∷◌, ◌++◌, Option, Some, None, refl, sym, ap, ◌∙◌, subst, Bool}
use Rattle.std.proofs.Common.{true, false, append-nil}
use Rattle.grift_base.specs.World.{WorldState}
use Rattle.grift_base.specs.Types.{DynRow, TypeRows, row_at}
use Rattle.core_calc.specs.Terms.{Term, Terms, Members, Bindings, Value, IntLit, BoolLit, UnitLit, Var, Lambda, Group}
use Rattle.core_calc.specs.Terms.{Let, Call, Enter, If, Seq, Cast, Proj, ProjDyn, Tuple, Prim, ValueTerm, NoTerms}
use Rattle.core_calc.specs.Terms.{TermThen, NoBindings, BindingThen, IntValue, BoolValue, UnitValue, FunValue}
use Rattle.core_calc.specs.Terms.{TupleValue, as_value, all_values, values_from, both_in_front, binding_names}
use Rattle.core_calc.specs.Terms.{bound_values}
use Rattle.core_calc.specs.Substitution.{substitute, bind, group_values}
use Rattle.core_calc.specs.Outcome.{Store, Outcome, Goes, Blames, Traps, Stuck, inside}
use Rattle.core_calc.specs.Casts.{cast_step}
use Rattle.core_calc.specs.Calls.{enter_step}
use Rattle.core_calc.specs.Step.{if_step, let_step, step, step_terms, step_bindings}
use Rattle.core_calc.specs.Typing.{Context, CellType, HasMoreCells, member_types, HasType, HaveTypes, MembersHaveTypes}
use Rattle.core_calc.specs.Typing.{BindingsHaveTypes, IsTypeTable, StoreHasTypes, StateHasType, Keeps, KeepsType}
use Rattle.core_calc.specs.Calculus.{CalcState}
use Rattle.core_calc.proofs.ListPlaces.{some_is_not_none, none_is_not_some}
use Rattle.core_calc.proofs.MoreCells.{more_term, more_terms, more_last, more_bindings}
use Rattle.core_calc.proofs.SubstitutionKeepsTypes.{substituted}
use Rattle.core_calc.proofs.TypedValues.{form, values_have_their_types_heads-truth_values, value_of_term}
use Rattle.core_calc.proofs.TypedValues.{values_of_terms, values_have_types, stands_for}
use Rattle.core_calc.proofs.TypedValues.{bindings_stand, members_stand}
use Rattle.core_calc.proofs.StoredCells.{keeps_some, keeps_if_some, keeps_inside}
use Rattle.core_calc.proofs.CallsKeepTypes.{goes_on, cast_keeps, enter_keeps, part_keeps, proj_dyn_keeps}
use Rattle.core_calc.proofs.OperatorsKeepTypes.{operator_keeps}

-- where the first is a value and not all are, the rest are not all values
rest_is_none : {A : Type 0} (a : A) (o : Option A) (os : Option (List A)) → o ≡ Some a → both_in_front o os ≡ None →
    os ≡ None
rest_is_none a (Some b) (Some rest) e f = absurd (some_is_not_none (b ∷ rest) f)
rest_is_none a (Some b) None e f = refl
rest_is_none a None os e f = absurd (none_is_not_some a e)

module _ (types : TypeRows) (labels : ℕ) (table : IsTypeTable types) (cells : List CellType) (store : Store)
    (stored : StoreHasTypes types labels store cells) (world : WorldState) where
  abbrev Has : ℕ → List CellType → Term → Type 0
  Has type new term = HasType types labels new [] term type

  abbrev Kept : ℕ → Outcome Term → Type 0
  Kept type outcome = KeepsType types labels type cells outcome

  abbrev AllHave : List ℕ → List CellType → Terms → Type 0
  AllHave wanted new terms = HaveTypes types labels new [] terms wanted

  abbrev AreBound : Context → List CellType → Bindings → Type 0
  AreBound bound new bindings = BindingsHaveTypes types labels new [] bindings bound

  abbrev TermHas : Term → ℕ → Type 0
  TermHas term type = HasType types labels cells [] term type

  stays : (term : Term) (type : ℕ) → TermHas term type → Kept type (Goes term store world)
  stays term type h = goes_on types labels table cells store stored world term world type h

  -- the step of a part, put back
  part : {A B : Type 0} (Holds : List CellType → A → Type 0) (Wanted : List CellType → B → Type 0) (place : A →
      B) (outcome : Outcome A) → ((new : List CellType) (a : A) → HasMoreCells cells new → Holds new a →
      Wanted new (place a)) → Keeps types labels Holds cells outcome →
      Keeps types labels Wanted cells (inside place outcome)
  part Holds Wanted place outcome put h = keeps_inside types labels cells Holds Wanted place outcome put h

  if_keeps : (v : Value) (b : Bool) (on_true on_false : Term) (type : ℕ) → v ≡ BoolValue b → TermHas on_true type →
      TermHas on_false type → Kept type (if_step types store world v on_true on_false)
  if_keeps v true on_true on_false type e h g =
      subst (λ x. Kept type (if_step types store world x on_true on_false)) (sym e) (stays on_true type h)
  if_keeps v false on_true on_false type e h g =
      subst (λ x. Kept type (if_step types store world x on_true on_false)) (sym e) (stays on_false type g)

  let_keeps : (bindings : Bindings) (body : Term) (values : List Value) (bound : Context) (type : ℕ) →
      AreBound bound cells bindings → HasType types labels cells (bound ++ []) body type →
      bound_values bindings ≡ Some values → Kept type (let_step types store world bindings body values)
  let_keeps bindings body values bound type h typed e =
      let s = bindings_stand types labels cells bindings [] bound values h e in
      keeps_some types labels cells (Has type) (bind (binding_names bindings) values)
      (λ b. Goes (substitute body b) store world) s.0 s.1
      (stays (substitute body s.0) type (substituted types labels cells body bound [] s.0 type
      (stands_for types labels cells s.0 bound s.2) (subst (λ c. HasType types labels cells c body type)
      (append-nil bound) typed)))

  group_keeps : (members : Members) (body : Term) (type : ℕ) → TermHas (Group members body) type →
      Kept type (Goes (substitute body (group_values members)) store world)
  group_keeps members body type h =
      let context = append-nil (member_types members) in
      let stand =
      members_stand types labels cells members
      (subst (λ c. MembersHaveTypes types labels cells c members) context h.0) in
      stays (substitute body (group_values members)) type (substituted types labels cells body (member_types members) []
      (group_values members) type (stands_for types labels cells (group_values members)
      (member_types members) stand) (subst (λ c. HasType types labels cells c body type) context h.1))

  lambda_keeps : (parameters : List ℕ) (body : Term) (written type : ℕ) →
      TermHas (Lambda parameters body written) type →
      Kept type (Goes (ValueTerm (FunValue parameters body written)) store world)
  lambda_keeps parameters body written type h =
      stays (ValueTerm (FunValue parameters body written)) type (
        h.0,
        (
          h.1.0,
          h.1.1,
          h.1.2,
          h.1.3,
          h.1.4,
          subst (λ c. HasType types labels cells c body h.1.1)
              (append-nil h.1.2) h.1.5,
        ),
      )

  mutual
    pub steps_keep_types : (term : Term) (type : ℕ) → HasType types labels cells [] term type → as_value term ≡ None →
        Kept type (step types store world term)
    steps_keep_types (IntLit n) type h none = absurd (some_is_not_none (IntValue n) none)
    steps_keep_types (BoolLit b) type h none = absurd (some_is_not_none (BoolValue b) none)
    steps_keep_types UnitLit type h none = absurd (some_is_not_none UnitValue none)
    steps_keep_types (ValueTerm v) type h none = absurd (some_is_not_none v none)
    steps_keep_types (Var name) type h none = absurd (none_is_not_some type h)
    steps_keep_types (Lambda parameters body written) type h none = lambda_keeps parameters body written type h
    steps_keep_types (Group members body) type h none = group_keeps members body type h
    steps_keep_types (Let bindings body) type h none =
        keeps_if_some types labels cells (Has type) (bound_values bindings) (let_step types store world bindings body) _
        (λ values e. let_keeps bindings body values h.0 type h.1 h.2 e) (λ e. part (AreBound h.0) (Has type)
        (λ next. Let next body) (step_bindings types store world bindings) (λ new next more typed. (
          h.0,
          typed,
          more_term types labels cells new more body (h.0 ++ []) type h.2,
        )) (bindings_keep bindings h.0 h.1 e))
    steps_keep_types (Call function arguments) type h none =
        keeps_if_some types labels cells (Has type) (as_value function) _ _ (λ f e. keeps_if_some types labels cells
        (Has type) (all_values arguments) _ _ (λ values g. stays (Enter function arguments) type (
          h.0,
          h.1,
          h.2,
          h.3,
          h.4,
          (f, e),
        )) (λ g. part (AllHave h.1) (Has type) (Call function)
        (step_terms types store world arguments) (λ new next more typed. (
          h.0,
          h.1,
          more_term types labels cells new more function [] h.0 h.2,
          h.3,
          typed,
        )) (terms_keep arguments h.1 h.4 g)))
        (λ e. part (Has h.0) (Has type) (λ next. Call next arguments) (step types store world function)
        (λ new next more typed. (h.0, h.1, typed, h.3, more_terms types labels cells new more arguments [] h.1 h.4))
        (steps_keep_types function h.0 h.2 e))
    steps_keep_types (Enter function arguments) type h none =
        keeps_some types labels cells (Has type) (as_value function) (λ f. enter_step types store world f arguments
        (inside (Enter function) (step_terms types store world arguments))) h.5.0 h.5.1
        (enter_keeps types labels table cells store stored world h.5.0 arguments
        (inside (Enter function) (step_terms types store world arguments)) h.0 h.1 type
        (value_of_term types labels cells function [] h.0 h.5.0 h.2 h.5.1) h.3 h.4
        (λ g. part (AllHave h.1) (Has type) (Enter function) (step_terms types store world arguments)
        (λ new next more typed. (
          h.0,
          h.1,
          more_term types labels cells new more function [] h.0 h.2,
          h.3,
          typed,
          h.5,
        )) (terms_keep arguments h.1 h.4 g)))
    steps_keep_types (If condition on_true on_false) type h none =
        keeps_if_some types labels cells (Has type) (as_value condition) _ _ (λ v e. let b =
        values_have_their_types_heads-truth_values types labels cells v h.0
        (value_of_term types labels cells condition [] h.0 v h.1 e) h.2 in
        if_keeps v b.0 on_true on_false type b.1 h.3 h.4)
        (λ e. part (Has h.0) (Has type) (λ next. If next on_true on_false) (step types store world condition)
        (λ new next more typed. (
          h.0,
          typed,
          h.2,
          more_term types labels cells new more on_true [] type h.3,
          more_term types labels cells new more on_false [] type h.4,
        )) (steps_keep_types condition h.0 h.1 e))
    steps_keep_types (Seq NoTerms) type h none = absurd h
    steps_keep_types (Seq (TermThen term NoTerms)) type h none = stays term type h
    steps_keep_types (Seq (TermThen term (TermThen second rest))) type h none =
        keeps_if_some types labels cells (Has type) (as_value term) _ _
        (λ v e. stays (Seq (TermThen second rest)) type h.1)
        (λ e. part (Has h.0.0) (Has type) (λ next. Seq (TermThen next (TermThen second rest)))
        (step types store world term) (λ new next more typed. (
          (h.0.0, typed),
          more_last types labels cells new more (TermThen second rest) [] type h.1,
        )) (steps_keep_types term h.0.0 h.0.1 e))
    steps_keep_types (Cast term from to label) type h none =
        keeps_if_some types labels cells (Has type) (as_value term) _ _
        (λ v e. subst (λ t. Kept t (cast_step types store world v from to label)) h.0
        (cast_keeps types labels table cells store stored world v from to label
        (value_of_term types labels cells term [] from v h.1 e) (h.2.0, ap (λ t. row_at types t) h.0 ∙ h.2.1) h.3))
        (λ e. part (Has from) (Has type) (λ next. Cast next from to label) (step types store world term)
        (λ new next more typed. (h.0, typed, h.2, h.3)) (steps_keep_types term from h.1 e))
    steps_keep_types (Proj term k) type h none =
        keeps_if_some types labels cells (Has type) (as_value term) _ _
        (λ v e. part_keeps types labels table cells store stored world v k h.0 h.1 type
        (value_of_term types labels cells term [] h.0 v h.2 e) h.3 h.4)
        (λ e. part (Has h.0) (Has type) (λ next. Proj next k) (step types store world term) (λ new next more typed.
        (h.0, h.1, typed, h.3, h.4)) (steps_keep_types term h.0 h.2 e))
    steps_keep_types (ProjDyn term k label) type h none =
        keeps_if_some types labels cells (Has type) (as_value term) _ _ (λ v e. let typed =
        value_of_term types labels cells term [] type v h.0 e in
        proj_dyn_keeps types labels table cells store stored world v k label type typed h.1 h.2
        (form types labels cells v type DynRow typed h.1))
        (λ e. part (Has type) (Has type) (λ next. ProjDyn next k label) (step types store world term)
        (λ new next more typed. (typed, h.1, h.2)) (steps_keep_types term type h.0 e))
    steps_keep_types (Tuple parts) type h none =
        keeps_if_some types labels cells (Has type) (all_values parts) _ _ (λ values e.
        stays (ValueTerm (TupleValue (values_from values))) type (
          h.0,
          values_have_types types labels cells values h.0
              (values_of_terms types labels cells parts [] h.0 values h.1 e),
          h.2,
          h.3,
          h.4,
        ))
        (λ e. part (AllHave h.0) (Has type) Tuple (step_terms types store world parts) (λ new next more typed. (
          h.0,
          typed,
          h.2,
          h.3,
          h.4,
        )) (terms_keep parts h.0 h.1 e))
    steps_keep_types (Prim operator operands) type h none =
        keeps_if_some types labels cells (Has type) (all_values operands) _ _ (λ values e.
        operator_keeps types labels table cells store stored world operator values h.0 type
        (values_of_terms types labels cells operands [] h.0 values h.1 e) h.2)
        (λ e. part (AllHave h.0) (Has type) (Prim operator) (step_terms types store world operands)
        (λ new next more typed. (h.0, typed, h.2)) (terms_keep operands h.0 h.1 e))

    terms_keep : (terms : Terms) (wanted : List ℕ) → HaveTypes types labels cells [] terms wanted →
        all_values terms ≡ None → Keeps types labels (AllHave wanted) cells (step_terms types store world terms)
    terms_keep NoTerms wanted h none = absurd (some_is_not_none [] none)
    terms_keep (TermThen term rest) wanted h none =
        keeps_if_some types labels cells (AllHave wanted) (as_value term) _ _
        (λ v e. part (AllHave h.1) (AllHave wanted) (TermThen term) (step_terms types store world rest)
        (λ new next more typed. (h.0, h.1, h.2, more_term types labels cells new more term [] h.0 h.3, typed))
        (terms_keep rest h.1 h.4 (rest_is_none v (as_value term) (all_values rest) e none)))
        (λ e. part (Has h.0) (AllHave wanted) (λ next. TermThen next rest) (step types store world term)
        (λ new next more typed. (h.0, h.1, h.2, typed, more_terms types labels cells new more rest [] h.1 h.4))
        (steps_keep_types term h.0 h.3 e))

    bindings_keep : (bindings : Bindings) (bound : Context) → BindingsHaveTypes types labels cells [] bindings bound →
        bound_values bindings ≡ None → Keeps types labels (AreBound bound) cells
        (step_bindings types store world bindings)
    bindings_keep NoBindings bound h none = absurd (some_is_not_none [] none)
    bindings_keep (BindingThen name term rest) bound h none =
        keeps_if_some types labels cells (AreBound bound) (as_value term) _ _
        (λ v e. part (AreBound h.1) (AreBound bound) (BindingThen name term) (step_bindings types store world rest)
        (λ new next more typed. (h.0, h.1, h.2, more_term types labels cells new more term [] h.0 h.3, typed))
        (bindings_keep rest h.1 h.4 (rest_is_none v (as_value term) (bound_values rest) e none)))
        (λ e. part (Has h.0) (AreBound bound) (λ next. BindingThen name next rest) (step types store world term)
        (λ new next more typed. (h.0, h.1, h.2, typed, more_bindings types labels cells new more rest [] h.1 h.4))
        (steps_keep_types term h.0 h.3 e))

-- an outcome that keeps a type is a step
kept_is_step : (types : TypeRows) (labels type : ℕ) (cells : List CellType) (outcome : Outcome Term) →
    KeepsType types labels type cells outcome → outcome ≢ Stuck
kept_is_step types labels type cells (Goes term store world) kept e = cc
kept_is_step types labels type cells (Blames label) kept e = cc
kept_is_step types labels type cells (Traps trap world) kept e = cc
kept_is_step types labels type cells Stuck kept e = kept

pub typed_states_take_steps : (types : TypeRows) (labels : ℕ) (state : CalcState) (type : ℕ) →
    StateHasType types labels state type → as_value state.term ≡ None →
    step types state.store state.world state.term ≢ Stuck
typed_states_take_steps types labels state type h none =
    kept_is_step types labels type h.1 (step types state.store state.world state.term)
    (steps_keep_types types labels h.0 h.1 state.store h.2 state.world state.term type h.3 none)

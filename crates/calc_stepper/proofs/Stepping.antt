-- The step of a term, form by form, from that of its redex or of the part that takes it.
use Rattle.std.proofs.Common.{◌≡◌, ℕ, ℤ, List, refl, ap, ◌∙◌, sym}
use Rattle.std.proofs.lemmas.Result.{IfOk-weaker}
use Rattle.std.proofs.Common.{Result}
use Rattle.std.specs.Prelude.{IfOk}
use Rattle.grift_base.specs.declared.lists.OutOfMemory.{OutOfMemory}
use Rattle.core_redexes.specs.declared.moves.Moved.{Moved}
use Rattle.core_redexes.specs.declared.moves.Moved.TheVariants.{Stuck as IsStuck}
use Rattle.std.specs.Prelude.{Option, Some, None, Bool, true, false, is_some, ◌&&◌, ◌||◌, not}
use Rattle.grift_base.specs.World.{WorldState}
use Rattle.grift_base.specs.Types.{TypeRows}
use Rattle.grift_base.specs.declared.operators.PrimOp.{PrimOp}
use Rattle.core_calc.specs.Terms.{Term, Terms, Bindings, Value, IntValue, BoolValue, UnitValue, FunValue, MemberValue}
use Rattle.core_calc.specs.Terms.{TupleValue, LocValue, WrapValue, InjectValue, IntLit, BoolLit, UnitLit}
use Rattle.core_calc.specs.Terms.{Var, Lambda, Group, Let, Call, Enter, If, Seq, Cast, Proj}
use Rattle.core_calc.specs.Terms.{ProjDyn, Tuple, Prim, ValueTerm, NoTerms, TermThen, BindingThen, as_value}
use Rattle.core_calc.specs.Terms.{all_values, bound_values, values_from}
use Rattle.core_calc.specs.Outcome.{Store, Outcome, Goes, Stuck, inside, if_some, with_some}
use Rattle.core_calc.specs.Casts.{cast_step}
use Rattle.core_calc.specs.Calls.{enter_step, proj_step, proj_dyn_step}
use Rattle.core_calc.specs.Operators.{operator_step}
use Rattle.core_calc.specs.Step.{step, step_terms, step_bindings, if_step, let_step}
use Rattle.core_calc.specs.declared.terms.Core.{Core}
use Rattle.core_calc.specs.Views.{term_of}
use Rattle.core_redexes.specs.Moves.{After, Moves, MovesBy, after, after_inside}
use Rattle.core_redexes.specs.Redexes.{lambda_redex, group_redex, cast_redex, if_redex, let_redex, seq_redex}
use Rattle.core_redexes.specs.Redexes.{call_redex, enter_redex, proj_redex}
use Rattle.core_redexes.specs.Redexes.{proj_dyn_redex, tuple_redex, prim_redex, waits_for_first, enters_now, is_redex}
use Rattle.core_redexes.specs.Values.{wrapper_in}
use Rattle.calc_stepper.proofs.Inside.{after_of_inside, part_steps, redex_steps, passes, second_steps, both_step}

none_is_some : {A : Type 0} (a : A) → is_some (Some a) ≡ false → ⊥
none_is_some a e = cc

some_is_none : (A : Type 0) → is_some {T = A} None ≡ true → ⊥
some_is_none A e = cc

true_is_not_false : true ≡ false → ⊥
true_is_not_false e = cc

false_is_not_true : false ≡ true → ⊥
false_is_not_true e = cc

left_holds : (a b : Bool) → (a && b) ≡ true → a ≡ true
left_holds true b e = refl
left_holds false b e = e

right_holds : (a b : Bool) → (a && b) ≡ true → b ≡ true
right_holds true b e = e
right_holds false b e = absurd (false_is_not_true e)

right_fails : (a b : Bool) → a ≡ true → (a && b) ≡ false → b ≡ false
right_fails true b e f = f
right_fails false b e f = absurd (false_is_not_true e)

not_so : (b : Bool) → not b ≡ true → b ≡ false
not_so true e = absurd (false_is_not_true e)
not_so false e = refl

so : (b : Bool) → not b ≡ false → b ≡ true
so true e = refl
so false e = absurd (true_is_not_false e)

-- what stands after the step of a term
abbrev pub after_step : TypeRows → Store → WorldState → Term → After Term
after_step types store world term = after (step types store world term) term store world

-- the same of terms and of bindings
abbrev pub after_terms : TypeRows → Store → WorldState → Terms → After Terms
after_terms types store world terms = after (step_terms types store world terms) terms store world

abbrev pub after_bindings : TypeRows → Store → WorldState → Bindings → After Bindings
after_bindings types store world bindings =
    after (step_bindings types store world bindings) bindings store world

no_redex : (whole form : Term) (redex : Bool) → whole ≡ form → redex ≡ is_redex whole → redex ≡ false →
    is_redex form ≡ false
no_redex whole form redex e f g = ap is_redex (sym e) ∙ sym f ∙ g

-- what happened, with all that stands then
abbrev pub come : {A : Type 0} → Moved → A → Store → WorldState → After A
come moved a store world = record { moved = moved; item = a; store = store; world = world }

module _ (types : TypeRows) (store : Store) (world : WorldState) where
  -- ---- terms and bindings in order

  -- the first that is no value takes the step
  pub first_steps : (term : Term) (rest : Terms) → is_some (as_value term) ≡ false →
      after_terms types store world (TermThen term rest)
      ≡ after_inside (λ next. TermThen next rest) (after_step types store world term)
  first_steps term rest e =
      part_steps (λ next. TermThen next rest) (as_value term)
      (λ v. inside (TermThen term) (step_terms types store world rest)) (step types store world term) term store world e

  pub goes_past : (term : Term) (rest : Terms) → is_some (as_value term) ≡ true →
      after_terms types store world (TermThen term rest)
      ≡ after_inside (TermThen term) (after_terms types store world rest)
  goes_past term rest e =
      passes (TermThen term) (as_value term) (step_terms types store world rest)
      (inside (λ next. TermThen next rest) (step types store world term)) rest store world e

  pub first_bound_steps : (name : ℕ) (bound : Term) (rest : Bindings) → is_some (as_value bound) ≡ false →
      after_bindings types store world (BindingThen name bound rest)
      ≡ after_inside (λ next. BindingThen name next rest) (after_step types store world bound)
  first_bound_steps name bound rest e =
      part_steps (λ next. BindingThen name next rest) (as_value bound)
      (λ v. inside (BindingThen name bound) (step_bindings types store world rest)) (step types store world bound)
      bound store world e

  pub goes_past_bound : (name : ℕ) (bound : Term) (rest : Bindings) → is_some (as_value bound) ≡ true →
      after_bindings types store world (BindingThen name bound rest)
      ≡ after_inside (BindingThen name bound) (after_bindings types store world rest)
  goes_past_bound name bound rest e =
      passes (BindingThen name bound) (as_value bound) (step_bindings types store world rest)
      (inside (λ next. BindingThen name next rest) (step types store world bound)) rest store world e

  -- ---- bindings and a body

  pub let_part_steps : (bindings : Bindings) (body : Term) → is_some (bound_values bindings) ≡ false →
      after_step types store world (Let bindings body)
      ≡ after_inside (λ next. Let next body) (after_bindings types store world bindings)
  let_part_steps bindings body e =
      part_steps (λ next. Let next body) (bound_values bindings) (let_step types store world bindings body)
      (step_bindings types store world bindings) bindings store world e

  -- ---- calls

  pub called_steps : (function : Term) (arguments : Terms) → is_some (as_value function) ≡ false →
      after_step types store world (Call function arguments)
      ≡ after_inside (λ next. Call next arguments) (after_step types store world function)
  called_steps function arguments e =
      part_steps (λ next. Call next arguments) (as_value function)
      (λ v. if_some (all_values arguments) (λ values. Goes (Enter function arguments) store world)
      (inside (Call function) (step_terms types store world arguments))) (step types store world function) function
      store world e

  pub arguments_step : (function : Term) (arguments : Terms) → is_some (as_value function) ≡ true →
      (is_some (as_value function) && is_some (all_values arguments)) ≡ false →
      after_step types store world (Call function arguments)
      ≡ after_inside (Call function) (after_terms types store world arguments)
  arguments_step function arguments e f =
      second_steps (Call function) (as_value function) (all_values arguments)
      (λ v values. Goes (Enter function arguments) store world) (step_terms types store world arguments)
      (inside (λ next. Call next arguments) (step types store world function)) arguments store world e
      (right_fails (is_some (as_value function)) (is_some (all_values arguments)) e f)

  some_value : (values : Option (List Value)) (go : List Value → Outcome Term) (o p : Outcome Term) →
      is_some values ≡ true → if_some values go o ≡ if_some values go p
  some_value (Some vs) go o p e = refl
  some_value None go o p e = absurd (some_is_none (List Value) e)

  -- with values as arguments it doesn't matter what a step of these would come to
  enters_with_values : (v : Value) (arguments : Terms) (o p : Outcome Term) → is_some (all_values arguments) ≡ true →
      enter_step types store world v arguments o ≡ enter_step types store world v arguments p
  enters_with_values (IntValue n) arguments o p e = some_value (all_values arguments) (λ values. Stuck) o p e
  enters_with_values (BoolValue b) arguments o p e = some_value (all_values arguments) (λ values. Stuck) o p e
  enters_with_values UnitValue arguments o p e = some_value (all_values arguments) (λ values. Stuck) o p e
  enters_with_values (FunValue parameters body type) arguments o p e = some_value (all_values arguments) _ o p e
  enters_with_values (MemberValue group place) arguments o p e = some_value (all_values arguments) _ o p e
  enters_with_values (TupleValue parts) arguments o p e = some_value (all_values arguments) (λ values. Stuck) o p e
  enters_with_values (LocValue cell is_vector) arguments o p e =
      some_value (all_values arguments) (λ values. Stuck) o p e
  enters_with_values (WrapValue v from label to) arguments o p e = refl
  enters_with_values (InjectValue v kept) arguments o p e = some_value (all_values arguments) (λ values. Stuck) o p e

  -- nor does it where the function is a wrapper
  enters_wrapped : (v : Value) (arguments : Terms) (o p : Outcome Term) → is_some (wrapper_in (Some v)) ≡ true →
      enter_step types store world v arguments o ≡ enter_step types store world v arguments p
  enters_wrapped (WrapValue v from label to) arguments o p e = refl
  enters_wrapped (IntValue n) arguments o p e = absurd (some_is_none (ℕ × ℕ × ℕ) e)
  enters_wrapped (BoolValue b) arguments o p e = absurd (some_is_none (ℕ × ℕ × ℕ) e)
  enters_wrapped UnitValue arguments o p e = absurd (some_is_none (ℕ × ℕ × ℕ) e)
  enters_wrapped (FunValue parameters body type) arguments o p e = absurd (some_is_none (ℕ × ℕ × ℕ) e)
  enters_wrapped (MemberValue group place) arguments o p e = absurd (some_is_none (ℕ × ℕ × ℕ) e)
  enters_wrapped (TupleValue parts) arguments o p e = absurd (some_is_none (ℕ × ℕ × ℕ) e)
  enters_wrapped (LocValue cell is_vector) arguments o p e = absurd (some_is_none (ℕ × ℕ × ℕ) e)
  enters_wrapped (InjectValue v kept) arguments o p e = absurd (some_is_none (ℕ × ℕ × ℕ) e)

  now_cases : (v : Value) (arguments : Terms) (o p : Outcome Term) (wrapped values : Bool) →
      is_some (wrapper_in (Some v)) ≡ wrapped → is_some (all_values arguments) ≡ values →
      (wrapped || values) ≡ true →
      enter_step types store world v arguments o ≡ enter_step types store world v arguments p
  now_cases v arguments o p true values e f h = enters_wrapped v arguments o p e
  now_cases v arguments o p false true e f h = enters_with_values v arguments o p f
  now_cases v arguments o p false false e f h = absurd (false_is_not_true h)

  enters_now_step : (function : Option Value) (arguments : Terms) (o : Outcome Term) →
      enters_now function arguments ≡ true →
      with_some function (λ v. enter_step types store world v arguments o)
      ≡ with_some function (λ v. enter_step types store world v arguments Stuck)
  enters_now_step None arguments o e = refl
  enters_now_step (Some v) arguments o e =
      now_cases v arguments o Stuck (is_some (wrapper_in (Some v))) (is_some (all_values arguments)) refl refl e

  enter_redex_steps : (function : Term) (arguments : Terms) → enters_now (as_value function) arguments ≡ true →
      after_step types store world (Enter function arguments)
      ≡ after (enter_redex types store world (Enter function arguments)) (Enter function arguments) store world
  enter_redex_steps function arguments e =
      ap (λ o. after o (Enter function arguments) store world)
      (enters_now_step (as_value function) arguments
      (inside (Enter function) (step_terms types store world arguments)) e)

  no_values : (values : Option (List Value)) (go : List Value → Outcome Term) (o : Outcome Term) →
      is_some values ≡ false → if_some values go o ≡ o
  no_values (Some vs) go o e = absurd (none_is_some vs e)
  no_values None go o e = refl

  waits : (v : Value) (arguments : Terms) (o : Outcome Term) → is_some (wrapper_in (Some v)) ≡ false →
      is_some (all_values arguments) ≡ false → enter_step types store world v arguments o ≡ o
  waits (IntValue n) arguments o w e = no_values (all_values arguments) (λ values. Stuck) o e
  waits (BoolValue b) arguments o w e = no_values (all_values arguments) (λ values. Stuck) o e
  waits UnitValue arguments o w e = no_values (all_values arguments) (λ values. Stuck) o e
  waits (FunValue parameters body type) arguments o w e = no_values (all_values arguments) _ o e
  waits (MemberValue group place) arguments o w e = no_values (all_values arguments) _ o e
  waits (TupleValue parts) arguments o w e = no_values (all_values arguments) (λ values. Stuck) o e
  waits (LocValue cell is_vector) arguments o w e = no_values (all_values arguments) (λ values. Stuck) o e
  waits (WrapValue v from label to) arguments o w e = absurd (none_is_some {A = ℕ × ℕ × ℕ} (from, label, to) w)
  waits (InjectValue v kept) arguments o w e = no_values (all_values arguments) (λ values. Stuck) o e

  later_cases : (v : Value) (arguments : Terms) (o : Outcome Term) (wrapped values : Bool) →
      is_some (wrapper_in (Some v)) ≡ wrapped → is_some (all_values arguments) ≡ values →
      (wrapped || values) ≡ false → enter_step types store world v arguments o ≡ o
  later_cases v arguments o true values e f h = absurd (true_is_not_false h)
  later_cases v arguments o false true e f h = absurd (true_is_not_false h)
  later_cases v arguments o false false e f h = waits v arguments o e f

  enters_later : (function : Option Value) (arguments : Terms) (o : Outcome Term) →
      enters_now function arguments ≡ false → with_some function (λ v. enter_step types store world v arguments o) ≡ o
  enters_later None arguments o e = absurd (true_is_not_false e)
  enters_later (Some v) arguments o e =
      later_cases v arguments o (is_some (wrapper_in (Some v))) (is_some (all_values arguments)) refl refl e

  pub enter_part_steps : (function : Term) (arguments : Terms) → enters_now (as_value function) arguments ≡ false →
      after_step types store world (Enter function arguments)
      ≡ after_inside (Enter function) (after_terms types store world arguments)
  enter_part_steps function arguments e =
      ap (λ o. after o (Enter function arguments) store world)
      (enters_later (as_value function) arguments
      (inside (Enter function) (step_terms types store world arguments)) e)
      ∙ after_of_inside (Enter function) (step_terms types store world arguments) arguments store world

  -- ---- choices

  pub if_part_steps : (condition on_true on_false : Term) → is_some (as_value condition) ≡ false →
      after_step types store world (If condition on_true on_false)
      ≡ after_inside (λ next. If next on_true on_false) (after_step types store world condition)
  if_part_steps condition on_true on_false e =
      part_steps (λ next. If next on_true on_false) (as_value condition)
      (λ v. if_step types store world v on_true on_false) (step types store world condition) condition store world e

  -- ---- sequences

  first_of_more : (term : Term) (rest : Terms) (value : Option Value) (go : Value → Outcome Term) →
      is_some value ≡ false →
      after (if_some value go (inside (λ next. Seq (TermThen next rest)) (step types store world term)))
      (Seq (TermThen term rest)) store world
      ≡ after_inside Seq (after (if_some value (λ v. inside (TermThen term) (step_terms types store world rest))
      (inside (λ next. TermThen next rest) (step types store world term))) (TermThen term rest) store world)
  first_of_more term rest (Some v) go e = absurd (none_is_some v e)
  first_of_more term rest None go e =
      after_of_inside (λ next. Seq (TermThen next rest)) (step types store world term) term store world
      ∙ ap (after_inside Seq)
      (sym (after_of_inside (λ next. TermThen next rest) (step types store world term) term store world))

  seq_waits : (terms : Terms) → waits_for_first terms ≡ true →
      after_step types store world (Seq terms) ≡ after_inside Seq (after_terms types store world terms)
  seq_waits NoTerms e = absurd (false_is_not_true e)
  seq_waits (TermThen term NoTerms) e = absurd (false_is_not_true e)
  seq_waits (TermThen term (TermThen second rest)) e =
      first_of_more term (TermThen second rest) (as_value term)
      (λ v. Goes (Seq (TermThen second rest)) store world) (not_so (is_some (as_value term)) e)

  pub seq_part_steps : (terms : Terms) → not (waits_for_first terms) ≡ false →
      after_step types store world (Seq terms) ≡ after_inside Seq (after_terms types store world terms)
  seq_part_steps terms e = seq_waits terms (so (waits_for_first terms) e)

  past_first : (term : Term) (rest : Terms) (value : Option Value) (other : Outcome Term) →
      not (is_some value) ≡ false →
      if_some value (λ v. Goes (Seq rest) store world) other ≡ Goes (Seq rest) store world
  past_first term rest (Some v) other e = refl
  past_first term rest None other e = absurd (true_is_not_false e)

  seq_goes : (terms : Terms) → waits_for_first terms ≡ false →
      step types store world (Seq terms) ≡ seq_redex types store world (Seq terms)
  seq_goes NoTerms e = refl
  seq_goes (TermThen term NoTerms) e = refl
  seq_goes (TermThen term (TermThen second rest)) e =
      past_first term (TermThen second rest) (as_value term)
      (inside (λ next. Seq (TermThen next (TermThen second rest))) (step types store world term)) e

  seq_redex_steps : (terms : Terms) → not (waits_for_first terms) ≡ true →
      after_step types store world (Seq terms) ≡ after (seq_redex types store world (Seq terms)) (Seq terms) store world
  seq_redex_steps terms e =
      ap (λ o. after o (Seq terms) store world) (seq_goes terms (not_so (waits_for_first terms) e))

  -- ---- casts and parts

  pub cast_part_steps : (term : Term) (from to label : ℕ) → is_some (as_value term) ≡ false →
      after_step types store world (Cast term from to label)
      ≡ after_inside (λ next. Cast next from to label) (after_step types store world term)
  cast_part_steps term from to label e =
      part_steps (λ next. Cast next from to label) (as_value term)
      (λ v. cast_step types store world v from to label) (step types store world term) term store world e

  pub proj_part_steps : (term : Term) (k : ℤ) → is_some (as_value term) ≡ false →
      after_step types store world (Proj term k)
      ≡ after_inside (λ next. Proj next k) (after_step types store world term)
  proj_part_steps term k e =
      part_steps (λ next. Proj next k) (as_value term) (λ v. proj_step types store world v k)
      (step types store world term) term store world e

  pub proj_dyn_part_steps : (term : Term) (k : ℤ) (label : ℕ) → is_some (as_value term) ≡ false →
      after_step types store world (ProjDyn term k label)
      ≡ after_inside (λ next. ProjDyn next k label) (after_step types store world term)
  proj_dyn_part_steps term k label e =
      part_steps (λ next. ProjDyn next k label) (as_value term) (λ v. proj_dyn_step types store world v k label)
      (step types store world term) term store world e

  -- ---- tuples and operators

  pub tuple_part_steps : (parts : Terms) → is_some (all_values parts) ≡ false →
      after_step types store world (Tuple parts) ≡ after_inside Tuple (after_terms types store world parts)
  tuple_part_steps parts e =
      part_steps Tuple (all_values parts) (λ values. Goes (ValueTerm (TupleValue (values_from values))) store world)
      (step_terms types store world parts) parts store world e

  pub prim_part_steps : (operator : PrimOp) (operands : Terms) → is_some (all_values operands) ≡ false →
      after_step types store world (Prim operator operands)
      ≡ after_inside (Prim operator) (after_terms types store world operands)
  prim_part_steps operator operands e =
      part_steps (Prim operator) (all_values operands) (operator_step types store world operator)
      (step_terms types store world operands) operands store world e

  -- ---- what a call answers of the part that takes the step

  -- where the whole of this form is no redex, its step is that of the part, in its place
  pub part_answers : {A : Type 0} (whole form : Term) (place : A → Term) (part : After A) (redex : Bool)
      (r : Result Moved OutOfMemory) (d : Moved → After A) → whole ≡ form → redex ≡ is_redex whole → redex ≡ false →
      (is_redex form ≡ false → after_step types store world form ≡ after_inside place part) →
      IfOk r (λ moved. part ≡ d moved) →
      IfOk r (λ moved. after_step types store world whole ≡ after_inside place (d moved))
  part_answers whole form place part redex r d e f g steps h =
      IfOk-weaker r (λ moved. part ≡ d moved)
      (λ moved. after_step types store world whole ≡ after_inside place (d moved))
      (λ moved k. ap (after_step types store world) e ∙ steps (no_redex whole form redex e f g)
      ∙ ap (after_inside place) k) h

  -- ---- what a call answers of the redex

  -- what the step of a term that takes it itself comes to
  abbrev pub redex_outcome : Term → Outcome Term
  redex_outcome (Lambda parameters body type) = lambda_redex types store world (Lambda parameters body type)
  redex_outcome (Group members body) = group_redex types store world (Group members body)
  redex_outcome (Let bindings body) = let_redex types store world (Let bindings body)
  redex_outcome (Call function arguments) = call_redex types store world (Call function arguments)
  redex_outcome (Enter function arguments) = enter_redex types store world (Enter function arguments)
  redex_outcome (If condition on_true on_false) = if_redex types store world (If condition on_true on_false)
  redex_outcome (Seq terms) = seq_redex types store world (Seq terms)
  redex_outcome (Cast term from to label) = cast_redex types store world (Cast term from to label)
  redex_outcome (Proj term k) = proj_redex types store world (Proj term k)
  redex_outcome (ProjDyn term k label) = proj_dyn_redex types store world (ProjDyn term k label)
  redex_outcome (Tuple parts) = tuple_redex types store world (Tuple parts)
  redex_outcome (Prim operator operands) = prim_redex types store world (Prim operator operands)
  redex_outcome _ = Stuck

  redex_steps_so : (term : Term) → is_redex term ≡ true →
      after_step types store world term ≡ after (redex_outcome term) term store world
  redex_steps_so (IntLit n) e = refl
  redex_steps_so (BoolLit b) e = refl
  redex_steps_so UnitLit e = refl
  redex_steps_so (Var name) e = refl
  redex_steps_so (Lambda parameters body type) e = refl
  redex_steps_so (Group group body) e = refl
  redex_steps_so (Let bindings body) e =
      redex_steps (bound_values bindings) (let_step types store world bindings body)
      (inside (λ next. Let next body) (step_bindings types store world bindings)) (Let bindings body) store world e
  redex_steps_so (Call function arguments) e =
      both_step (as_value function) (all_values arguments) (Goes (Enter function arguments) store world)
      (inside (Call function) (step_terms types store world arguments))
      (inside (λ next. Call next arguments) (step types store world function)) (Call function arguments) store world
      (left_holds (is_some (as_value function)) (is_some (all_values arguments)) e)
      (right_holds (is_some (as_value function)) (is_some (all_values arguments)) e)
  redex_steps_so (Enter function arguments) e = enter_redex_steps function arguments e
  redex_steps_so (If condition on_true on_false) e =
      redex_steps (as_value condition) (λ v. if_step types store world v on_true on_false)
      (inside (λ next. If next on_true on_false) (step types store world condition)) (If condition on_true on_false)
      store world e
  redex_steps_so (Seq terms) e = seq_redex_steps terms e
  redex_steps_so (Cast term from to label) e =
      redex_steps (as_value term) (λ v. cast_step types store world v from to label)
      (inside (λ next. Cast next from to label) (step types store world term)) (Cast term from to label) store world e
  redex_steps_so (Proj term k) e =
      redex_steps (as_value term) (λ v. proj_step types store world v k)
      (inside (λ next. Proj next k) (step types store world term)) (Proj term k) store world e
  redex_steps_so (ProjDyn term k label) e =
      redex_steps (as_value term) (λ v. proj_dyn_step types store world v k label)
      (inside (λ next. ProjDyn next k label) (step types store world term)) (ProjDyn term k label) store world e
  redex_steps_so (Tuple parts) e =
      redex_steps (all_values parts) (λ values. Goes (ValueTerm (TupleValue (values_from values))) store world)
      (inside Tuple (step_terms types store world parts)) (Tuple parts) store world e
  redex_steps_so (Prim operator operands) e =
      redex_steps (all_values operands) (operator_step types store world operator)
      (inside (Prim operator) (step_terms types store world operands)) (Prim operator operands) store world e
  redex_steps_so (ValueTerm v) e = refl

  -- of a term of a form whose step is this one
  pub step_of_form : (whole form : Term) (go : Term → Outcome Term) → whole ≡ form →
      redex_outcome form ≡ go form → is_redex whole ≡ true →
      after_step types store world whole ≡ after (go whole) whole store world
  step_of_form whole form go e f g =
      redex_steps_so whole g
      ∙ ap (λ o. after o whole store world) (ap redex_outcome e ∙ f ∙ ap go (sym e))

  -- the same of what is answered, where the step changes the cells and the world
  pub answers_now : (whole form : Term) (go : Term → Outcome Term) (r : Result Moved OutOfMemory)
      (d : Moved → After Term) → whole ≡ form → redex_outcome form ≡ go form → is_redex whole ≡ true →
      IfOk r (λ moved. after (go whole) whole store world ≡ d moved) →
      IfOk r (λ moved. after_step types store world whole ≡ d moved)
  answers_now whole form go r d e f g h =
      IfOk-weaker r (λ moved. after (go whole) whole store world ≡ d moved)
      (λ moved. after_step types store world whole ≡ d moved)
      (λ moved k. step_of_form whole form go e f g ∙ k) h

  -- ---- along lists of terms, or of bindings

  -- the part at which the loop has come takes the step
  pub arrives : {L : Type 0} (all : Store → WorldState → L → After L) (onto : L → L) (put : Term → L) (s : Store)
      (w : WorldState) (whole left out : L) (first next : Term) (s' : Store) (w' : WorldState)
      (r : Result Moved OutOfMemory) → store ≡ s → world ≡ w → left ≡ put first →
      all store world (put first) ≡ after_inside put (after_step types store world first) →
      after_inside onto (all store world left) ≡ all store world whole → out ≡ onto (put next) →
      IfOk r (λ moved. after_step types store world first
      ≡ record { moved = moved; item = next; store = s'; world = w' }) →
      IfOk r (λ moved. all s w whole ≡ record { moved = moved; item = out; store = s'; world = w' })
  arrives all onto put s w whole left out first next s' w' r es ew el steps p eo h =
      IfOk-weaker r
      (λ moved. after_step types store world first ≡ record { moved = moved; item = next; store = s'; world = w' })
      (λ moved. all s w whole ≡ record { moved = moved; item = out; store = s'; world = w' })
      (λ moved k. ap (λ x. all x w whole) (sym es) ∙ ap (λ x. all store x whole) (sym ew)
      ∙ sym p ∙ ap (λ x. after_inside onto (all store world x)) el
      ∙ ap (after_inside onto) (steps ∙ ap (after_inside put) k) ∙ ap (λ x. come moved x s' w') (sym eo)) h

  -- a value is gone past
  pub goes_along : {L : Type 0} (all : L → After L) (onto : L → L → L) (put : L → L) (done done' left left' rest : L)
      (d : After L) → done' ≡ put done → left' ≡ rest → left ≡ put rest →
      all (put rest) ≡ after_inside put (all rest) → ((x : L) → onto done (put x) ≡ onto (put done) x) →
      after_inside (onto done) (all left) ≡ d → after_inside (onto done') (all left') ≡ d
  goes_along all onto put done done' left left' rest d e f g past turned p =
      ap (λ x. after_inside (onto x) (all left')) e
      ∙ ap (λ x. after_inside (onto (put done)) (all x)) f
      ∙ sym (ap (λ x. come (all rest).moved x (all rest).store (all rest).world) (turned (all rest).item))
      ∙ sym (ap (after_inside (onto done)) past)
      ∙ sym (ap (λ x. after_inside (onto done) (all x)) g) ∙ p

  -- nothing is left, so there is no step
  pub comes_to_end : {L : Type 0} (all : Store → WorldState → L → After L) (onto : L → L) (s : Store) (w : WorldState)
      (whole left none out : L) → store ≡ s → world ≡ w → left ≡ none →
      all store world none ≡ record { moved = IsStuck; item = none; store = store; world = world } →
      after_inside onto (all store world left) ≡ all store world whole → out ≡ onto none →
      all s w whole ≡ record { moved = IsStuck; item = out; store = store; world = world }
  comes_to_end all onto s w whole left none out es ew el stuck p eo =
      ap (λ x. all x w whole) (sym es) ∙ ap (λ x. all store x whole) (sym ew)
      ∙ sym p ∙ ap (λ x. after_inside onto (all store world x)) el ∙ ap (after_inside onto) stuck
      ∙ ap (λ x. come IsStuck x store world) (sym eo)

-- ---- what a call answers, told what its term was taken for

module _ (types : TypeRows) (store : Store) (world : WorldState) (item : Term) (r : Result Moved OutOfMemory)
    {core next : Core} (is : core ≡ next) where
  -- where what it gives holds for all types, cells and worlds
  pub answers : (go : TypeRows → Store → WorldState → Term → Outcome Term) →
      redex_outcome types store world (term_of next) ≡ go types store world (term_of next) →
      is_redex (term_of core) ≡ true → IfOk r (MovesBy go (term_of core) item) →
      IfOk r (λ moved. after_step types store world (term_of core) ≡ come moved item store world)
  answers go f g h =
      IfOk-weaker r (MovesBy go (term_of core) item)
      (λ moved. after_step types store world (term_of core) ≡ come moved item store world)
      (λ moved k. step_of_form types store world (term_of core) (term_of next) (go types store world) (ap term_of is) f
      g ∙ k types store world) h

  -- or for all cells and worlds
  pub answers_here : (go : Store → WorldState → Term → Outcome Term) →
      redex_outcome types store world (term_of next) ≡ go store world (term_of next) →
      is_redex (term_of core) ≡ true → IfOk r (Moves go (term_of core) item) →
      IfOk r (λ moved. after_step types store world (term_of core) ≡ come moved item store world)
  answers_here go f g h =
      IfOk-weaker r (Moves go (term_of core) item)
      (λ moved. after_step types store world (term_of core) ≡ come moved item store world)
      (λ moved k. step_of_form types store world (term_of core) (term_of next) (go store world) (ap term_of is) f g
      ∙ k store world) h

module _ (types : TypeRows) (store : Store) (world : WorldState) (r : Result Moved OutOfMemory)
    (d : Moved → After Terms) (terms : Terms) {core next : Core} (is : core ≡ next) where
  -- where terms in it take the step
  pub terms_answer : {redex : Bool} (place : Terms → Term) →
      ((t : TypeRows) (s : Store) (w : WorldState) (all : Terms) → is_redex (place all) ≡ false →
      after_step t s w (place all) ≡ after_inside place (after_terms t s w all)) →
      term_of next ≡ place terms → redex ≡ is_redex (term_of core) → redex ≡ false →
      IfOk r (λ moved. after_terms types store world terms ≡ d moved) →
      IfOk r (λ moved. after_step types store world (term_of core) ≡ after_inside place (d moved))
  terms_answer {redex} place steps p f g h =
      part_answers types store world (term_of core) (place terms) place (after_terms types store world terms) redex r d
      (ap term_of is ∙ p) f g (steps types store world terms) h

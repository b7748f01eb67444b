-- The step of a term is that of its redex, in the redex's place.
use Rattle.std.specs.Prelude.{⊤}
use Rattle.std.proofs.Common.{◌≡◌, [], List, Option, Some, None, suc, refl, ap, ◌∙◌}
use Rattle.grift_base.specs.World.{WorldState}
use Rattle.grift_base.specs.Types.{TypeRows}
use Rattle.core_calc.specs.Terms.{Term, Terms, Bindings, Value, IntLit, BoolLit, UnitLit, Var, Lambda, Group, Let, Call}
use Rattle.core_calc.specs.Terms.{Enter, If, Seq, Cast, Proj, ProjDyn, Tuple, Prim, ValueTerm, NoTerms, TermThen}
use Rattle.core_calc.specs.Terms.{NoBindings, BindingThen, IntValue, BoolValue, UnitValue, FunValue, MemberValue}
use Rattle.core_calc.specs.Terms.{TupleValue, LocValue, WrapValue, InjectValue, as_value, all_values, values_from}
use Rattle.core_calc.specs.Terms.{bound_values, both_in_front, term_list}
use Rattle.core_calc.specs.Outcome.{Store, Outcome, Goes, Blames, Traps, Stuck, inside, if_some, with_some}
use Rattle.core_calc.specs.Substitution.{group_values}
use Rattle.core_calc.specs.Calls.{enter_body, enter_member, enter_step, proj_step, proj_dyn_step}
use Rattle.core_calc.specs.Casts.{cast_step}
use Rattle.core_calc.specs.Operators.{operator_step}
use Rattle.core_calc.specs.Step.{becomes, if_step, let_step, step, step_terms, step_bindings}
use Rattle.core_calc.specs.Redex.{Focus, here, below, along, where_some, enter_focus, focus, focus_terms}
use Rattle.core_calc.specs.Redex.{focus_bindings, first_unevaluated, bound_terms, entered_parts, evaluated_parts}
use Rattle.core_calc.specs.Redex.{IsFocusThrough}

inside_same : {A : Type 0} (outcome : Outcome A) → outcome ≡ inside (λ a. a) outcome
inside_same (Goes a store world) = refl
inside_same (Blames label) = refl
inside_same (Traps trap world) = refl
inside_same Stuck = refl

inside-inside : {A B C : Type 0} (outer : B → C) (inner : A → B) (outcome : Outcome A) →
    inside outer (inside inner outcome) ≡ inside (λ a. outer (inner a)) outcome
inside-inside outer inner (Goes a store world) = refl
inside-inside outer inner (Blames label) = refl
inside-inside outer inner (Traps trap world) = refl
inside-inside outer inner Stuck = refl

-- ---- the redex stands in its place

around_choice : {A : Type 0} {O : Type 0} (o : Option O) (whole : A) (f g : Focus A) → f.around f.redex ≡ whole →
    g.around g.redex ≡ whole → (where_some o f g).around (where_some o f g).redex ≡ whole
around_choice (Some v) whole f g p q = p
around_choice None whole f g p q = q

around_enter : (o : Option Value) (whole : Term) (f g : Focus Term) → f.around f.redex ≡ whole →
    g.around g.redex ≡ whole → (enter_focus o f g).around (enter_focus o f g).redex ≡ whole
around_enter (Some (WrapValue v from label to)) whole f g p q = p
around_enter (Some (IntValue n)) whole f g p q = q
around_enter (Some (BoolValue b)) whole f g p q = q
around_enter (Some UnitValue) whole f g p q = q
around_enter (Some (FunValue parameters body type)) whole f g p q = q
around_enter (Some (MemberValue group place)) whole f g p q = q
around_enter (Some (TupleValue parts)) whole f g p q = q
around_enter (Some (LocValue cell is_vector)) whole f g p q = q
around_enter (Some (InjectValue v kept)) whole f g p q = q
around_enter None whole f g p q = p

mutual
  pub the_step_is_that_of_the_redex-in_place : (term : Term) → (focus term).around (focus term).redex ≡ term
  the_step_is_that_of_the_redex-in_place (IntLit n) = refl
  the_step_is_that_of_the_redex-in_place (BoolLit b) = refl
  the_step_is_that_of_the_redex-in_place UnitLit = refl
  the_step_is_that_of_the_redex-in_place (ValueTerm v) = refl
  the_step_is_that_of_the_redex-in_place (Var name) = refl
  the_step_is_that_of_the_redex-in_place (Lambda parameters body type) = refl
  the_step_is_that_of_the_redex-in_place (Group group body) = refl
  the_step_is_that_of_the_redex-in_place (Let bindings body) =
      around_choice (bound_values bindings) (Let bindings body) (here (Let bindings body))
      (below (λ next. Let next body) (focus_bindings bindings)) refl
      (ap (λ next. Let next body) (redex_in_bindings bindings))
  the_step_is_that_of_the_redex-in_place (Call function arguments) =
      around_choice (as_value function) (Call function arguments)
      (where_some (all_values arguments) (here (Call function arguments))
      (below (Call function) (focus_terms arguments)))
      (below (λ next. Call next arguments) (focus function))
      (around_choice (all_values arguments) (Call function arguments) (here (Call function arguments))
      (below (Call function) (focus_terms arguments)) refl (ap (Call function) (redex_in_terms arguments)))
      (ap (λ next. Call next arguments) (the_step_is_that_of_the_redex-in_place function))
  the_step_is_that_of_the_redex-in_place (Enter function arguments) =
      around_enter (as_value function) (Enter function arguments) (here (Enter function arguments))
      (where_some (all_values arguments) (here (Enter function arguments))
      (below (Enter function) (focus_terms arguments))) refl
      (around_choice (all_values arguments) (Enter function arguments) (here (Enter function arguments))
      (below (Enter function) (focus_terms arguments)) refl (ap (Enter function) (redex_in_terms arguments)))
  the_step_is_that_of_the_redex-in_place (If condition on_true on_false) =
      around_choice (as_value condition) (If condition on_true on_false) (here (If condition on_true on_false))
      (below (λ next. If next on_true on_false) (focus condition)) refl
      (ap (λ next. If next on_true on_false) (the_step_is_that_of_the_redex-in_place condition))
  the_step_is_that_of_the_redex-in_place (Seq NoTerms) = refl
  the_step_is_that_of_the_redex-in_place (Seq (TermThen term NoTerms)) = refl
  the_step_is_that_of_the_redex-in_place (Seq (TermThen term (TermThen second rest))) =
      around_choice (as_value term) (Seq (TermThen term (TermThen second rest)))
      (here (Seq (TermThen term (TermThen second rest))))
      (below (λ next. Seq (TermThen next (TermThen second rest))) (focus term)) refl
      (ap (λ next. Seq (TermThen next (TermThen second rest))) (the_step_is_that_of_the_redex-in_place term))
  the_step_is_that_of_the_redex-in_place (Cast term from to label) =
      around_choice (as_value term) (Cast term from to label) (here (Cast term from to label))
      (below (λ next. Cast next from to label) (focus term)) refl
      (ap (λ next. Cast next from to label) (the_step_is_that_of_the_redex-in_place term))
  the_step_is_that_of_the_redex-in_place (Proj term k) =
      around_choice (as_value term) (Proj term k) (here (Proj term k)) (below (λ next. Proj next k) (focus term)) refl
      (ap (λ next. Proj next k) (the_step_is_that_of_the_redex-in_place term))
  the_step_is_that_of_the_redex-in_place (ProjDyn term k label) =
      around_choice (as_value term) (ProjDyn term k label) (here (ProjDyn term k label))
      (below (λ next. ProjDyn next k label) (focus term)) refl
      (ap (λ next. ProjDyn next k label) (the_step_is_that_of_the_redex-in_place term))
  the_step_is_that_of_the_redex-in_place (Tuple parts) =
      around_choice (all_values parts) (Tuple parts) (here (Tuple parts)) (below Tuple (focus_terms parts)) refl
      (ap Tuple (redex_in_terms parts))
  the_step_is_that_of_the_redex-in_place (Prim operator operands) =
      around_choice (all_values operands) (Prim operator operands) (here (Prim operator operands))
      (below (Prim operator) (focus_terms operands)) refl (ap (Prim operator) (redex_in_terms operands))

  redex_in_terms : (terms : Terms) → (focus_terms terms).around (focus_terms terms).redex ≡ terms
  redex_in_terms NoTerms = refl
  redex_in_terms (TermThen term rest) =
      around_choice (as_value term) (TermThen term rest) (along (TermThen term) (focus_terms rest))
      (along (λ next. TermThen next rest) (focus term)) (ap (TermThen term) (redex_in_terms rest))
      (ap (λ next. TermThen next rest) (the_step_is_that_of_the_redex-in_place term))

  redex_in_bindings : (bindings : Bindings) →
      (focus_bindings bindings).around (focus_bindings bindings).redex ≡ bindings
  redex_in_bindings NoBindings = refl
  redex_in_bindings (BindingThen name bound rest) =
      around_choice (as_value bound) (BindingThen name bound rest)
      (along (BindingThen name bound) (focus_bindings rest)) (along (λ next. BindingThen name next rest) (focus bound))
      (ap (BindingThen name bound) (redex_in_bindings rest))
      (ap (λ next. BindingThen name next rest) (the_step_is_that_of_the_redex-in_place bound))

-- ---- the step is that of the redex

module _ (types : TypeRows) (store : Store) (world : WorldState) where
  -- what stands at the redex steps, and the rest stays
  abbrev StepsIn : {A : Type 0} → Focus A → Outcome A → Type 0
  StepsIn f outcome = outcome ≡ inside f.around (step types store world f.redex)

  steps_here : (term : Term) → StepsIn (here term) (step types store world term)
  steps_here term = inside_same (step types store world term)

  steps_below : {A B : Type 0} (place : A → B) (f : Focus A) (outcome : Outcome A) → StepsIn f outcome →
      StepsIn (below place f) (inside place outcome)
  steps_below place f outcome h =
      ap (inside place) h ∙ inside-inside place f.around (step types store world f.redex)

  steps_along : {A B : Type 0} (place : A → B) (f : Focus A) (outcome : Outcome A) → StepsIn f outcome →
      StepsIn (along place f) (inside place outcome)
  steps_along place f outcome h =
      ap (inside place) h ∙ inside-inside place f.around (step types store world f.redex)

  -- of a step that goes by whether an option is there
  steps_choice : {O : Type 0} (o : Option O) (whole : Term) (f g : Focus Term) (go : O →
      Outcome Term) (other : Outcome Term) →
      step types store world whole ≡ if_some o go other →
      ((a : O) → step types store world whole ≡ go a → StepsIn f (step types store world whole)) →
      StepsIn g other → StepsIn (where_some o f g) (step types store world whole)
  steps_choice (Some a) whole f g go other e h k = h a e
  steps_choice None whole f g go other e h k = e ∙ k

  -- where it is there, the whole is the redex
  steps_whole : {O : Type 0} (o : Option O) (whole : Term) (g : Focus Term) (go : O →
      Outcome Term) (other : Outcome Term) →
      step types store world whole ≡ if_some o go other → StepsIn g other →
      StepsIn (where_some o (here whole) g) (step types store world whole)
  steps_whole o whole g go other e k =
      steps_choice o whole (here whole) g go other e (λ a e'. steps_here whole) k

  -- of operands in order
  steps_rest : {A : Type 0} (o : Option Value) (f g : Focus A) (go other : Outcome A) → StepsIn f go → StepsIn g other →
      StepsIn (where_some o f g) (if_some o (λ v. go) other)
  steps_rest (Some v) f g go other h k = h
  steps_rest None f g go other h k = k

  -- of an Enter whose arguments decide: where they are values, the whole is the redex
  steps_by_arguments : (function : Term) (arguments : Terms) (go : List Value → Outcome Term) →
      step types store world (Enter function arguments) ≡
      if_some (all_values arguments) go (inside (Enter function) (step_terms types store world arguments)) →
      StepsIn (focus_terms arguments) (step_terms types store world arguments) →
      StepsIn (where_some (all_values arguments) (here (Enter function arguments))
      (below (Enter function) (focus_terms arguments))) (step types store world (Enter function arguments))
  steps_by_arguments function arguments go e h =
      steps_whole (all_values arguments) (Enter function arguments) (below (Enter function) (focus_terms arguments)) go
      (inside (Enter function) (step_terms types store world arguments)) e
      (steps_below (Enter function) (focus_terms arguments) (step_terms types store world arguments) h)

  -- of an Enter whose function is this value: a function seen through a cast is the redex, and else the arguments
  -- decide
  steps_enter : (v : Value) (function : Term) (arguments : Terms) →
      step types store world (Enter function arguments) ≡
      enter_step types store world v arguments (inside (Enter function) (step_terms types store world arguments)) →
      StepsIn (focus_terms arguments) (step_terms types store world arguments) →
      StepsIn (enter_focus (Some v) (here (Enter function arguments))
      (where_some (all_values arguments) (here (Enter function arguments))
      (below (Enter function) (focus_terms arguments))))
      (step types store world (Enter function arguments))
  steps_enter (WrapValue v from label to) function arguments e h = steps_here (Enter function arguments)
  steps_enter (IntValue n) function arguments e h = steps_by_arguments function arguments (λ values. Stuck) e h
  steps_enter (BoolValue b) function arguments e h = steps_by_arguments function arguments (λ values. Stuck) e h
  steps_enter UnitValue function arguments e h = steps_by_arguments function arguments (λ values. Stuck) e h
  steps_enter (FunValue parameters body type) function arguments e h =
      steps_by_arguments function arguments (enter_body types store world parameters body []) e h
  steps_enter (MemberValue group place) function arguments e h =
      steps_by_arguments function arguments (enter_member types store world group place (group_values group)) e h
  steps_enter (TupleValue parts) function arguments e h =
      steps_by_arguments function arguments (λ values. Stuck) e h
  steps_enter (LocValue cell is_vector) function arguments e h =
      steps_by_arguments function arguments (λ values. Stuck) e h
  steps_enter (InjectValue v kept) function arguments e h =
      steps_by_arguments function arguments (λ values. Stuck) e h

  steps_enter_of : (o : Option Value) (function : Term) (arguments : Terms) →
      step types store world (Enter function arguments) ≡ with_some o (λ f. enter_step types store world f arguments
      (inside (Enter function) (step_terms types store world arguments))) →
      StepsIn (focus_terms arguments) (step_terms types store world arguments) →
      StepsIn (enter_focus o (here (Enter function arguments))
      (where_some (all_values arguments) (here (Enter function arguments))
      (below (Enter function) (focus_terms arguments))))
      (step types store world (Enter function arguments))
  steps_enter_of (Some v) function arguments e h = steps_enter v function arguments e h
  steps_enter_of None function arguments e h = steps_here (Enter function arguments)

  mutual
    pub the_step_is_that_of_the_redex-steps : (term : Term) → StepsIn (focus term) (step types store world term)
    the_step_is_that_of_the_redex-steps (IntLit n) = refl
    the_step_is_that_of_the_redex-steps (BoolLit b) = refl
    the_step_is_that_of_the_redex-steps UnitLit = refl
    the_step_is_that_of_the_redex-steps (ValueTerm v) = refl
    the_step_is_that_of_the_redex-steps (Var name) = refl
    the_step_is_that_of_the_redex-steps (Lambda parameters body type) = refl
    the_step_is_that_of_the_redex-steps (Group group body) = refl
    the_step_is_that_of_the_redex-steps (Let bindings body) =
        steps_whole (bound_values bindings) (Let bindings body)
        (below (λ next. Let next body) (focus_bindings bindings))
        (let_step types store world bindings body)
        (inside (λ next. Let next body) (step_bindings types store world bindings)) refl
        (steps_below (λ next. Let next body) (focus_bindings bindings) (step_bindings types store world bindings)
        (step_is_of_redex_of_bindings bindings))
    the_step_is_that_of_the_redex-steps (Call function arguments) =
        steps_choice (as_value function) (Call function arguments)
        (where_some (all_values arguments) (here (Call function arguments))
        (below (Call function) (focus_terms arguments)))
        (below (λ next. Call next arguments) (focus function))
        (λ f. if_some (all_values arguments) (λ values. becomes types store world (Enter function arguments))
        (inside (Call function) (step_terms types store world arguments)))
        (inside (λ next. Call next arguments) (step types store world function)) refl
        (λ f e. steps_whole (all_values arguments) (Call function arguments)
        (below (Call function) (focus_terms arguments))
        (λ values. becomes types store world (Enter function arguments))
        (inside (Call function) (step_terms types store world arguments)) e
        (steps_below (Call function) (focus_terms arguments) (step_terms types store world arguments)
        (step_is_of_redex_of_terms arguments)))
        (steps_below (λ next. Call next arguments) (focus function) (step types store world function)
        (the_step_is_that_of_the_redex-steps function))
    the_step_is_that_of_the_redex-steps (Enter function arguments) =
        steps_enter_of (as_value function) function arguments refl (step_is_of_redex_of_terms arguments)
    the_step_is_that_of_the_redex-steps (If condition on_true on_false) =
        steps_whole (as_value condition) (If condition on_true on_false)
        (below (λ next. If next on_true on_false) (focus condition))
        (λ v. if_step types store world v on_true on_false)
        (inside (λ next. If next on_true on_false) (step types store world condition)) refl
        (steps_below (λ next. If next on_true on_false) (focus condition) (step types store world condition)
        (the_step_is_that_of_the_redex-steps condition))
    the_step_is_that_of_the_redex-steps (Seq NoTerms) = refl
    the_step_is_that_of_the_redex-steps (Seq (TermThen term NoTerms)) = refl
    the_step_is_that_of_the_redex-steps (Seq (TermThen term (TermThen second rest))) =
        steps_whole (as_value term) (Seq (TermThen term (TermThen second rest)))
        (below (λ next. Seq (TermThen next (TermThen second rest))) (focus term))
        (λ v. becomes types store world (Seq (TermThen second rest)))
        (inside (λ next. Seq (TermThen next (TermThen second rest))) (step types store world term)) refl
        (steps_below (λ next. Seq (TermThen next (TermThen second rest))) (focus term) (step types store world term)
        (the_step_is_that_of_the_redex-steps term))
    the_step_is_that_of_the_redex-steps (Cast term from to label) =
        steps_whole (as_value term) (Cast term from to label) (below (λ next. Cast next from to label) (focus term))
        (λ v. cast_step types store world v from to label)
        (inside (λ next. Cast next from to label) (step types store world term)) refl
        (steps_below (λ next. Cast next from to label) (focus term) (step types store world term)
        (the_step_is_that_of_the_redex-steps term))
    the_step_is_that_of_the_redex-steps (Proj term k) =
        steps_whole (as_value term) (Proj term k) (below (λ next. Proj next k) (focus term))
        (λ v. proj_step types store world v k) (inside (λ next. Proj next k) (step types store world term)) refl
        (steps_below (λ next. Proj next k) (focus term) (step types store world term)
        (the_step_is_that_of_the_redex-steps term))
    the_step_is_that_of_the_redex-steps (ProjDyn term k label) =
        steps_whole (as_value term) (ProjDyn term k label) (below (λ next. ProjDyn next k label) (focus term))
        (λ v. proj_dyn_step types store world v k label)
        (inside (λ next. ProjDyn next k label) (step types store world term)) refl
        (steps_below (λ next. ProjDyn next k label) (focus term) (step types store world term)
        (the_step_is_that_of_the_redex-steps term))
    the_step_is_that_of_the_redex-steps (Tuple parts) =
        steps_whole (all_values parts) (Tuple parts) (below Tuple (focus_terms parts))
        (λ values. becomes types store world (ValueTerm (TupleValue (values_from values))))
        (inside Tuple (step_terms types store world parts)) refl
        (steps_below Tuple (focus_terms parts) (step_terms types store world parts)
        (step_is_of_redex_of_terms parts))
    the_step_is_that_of_the_redex-steps (Prim operator operands) =
        steps_whole (all_values operands) (Prim operator operands) (below (Prim operator) (focus_terms operands))
        (operator_step types store world operator) (inside (Prim operator) (step_terms types store world operands)) refl
        (steps_below (Prim operator) (focus_terms operands) (step_terms types store world operands)
        (step_is_of_redex_of_terms operands))

    step_is_of_redex_of_terms : (terms : Terms) → StepsIn (focus_terms terms) (step_terms types store world terms)
    step_is_of_redex_of_terms NoTerms = refl
    step_is_of_redex_of_terms (TermThen term rest) =
        steps_rest (as_value term) (along (TermThen term) (focus_terms rest))
        (along (λ next. TermThen next rest) (focus term))
        (inside (TermThen term) (step_terms types store world rest))
        (inside (λ next. TermThen next rest) (step types store world term))
        (steps_along (TermThen term) (focus_terms rest) (step_terms types store world rest)
        (step_is_of_redex_of_terms rest))
        (steps_along (λ next. TermThen next rest) (focus term) (step types store world term)
        (the_step_is_that_of_the_redex-steps term))

    step_is_of_redex_of_bindings : (bindings : Bindings) →
        StepsIn (focus_bindings bindings) (step_bindings types store world bindings)
    step_is_of_redex_of_bindings NoBindings = refl
    step_is_of_redex_of_bindings (BindingThen name bound rest) =
        steps_rest (as_value bound) (along (BindingThen name bound) (focus_bindings rest))
        (along (λ next. BindingThen name next rest) (focus bound))
        (inside (BindingThen name bound) (step_bindings types store world rest))
        (inside (λ next. BindingThen name next rest) (step types store world bound))
        (steps_along (BindingThen name bound) (focus_bindings rest) (step_bindings types store world rest)
        (step_is_of_redex_of_bindings rest))
        (steps_along (λ next. BindingThen name next rest) (focus bound) (step types store world bound)
        (the_step_is_that_of_the_redex-steps bound))

-- ---- a redex is its own

-- the redex of this focus has no other redex below it
abbrev IsWhole : {A : Type 0} → Focus A → Type 0
IsWhole f = focus f.redex ≡ here f.redex

whole_choice : {O : Type 0} (o : Option O) (whole : Term) (f g : Focus Term) → focus whole ≡ where_some o f g →
    (focus whole ≡ f → IsWhole f) → IsWhole g → IsWhole (where_some o f g)
whole_choice (Some a) whole f g e h k = h e
whole_choice None whole f g e h k = k

whole_here : {O : Type 0} (o : Option O) (whole : Term) (g : Focus Term) → focus whole ≡ where_some o (here whole) g →
    IsWhole g → IsWhole (where_some o (here whole) g)
whole_here o whole g e k = whole_choice o whole (here whole) g e (λ h. h) k

whole_along : {A : Type 0} (o : Option Value) (f g : Focus A) → IsWhole f → IsWhole g → IsWhole (where_some o f g)
whole_along (Some v) f g h k = h
whole_along None f g h k = k

whole_enter : (o : Option Value) (whole : Term) (f : Focus Term) → focus whole ≡ enter_focus o (here whole) f →
    (focus whole ≡ f → IsWhole f) → IsWhole (enter_focus o (here whole) f)
whole_enter (Some (WrapValue v from label to)) whole f e h = e
whole_enter (Some (IntValue n)) whole f e h = h e
whole_enter (Some (BoolValue b)) whole f e h = h e
whole_enter (Some UnitValue) whole f e h = h e
whole_enter (Some (FunValue parameters body type)) whole f e h = h e
whole_enter (Some (MemberValue group place)) whole f e h = h e
whole_enter (Some (TupleValue parts)) whole f e h = h e
whole_enter (Some (LocValue cell is_vector)) whole f e h = h e
whole_enter (Some (InjectValue v kept)) whole f e h = h e
whole_enter None whole f e h = e

mutual
  pub the_step_is_that_of_the_redex-is_whole : (term : Term) → IsWhole (focus term)
  the_step_is_that_of_the_redex-is_whole (IntLit n) = refl
  the_step_is_that_of_the_redex-is_whole (BoolLit b) = refl
  the_step_is_that_of_the_redex-is_whole UnitLit = refl
  the_step_is_that_of_the_redex-is_whole (ValueTerm v) = refl
  the_step_is_that_of_the_redex-is_whole (Var name) = refl
  the_step_is_that_of_the_redex-is_whole (Lambda parameters body type) = refl
  the_step_is_that_of_the_redex-is_whole (Group group body) = refl
  the_step_is_that_of_the_redex-is_whole (Let bindings body) =
      whole_here (bound_values bindings) (Let bindings body) (below (λ next. Let next body) (focus_bindings bindings))
      refl
      (redex_of_bindings_is_whole bindings)
  the_step_is_that_of_the_redex-is_whole (Call function arguments) =
      whole_choice (as_value function) (Call function arguments)
      (where_some (all_values arguments) (here (Call function arguments))
      (below (Call function) (focus_terms arguments)))
      (below (λ next. Call next arguments) (focus function)) refl
      (λ e. whole_here (all_values arguments) (Call function arguments)
      (below (Call function) (focus_terms arguments)) e
      (redex_of_terms_is_whole arguments))
      (the_step_is_that_of_the_redex-is_whole function)
  the_step_is_that_of_the_redex-is_whole (Enter function arguments) =
      whole_enter (as_value function) (Enter function arguments)
      (where_some (all_values arguments) (here (Enter function arguments))
      (below (Enter function) (focus_terms arguments))) refl
      (λ e. whole_here (all_values arguments) (Enter function arguments)
      (below (Enter function) (focus_terms arguments)) e (redex_of_terms_is_whole arguments))
  the_step_is_that_of_the_redex-is_whole (If condition on_true on_false) =
      whole_here (as_value condition) (If condition on_true on_false)
      (below (λ next. If next on_true on_false) (focus condition)) refl
      (the_step_is_that_of_the_redex-is_whole condition)
  the_step_is_that_of_the_redex-is_whole (Seq NoTerms) = refl
  the_step_is_that_of_the_redex-is_whole (Seq (TermThen term NoTerms)) = refl
  the_step_is_that_of_the_redex-is_whole (Seq (TermThen term (TermThen second rest))) =
      whole_here (as_value term) (Seq (TermThen term (TermThen second rest)))
      (below (λ next. Seq (TermThen next (TermThen second rest))) (focus term)) refl
      (the_step_is_that_of_the_redex-is_whole term)
  the_step_is_that_of_the_redex-is_whole (Cast term from to label) =
      whole_here (as_value term) (Cast term from to label) (below (λ next. Cast next from to label) (focus term)) refl
      (the_step_is_that_of_the_redex-is_whole term)
  the_step_is_that_of_the_redex-is_whole (Proj term k) =
      whole_here (as_value term) (Proj term k) (below (λ next. Proj next k) (focus term)) refl
      (the_step_is_that_of_the_redex-is_whole term)
  the_step_is_that_of_the_redex-is_whole (ProjDyn term k label) =
      whole_here (as_value term) (ProjDyn term k label) (below (λ next. ProjDyn next k label) (focus term)) refl
      (the_step_is_that_of_the_redex-is_whole term)
  the_step_is_that_of_the_redex-is_whole (Tuple parts) =
      whole_here (all_values parts) (Tuple parts) (below Tuple (focus_terms parts)) refl (redex_of_terms_is_whole parts)
  the_step_is_that_of_the_redex-is_whole (Prim operator operands) =
      whole_here (all_values operands) (Prim operator operands) (below (Prim operator) (focus_terms operands)) refl
      (redex_of_terms_is_whole operands)

  redex_of_terms_is_whole : (terms : Terms) → IsWhole (focus_terms terms)
  redex_of_terms_is_whole NoTerms = refl
  redex_of_terms_is_whole (TermThen term rest) =
      whole_along (as_value term) (along (TermThen term) (focus_terms rest))
      (along (λ next. TermThen next rest) (focus term)) (redex_of_terms_is_whole rest)
      (the_step_is_that_of_the_redex-is_whole term)

  redex_of_bindings_is_whole : (bindings : Bindings) → IsWhole (focus_bindings bindings)
  redex_of_bindings_is_whole NoBindings = refl
  redex_of_bindings_is_whole (BindingThen name bound rest) =
      whole_along (as_value bound) (along (BindingThen name bound) (focus_bindings rest))
      (along (λ next. BindingThen name next rest) (focus bound)) (redex_of_bindings_is_whole rest)
      (the_step_is_that_of_the_redex-is_whole bound)

-- ---- the redex is that of the first part that is no value

-- among terms or bindings the focus is that of the first that is no value; where all are values nothing is said
abbrev IsFocusAmong : {A : Type 0} → Option Term → Focus A → Type 0
IsFocusAmong None f = ⊤
IsFocusAmong (Some part) f = (f.redex ≡ (focus part).redex) × (f.above ≡ (focus part).above)

-- either all are values, and then none is the first that is no value, or one is
abbrev IsOpenUnless : {A : Type 0} → Option A → Option Term → Type 0
IsOpenUnless (Some values) None = ⊤
IsOpenUnless (Some values) (Some part) = ⊥
IsOpenUnless None None = ⊥
IsOpenUnless None (Some part) = ⊤

open_in_front : (o : Option Value) (term : Term) (values : Option (List Value)) (first : Option Term) →
    IsOpenUnless values first → IsOpenUnless (both_in_front o values) (where_some o first (Some term))
open_in_front (Some v) term (Some values) None e = tt
open_in_front (Some v) term None (Some part) e = tt
open_in_front (Some v) term None None e = elim e [ ]
open_in_front (Some v) term (Some values) (Some part) e = elim e [ ]
open_in_front None term values first e = tt

open_terms : (terms : Terms) → IsOpenUnless (all_values terms) (first_unevaluated (term_list terms))
open_terms NoTerms = tt
open_terms (TermThen term rest) =
    open_in_front (as_value term) term (all_values rest) (first_unevaluated (term_list rest)) (open_terms rest)

open_bindings : (bindings : Bindings) → IsOpenUnless (bound_values bindings) (first_unevaluated (bound_terms bindings))
open_bindings NoBindings = tt
open_bindings (BindingThen name bound rest) =
    open_in_front (as_value bound) bound (bound_values rest) (first_unevaluated (bound_terms rest)) (open_bindings rest)

among_in_front : {A B : Type 0} (o : Option Value) (part : Term) (first : Option Term) (behind : A → B)
    (front : Term → B) (f : Focus A) → IsFocusAmong first f →
    IsFocusAmong (where_some o first (Some part)) (where_some o (along behind f) (along front (focus part)))
among_in_front (Some v) part None behind front f among = tt
among_in_front (Some v) part (Some first) behind front f among = among
among_in_front None part first behind front f among = (refl, refl)

among_terms : (terms : Terms) → IsFocusAmong (first_unevaluated (term_list terms)) (focus_terms terms)
among_terms NoTerms = tt
among_terms (TermThen term rest) =
    among_in_front (as_value term) term (first_unevaluated (term_list rest)) (TermThen term)
    (λ next. TermThen next rest) (focus_terms rest) (among_terms rest)

among_bindings : (bindings : Bindings) →
    IsFocusAmong (first_unevaluated (bound_terms bindings)) (focus_bindings bindings)
among_bindings NoBindings = tt
among_bindings (BindingThen name bound rest) =
    among_in_front (as_value bound) bound (first_unevaluated (bound_terms rest)) (BindingThen name bound)
    (λ next. BindingThen name next rest) (focus_bindings rest) (among_bindings rest)

-- a term with a list of parts
through_parts : {A B : Type 0} (values : Option A) (first : Option Term) (whole : Term) (place : B → Term) (f : Focus B)
    → IsOpenUnless values first → IsFocusAmong first f →
    IsFocusThrough first whole (where_some values (here whole) (below place f))
through_parts (Some values) None whole place f unless among = refl
through_parts None (Some part) whole place f unless among = (among.0, ap suc among.1)
through_parts None None whole place f unless among = elim unless [ ]
through_parts (Some values) (Some part) whole place f unless among = elim unless [ ]

-- a term with a part in front of the others
through_front : (o : Option Value) (part : Term) (first : Option Term) (whole : Term) (place : Term → Term)
    (f : Focus Term) → IsFocusThrough first whole f →
    IsFocusThrough (where_some o first (Some part)) whole (where_some o f (below place (focus part)))
through_front (Some v) part first whole place f through = through
through_front None part first whole place f through = (refl, refl)

-- a term with one part
through_one : (o : Option Value) (part whole : Term) (place : Term → Term) →
    IsFocusThrough (where_some o None (Some part)) whole (where_some o (here whole) (below place (focus part)))
through_one o part whole place = through_front o part None whole place (here whole) refl

through_enter : (o : Option Value) (arguments : Terms) (whole : Term) (inner : Focus Term) →
    IsFocusThrough (first_unevaluated (term_list arguments)) whole inner →
    IsFocusThrough (first_unevaluated (entered_parts o arguments)) whole (enter_focus o (here whole) inner)
through_enter (Some (WrapValue v from label to)) arguments whole inner through = refl
through_enter (Some (IntValue n)) arguments whole inner through = through
through_enter (Some (BoolValue b)) arguments whole inner through = through
through_enter (Some UnitValue) arguments whole inner through = through
through_enter (Some (FunValue parameters body type)) arguments whole inner through = through
through_enter (Some (MemberValue group place)) arguments whole inner through = through
through_enter (Some (TupleValue parts)) arguments whole inner through = through
through_enter (Some (LocValue cell is_vector)) arguments whole inner through = through
through_enter (Some (InjectValue v kept)) arguments whole inner through = through
through_enter None arguments whole inner through = refl

pub the_step_is_that_of_the_redex-through_parts : (term : Term) →
    IsFocusThrough (first_unevaluated (evaluated_parts term)) term (focus term)
the_step_is_that_of_the_redex-through_parts (IntLit n) = refl
the_step_is_that_of_the_redex-through_parts (BoolLit b) = refl
the_step_is_that_of_the_redex-through_parts UnitLit = refl
the_step_is_that_of_the_redex-through_parts (ValueTerm v) = refl
the_step_is_that_of_the_redex-through_parts (Var name) = refl
the_step_is_that_of_the_redex-through_parts (Lambda parameters body type) = refl
the_step_is_that_of_the_redex-through_parts (Group functions body) = refl
the_step_is_that_of_the_redex-through_parts (Let bindings body) =
    through_parts (bound_values bindings) (first_unevaluated (bound_terms bindings)) (Let bindings body)
    (λ next. Let next body) (focus_bindings bindings) (open_bindings bindings) (among_bindings bindings)
the_step_is_that_of_the_redex-through_parts (Call function arguments) =
    through_front (as_value function) function (first_unevaluated (term_list arguments)) (Call function arguments)
    (λ next. Call next arguments)
    (where_some (all_values arguments) (here (Call function arguments))
    (below (Call function) (focus_terms arguments)))
    (through_parts (all_values arguments) (first_unevaluated (term_list arguments)) (Call function arguments)
    (Call function)
    (focus_terms arguments) (open_terms arguments) (among_terms arguments))
the_step_is_that_of_the_redex-through_parts (Enter function arguments) =
    through_enter (as_value function) arguments (Enter function arguments)
    (where_some (all_values arguments) (here (Enter function arguments))
    (below (Enter function) (focus_terms arguments)))
    (through_parts (all_values arguments) (first_unevaluated (term_list arguments)) (Enter function arguments)
    (Enter function) (focus_terms arguments) (open_terms arguments) (among_terms arguments))
the_step_is_that_of_the_redex-through_parts (If condition on_true on_false) =
    through_one (as_value condition) condition (If condition on_true on_false) (λ next. If next on_true on_false)
the_step_is_that_of_the_redex-through_parts (Seq NoTerms) = refl
the_step_is_that_of_the_redex-through_parts (Seq (TermThen term NoTerms)) = refl
the_step_is_that_of_the_redex-through_parts (Seq (TermThen term (TermThen second rest))) =
    through_one (as_value term) term (Seq (TermThen term (TermThen second rest)))
    (λ next. Seq (TermThen next (TermThen second rest)))
the_step_is_that_of_the_redex-through_parts (Cast term from to label) =
    through_one (as_value term) term (Cast term from to label) (λ next. Cast next from to label)
the_step_is_that_of_the_redex-through_parts (Proj term k) =
    through_one (as_value term) term (Proj term k) (λ next. Proj next k)
the_step_is_that_of_the_redex-through_parts (ProjDyn term k label) =
    through_one (as_value term) term (ProjDyn term k label) (λ next. ProjDyn next k label)
the_step_is_that_of_the_redex-through_parts (Tuple parts) =
    through_parts (all_values parts) (first_unevaluated (term_list parts)) (Tuple parts) Tuple (focus_terms parts)
    (open_terms parts) (among_terms parts)
the_step_is_that_of_the_redex-through_parts (Prim operator operands) =
    through_parts (all_values operands) (first_unevaluated (term_list operands)) (Prim operator operands)
    (Prim operator)
    (focus_terms operands) (open_terms operands) (among_terms operands)

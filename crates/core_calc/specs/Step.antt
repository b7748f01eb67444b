-- One step of the calculus. Parts are evaluated from left to right, and the first that is no value takes the step.
use Rattle.std.specs.Prelude.{true, false, List}
use Rattle.grift_base.specs.World.{WorldState}
use Rattle.grift_base.specs.Types.{TypeRows}
use Rattle.core_calc.specs.Terms.{Term, Terms, Bindings, Value, IntLit, BoolLit, UnitLit, Var, Lambda, Group, Let, Call}
use Rattle.core_calc.specs.Terms.{Enter, If, Seq, Cast, Proj, ProjDyn, Tuple, Prim, ValueTerm, NoTerms, TermThen}
use Rattle.core_calc.specs.Terms.{NoBindings, BindingThen, BoolValue, FunValue, TupleValue, as_value, all_values}
use Rattle.core_calc.specs.Terms.{values_from, binding_names, bound_values}
use Rattle.core_calc.specs.Substitution.{substitute, bind, group_values}
use Rattle.core_calc.specs.Outcome.{Store, Outcome, Goes, Stuck, inside, if_some, with_some}
use Rattle.core_calc.specs.Casts.{cast_step}
use Rattle.core_calc.specs.Calls.{enter_step, proj_step, proj_dyn_step}
use Rattle.core_calc.specs.Operators.{operator_step}

module _ (types : TypeRows) (store : Store) (world : WorldState) where
  abbrev pub becomes : Term → Outcome Term
  becomes term = Goes term store world

  -- the branch of a truth value
  abbrev pub if_step : Value → Term → Term → Outcome Term
  if_step (BoolValue true) on_true on_false = becomes on_true
  if_step (BoolValue false) on_true on_false = becomes on_false
  if_step _ on_true on_false = Stuck

  -- the body of Let with the bound values in the place of the names
  abbrev pub let_step : Bindings → Term → List Value → Outcome Term
  let_step bindings body values =
      with_some (bind (binding_names bindings) values) (λ bound. becomes (substitute body bound))

  abbrev mutual
    pub step : Term → Outcome Term
    step (IntLit n) = Stuck
    step (BoolLit b) = Stuck
    step UnitLit = Stuck
    step (ValueTerm v) = Stuck
    step (Var name) = Stuck
    step (Lambda parameters body type) = becomes (ValueTerm (FunValue parameters body type))
    step (Group members body) = becomes (substitute body (group_values members))
    step (Let bindings body) =
        if_some (bound_values bindings) (let_step bindings body)
        (inside (λ next. Let next body) (step_bindings bindings))
    step (Call function arguments) =
        if_some (as_value function) (λ f. if_some (all_values arguments) (λ values. becomes (Enter function arguments))
        (inside (Call function) (step_terms arguments))) (inside (λ next. Call next arguments) (step function))
    step (Enter function arguments) =
        with_some (as_value function) (λ f. enter_step types store world f arguments
        (inside (Enter function) (step_terms arguments)))
    step (If condition on_true on_false) =
        if_some (as_value condition) (λ v. if_step v on_true on_false) (inside (λ next. If next on_true on_false)
        (step condition))
    step (Seq NoTerms) = Stuck
    step (Seq (TermThen term NoTerms)) = becomes term
    step (Seq (TermThen term (TermThen second rest))) =
        if_some (as_value term) (λ v. becomes (Seq (TermThen second rest)))
        (inside (λ next. Seq (TermThen next (TermThen second rest))) (step term))
    step (Cast term from to label) =
        if_some (as_value term) (λ v. cast_step types store world v from to label)
        (inside (λ next. Cast next from to label) (step term))
    step (Proj term k) =
        if_some (as_value term) (λ v. proj_step types store world v k) (inside (λ next. Proj next k) (step term))
    step (ProjDyn term k label) =
        if_some (as_value term) (λ v. proj_dyn_step types store world v k label) (inside (λ next. ProjDyn next k label)
        (step term))
    step (Tuple parts) =
        if_some (all_values parts) (λ values. becomes (ValueTerm (TupleValue (values_from values))))
        (inside Tuple (step_terms parts))
    step (Prim operator operands) =
        if_some (all_values operands) (operator_step types store world operator)
        (inside (Prim operator) (step_terms operands))

    pub step_terms : Terms → Outcome Terms
    step_terms NoTerms = Stuck
    step_terms (TermThen term rest) =
        if_some (as_value term) (λ v. inside (TermThen term) (step_terms rest)) (inside (λ next. TermThen next rest)
        (step term))

    pub step_bindings : Bindings → Outcome Bindings
    step_bindings NoBindings = Stuck
    step_bindings (BindingThen name bound rest) =
        if_some (as_value bound) (λ v. inside (BindingThen name bound) (step_bindings rest))
        (inside (λ next. BindingThen name next rest) (step bound))

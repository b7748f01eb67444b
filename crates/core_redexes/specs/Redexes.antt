-- The step of a term whose evaluated parts are values, form by form. Of another term nothing is said.
use Rattle.std.specs.Prelude.{ℕ, ℤ, Bool, true, false, not, ◌&&◌, ◌||◌, is_some, Option, Some, None}
use Rattle.grift_base.specs.World.{WorldState}
use Rattle.grift_base.specs.Types.{TypeRows}
use Rattle.core_calc.specs.Terms.{Term, Terms, Value, Lambda, Group, Let, Call, Seq, NoTerms, TermThen, FunValue}
use Rattle.core_calc.specs.Terms.{Enter, If, Cast, Proj, ProjDyn, Tuple, Prim, ValueTerm, TupleValue, as_value}
use Rattle.core_calc.specs.Terms.{all_values, bound_values, values_from}
use Rattle.core_calc.specs.Substitution.{substitute, group_values}
use Rattle.core_calc.specs.Outcome.{Store, Outcome, Goes, Stuck, with_some}
use Rattle.core_calc.specs.Casts.{cast_step}
use Rattle.core_calc.specs.Calls.{enter_step, proj_step, proj_dyn_step}
use Rattle.core_calc.specs.Operators.{operator_step}
use Rattle.core_calc.specs.Step.{if_step, let_step}
use Rattle.core_redexes.specs.Values.{wrapper_in}

-- whether there is more than one term, and the first is no value
abbrev pub waits_for_first : Terms → Bool
waits_for_first (TermThen term (TermThen second rest)) = not (is_some (as_value term))
waits_for_first _ = false

-- whether an entered call is the redex itself: its function is no value, or a wrapper, or its arguments are values
abbrev pub enters_now : Option Value → Terms → Bool
enters_now function arguments =
    not (is_some function) || is_some (wrapper_in function) || is_some (all_values arguments)

-- whether a term takes its step itself, and no part of it does; one that has no step counts as such
abbrev pub is_redex : Term → Bool
is_redex (Let bindings body) = is_some (bound_values bindings)
is_redex (Call function arguments) = is_some (as_value function) && is_some (all_values arguments)
is_redex (Enter function arguments) = enters_now (as_value function) arguments
is_redex (If condition on_true on_false) = is_some (as_value condition)
is_redex (Seq terms) = not (waits_for_first terms)
is_redex (Cast term from to label) = is_some (as_value term)
is_redex (Proj term k) = is_some (as_value term)
is_redex (ProjDyn term k label) = is_some (as_value term)
is_redex (Tuple parts) = is_some (all_values parts)
is_redex (Prim operator operands) = is_some (all_values operands)
is_redex _ = true

-- the part that a projection asks for
abbrev pub part_asked : Term → Option ℤ
part_asked (Proj term k) = Some k
part_asked _ = None

-- the part that a projection from Dyn asks for, and its label
abbrev pub dyn_part_asked : Term → Option (ℤ × ℕ)
dyn_part_asked (ProjDyn term k label) = Some (k, label)
dyn_part_asked _ = None

module _ (types : TypeRows) (store : Store) (world : WorldState) where
  abbrev pub cast_redex : Term → Outcome Term
  cast_redex (Cast term from to label) =
      with_some (as_value term) (λ v. cast_step types store world v from to label)
  cast_redex _ = Stuck

  abbrev pub if_redex : Term → Outcome Term
  if_redex (If condition on_true on_false) =
      with_some (as_value condition) (λ v. if_step types store world v on_true on_false)
  if_redex _ = Stuck

  abbrev pub let_redex : Term → Outcome Term
  let_redex (Let bindings body) = with_some (bound_values bindings) (let_step types store world bindings body)
  let_redex _ = Stuck

  abbrev pub lambda_redex : Term → Outcome Term
  lambda_redex (Lambda parameters body type) = Goes (ValueTerm (FunValue parameters body type)) store world
  lambda_redex _ = Stuck

  -- whether the first term is a value isn't asked
  abbrev pub seq_redex : Term → Outcome Term
  seq_redex (Seq (TermThen term NoTerms)) = Goes term store world
  seq_redex (Seq (TermThen term (TermThen second rest))) = Goes (Seq (TermThen second rest)) store world
  seq_redex _ = Stuck

  abbrev pub group_redex : Term → Outcome Term
  group_redex (Group members body) = Goes (substitute body (group_values members)) store world
  group_redex _ = Stuck

  abbrev pub call_redex : Term → Outcome Term
  call_redex (Call function arguments) = Goes (Enter function arguments) store world
  call_redex _ = Stuck

  -- where the function is no wrapper, the arguments must be values
  abbrev pub enter_redex : Term → Outcome Term
  enter_redex (Enter function arguments) =
      with_some (as_value function) (λ v. enter_step types store world v arguments Stuck)
  enter_redex _ = Stuck

  abbrev pub proj_redex : Term → Outcome Term
  proj_redex (Proj term k) = with_some (as_value term) (λ v. proj_step types store world v k)
  proj_redex _ = Stuck

  abbrev pub proj_dyn_redex : Term → Outcome Term
  proj_dyn_redex (ProjDyn term k label) =
      with_some (as_value term) (λ v. proj_dyn_step types store world v k label)
  proj_dyn_redex _ = Stuck

  abbrev pub tuple_redex : Term → Outcome Term
  tuple_redex (Tuple parts) =
      with_some (all_values parts) (λ values. Goes (ValueTerm (TupleValue (values_from values))) store world)
  tuple_redex _ = Stuck

  abbrev pub prim_redex : Term → Outcome Term
  prim_redex (Prim operator operands) =
      with_some (all_values operands) (operator_step types store world operator)
  prim_redex _ = Stuck

-- Calls whose function is a value, and parts of tuples.
use Rattle.std.specs.Prelude.{ℕ, zero, suc, ℤ, pos, negsuc, List, [], ◌∷◌, ◌++◌, Option, option_map, Some, None}
use Rattle.std.specs.Prelude.{slice_get}
use Rattle.grift_base.specs.World.{WorldState}
use Rattle.grift_base.specs.Types.{TypeRow, FunRow, TypeRows, row_at, tuple_part, dyn_place}
use Rattle.core_calc.specs.Terms.{Term, Terms, Members, Value, Enter, Cast, Proj, ValueTerm, NoTerms, TermThen}
use Rattle.core_calc.specs.Terms.{NoMembers, MemberThen, FunValue, MemberValue, TupleValue, WrapValue, InjectValue}
use Rattle.core_calc.specs.Terms.{all_values, value_list}
use Rattle.core_calc.specs.Substitution.{Substitution, substitute, bind, group_values}
use Rattle.core_calc.specs.Outcome.{Store, Outcome, Goes, Blames, Stuck, if_some, with_some}
use Rattle.core_calc.specs.Casts.{with_rows, with_part_of_both}

-- each argument in a cast from one type to the other; none where their numbers differ
abbrev pub cast_arguments : Terms → List ℕ → List ℕ → ℕ → Option Terms
cast_arguments NoTerms [] [] label = Some NoTerms
cast_arguments (TermThen term rest) (from ∷ froms) (to ∷ tos) label =
    option_map (TermThen (Cast term from to label)) (cast_arguments rest froms tos label)
cast_arguments _ _ _ label = None

module _ (types : TypeRows) (store : Store) (world : WorldState) where
  -- a function seen from one function type as another: the arguments are cast to what it takes, and its answer to what
  -- is wanted
  abbrev pub enter_wrapped : TypeRow → TypeRow → Value → Terms → ℕ → Outcome Term
  enter_wrapped (FunRow parameters answer) (FunRow wanted_parameters wanted) v arguments label =
      with_some (cast_arguments arguments wanted_parameters parameters label)
      (λ casts. Goes (Cast (Enter (ValueTerm v) casts) answer wanted label) store world)
  enter_wrapped _ _ v arguments label = Stuck

  -- the body with the arguments in the place of the parameters; a parameter hides a name of the group
  abbrev pub enter_body : List ℕ → Term → Substitution → List Value → Outcome Term
  enter_body parameters body group values =
      with_some (bind parameters values) (λ bound. Goes (substitute body (bound ++ group)) store world)

  -- the member at a place
  abbrev pub enter_member : Members → ℕ → Substitution → List Value → Outcome Term
  enter_member NoMembers place group values = Stuck
  enter_member (MemberThen name parameters body type rest) zero group values = enter_body parameters body group values
  enter_member (MemberThen name parameters body type rest) (suc place) group values =
      enter_member rest place group values

  -- the step of Enter where its function is this value; the last is the outcome of a step of the arguments.
  -- The arguments of a function seen through a cast go on into casts as they are; all others are evaluated first, also
  -- those of a value that is no function
  abbrev pub enter_step : Value → Terms → Outcome Term → Outcome Term
  enter_step (WrapValue v from label to) arguments arguments_step =
      with_rows types from to (λ row other. enter_wrapped row other v arguments label)
  enter_step (FunValue parameters body type) arguments arguments_step =
      if_some (all_values arguments) (enter_body parameters body []) arguments_step
  enter_step (MemberValue members place) arguments arguments_step =
      if_some (all_values arguments) (enter_member members place (group_values members)) arguments_step
  enter_step _ arguments arguments_step = if_some (all_values arguments) (λ values. Stuck) arguments_step

  -- the value at a place
  abbrev pub value_at : List Value → ℤ → Option Value
  value_at values (pos k) = slice_get values k
  value_at values (negsuc k) = None

  -- the step of Proj on a value
  abbrev pub proj_step : Value → ℤ → Outcome Term
  proj_step (TupleValue values) k = with_some (value_at (value_list values) k) (λ v. Goes (ValueTerm v) store world)
  proj_step (WrapValue v from label to) k =
      with_part_of_both types (λ row. tuple_part row k) from to (λ inner outer.
      Goes (Cast (Proj (ValueTerm v) k) inner outer label) store world)
  proj_step _ k = Stuck

  -- the part, cast to Dyn
  abbrev pub proj_to_dyn : Value → ℤ → ℕ → ℕ → Outcome Term
  proj_to_dyn v k part label =
      with_some (dyn_place types) (λ dyn. Goes (Cast (Proj (ValueTerm v) k) part dyn label) store world)

  -- the step of ProjDyn on a value
  abbrev pub proj_dyn_step : Value → ℤ → ℕ → Outcome Term
  proj_dyn_step (InjectValue v kept) k label =
      with_some (row_at types kept) (λ row. if_some (tuple_part row k) (λ part. proj_to_dyn v k part label)
      (Blames label))
  proj_dyn_step _ k label = Stuck

-- The values of the run with environments, where casts pile up, as values of the calculus: a function is its body with
-- what it has captured put in.
use Rattle.std.proofs.Common.{◌≡◌, ℕ, suc, Bool, true, false, List, [], ◌∷◌, ◌++◌, map, Option, Some, None, refl}
use Rattle.std.proofs.Common.{ap}
use Rattle.std.proofs.Common.{◌∙◌}
use Rattle.std.specs.Prelude.{cond, nat_eq, option_map}
use Rattle.core_calc.specs.Terms.{Members, Value, Values, IntValue, BoolValue, UnitValue, FunValue, MemberValue}
use Rattle.core_calc.specs.Terms.{TupleValue, LocValue, WrapValue, InjectValue, NoValues, ValueThen, NoMembers}
use Rattle.core_calc.specs.Terms.{MemberThen, member_names, value_list, values_from, both_in_front}
use Rattle.core_calc.specs.Substitution.{Substitution, entry_of, without, substitute, substitute_members, bind}
use Rattle.core_calc.specs.Substitution.{members_from}
use Rattle.core_calc.specs.Outcome.{Store}
use Rattle.core_calc.specs.Calculus.{shown_value}
use Rattle.cast_modes.specs.Modes.{TypeCast}
use Rattle.cast_modes.specs.RunValues.{RunInt, RunBool, RunUnit, RunFun, RunTuple, RunLoc, RunWrap, RunInject}
use Rattle.cast_modes.specs.RunValues.{NoRunValues, RunValueThen, in_row, row_list, shown}
use Rattle.coer_core.specs.Terms.{RowMembers, NoRowMembers, RowMemberThen, core_of, core_members}
use Rattle.coer_core.specs.Machine.{Code, LambdaCode, MemberCode, CoerValue, CoerValues, CoerStore, CoerPending, Env}
use Rattle.coer_core.specs.Machine.{CoerFrame, CoerAfter, RunState, env_names, env_values, paired}
use Rattle.coer_core.specs.Machine.{captured_env, members_in}

-- ---- the run in the piled mode

abbrev pub PiledValue : Type 0
PiledValue = CoerValue TypeCast

abbrev pub PiledEnv : Type 0
PiledEnv = Env TypeCast

abbrev pub PiledStore : Type 0
PiledStore = CoerStore TypeCast

abbrev pub PiledPending : Type 0
PiledPending = CoerPending TypeCast

abbrev pub PiledFrame : Type 0
PiledFrame = CoerFrame TypeCast

abbrev pub PiledAfter : Type 0
PiledAfter = CoerAfter TypeCast

abbrev pub PiledState : Type 0
PiledState = RunState TypeCast

-- what a function has captured is its environment again
pub env_again : {C : Type 0} (env : Env C) → captured_env (env_names env) (in_row (env_values env)) ≡ env
env_again [] = refl
env_again (entry ∷ rest) = ap (λ l. entry ∷ l) (env_again rest)

module _ (rows : List TypeCast) where
  -- a group with these values put in
  abbrev pub group_with : RowMembers → Substitution → Members
  group_with group values =
      substitute_members (core_members rows group) (without (member_names (core_members rows group)) values)

  -- a function with these values put in
  abbrev pub function_with : Code → List Value → Value
  function_with (LambdaCode parameters body type names) captured =
      FunValue parameters (substitute (core_of rows body) (without parameters (paired names captured))) type
  function_with (MemberCode group place names) captured =
      MemberValue (group_with group (paired names captured)) place

  abbrev mutual
    pub value_of : PiledValue → Value
    value_of (RunInt n) = IntValue n
    value_of (RunBool b) = BoolValue b
    value_of RunUnit = UnitValue
    value_of (RunFun code captured) = function_with code (value_list (values_of captured))
    value_of (RunTuple values) = TupleValue (values_of values)
    value_of (RunLoc cell is_vector) = LocValue cell is_vector
    value_of (RunWrap v cast) = WrapValue (value_of v) cast.from cast.label cast.to
    value_of (RunInject v kept) = InjectValue (value_of v) kept

    pub values_of : CoerValues TypeCast → Values
    values_of NoRunValues = NoValues
    values_of (RunValueThen v rest) = ValueThen (value_of v) (values_of rest)

  -- names with the values of the calculus
  abbrev pub entries_of : PiledEnv → Substitution
  entries_of [] = []
  entries_of (entry ∷ rest) = (entry.0, value_of entry.1) ∷ entries_of rest

  abbrev pub store_of : PiledStore → Store
  store_of store = map (map value_of) store

  pub captured_entries : (names : List ℕ) (captured : CoerValues TypeCast)
      → paired names (value_list (values_of captured)) ≡ entries_of (captured_env names captured)
  captured_entries [] captured = refl
  captured_entries (name ∷ names) NoRunValues = refl
  captured_entries (name ∷ names) (RunValueThen v rest) =
      ap (λ l. (name, value_of v) ∷ l) (captured_entries names rest)

  -- what a function has captured are the entries of its environment
  pub entries_again : (env : PiledEnv)
      → paired (env_names env) (value_list (values_of (in_row (env_values env)))) ≡ entries_of env
  entries_again env =
      captured_entries (env_names env) (in_row (env_values env)) ∙ ap entries_of (env_again env)

  cond_map : (c : Bool) (v : PiledValue) (o : Option Value) (p : Option PiledValue) → o ≡ option_map value_of p
      → cond c (Some (value_of v)) o ≡ option_map value_of (cond c (Some v) p)
  cond_map true v o p e = refl
  cond_map false v o p e = e

  pub find_entry : (x : ℕ) (env : PiledEnv) → entry_of x (entries_of env) ≡ option_map value_of (entry_of x env)
  find_entry x [] = refl
  find_entry x (entry ∷ rest) =
      cond_map (nat_eq x entry.0) entry.1 (entry_of x (entries_of rest)) (entry_of x rest) (find_entry x rest)

  pub entries_append : (bound env : PiledEnv) → entries_of (bound ++ env) ≡ entries_of bound ++ entries_of env
  entries_append [] env = refl
  entries_append (entry ∷ rest) env = ap (λ l. (entry.0, value_of entry.1) ∷ l) (entries_append rest env)

  pub members_entries : (group : RowMembers) (names : List ℕ) (captured : CoerValues TypeCast) (s : Substitution)
      (members : RowMembers) (place : ℕ) → entries_of (members_in group names captured members place)
      ≡ members_from (group_with group (paired names (value_list (values_of captured))))
      (substitute_members (core_members rows members) s) place
  members_entries group names captured s NoRowMembers place = refl
  members_entries group names captured s (RowMemberThen name parameters body type rest) place =
      ap (λ l. (name, MemberValue (group_with group (paired names (value_list (values_of captured)))) place) ∷ l)
      (members_entries group names captured s rest (suc place))

  -- names bound on both sides
  abbrev pub BoundBoth : List ℕ → Option PiledEnv → Option Substitution → Type 0
  BoundBoth names (Some bound) (Some entries) = (entries ≡ entries_of bound) × (env_names entries ≡ names)
  BoundBoth names None None = Unit {0}
  BoundBoth names _ _ = ⊥

  bound_both_on : (name : ℕ) (names : List ℕ) (v : PiledValue) (o : Option PiledEnv) (p : Option Substitution)
      → BoundBoth names o p
      → BoundBoth (name ∷ names) (both_in_front (Some (name, v)) o) (both_in_front (Some (name, value_of v)) p)
  bound_both_on name names v (Some bound) (Some entries) b =
      (ap (λ l. (name, value_of v) ∷ l) b.0, ap (λ l. name ∷ l) b.1)
  bound_both_on name names v None None b = tt
  bound_both_on name names v (Some bound) None b = absurd b
  bound_both_on name names v None (Some entries) b = absurd b

  pub bound_both : (names : List ℕ) (values : List PiledValue)
      → BoundBoth names (bind names values) (bind names (map value_of values))
  bound_both [] [] = (refl, refl)
  bound_both [] (v ∷ rest) = tt
  bound_both (name ∷ names) [] = tt
  bound_both (name ∷ names) (v ∷ rest) =
      bound_both_on name names v (bind names rest) (bind names (map value_of rest)) (bound_both names rest)

  shown_function : (code : Code) (captured : CoerValues TypeCast) (values : List Value)
      → shown_value (function_with code values) ≡ shown (let f : PiledValue = RunFun code captured in f)
  shown_function (LambdaCode parameters body type names) captured values = refl
  shown_function (MemberCode group place names) captured values = refl

  pub shown_same : (v : PiledValue) → shown_value (value_of v) ≡ shown v
  shown_same (RunInt n) = refl
  shown_same (RunBool b) = refl
  shown_same RunUnit = refl
  shown_same (RunFun code captured) = shown_function code captured (value_list (values_of captured))
  shown_same (RunTuple values) = refl
  shown_same (RunLoc cell is_vector) = refl
  shown_same (RunWrap v cast) = shown_same v
  shown_same (RunInject v kept) = shown_same v

  pub in_row_of : (values : List PiledValue) → values_of (in_row values) ≡ values_from (map value_of values)
  in_row_of [] = refl
  in_row_of (v ∷ rest) = ap (ValueThen (value_of v)) (in_row_of rest)

  pub row_list_of : (values : CoerValues TypeCast) → value_list (values_of values) ≡ map value_of (row_list values)
  row_list_of NoRunValues = refl
  row_list_of (RunValueThen v rest) = ap (λ l. value_of v ∷ l) (row_list_of rest)

pub names_of_members : (group members : Members) (place : ℕ)
    → env_names (members_from group members place) ≡ member_names members
names_of_members group NoMembers place = refl
names_of_members group (MemberThen name parameters body type rest) place =
    ap (λ l. name ∷ l) (names_of_members group rest (suc place))

-- Terms whose functions and tuples take at most n words, and states in which all terms are such.
use Rattle.std.proofs.Common.{ℕ, zero, suc, ◌+◌, ◌*◌, ◌≤◌, ℤ, pos, negsuc, Bool, true, false, cond, nat_eq, List}
use Rattle.std.proofs.Common.{[], ◌∷◌, ◌++◌, length, Option, Some, None, arith, replicate}
use Rattle.std.proofs.Common.{slice_get, slice_set}
use Rattle.std.specs.Prelude.{option_map, if◌then◌else◌}
use Rattle.std.specs.Ordering.{int_eq}
use Rattle.std.specs.List.{AllByRecursion}
use Rattle.grift_base.specs.World.{WorldState}
use Rattle.grift_base.specs.Reading.{next_number}
use Rattle.grift_base.specs.declared.operators.PrimOp.{PrimOp}
use Rattle.grift_base.specs.declared.operators.PrimOp.TheVariants.{Add, Sub, Mul, Quot, Rem, Lt, Le, Eq, Ge, Gt, Not}
use Rattle.grift_base.specs.declared.operators.PrimOp.TheVariants.{PrintInt, Newline, ReadInt, MakeBox, Unbox, BoxSet}
use Rattle.grift_base.specs.declared.operators.PrimOp.TheVariants.{MakeVector, VectorRef, VectorSet, VectorLength}
use Rattle.core_calc.specs.Terms.{both_in_front}
use Rattle.core_calc.specs.Substitution.{entry_of, bind}
use Rattle.cast_modes.specs.Modes.{Mode, Decision, Keeping, Wrapping, Rewrapping, Unwrapping, Injecting, Opening}
use Rattle.cast_modes.specs.Modes.{Making, DynPart, PartCast, NoPart, NoType}
use Rattle.cast_modes.specs.RunValues.{RunInt, RunBool, RunUnit, RunFun, RunTuple, RunLoc, RunWrap, RunInject}
use Rattle.cast_modes.specs.RunValues.{NoRunValues, RunValueThen, in_row, row_list, all_plain, plain, shape_of}
use Rattle.cast_modes.specs.RunValues.{run_cell_behind}
use Rattle.cast_modes.specs.ValueSteps.{CastFrame, ProjFrame, PrimFrame, EnterFrame, OwnFrame, Own, Return, Entering}
use Rattle.cast_modes.specs.ValueSteps.{On, BlameOf, TrapOf, NoNext, on_some, element_at, onto, pendings_onto}
use Rattle.cast_modes.specs.ValueSteps.{casts_onto, cast_all, make, apply, next_argument}
use Rattle.cast_modes.specs.ValueSteps.{enter_plain, enter, run_proj, blame_or_proj, run_proj_dyn, run_on_int}
use Rattle.cast_modes.specs.ValueSteps.{run_on_ints, run_on_bool, element_or_trap, run_with_element, operate}
use Rattle.cast_modes.specs.ValueSteps.{run_make_box, run_unbox_cell, run_unbox, run_box_set, run_make_vector}
use Rattle.cast_modes.specs.ValueSteps.{run_vector_ref, run_vector_set, run_vector_length, run_newline, run_reads}
use Rattle.cast_modes.specs.ValueSteps.{run_read}
use Rattle.coer_core.specs.Terms.{RowTerm, RowTerms, RowMembers, RowBindings, RowInt, RowBool, RowUnit, RowVar}
use Rattle.coer_core.specs.Terms.{RowLambda, RowGroup, RowLet, RowCall, RowIf, RowSeq, RowCast, RowProj, RowProjDyn}
use Rattle.coer_core.specs.Terms.{RowTuple, RowPrim, NoRowTerms, RowTermThen, NoRowMembers, RowMemberThen}
use Rattle.coer_core.specs.Terms.{NoRowBindings, RowBindingThen}
use Rattle.coer_core.specs.Machine.{Code, LambdaCode, MemberCode, code_arity, CoerValue, CoerValues, CoerStore}
use Rattle.coer_core.specs.Machine.{CoerPending, Env, CoerFrame, CoerFocus, CoerAfter, Evaluation, Eval, Job, Calling}
use Rattle.coer_core.specs.Machine.{Tupling, Operating, TermFrame, IfFrame, SeqFrame, FunFrame, ProjDynFrame}
use Rattle.coer_core.specs.Machine.{GatherFrame, LetFrame, env_names, env_values, paired, captured_env}
use Rattle.coer_core.specs.Machine.{members_in, group_env, entered_body, entered_member, entered, finish, gather}
use Rattle.coer_core.specs.Machine.{bind_next, choose, eval, resume, back, turn}
use Rattle.coer_core.specs.Counts.{row_member_count, lambda_captures, group_captures}
use Rattle.coer_core.specs.Holding.{Holding, Holds, AllHold, MembersHold, BindingsHold}
use Rattle.coer_core.specs.Uses.{how_many}

-- what holds of a thing that may be there
abbrev pub FitOption : {A : Type 0} → (A → Type 0) → Option A → Type 0
FitOption P (Some a) = P a
FitOption P None = Unit {0}

module _ (n : ℕ) where
  -- ---- terms

  -- what takes at most so many words: a function with what it captures, a group, and a tuple
  abbrev pub fitting : Holding
  fitting = record {
    function = λ parameters body inner. (2 + length (lambda_captures parameters body) ≤ n) × inner;
    group = λ members inner. (2 * row_member_count members + length (group_captures members) ≤ n) × inner;
    cast = λ number inner. inner;
    tuple = λ parts inner. (1 + how_many parts ≤ n) × inner;
  }

  abbrev pub FitsIn : RowTerm → Type 0
  FitsIn term = Holds fitting term

  abbrev pub FitAll : RowTerms → Type 0
  FitAll terms = AllHold fitting terms

  abbrev pub FitMembers : RowMembers → Type 0
  FitMembers members = MembersHold fitting members

  abbrev pub FitBindings : RowBindings → Type 0
  FitBindings bindings = BindingsHold fitting bindings

  abbrev pub FitCode : Code → Type 0
  FitCode (LambdaCode parameters body type names) = FitsIn body
  FitCode (MemberCode group place names) = FitMembers group

  module _ {C : Type 0} where
    -- ---- values

    abbrev mutual
      pub FitValue : CoerValue C → Type 0
      FitValue (RunInt i) = Unit {0}
      FitValue (RunBool b) = Unit {0}
      FitValue RunUnit = Unit {0}
      FitValue (RunFun code captured) = FitCode code × FitValues captured
      FitValue (RunTuple values) = FitValues values
      FitValue (RunLoc cell is_vector) = Unit {0}
      FitValue (RunWrap v cast) = FitValue v
      FitValue (RunInject v kept) = FitValue v

      pub FitValues : CoerValues C → Type 0
      FitValues NoRunValues = Unit {0}
      FitValues (RunValueThen v rest) = FitValue v × FitValues rest

    abbrev pub FitList : List (CoerValue C) → Type 0
    FitList values = AllByRecursion FitValue values

    abbrev pub FitEnv : Env C → Type 0
    FitEnv env = AllByRecursion (λ entry. FitValue entry.1) env

    abbrev pub FitPendings : List (CoerPending C) → Type 0
    FitPendings todo = AllByRecursion (λ p. FitValue p.value) todo

    abbrev pub FitStore : CoerStore C → Type 0
    FitStore store = AllByRecursion FitList store

    -- ---- states

    abbrev pub FitJob : Job C → Type 0
    FitJob (Calling f) = FitValue f
    FitJob Tupling = Unit {0}
    FitJob (Operating operator) = Unit {0}

    -- a tuple with so many parts beside these
    abbrev pub FitWidth : Job C → List (CoerValue C) → ℕ → Type 0
    FitWidth Tupling done more = 1 + length done + more ≤ n
    FitWidth (Calling f) done more = Unit {0}
    FitWidth (Operating operator) done more = Unit {0}

    abbrev pub FitFrame : CoerFrame C → Type 0
    FitFrame (CastFrame cast) = Unit {0}
    FitFrame (ProjFrame i) = Unit {0}
    FitFrame (PrimFrame operator done) = FitList done
    FitFrame (EnterFrame f done todo) = FitValue f × FitList done × FitPendings todo
    FitFrame (OwnFrame (IfFrame on_true on_false env)) = FitsIn on_true × FitsIn on_false × FitEnv env
    FitFrame (OwnFrame (SeqFrame term rest env)) = FitsIn term × FitAll rest × FitEnv env
    FitFrame (OwnFrame (FunFrame arguments env)) = FitAll arguments × FitEnv env
    FitFrame (OwnFrame (ProjDynFrame i label)) = Unit {0}
    FitFrame (OwnFrame (GatherFrame job done todo env)) =
        FitJob job × FitList done × FitAll todo × FitEnv env × FitWidth job done (suc (how_many todo))
    FitFrame (OwnFrame (LetFrame bound name todo body env)) =
        FitEnv bound × FitBindings todo × FitsIn body × FitEnv env

    abbrev pub FitFrames : List (CoerFrame C) → Type 0
    FitFrames [] = Unit {0}
    FitFrames (frame ∷ k) = FitFrame frame × FitFrames k

    abbrev pub FitPlace : Evaluation C → Type 0
    FitPlace (Eval term env) = FitsIn term × FitEnv env

    abbrev pub FitFocus : CoerFocus C → Type 0
    FitFocus (Own place) = FitPlace place
    FitFocus (Return v) = FitValue v
    FitFocus (Entering f done todo) = FitValue f × FitList done × FitPendings todo

    abbrev pub FitAfter : CoerAfter C → Type 0
    FitAfter (On focus k store world) = FitFocus focus × FitFrames k × FitStore store
    FitAfter (BlameOf label) = Unit {0}
    FitAfter (TrapOf trap world) = Unit {0}
    FitAfter NoNext = Unit {0}

    -- ---- lists

    fit_append : (env other : Env C) → FitEnv env → FitEnv other → FitEnv (env ++ other)
    fit_append [] other f g = g
    fit_append (entry ∷ env) other f g = (f.0, fit_append env other f.1 g)

    fit_onto : (done rest : List (CoerValue C)) → FitList done → FitList rest → FitList (onto done rest)
    fit_onto [] rest f g = g
    fit_onto (v ∷ done) rest f g = fit_onto done (v ∷ rest) f.1 (f.0, g)

    fit_bound : (done rest : Env C) → FitEnv done → FitEnv rest → FitEnv (onto done rest)
    fit_bound [] rest f g = g
    fit_bound (entry ∷ done) rest f g = fit_bound done (entry ∷ rest) f.1 (f.0, g)

    fit_row : (values : List (CoerValue C)) → FitList values → FitValues (in_row values)
    fit_row [] f = tt
    fit_row (v ∷ rest) f = (f.0, fit_row rest f.1)

    fit_listed : (values : CoerValues C) → FitValues values → FitList (row_list values)
    fit_listed NoRunValues f = tt
    fit_listed (RunValueThen v rest) f = (f.0, fit_listed rest f.1)

    fit_env_values : (env : Env C) → FitEnv env → FitList (env_values env)
    fit_env_values [] f = tt
    fit_env_values (entry ∷ rest) f = (f.0, fit_env_values rest f.1)

    fit_paired : (names : List ℕ) (values : List (CoerValue C)) → FitList values → FitEnv (paired names values)
    fit_paired [] values f = tt
    fit_paired (name ∷ names) [] f = tt
    fit_paired (name ∷ names) (v ∷ values) f = (f.0, fit_paired names values f.1)

    fit_captured : (names : List ℕ) (captured : CoerValues C) → FitValues captured → FitEnv (captured_env names
        captured)
    fit_captured names captured f = fit_paired names (row_list captured) (fit_listed captured f)

    fit_members_in : (group : RowMembers) (names : List ℕ) (captured : CoerValues C) (rest : RowMembers) (place : ℕ)
        → FitMembers group → FitValues captured → FitEnv (members_in group names captured rest place)
    fit_members_in group names captured NoRowMembers place f g = tt
    fit_members_in group names captured (RowMemberThen name parameters body type rest) place f g =
        ((f, g), fit_members_in group names captured rest (suc place) f g)

    fit_all_plain : (values : List (CoerValue C)) → FitList values → FitPendings (all_plain values)
    fit_all_plain [] f = tt
    fit_all_plain (v ∷ rest) f = (f.0, fit_all_plain rest f.1)

    fit_pendings_onto : (done : List (CoerValue C)) (rest : List (CoerPending C)) → FitList done → FitPendings rest
        → FitPendings (pendings_onto done rest)
    fit_pendings_onto [] rest f g = g
    fit_pendings_onto (v ∷ done) rest f g = fit_pendings_onto done (plain v ∷ rest) f.1 (f.0, g)

    fit_casts_onto : (casts : List C) (k : List (CoerFrame C)) → FitFrames k → FitFrames (casts_onto casts k)
    fit_casts_onto [] k f = f
    fit_casts_onto (cast ∷ casts) k f = (tt, fit_casts_onto casts k f)

    fit_replicate : (count : ℕ) (v : CoerValue C) → FitValue v → FitList (replicate count v)
    fit_replicate zero v f = tt
    fit_replicate (suc count) v f = (f, fit_replicate count v f)

    fit_set : (values : List (CoerValue C)) (i : ℕ) (v : CoerValue C) → FitList values → FitValue v
        → FitList (slice_set values i v)
    fit_set [] i v f g = tt
    fit_set (u ∷ values) zero v f g = (g, f.1)
    fit_set (u ∷ values) (suc i) v f g = (f.0, fit_set values i v f.1 g)

    fit_set_cell : (store : CoerStore C) (i : ℕ) (cell : List (CoerValue C)) → FitStore store → FitList cell
        → FitStore (slice_set store i cell)
    fit_set_cell [] i cell f g = tt
    fit_set_cell (c ∷ store) zero cell f g = (g, f.1)
    fit_set_cell (c ∷ store) (suc i) cell f g = (f.0, fit_set_cell store i cell f.1 g)

    fit_new_cell : (store : CoerStore C) (cell : List (CoerValue C)) → FitStore store → FitList cell
        → FitStore (store ++ cell ∷ [])
    fit_new_cell [] cell f g = (g, tt)
    fit_new_cell (c ∷ store) cell f g = (f.0, fit_new_cell store cell f.1 g)

    -- ---- what may be there

    fit_some : {A : Type 0} (P : A → Type 0) (o : Option A) (go : A → CoerAfter C) → FitOption P o
        → ((a : A) → P a → FitAfter (go a)) → FitAfter (on_some o go)
    fit_some P (Some a) go f onward = onward a f
    fit_some P None go f onward = tt

    fit_any : {A : Type 0} (o : Option A) (go : A → CoerAfter C) → ((a : A) → FitAfter (go a)) → FitAfter (on_some o go)
    fit_any (Some a) go onward = onward a
    fit_any None go onward = tt

    fit_if : (b : Bool) (x y : CoerAfter C) → FitAfter x → FitAfter y → FitAfter (if b then x else y)
    fit_if true x y f g = f
    fit_if false x y f g = g

    fit_entry : (name : ℕ) (env : Env C) → FitEnv env → FitOption FitValue (entry_of name env)
    fit_entry name [] f = tt
    fit_entry name (entry ∷ rest) f = by_test (nat_eq name entry.0) (fit_entry name rest f.1)
      where
        by_test : (b : Bool) → FitOption FitValue (entry_of name rest)
            → FitOption FitValue (cond b (Some entry.1) (entry_of name rest))
        by_test true g = f.0
        by_test false g = g

    fit_get : (values : List (CoerValue C)) (i : ℕ) → FitList values → FitOption FitValue (slice_get values i)
    fit_get [] i f = tt
    fit_get (v ∷ values) zero f = f.0
    fit_get (v ∷ values) (suc i) f = fit_get values i f.1

    fit_element : (values : List (CoerValue C)) (i : ℤ) → FitList values → FitOption FitValue (element_at values i)
    fit_element values (pos i) f = fit_get values i f
    fit_element values (negsuc i) f = tt

    fit_cell : (store : CoerStore C) (i : ℕ) → FitStore store → FitOption FitList (slice_get store i)
    fit_cell [] i f = tt
    fit_cell (cell ∷ store) zero f = f.0
    fit_cell (cell ∷ store) (suc i) f = fit_cell store i f.1

    fit_bind : (names : List ℕ) (values : List (CoerValue C)) → FitList values → FitOption FitEnv (bind names values)
    fit_bind [] [] f = tt
    fit_bind [] (v ∷ rest) f = tt
    fit_bind (name ∷ names) [] f = tt
    fit_bind (name ∷ names) (v ∷ rest) f = in_front (bind names rest) (fit_bind names rest f.1)
      where
        in_front : (o : Option (Env C)) → FitOption FitEnv o
            → FitOption FitEnv (both_in_front (Some (name, v)) o)
        in_front (Some env) g = (f.0, g)
        in_front None g = tt

    fit_cast_all : (todo : List (CoerPending C)) (casts : List C) → FitPendings todo
        → FitOption FitPendings (cast_all todo casts)
    fit_cast_all [] [] f = tt
    fit_cast_all [] (cast ∷ casts) f = tt
    fit_cast_all (p ∷ rest) [] f = tt
    fit_cast_all (p ∷ rest) (cast ∷ casts) f = in_front (cast_all rest casts) (fit_cast_all rest casts f.1)
      where
        in_front : (o : Option (List (CoerPending C))) → FitOption FitPendings o
            → FitOption FitPendings
            (option_map (λ l. record { value = p.value; casts = p.casts ++ cast ∷ [] } ∷ l) o)
        in_front (Some l) g = (f.0, g)
        in_front None g = tt

    -- ---- functions that are entered

    fit_body : (parameters : List ℕ) (body : RowTerm) (env : Env C) (values : List (CoerValue C)) → FitsIn body
        → FitEnv env → FitList values → FitOption FitPlace (entered_body parameters body env values)
    fit_body parameters body env values f g h = with_bound (bind parameters values) (fit_bind parameters values h)
      where
        with_bound : (o : Option (Env C)) → FitOption FitEnv o
            → FitOption FitPlace (option_map (λ bound. Eval body (bound ++ env)) o)
        with_bound (Some bound) b = (f, fit_append bound env b g)
        with_bound None b = tt

    fit_member : (group : RowMembers) (place : ℕ) (env : Env C) (values : List (CoerValue C)) → FitMembers group
        → FitEnv env → FitList values → FitOption FitPlace (entered_member group place env values)
    fit_member NoRowMembers place env values f g h = tt
    fit_member (RowMemberThen name parameters body type rest) zero env values f g h =
        fit_body parameters body env values f.0 g h
    fit_member (RowMemberThen name parameters body type rest) (suc place) env values f g h =
        fit_member rest place env values f.1 g h

    fit_entered : (code : Code) (captured : CoerValues C) (values : List (CoerValue C)) → FitCode code
        → FitValues captured → FitList values → FitOption FitPlace (entered code captured values)
    fit_entered (LambdaCode parameters body type names) captured values f g h =
        fit_body parameters body (captured_env names captured) values f (fit_captured names captured g) h
    fit_entered (MemberCode group place names) captured values f g h =
        fit_member group place (group_env group names captured) values f
        (fit_append (members_in group names captured group 0) (captured_env names captured)
        (fit_members_in group names captured group 0 f g) (fit_captured names captured g)) h

    -- ---- steps on values

    module _ (mode : Mode C) (store : CoerStore C) (world : WorldState) (fit_store : FitStore store) where
      fit_make : (decision : Decision C) (v : CoerValue C) (k : List (CoerFrame C)) → FitValue v → FitFrames k
          → FitAfter (make mode code_arity entered store world decision v k)
      fit_make Keeping v k f g = (f, g, fit_store)
      fit_make (Wrapping cast) v k f g = (f, g, fit_store)
      fit_make (Injecting kept) v k f g = (f, g, fit_store)
      fit_make (Making cast next) v k f g = (f, (tt, (tt, g)), fit_store)
      fit_make (Rewrapping cast) (RunWrap v old) k f g = (f, g, fit_store)
      fit_make Unwrapping (RunWrap v old) k f g = (f, g, fit_store)
      fit_make (Opening cast) (RunInject v kept) k f g = (f, (tt, g), fit_store)
      fit_make decision v k f g = tt

      fit_apply : (f : CoerValue C) (values : List (CoerValue C)) (k : List (CoerFrame C)) → FitValue f
          → FitList values → FitFrames k → FitAfter (apply mode code_arity entered store world f values k)
      fit_apply (RunFun code captured) values k f g h =
          fit_some FitPlace (entered code captured values) _ (fit_entered code captured values f.0 f.1 g)
          (λ place p. (p, h, fit_store))
      fit_apply (RunInt i) values k f g h = tt
      fit_apply _ values k f g h = tt

      fit_next : (f : CoerValue C) (done : List (CoerValue C)) (v : CoerValue C) (casts : List C)
          (todo : List (CoerPending C)) (k : List (CoerFrame C)) → FitValue f → FitList done → FitValue v
          → FitPendings todo → FitFrames k
          → FitAfter (next_argument mode code_arity entered store world f done v casts todo k)
      fit_next f done v [] todo k a b c d e = ((a, (c, b), d), e, fit_store)
      fit_next f done v (cast ∷ casts) todo k a b c d e =
          (c, (tt, fit_casts_onto casts (EnterFrame f done todo ∷ k) ((a, b, d), e)), fit_store)

      fit_enter_plain : (f : CoerValue C) (done : List (CoerValue C)) (todo : List (CoerPending C))
          (k : List (CoerFrame C)) → FitValue f → FitList done → FitPendings todo → FitFrames k
          → FitAfter (enter_plain mode code_arity entered store world f done todo k)
      fit_enter_plain f done [] k a b c d = fit_apply f (onto done []) k a (fit_onto done [] b tt) d
      fit_enter_plain f done (p ∷ todo) k a b c d = fit_next f done p.value p.casts todo k a b c.0 c.1 d

      fit_enter : (f : CoerValue C) (done : List (CoerValue C)) (todo : List (CoerPending C))
          (k : List (CoerFrame C)) → FitValue f → FitList done → FitPendings todo → FitFrames k
          → FitAfter (enter mode code_arity entered store world f done todo k)
      fit_enter (RunWrap f cast) done todo k a b c d =
          fit_any (mode.calling cast) _ (λ casts. fit_some FitPendings (cast_all (pendings_onto done todo) casts.0) _
          (fit_cast_all (pendings_onto done todo) casts.0 (fit_pendings_onto done todo b c))
          (λ pendings p. ((a, tt, p), (tt, d), fit_store)))
      fit_enter (RunInt i) done todo k a b c d = fit_enter_plain (RunInt i) done todo k a b c d
      fit_enter (RunBool x) done todo k a b c d = fit_enter_plain (RunBool x) done todo k a b c d
      fit_enter RunUnit done todo k a b c d = fit_enter_plain RunUnit done todo k a b c d
      fit_enter (RunFun code captured) done todo k a b c d =
          fit_enter_plain (RunFun code captured) done todo k a b c d
      fit_enter (RunTuple parts) done todo k a b c d = fit_enter_plain (RunTuple parts) done todo k a b c d
      fit_enter (RunLoc cell is_vector) done todo k a b c d =
          fit_enter_plain (RunLoc cell is_vector) done todo k a b c d
      fit_enter (RunInject v kept) done todo k a b c d = fit_enter_plain (RunInject v kept) done todo k a b c d

      fit_proj : (v : CoerValue C) (i : ℤ) (k : List (CoerFrame C)) → FitValue v → FitFrames k
          → FitAfter (run_proj mode code_arity entered store world v i k)
      fit_proj (RunTuple values) i k f g =
          fit_some FitValue (element_at (row_list values) i) _
          (fit_element (row_list values) i (fit_listed values f)) (λ v p. (p, g, fit_store))
      fit_proj (RunWrap v cast) i k f g = fit_any (mode.projecting cast i) _ (λ part. (f, (tt, (tt, g)), fit_store))
      fit_proj _ i k f g = tt

      fit_part : (part : DynPart C) (v : CoerValue C) (i : ℤ) (label : ℕ) (k : List (CoerFrame C)) → FitValue v
          → FitFrames k → FitAfter (blame_or_proj mode code_arity entered store world part v i label k)
      fit_part (PartCast part) v i label k f g = (f, (tt, (tt, g)), fit_store)
      fit_part NoPart v i label k f g = tt
      fit_part NoType v i label k f g = tt

      fit_proj_dyn : (v : CoerValue C) (i : ℤ) (label : ℕ) (k : List (CoerFrame C)) → FitValue v → FitFrames k
          → FitAfter (run_proj_dyn mode code_arity entered store world v i label k)
      fit_proj_dyn (RunInject v kept) i label k f g = fit_part (mode.dyn_part kept i label) v i label k f g
      fit_proj_dyn v i label k f g = tt

      -- ---- operators

      fit_on_int : (go : ℤ → CoerAfter C) (values : List (CoerValue C)) → ((a : ℤ) → FitAfter (go a))
          → FitAfter (run_on_int mode code_arity entered store world go values)
      fit_on_int go (RunInt a ∷ []) onward = onward a
      fit_on_int go (RunInt a ∷ (v ∷ rest)) onward = tt
      fit_on_int go values onward = tt

      fit_on_ints : (go : ℤ → ℤ → CoerAfter C) (values : List (CoerValue C)) → ((a b : ℤ) → FitAfter (go a b))
          → FitAfter (run_on_ints mode code_arity entered store world go values)
      fit_on_ints go (RunInt a ∷ rest) onward = fit_on_int (go a) rest (onward a)
      fit_on_ints go values onward = tt

      fit_on_bool : (go : Bool → CoerAfter C) (values : List (CoerValue C)) → ((b : Bool) → FitAfter (go b))
          → FitAfter (run_on_bool mode code_arity entered store world go values)
      fit_on_bool go (RunBool b ∷ []) onward = onward b
      fit_on_bool go (RunBool b ∷ (v ∷ rest)) onward = tt
      fit_on_bool go values onward = tt

      fit_or_trap : (o : Option (CoerValue C)) (place : ℕ) (go : ℕ → CoerValue C → CoerAfter C) → FitOption FitValue o
          → ((i : ℕ) (v : CoerValue C) → FitValue v → FitAfter (go i v))
          → FitAfter (element_or_trap mode code_arity entered store world o place go)
      fit_or_trap (Some v) place go f onward = onward place v f
      fit_or_trap None place go f onward = tt

      fit_with_element : (cell : List (CoerValue C)) (i : ℤ) (go : ℕ → CoerValue C → CoerAfter C) → FitList cell
          → ((j : ℕ) (v : CoerValue C) → FitValue v → FitAfter (go j v))
          → FitAfter (run_with_element mode code_arity entered store world cell i go)
      fit_with_element cell (pos place) go f onward =
          fit_or_trap (slice_get cell place) place go (fit_get cell place f) onward
      fit_with_element cell (negsuc i) go f onward = tt

      fit_box : (values : List (CoerValue C)) (k : List (CoerFrame C)) → FitList values → FitFrames k
          → FitAfter (run_make_box mode code_arity entered store world values k)
      fit_box [] k f g = tt
      fit_box (v ∷ []) k f g = (tt, g, fit_new_cell store (v ∷ []) fit_store f)
      fit_box (v ∷ (u ∷ rest)) k f g = tt

      fit_unbox_cell : (cell : List (CoerValue C)) (k : List (CoerFrame C)) → FitList cell → FitFrames k
          → FitAfter (run_unbox_cell mode code_arity entered store world cell k)
      fit_unbox_cell [] k f g = tt
      fit_unbox_cell (v ∷ []) k f g = (f.0, g, fit_store)
      fit_unbox_cell (v ∷ (u ∷ rest)) k f g = tt

      fit_unbox : (values : List (CoerValue C)) (k : List (CoerFrame C)) → FitList values → FitFrames k
          → FitAfter (run_unbox mode code_arity entered store world values k)
      fit_unbox (RunLoc cell false ∷ []) k f g =
          fit_some FitList (slice_get store cell) _ (fit_cell store cell fit_store) (λ values p. fit_unbox_cell values k
          p g)
      fit_unbox (RunLoc cell true ∷ []) k f g = tt
      fit_unbox (RunLoc cell is_vector ∷ (u ∷ rest)) k f g = by_kind is_vector
        where
          by_kind : (b : Bool)
              → FitAfter (run_unbox mode code_arity entered store world (RunLoc cell b ∷ (u ∷ rest)) k)
          by_kind true = tt
          by_kind false = tt
      fit_unbox (RunWrap v cast ∷ []) k f g =
          fit_any (mode.reading cast) _ (λ part. (f.0, (tt, (tt, g)), fit_store))
      fit_unbox (RunWrap v cast ∷ (u ∷ rest)) k f g = tt
      fit_unbox values k f g = tt

      fit_box_set : (values : List (CoerValue C)) (k : List (CoerFrame C)) → FitList values → FitFrames k
          → FitAfter (run_box_set mode code_arity entered store world values k)
      fit_box_set (RunLoc cell false ∷ (v ∷ [])) k f g =
          fit_some FitList (slice_get store cell) _ (fit_cell store cell fit_store)
          (λ old p. (tt, g, fit_set_cell store cell (v ∷ []) fit_store (f.1.0, tt)))
      fit_box_set (RunLoc cell true ∷ (v ∷ [])) k f g = tt
      fit_box_set (RunLoc cell false ∷ []) k f g = tt
      fit_box_set (RunLoc cell true ∷ []) k f g = tt
      fit_box_set (RunLoc cell false ∷ (v ∷ (u ∷ rest))) k f g = tt
      fit_box_set (RunLoc cell true ∷ (v ∷ (u ∷ rest))) k f g = tt
      fit_box_set (RunWrap box cast ∷ (v ∷ [])) k f g =
          fit_any (mode.writing cast) _ (λ part. (f.1.0, (tt, ((f.0, tt), g)), fit_store))
      fit_box_set (RunWrap box cast ∷ []) k f g = tt
      fit_box_set (RunWrap box cast ∷ (v ∷ (u ∷ rest))) k f g = tt
      fit_box_set values k f g = tt

      fit_vector : (values : List (CoerValue C)) (k : List (CoerFrame C)) → FitList values → FitFrames k
          → FitAfter (run_make_vector mode code_arity entered store world values k)
      fit_vector (RunInt (pos i) ∷ (v ∷ [])) k f g =
          (tt, g, fit_new_cell store (replicate i v) fit_store (fit_replicate i v f.1.0))
      fit_vector (RunInt (negsuc i) ∷ (v ∷ [])) k f g = tt
      fit_vector (RunInt (pos i) ∷ []) k f g = tt
      fit_vector (RunInt (negsuc i) ∷ []) k f g = tt
      fit_vector (RunInt (pos i) ∷ (v ∷ (u ∷ rest))) k f g = tt
      fit_vector (RunInt (negsuc i) ∷ (v ∷ (u ∷ rest))) k f g = tt
      fit_vector values k f g = tt

      fit_vector_ref : (values : List (CoerValue C)) (k : List (CoerFrame C)) → FitList values → FitFrames k
          → FitAfter (run_vector_ref mode code_arity entered store world values k)
      fit_vector_ref [] k f g = tt
      fit_vector_ref (RunLoc cell true ∷ (RunInt i ∷ [])) k f g =
          fit_some FitList (slice_get store cell) _ (fit_cell store cell fit_store)
          (λ elements p. fit_with_element elements i _ p (λ place v q. (q, g, fit_store)))
      fit_vector_ref (RunWrap vector cast ∷ (index ∷ [])) k f g =
          fit_any (mode.reading cast) _ (λ part. (f.1.0, ((f.0, tt), (tt, g)), fit_store))
      fit_vector_ref (RunWrap vector cast ∷ []) k f g = tt
      fit_vector_ref (RunWrap vector cast ∷ (index ∷ (u ∷ rest))) k f g = tt
      fit_vector_ref _ k f g = tt

      fit_vector_set : (values : List (CoerValue C)) (k : List (CoerFrame C)) → FitList values → FitFrames k
          → FitAfter (run_vector_set mode code_arity entered store world values k)
      fit_vector_set [] k f g = tt
      fit_vector_set (RunLoc cell true ∷ (RunInt i ∷ (v ∷ []))) k f g =
          fit_some FitList (slice_get store cell) _ (fit_cell store cell fit_store)
          (λ elements p. fit_with_element elements i _ p (λ place old q.
          (tt, g, fit_set_cell store cell (slice_set elements place v) fit_store (fit_set elements place v p f.1.1.0))))
      fit_vector_set (RunWrap vector cast ∷ (RunInt i ∷ (v ∷ []))) k f g =
          fit_any (run_cell_behind vector store) _ (λ elements. by_index elements i)
        where
          by_place : (o : Option (CoerValue C)) (place : ℕ)
              → FitAfter (element_or_trap mode code_arity entered store world o place (λ place old.
              on_some (mode.writing cast) (λ part.
              On (Return v) (CastFrame part ∷ PrimFrame VectorSet (RunInt i ∷ vector ∷ []) ∷ k) store world)))
          by_place (Some old) place = fit_any (mode.writing cast) _
              (λ part. (f.1.1.0, (tt, ((tt, (f.0, tt)), g)), fit_store))
          by_place None place = tt

          by_index : (elements : List (CoerValue C)) (j : ℤ)
              → FitAfter (run_with_element mode code_arity entered store world elements j (λ place old.
              on_some (mode.writing cast) (λ part.
              On (Return v) (CastFrame part ∷ PrimFrame VectorSet (RunInt i ∷ vector ∷ []) ∷ k) store world)))
          by_index elements (pos place) = by_place (slice_get elements place) place
          by_index elements (negsuc j) = tt
      fit_vector_set _ k f g = tt

      fit_length : (values : List (CoerValue C)) (k : List (CoerFrame C)) → FitList values → FitFrames k
          → FitAfter (run_vector_length mode code_arity entered store world values k)
      fit_length [] k f g = tt
      fit_length (RunLoc cell true ∷ []) k f g = fit_any (slice_get store cell) _ (λ elements. (tt, g, fit_store))
      fit_length (RunWrap vector cast ∷ []) k f g = (f.0, (tt, g), fit_store)
      fit_length (RunWrap vector cast ∷ (u ∷ rest)) k f g = tt
      fit_length _ k f g = tt

      fit_newline : (values : List (CoerValue C)) (k : List (CoerFrame C)) → FitFrames k
          → FitAfter (run_newline mode code_arity entered store world values k)
      fit_newline [] k g = (tt, g, fit_store)
      fit_newline (v ∷ rest) k g = tt

      fit_reads : (o : Option ℤ) (k : List (CoerFrame C)) → FitFrames k
          → FitAfter (run_reads mode code_arity entered store world o k)
      fit_reads (Some i) k g = (tt, g, fit_store)
      fit_reads None k g = tt

      fit_read : (values : List (CoerValue C)) (k : List (CoerFrame C)) → FitFrames k
          → FitAfter (run_read mode code_arity entered store world values k)
      fit_read [] k g = fit_reads (next_number world) k g
      fit_read (v ∷ rest) k g = tt

      fit_operate : (operator : PrimOp) (values : List (CoerValue C)) (k : List (CoerFrame C)) → FitList values
          → FitFrames k → FitAfter (operate mode code_arity entered store world operator values k)
      fit_operate Add values k f g = fit_on_ints _ values (λ a b. (tt, g, fit_store))
      fit_operate Sub values k f g = fit_on_ints _ values (λ a b. (tt, g, fit_store))
      fit_operate Mul values k f g = fit_on_ints _ values (λ a b. (tt, g, fit_store))
      fit_operate Quot values k f g =
          fit_on_ints _ values (λ a b. fit_if (int_eq b (pos 0)) _ _ tt (tt, g, fit_store))
      fit_operate Rem values k f g =
          fit_on_ints _ values (λ a b. fit_if (int_eq b (pos 0)) _ _ tt (tt, g, fit_store))
      fit_operate Lt values k f g = fit_on_ints _ values (λ a b. (tt, g, fit_store))
      fit_operate Le values k f g = fit_on_ints _ values (λ a b. (tt, g, fit_store))
      fit_operate Eq values k f g = fit_on_ints _ values (λ a b. (tt, g, fit_store))
      fit_operate Ge values k f g = fit_on_ints _ values (λ a b. (tt, g, fit_store))
      fit_operate Gt values k f g = fit_on_ints _ values (λ a b. (tt, g, fit_store))
      fit_operate Not values k f g = fit_on_bool _ values (λ b. (tt, g, fit_store))
      fit_operate PrintInt values k f g = fit_on_int _ values (λ a. (tt, g, fit_store))
      fit_operate Newline values k f g = fit_newline values k g
      fit_operate ReadInt values k f g = fit_read values k g
      fit_operate MakeBox values k f g = fit_box values k f g
      fit_operate Unbox values k f g = fit_unbox values k f g
      fit_operate BoxSet values k f g = fit_box_set values k f g
      fit_operate MakeVector values k f g = fit_vector values k f g
      fit_operate VectorRef values k f g = fit_vector_ref values k f g
      fit_operate VectorSet values k f g = fit_vector_set values k f g
      fit_operate VectorLength values k f g = fit_length values k f g

      -- ---- turns

      fit_finish : (job : Job C) (values : List (CoerValue C)) (k : List (CoerFrame C)) → FitJob job → FitList values
          → FitFrames k → FitAfter (finish mode store world job values k)
      fit_finish (Calling f) values k a b c = ((a, tt, fit_all_plain values b), c, fit_store)
      fit_finish Tupling values k a b c = (fit_row values b, c, fit_store)
      fit_finish (Operating operator) values k a b c = fit_operate operator values k b c

      fit_gather : (job : Job C) (done : List (CoerValue C)) (rest : RowTerms) (env : Env C) (k : List (CoerFrame C))
          → FitJob job → FitList done → FitAll rest → FitEnv env → FitWidth job done (how_many rest) → FitFrames k
          → FitAfter (gather mode store world job done rest env k)
      fit_gather job done NoRowTerms env k a b c d e g = fit_finish job (onto done []) k a (fit_onto done [] b tt) g
      fit_gather job done (RowTermThen term rest) env k a b c d e g =
          ((c.0, d), ((a, b, c.1, d, e), g), fit_store)

      fit_bind_next : (bound : Env C) (rest : RowBindings) (body : RowTerm) (env : Env C) (k : List (CoerFrame C))
          → FitEnv bound → FitBindings rest → FitsIn body → FitEnv env → FitFrames k
          → FitAfter (bind_next mode store world bound rest body env k)
      fit_bind_next bound NoRowBindings body env k a b c d g =
          ((c, fit_append (onto bound []) env (fit_bound bound [] a tt) d), g, fit_store)
      fit_bind_next bound (RowBindingThen name term rest) body env k a b c d g =
          ((b.0, d), ((a, b.1, c, d), g), fit_store)

      fit_choose : (v : CoerValue C) (on_true on_false : RowTerm) (env : Env C) (k : List (CoerFrame C))
          → FitsIn on_true → FitsIn on_false → FitEnv env → FitFrames k
          → FitAfter (choose mode store world v on_true on_false env k)
      fit_choose (RunBool true) on_true on_false env k a b c g = ((a, c), g, fit_store)
      fit_choose (RunBool false) on_true on_false env k a b c g = ((b, c), g, fit_store)
      fit_choose _ on_true on_false env k a b c g = tt

      fit_eval : (term : RowTerm) (env : Env C) (k : List (CoerFrame C)) → FitsIn term → FitEnv env → FitFrames k
          → FitAfter (eval mode store world term env k)
      fit_eval (RowInt i) env k f e g = (tt, g, fit_store)
      fit_eval (RowBool b) env k f e g = (tt, g, fit_store)
      fit_eval RowUnit env k f e g = (tt, g, fit_store)
      fit_eval (RowVar name) env k f e g =
          fit_some FitValue (entry_of name env) _ (fit_entry name env e) (λ v p. (p, g, fit_store))
      fit_eval (RowLambda parameters body type) env k f e g =
          ((f.1, fit_row (env_values env) (fit_env_values env e)), g, fit_store)
      fit_eval (RowGroup members body) env k f e g = (
        (
          f.1.1,
          fit_append (members_in members (env_names env) (in_row (env_values env)) members 0) env
              (fit_members_in members (env_names env) (in_row (env_values env)) members 0 f.1.0
              (fit_row (env_values env) (fit_env_values env e))) e,
        ),
        g,
        fit_store,
      )
      fit_eval (RowLet bindings body) env k f e g = fit_bind_next [] bindings body env k tt f.0 f.1 e g
      fit_eval (RowCall function arguments) env k f e g = ((f.0, e), ((f.1, e), g), fit_store)
      fit_eval (RowIf condition on_true on_false) env k f e g = ((f.0, e), ((f.1, f.2, e), g), fit_store)
      fit_eval (RowSeq NoRowTerms) env k f e g = tt
      fit_eval (RowSeq (RowTermThen term NoRowTerms)) env k f e g = ((f.0, e), g, fit_store)
      fit_eval (RowSeq (RowTermThen term (RowTermThen second rest))) env k f e g =
          ((f.0, e), ((f.1.0, f.1.1, e), g), fit_store)
      fit_eval (RowCast term number) env k f e g =
          fit_any (mode.row number) _ (λ cast. ((f, e), (tt, g), fit_store))
      fit_eval (RowProj term i) env k f e g = ((f, e), (tt, g), fit_store)
      fit_eval (RowProjDyn term i label) env k f e g = ((f, e), (tt, g), fit_store)
      fit_eval (RowTuple parts) env k f e g = fit_gather Tupling [] parts env k tt tt f.1 e f.0 g
      fit_eval (RowPrim operator operands) env k f e g =
          fit_gather (Operating operator) [] operands env k tt tt f e tt g

      width_more : (job : Job C) (v : CoerValue C) (done : List (CoerValue C)) (more : ℕ) → FitWidth job done (suc more)
          → FitWidth job (v ∷ done) more
      width_more Tupling v done more w = omega (arith, w)
      width_more (Calling f) v done more w = tt
      width_more (Operating operator) v done more w = tt

      fit_resume : (v : CoerValue C) (frame : TermFrame C) (k : List (CoerFrame C)) → FitValue v
          → FitFrame (OwnFrame frame) → FitFrames k → FitAfter (resume mode store world v frame k)
      fit_resume v (IfFrame on_true on_false env) k f e g = fit_choose v on_true on_false env k e.0 e.1 e.2 g
      fit_resume v (SeqFrame term rest env) k f e g = (((e.0, e.1), e.2), g, fit_store)
      fit_resume v (FunFrame arguments env) k f e g =
          fit_gather (Calling v) [] arguments env k f tt e.0 e.1 tt g
      fit_resume v (ProjDynFrame i label) k f e g = fit_proj_dyn v i label k f g
      fit_resume v (GatherFrame job done rest env) k f e g =
          fit_gather job (v ∷ done) rest env k e.0 (f, e.1) e.2 e.3
          (width_more job v done (how_many rest) e.4) g
      fit_resume v (LetFrame bound name rest body env) k f e g =
          fit_bind_next ((name, v) ∷ bound) rest body env k (f, e.0) e.1 e.2 e.3 g

      fit_back : (v : CoerValue C) (frame : CoerFrame C) (k : List (CoerFrame C)) → FitValue v → FitFrame frame
          → FitFrames k → FitAfter (back mode store world v frame k)
      fit_back v (CastFrame cast) k f e g = fit_make (mode.cast cast (shape_of code_arity v)) v k f g
      fit_back v (ProjFrame i) k f e g = fit_proj v i k f g
      fit_back v (PrimFrame operator done) k f e g =
          fit_operate operator (onto (v ∷ done) []) k (fit_onto (v ∷ done) [] (f, e) tt) g
      fit_back v (EnterFrame function done todo) k f e g = ((e.0, (f, e.1), e.2), g, fit_store)
      fit_back v (OwnFrame frame) k f e g = fit_resume v frame k f e g

      -- what a turn comes to fits where the state does
      pub fit_turn : (focus : CoerFocus C) (k : List (CoerFrame C)) → FitFocus focus → FitFrames k
          → FitAfter (turn mode store world focus k)
      fit_turn (Own (Eval term env)) k f g = fit_eval term env k f.0 f.1 g
      fit_turn (Return v) [] f g = tt
      fit_turn (Return v) (frame ∷ k) f g = fit_back v frame k f g.0 g.1
      fit_turn (Entering function done todo) k f g = fit_enter function done todo k f.0 f.1 f.2 g

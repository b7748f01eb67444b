-- The run with environments: terms are evaluated, and never substituted into. Casts are made as a mode says.
use Rattle.std.specs.Prelude.{ℕ, zero, suc, ℤ, true, false, if◌then◌else◌, List, [], ◌∷◌, ◌++◌, length, Option}
use Rattle.std.specs.Prelude.{option_map, Some}
use Rattle.std.specs.Prelude.{None}
use Rattle.run_laws.specs.Runs.{Ending, Wrong}
use Rattle.run_laws.specs.Reductions.{Reduction}
use Rattle.grift_base.specs.World.{WorldState}
use Rattle.grift_base.specs.declared.verdicts.Answer.{Answer}
use Rattle.grift_base.specs.declared.operators.PrimOp.{PrimOp}
use Rattle.grift_base.specs.declared.verdicts.Verdict.{Verdict}
use Rattle.core_calc.specs.Substitution.{bind, entry_of}
use Rattle.core_calc.specs.Calculus.{CalcEnd, Answered, Blamed, Trapped, NoStep, ending_of}
use Rattle.cast_modes.specs.Modes.{Mode}
use Rattle.cast_modes.specs.RunValues.{RunValue, RunValues, RunInt, RunBool, RunUnit, RunFun, RunTuple, RunStore}
use Rattle.cast_modes.specs.RunValues.{Pending, all_plain, in_row, row_list, shown}
use Rattle.cast_modes.specs.ValueSteps.{Frame, CastFrame, ProjFrame, PrimFrame, EnterFrame, OwnFrame, Focus, Own}
use Rattle.cast_modes.specs.ValueSteps.{Return, Entering, After, On, BlameOf, TrapOf, NoNext, on_some, onto}
use Rattle.cast_modes.specs.ValueSteps.{run_cast}
use Rattle.cast_modes.specs.ValueSteps.{enter, run_proj, run_proj_dyn, operate}
use Rattle.cast_modes.specs.AnswerTypes.{Told, fits_type}
use Rattle.coer_core.specs.Terms.{RowTerm, RowTerms, RowMembers, RowBindings, RowInt, RowBool, RowUnit, RowVar}
use Rattle.coer_core.specs.Terms.{RowLambda, RowGroup, RowLet, RowCall, RowIf, RowSeq, RowCast, RowProj, RowProjDyn}
use Rattle.coer_core.specs.Terms.{RowTuple, RowPrim, NoRowTerms, RowTermThen, NoRowMembers, RowMemberThen}
use Rattle.coer_core.specs.Terms.{NoRowBindings, RowBindingThen}

-- ---- functions and environments

-- what a function runs, with the names whose values it has
pub data Code : Type 0 where
  -- parameters, body and type of a lambda
  LambdaCode : List ℕ → RowTerm → ℕ → List ℕ → Code
  -- a group, and the place of this member in it
  MemberCode : RowMembers → ℕ → List ℕ → Code

-- the number of parameters of a member
abbrev pub member_width : RowMembers → ℕ → ℕ
member_width NoRowMembers place = 0
member_width (RowMemberThen name parameters body type rest) zero = length parameters
member_width (RowMemberThen name parameters body type rest) (suc place) = member_width rest place

-- the number of parameters
abbrev pub code_arity : Code → ℕ
code_arity (LambdaCode parameters body type names) = length parameters
code_arity (MemberCode group place names) = member_width group place

-- values of this language
abbrev pub CoerValue : Type 0 → Type 0
CoerValue C = RunValue C Code

abbrev pub CoerValues : Type 0 → Type 0
CoerValues C = RunValues C Code

abbrev pub CoerStore : Type 0 → Type 0
CoerStore C = RunStore C Code

abbrev pub CoerPending : Type 0 → Type 0
CoerPending C = Pending C Code

-- names with their values; the first entry of a name counts
abbrev pub Env : Type 0 → Type 0
Env C = List (ℕ × CoerValue C)

-- the names of an environment
abbrev pub env_names : {A : Type 0} → List (ℕ × A) → List ℕ
env_names [] = []
env_names (entry ∷ rest) = entry.0 ∷ env_names rest

-- and its values
abbrev pub env_values : {A : Type 0} → List (ℕ × A) → List A
env_values [] = []
env_values (entry ∷ rest) = entry.1 ∷ env_values rest

-- each name with its value
abbrev pub paired : {A : Type 0} → List ℕ → List A → List (ℕ × A)
paired [] values = []
paired (name ∷ names) [] = []
paired (name ∷ names) (v ∷ values) = (name, v) ∷ paired names values

-- the environment that a function has captured
abbrev pub captured_env : {C : Type 0} → List ℕ → CoerValues C → Env C
captured_env names captured = paired names (row_list captured)

-- the function of a lambda, which captures its environment
abbrev pub closure : {C : Type 0} → List ℕ → RowTerm → ℕ → Env C → CoerValue C
closure parameters body type env = RunFun (LambdaCode parameters body type (env_names env)) (in_row (env_values env))

-- the members from a place on, each as a function of the whole group
abbrev pub members_in : {C : Type 0} → RowMembers → List ℕ → CoerValues C → RowMembers → ℕ → Env C
members_in group names captured NoRowMembers place = []
members_in group names captured (RowMemberThen name parameters body type rest) place =
    (name, RunFun (MemberCode group place names) captured) ∷ members_in group names captured rest (suc place)

-- the environment in which a group's functions are known
abbrev pub group_env : {C : Type 0} → RowMembers → List ℕ → CoerValues C → Env C
group_env group names captured = members_in group names captured group 0 ++ captured_env names captured

-- ---- where the run goes on, and what waits

-- a term in an environment
pub data Evaluation (C : Type 0) : Type 0 where
  Eval : RowTerm → Env C → Evaluation C

-- what is to be done with the values of some terms
pub data Job (C : Type 0) : Type 0 where
  Calling : CoerValue C → Job C
  Tupling : Job C
  Operating : PrimOp → Job C

-- what waits for the value of a part of a term
pub data TermFrame (C : Type 0) : Type 0 where
  -- the branches
  IfFrame : RowTerm → RowTerm → Env C → TermFrame C
  -- the terms that follow
  SeqFrame : RowTerm → RowTerms → Env C → TermFrame C
  -- the arguments of a call
  FunFrame : RowTerms → Env C → TermFrame C
  -- a part of what is in Dyn, with a label
  ProjDynFrame : ℤ → ℕ → TermFrame C
  -- the values so far, the last one first, and the terms that follow
  GatherFrame : Job C → List (CoerValue C) → RowTerms → Env C → TermFrame C
  -- the names bound so far, the last one first; the name that the value is for; what follows
  LetFrame : Env C → ℕ → RowBindings → RowTerm → Env C → TermFrame C

-- frames of this language, where it goes on, and what its steps come to
abbrev pub CoerFrame : Type 0 → Type 0
CoerFrame C = Frame C Code (TermFrame C)

abbrev pub CoerFocus : Type 0 → Type 0
CoerFocus C = Focus C Code (Evaluation C)

abbrev pub CoerAfter : Type 0 → Type 0
CoerAfter C = After C Code (TermFrame C) (Evaluation C)

-- the body of a function, where its parameters are bound to these values
abbrev pub entered_body : {C : Type 0} → List ℕ → RowTerm → Env C → List (CoerValue C) → Option (Evaluation C)
entered_body parameters body env values = option_map (λ bound. Eval body (bound ++ env)) (bind parameters values)

-- the body of the member at a place
abbrev pub entered_member : {C : Type 0} → RowMembers → ℕ → Env C → List (CoerValue C) → Option (Evaluation C)
entered_member NoRowMembers place env values = None
entered_member (RowMemberThen name parameters body type rest) zero env values =
    entered_body parameters body env values
entered_member (RowMemberThen name parameters body type rest) (suc place) env values =
    entered_member rest place env values

-- where a function goes on with what it has captured and its arguments
abbrev pub entered : {C : Type 0} → Code → CoerValues C → List (CoerValue C) → Option (Evaluation C)
entered (LambdaCode parameters body type names) captured values =
    entered_body parameters body (captured_env names captured) values
entered (MemberCode group place names) captured values =
    entered_member group place (group_env group names captured) values

-- ---- turns

module _ {C : Type 0} (mode : Mode C) (store : CoerStore C) (world : WorldState) where
  abbrev runs : CoerFocus C → List (CoerFrame C) → CoerAfter C
  runs focus k = On focus k store world

  -- an operator on values
  abbrev pub operates : PrimOp → List (CoerValue C) → List (CoerFrame C) → CoerAfter C
  operates operator values k = operate mode code_arity entered store world operator values k

  -- the job, where all values are there
  abbrev pub finish : Job C → List (CoerValue C) → List (CoerFrame C) → CoerAfter C
  finish (Calling f) values k = runs (Entering f [] (all_plain values)) k
  finish Tupling values k = runs (Return (RunTuple (in_row values))) k
  finish (Operating operator) values k = operates operator values k

  -- the first of some terms, or the job where there is none
  abbrev pub gather : Job C → List (CoerValue C) → RowTerms → Env C → List (CoerFrame C) → CoerAfter C
  gather job done NoRowTerms env k = finish job (onto done []) k
  gather job done (RowTermThen term rest) env k =
      runs (Own (Eval term env)) (OwnFrame (GatherFrame job done rest env) ∷ k)

  -- the first of some bindings, or the body where there is none
  abbrev pub bind_next : Env C → RowBindings → RowTerm → Env C → List (CoerFrame C) → CoerAfter C
  bind_next bound NoRowBindings body env k = runs (Own (Eval body (onto bound [] ++ env))) k
  bind_next bound (RowBindingThen name term rest) body env k =
      runs (Own (Eval term env)) (OwnFrame (LetFrame bound name rest body env) ∷ k)

  -- the branch of a truth value
  abbrev pub choose : CoerValue C → RowTerm → RowTerm → Env C → List (CoerFrame C) → CoerAfter C
  choose (RunBool true) on_true on_false env k = runs (Own (Eval on_true env)) k
  choose (RunBool false) on_true on_false env k = runs (Own (Eval on_false env)) k
  choose _ on_true on_false env k = NoNext

  -- a term in an environment
  abbrev pub eval : RowTerm → Env C → List (CoerFrame C) → CoerAfter C
  eval (RowInt n) env k = runs (Return (RunInt n)) k
  eval (RowBool b) env k = runs (Return (RunBool b)) k
  eval RowUnit env k = runs (Return RunUnit) k
  eval (RowVar name) env k = on_some (entry_of name env) (λ v. runs (Return v) k)
  eval (RowLambda parameters body type) env k = runs (Return (closure parameters body type env)) k
  eval (RowGroup members body) env k =
      runs (Own (Eval body (members_in members (env_names env) (in_row (env_values env)) members 0 ++ env))) k
  eval (RowLet bindings body) env k = bind_next [] bindings body env k
  eval (RowCall function arguments) env k = runs (Own (Eval function env)) (OwnFrame (FunFrame arguments env) ∷ k)
  eval (RowIf condition on_true on_false) env k =
      runs (Own (Eval condition env)) (OwnFrame (IfFrame on_true on_false env) ∷ k)
  eval (RowSeq NoRowTerms) env k = NoNext
  eval (RowSeq (RowTermThen term NoRowTerms)) env k = runs (Own (Eval term env)) k
  eval (RowSeq (RowTermThen term (RowTermThen second rest))) env k =
      runs (Own (Eval term env)) (OwnFrame (SeqFrame second rest env) ∷ k)
  eval (RowCast term number) env k =
      on_some (mode.row number) (λ cast. runs (Own (Eval term env)) (CastFrame cast ∷ k))
  eval (RowProj term i) env k = runs (Own (Eval term env)) (ProjFrame i ∷ k)
  eval (RowProjDyn term i label) env k = runs (Own (Eval term env)) (OwnFrame (ProjDynFrame i label) ∷ k)
  eval (RowTuple parts) env k = gather Tupling [] parts env k
  eval (RowPrim operator operands) env k = gather (Operating operator) [] operands env k

  -- a value for a frame of a term
  abbrev pub resume : CoerValue C → TermFrame C → List (CoerFrame C) → CoerAfter C
  resume v (IfFrame on_true on_false env) k = choose v on_true on_false env k
  resume v (SeqFrame term rest env) k = runs (Own (Eval (RowSeq (RowTermThen term rest)) env)) k
  resume v (FunFrame arguments env) k = gather (Calling v) [] arguments env k
  resume v (ProjDynFrame i label) k = run_proj_dyn mode code_arity entered store world v i label k
  resume v (GatherFrame job done rest env) k = gather job (v ∷ done) rest env k
  resume v (LetFrame bound name rest body env) k = bind_next ((name, v) ∷ bound) rest body env k

  -- a value for a frame
  abbrev pub back : CoerValue C → CoerFrame C → List (CoerFrame C) → CoerAfter C
  back v (CastFrame cast) k = run_cast mode code_arity entered store world v cast k
  back v (ProjFrame i) k = run_proj mode code_arity entered store world v i k
  back v (PrimFrame operator done) k = operates operator (onto (v ∷ done) []) k
  back v (EnterFrame f done todo) k = runs (Entering f (v ∷ done) todo) k
  back v (OwnFrame frame) k = resume v frame k

  -- one turn; a value that nothing waits for has no next one
  abbrev pub turn : CoerFocus C → List (CoerFrame C) → CoerAfter C
  turn (Own (Eval term env)) k = eval term env k
  turn (Return v) [] = NoNext
  turn (Return v) (frame ∷ k) = back v frame k
  turn (Entering f done todo) k = enter mode code_arity entered store world f done todo k

-- ---- runs

-- a state: where the run is, what waits, the cells, the world, and how the run has ended, if it has
pub record RunState (C : Type 0) : Type 0 where
  pub focus : CoerFocus C
  pub frames : List (CoerFrame C)
  pub store : CoerStore C
  pub world : WorldState
  pub ended : Option CalcEnd

-- a value that nothing waits for is the answer
abbrev pub ended_at : {C : Type 0} → CoerFocus C → List (CoerFrame C) → Option CalcEnd
ended_at (Return v) [] = Some (Answered (shown v))
ended_at _ _ = None

-- the state there
abbrev pub state_at : {C : Type 0} → CoerFocus C → List (CoerFrame C) → CoerStore C → WorldState → RunState C
state_at focus frames store world =
    record { focus = focus; frames = frames; store = store; world = world; ended = ended_at focus frames }

-- the state after a turn from a state came to this
abbrev pub after_turn : {C : Type 0} → RunState C → CoerAfter C → RunState C
after_turn state (On focus frames store world) = state_at focus frames store world
after_turn state (BlameOf label) = record state { ended = Some (Blamed label) }
after_turn state (TrapOf trap world) = record state { world = world; ended = Some (Trapped trap) }
after_turn state NoNext = record state { ended = Some NoStep }

-- how a run ends with an answer: a value that isn't of the program's type is none
abbrev pub answer_ending : {C : Type 0} → Told → Answer → CoerFocus C → Ending Verdict
answer_ending told answer (Return v) =
    if fits_type code_arity told.types v told.answer then ending_of told.labels (Answered answer) else Wrong
answer_ending told answer _ = Wrong

-- how a run ends, by where it has come to
abbrev pub ending_at : {C : Type 0} → Told → CalcEnd → CoerFocus C → Ending Verdict
ending_at told (Answered answer) focus = answer_ending told answer focus
ending_at told (Blamed label) focus = ending_of told.labels (Blamed label)
ending_at told (Trapped trap) focus = ending_of told.labels (Trapped trap)
ending_at told NoStep focus = ending_of told.labels NoStep

-- the run in a mode, told these; it shows its states
abbrev pub running : {C : Type 0} → Mode C → Told → Reduction (RunState C) (RunState C) Verdict
running mode told = record {
  step = λ s. after_turn s (turn mode s.store s.world s.focus s.frames);
  ending = λ s. option_map (λ end. ending_at told end s.focus) s.ended;
  output = λ s. s.world.output;
  shown = λ s. s;
}

-- the state at first: no environment, no cells, no output, none of the input read
abbrev pub run_start : {C : Type 0} → RowTerm → List ℕ → RunState C
run_start term input = state_at (Own (Eval term [])) [] [] (record { output = []; input = input; place = 0 })

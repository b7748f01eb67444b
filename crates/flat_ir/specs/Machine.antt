-- The run of numbered procedures. Casts are made as a mode says.
use Rattle.std.specs.Prelude.{ℕ, ℤ, ◌+◌, ◌-◌, ◌==◌, nat_eq, nat_le, nat_lt, ◌&&◌, true, false, cond, if◌then◌else◌}
use Rattle.std.specs.Prelude.{List, [], ◌∷◌, length, Option, Some, None, slice_get}
use Rattle.run_laws.specs.Runs.{Ending, Verdict as EndsWith, Wrong}
use Rattle.run_laws.specs.Reductions.{Reduction}
use Rattle.grift_base.specs.World.{WorldState}
use Rattle.grift_base.specs.declared.places.Pos.{Pos}
use Rattle.grift_base.specs.declared.verdicts.Verdict.{Verdict}
use Rattle.grift_base.specs.declared.verdicts.Verdict.TheVariants.{Answer as AnswerVerdict, Blame, Trap as TrapVerdict}
use Rattle.grift_base.specs.declared.operators.PrimOp.{PrimOp}
use Rattle.cast_modes.specs.Modes.{Mode}
use Rattle.cast_modes.specs.RunValues.{RunValue, RunValues, RunInt, RunBool, RunUnit, RunFun, RunTuple, RunStore}
use Rattle.cast_modes.specs.RunValues.{in_row, row_list, all_plain, shown}
use Rattle.cast_modes.specs.ValueSteps.{Frame, CastFrame, ProjFrame, PrimFrame, EnterFrame, OwnFrame, Focus, Own}
use Rattle.cast_modes.specs.ValueSteps.{Return, Entering, After, On, BlameOf, TrapOf, NoNext, on_some, onto}
use Rattle.cast_modes.specs.ValueSteps.{run_cast, enter, run_proj, run_proj_dyn, operate}
use Rattle.cast_modes.specs.AnswerTypes.{Told, fits_type}
use Rattle.flat_ir.specs.declared.code.Operand.{Operand}
use Rattle.flat_ir.specs.declared.code.Operand.TheVariants.{Local, Captured, Sibling, Int, Bool as BoolCase}
use Rattle.flat_ir.specs.declared.code.Operand.TheVariants.{Unit as UnitCase}
use Rattle.flat_ir.specs.declared.code.Operation.{Operation}
use Rattle.flat_ir.specs.declared.code.Operation.TheVariants.{Move, Prim, Cast, Tuple, Proj, ProjDyn}
use Rattle.flat_ir.specs.Bodies.{Body, Give, Call, Choose, LetBody, LetGroup, Proc}

-- ---- functions

-- what a function runs: the first procedure of its group, and its place in the group
pub record FlatCode : Type 0 where
  pub first : ℕ
  pub place : ℕ

-- values of this language
abbrev pub FlatValue : Type 0 → Type 0
FlatValue C = RunValue C FlatCode

abbrev pub FlatValues : Type 0 → Type 0
FlatValues C = RunValues C FlatCode

abbrev pub FlatStore : Type 0 → Type 0
FlatStore C = RunStore C FlatCode

-- the group whose procedure runs: its first procedure, and what it has captured
pub record Group (C : Type 0) : Type 0 where
  pub first : ℕ
  pub captured : FlatValues C

-- the group that begins with a procedure and has captured these values
abbrev pub new_group : {C : Type 0} → ℕ → List (FlatValue C) → Group C
new_group first captured = record { first = first; captured = in_row captured }

-- a function of a group
abbrev pub member : {C : Type 0} → Group C → ℕ → FlatValue C
member group place = RunFun (record { first = group.first; place = place }) group.captured

-- ---- what operands stand for

-- the values of local names
abbrev pub Locals : Type 0 → Type 0
Locals C = ℕ → FlatValue C

-- a value, or `()` for what is bound nowhere, which no closed program asks for
abbrev pub or_unit : {C : Type 0} → Option (FlatValue C) → FlatValue C
or_unit (Some v) = v
or_unit None = RunUnit

-- arguments as the first local names
abbrev pub locals_of : {C : Type 0} → List (FlatValue C) → Locals C
locals_of arguments level = or_unit (slice_get arguments level)

-- with a value under this name
abbrev pub set_local : {C : Type 0} → Locals C → ℕ → FlatValue C → Locals C
set_local locals slot v level = cond (nat_eq level slot) v (locals level)

-- with the functions of a group under the names from this one on
abbrev pub set_group : {C : Type 0} → Locals C → ℕ → ℕ → Group C → Locals C
set_group locals slot count group level =
    cond (nat_le slot level && nat_lt level (slot + count)) (member group (level - slot)) (locals level)

module _ {C : Type 0} (locals : Locals C) (group : Group C) where
  abbrev pub value : Operand → FlatValue C
  value (Local level) = locals level
  value (Captured place) = or_unit (slice_get (row_list group.captured) place)
  value (Sibling place) = member group place
  value (Int n) = RunInt n
  value (BoolCase b) = RunBool b
  value UnitCase = RunUnit

  abbrev pub values : List Operand → List (FlatValue C)
  values [] = []
  values (o ∷ rest) = value o ∷ values rest

-- ---- where the run goes on, and what waits

-- a body, with the values of its local names and its group
pub data Place (C : Type 0) : Type 0 where
  Inside : Body → Locals C → Group C → Place C

-- a body that waits for a value, which gets this local name
pub data BodyFrame (C : Type 0) : Type 0 where
  Waiting : ℕ → Body → Locals C → Group C → BodyFrame C

abbrev pub FlatFrame : Type 0 → Type 0
FlatFrame C = Frame C FlatCode (BodyFrame C)

abbrev pub FlatFocus : Type 0 → Type 0
FlatFocus C = Focus C FlatCode (Place C)

abbrev pub FlatAfter : Type 0 → Type 0
FlatAfter C = After C FlatCode (BodyFrame C) (Place C)

-- the number of parameters of a procedure, if it is there
abbrev pub params_of : Option Proc → ℕ
params_of (Some p) = p.params
params_of None = 0

-- the body of a procedure with these arguments, if it is there and takes as many
abbrev pub entered_proc : {C : Type 0} → Option Proc → Group C → List (FlatValue C) → Option (Place C)
entered_proc (Some p) group arguments =
    if length arguments == p.params then Some (Inside p.body (locals_of arguments) group) else None
entered_proc None group arguments = None

module _ (procs : List Proc) where
  -- the number of parameters of a function that runs this
  abbrev pub flat_arity : FlatCode → ℕ
  flat_arity code = params_of (slice_get procs (code.first + code.place))

  -- where a function goes on with what it has captured and its arguments
  abbrev pub flat_entered : {C : Type 0} → FlatCode → FlatValues C → List (FlatValue C) → Option (Place C)
  flat_entered code captured arguments =
      entered_proc (slice_get procs (code.first + code.place)) (record { first = code.first; captured = captured })
      arguments

-- ---- turns

module _ {C : Type 0} (procs : List Proc) (mode : Mode C) (store : FlatStore C) (world : WorldState) where
  abbrev goes_to : FlatFocus C → List (FlatFrame C) → FlatAfter C
  goes_to focus k = On focus k store world

  abbrev pub flat_cast : FlatValue C → C → List (FlatFrame C) → FlatAfter C
  flat_cast v cast k = run_cast mode (flat_arity procs) (flat_entered procs) store world v cast k

  abbrev pub flat_proj : FlatValue C → ℤ → List (FlatFrame C) → FlatAfter C
  flat_proj v i k = run_proj mode (flat_arity procs) (flat_entered procs) store world v i k

  abbrev pub flat_operate : PrimOp → List (FlatValue C) → List (FlatFrame C) → FlatAfter C
  flat_operate operator arguments k =
      operate mode (flat_arity procs) (flat_entered procs) store world operator arguments k

  -- an operation, with the values of local names and the group of the procedure that runs
  abbrev pub perform : Operation → Locals C → Group C → List (FlatFrame C) → FlatAfter C
  perform (Move o) l g k = goes_to (Return (value l g o)) k
  perform (Prim operator os) l g k = flat_operate operator (values l g os) k
  perform (Cast o number) l g k = on_some (mode.row number) (λ cast. flat_cast (value l g o) cast k)
  perform (Tuple os) l g k = goes_to (Return (RunTuple (in_row (values l g os)))) k
  perform (Proj o i) l g k = flat_proj (value l g o) i k
  perform (ProjDyn o i label) l g k =
      run_proj_dyn mode (flat_arity procs) (flat_entered procs) store world (value l g o) i label.0 k

  -- the body of a truth value
  abbrev pub flat_choose : FlatValue C → Body → Body → Locals C → Group C → List (FlatFrame C) → FlatAfter C
  flat_choose (RunBool true) on_true on_false l g k = goes_to (Own (Inside on_true l g)) k
  flat_choose (RunBool false) on_true on_false l g k = goes_to (Own (Inside on_false l g)) k
  flat_choose _ on_true on_false l g k = NoNext

  -- a body
  abbrev pub flat_body : Body → Locals C → Group C → List (FlatFrame C) → FlatAfter C
  flat_body (Give operation) l g k = perform operation l g k
  flat_body (Call f os) l g k = goes_to (Entering (value l g f) [] (all_plain (values l g os))) k
  flat_body (Choose o on_true on_false) l g k = flat_choose (value l g o) on_true on_false l g k
  flat_body (LetBody slot inner rest) l g k = goes_to (Own (Inside inner l g)) (OwnFrame (Waiting slot rest l g) ∷ k)
  flat_body (LetGroup slot first count captured rest) l g k =
      goes_to (Own (Inside rest (set_group l slot count (new_group first (values l g captured))) g)) k

  -- a value for a frame
  abbrev pub flat_back : FlatValue C → FlatFrame C → List (FlatFrame C) → FlatAfter C
  flat_back v (CastFrame cast) k = flat_cast v cast k
  flat_back v (ProjFrame i) k = flat_proj v i k
  flat_back v (PrimFrame operator done) k = flat_operate operator (onto (v ∷ done) []) k
  flat_back v (EnterFrame f done todo) k = goes_to (Entering f (v ∷ done) todo) k
  flat_back v (OwnFrame (Waiting slot rest l g)) k = goes_to (Own (Inside rest (set_local l slot v) g)) k

  -- one turn; a value that nothing waits for has no next one
  abbrev pub flat_turn : FlatFocus C → List (FlatFrame C) → FlatAfter C
  flat_turn (Own (Inside body l g)) k = flat_body body l g k
  flat_turn (Return v) [] = NoNext
  flat_turn (Return v) (frame ∷ k) = flat_back v frame k
  flat_turn (Entering f done todo) k = enter mode (flat_arity procs) (flat_entered procs) store world f done todo k

-- ---- runs

-- a state: where the run is, what waits, the cells, the world, and how the run has ended, if it has
pub record FlatState (C : Type 0) : Type 0 where
  pub focus : FlatFocus C
  pub frames : List (FlatFrame C)
  pub store : FlatStore C
  pub world : WorldState
  pub ended : Option (Ending Verdict)

-- a blame of a label that isn't there has no meaning
abbrev pub blame_ending : Option Pos → Ending Verdict
blame_ending (Some place) = EndsWith (Blame place)
blame_ending None = Wrong

module _ {C : Type 0} (procs : List Proc) (told : Told) where
  -- a value that nothing waits for is the answer; one that isn't of the program's type is none
  abbrev pub answer_at : FlatFocus C → List (FlatFrame C) → Option (Ending Verdict)
  answer_at (Return v) [] =
      Some (if fits_type (flat_arity procs) told.types v told.answer then EndsWith (AnswerVerdict (shown v)) else Wrong)
  answer_at focus frames = None

  -- the state there
  abbrev pub flat_state_at : FlatFocus C → List (FlatFrame C) → FlatStore C → WorldState → FlatState C
  flat_state_at focus frames store world =
      record { focus = focus; frames = frames; store = store; world = world; ended = answer_at focus frames }

  -- the state after a turn from a state came to this
  abbrev pub after_flat : FlatState C → FlatAfter C → FlatState C
  after_flat state (On focus frames store world) = flat_state_at focus frames store world
  after_flat state (BlameOf label) = record state { ended = Some (blame_ending (slice_get told.labels label)) }
  after_flat state (TrapOf trap world) =
      record state { world = world; ended = Some (EndsWith (TrapVerdict trap)) }
  after_flat state NoNext = record state { ended = Some Wrong }

-- the run of procedures in a mode, told these; it shows its states
abbrev pub flat_running : {C : Type 0} → List Proc → Mode C → Told → Reduction (FlatState C) (FlatState C) Verdict
flat_running procs mode told = record {
  step = λ s. after_flat procs told s (flat_turn procs mode s.store s.world s.focus s.frames);
  ending = λ s. s.ended;
  output = λ s. s.world.output;
  shown = λ s. s;
}

-- the body of the procedure of a number; what is no procedure does nothing
abbrev pub entry_body : Option Proc → Body
entry_body (Some p) = p.body
entry_body None = Give (Move UnitCase)

-- the world at first: no output, and none of the input read
abbrev pub first_world : List ℕ → WorldState
first_world input = record { output = []; input = input; place = 0 }

-- the state at first: the body of the procedure that the program begins with, no cells, and the first world
abbrev pub flat_start : {C : Type 0} → List Proc → Told → ℕ → List ℕ → FlatState C
flat_start procs told entry input =
    let body = entry_body (slice_get procs entry) in
    flat_state_at procs told (Own (Inside body (λ level. RunUnit) (new_group 0 []))) [] [] (first_world input)

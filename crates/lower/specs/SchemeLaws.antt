-- What is asked of a scheme: each of its procedures makes some turns of the numbered procedures, in the scheme's mode,
-- in the words that carry their values, and so does what code makes of a word in place, where no procedure is entered.
-- It keeps within what these turns may cost: words are asked for in a turn that asks for as many, frames have the room
-- that the scheme tells, and the budget that a turn leaves is a credit for later turns and, at the end, for the code
-- that called.
use Rattle.std.specs.Prelude.{◌≡◌, ◌⊎◌, ℕ, zero, suc, ◌+◌, ◌*◌, ◌%◌, ◌^◌, ◌<◌, ◌≤◌, ℤ, List, [], ◌∷◌, ◌++◌, length}
use Rattle.std.specs.Prelude.{Some, slice_get}
use Rattle.std.specs.Int.{w64, cast_unsigned, int_wrap}
use Rattle.grift_base.specs.declared.places.Pos.{Pos}
use Rattle.grift_base.specs.declared.operators.PrimOp.{PrimOp}
use Rattle.grift_base.specs.declared.operators.PrimOp.TheVariants.{Unbox, BoxSet, MakeVector, VectorRef, VectorSet}
use Rattle.grift_base.specs.declared.operators.PrimOp.TheVariants.{VectorLength}
use Rattle.grift_base.specs.declared.verdicts.Verdict.{Verdict}
use Rattle.grift_base.specs.declared.verdicts.Verdict.TheVariants.{Blame, Trap as TrapVerdict}
use Rattle.run_laws.specs.Runs.{Ending, Verdict as EndsWith}
use Rattle.run_laws.specs.Machines.{Stop, Reaches}
use Rattle.machine_words.specs.Halts.{ending_of}
use Rattle.low_ir.specs.declared.code.LowSource.{LowSource}
use Rattle.low_ir.specs.Procedures.{Code, Proc as LowProc, Return as ReturnCode, CallAt}
use Rattle.low_ir.specs.Run.{Setting, Waiting, LowState, low_machine, with_local, word_of, words_of, entered}
use Rattle.low_ir.specs.Prices.{CostsAtMost}
use Rattle.core_calc.specs.Account.{Measures, StepKind}
use Rattle.flat_ir.specs.FlatTally.{flat_cost, act_cost, cast_cost, operator_cost}
use Rattle.cast_modes.specs.Prices.{Cost, Prices}
use Rattle.cast_modes.specs.Modes.{Mode, TypeCast}
use Rattle.cast_modes.specs.RunValues.{RunFun, RunWrap, in_row, all_plain}
use Rattle.cast_modes.specs.ValueSteps.{CastFrame, Own, Return, Entering, On, BlameOf, TrapOf, NoNext, casts_onto}
use Rattle.cast_modes.specs.ValueSteps.{run_proj_dyn}
use Rattle.coercion_norm.specs.Objects.{Object}
use Rattle.coercion_norm.specs.Held.{Layout}
use Rattle.flat_ir.specs.Bodies.{Proc}
use Rattle.flat_ir.specs.Counts.{decision_at, flat_turn_wraps}
use Rattle.cast_modes.specs.ValueSteps.{decision_wraps}
use Rattle.flat_ir.specs.Machine.{FlatCode, FlatValue, FlatValues, FlatFocus, FlatFrame, FlatStore, FlatAfter, Inside}
use Rattle.flat_ir.specs.Machine.{locals_of}
use Rattle.flat_ir.specs.Machine.{flat_turn, flat_cast, flat_proj, flat_operate, flat_arity, flat_entered}
use Rattle.lowered_code.specs.declared.served.Served.{Served}
use Rattle.lowered_code.specs.CastWays.{way_at, in_place}
use Rattle.lowered_code.specs.Emit.{cast_word}
use Rattle.lower.specs.Meanings.{Meaning}
use Rattle.low_ir.specs.Frames.{stack_room}
use Rattle.rt_cast.specs.States.{Heap, heap_of}
use Rattle.lower.specs.Storage.{Filled}
use Rattle.lower.specs.CarriedValues.{IsCarried, AreCarried, CellsHeld}
use Rattle.lower.specs.SimulationServices.{StandsAs}

-- ---- what is left of the budgets at the end, for the code that called and for the return, in instructions

-- of a cast, by the procedure or in place
abbrev pub cast_leaves : ℕ
cast_leaves = 244

-- of an operator on boxes and vectors
abbrev pub operator_leaves : ℕ
operator_leaves = 560

-- of a part of a tuple, or of what is in Dyn
abbrev pub part_leaves : ℕ
part_leaves = 300

-- of a call through wrappers, where the function is about to be entered
abbrev pub call_leaves : ℕ
call_leaves = 800

-- where a procedure of the scheme has gone on with what a function gave
abbrev pub resumed_leaves : ℕ
resumed_leaves = 100

-- the word at a place, 0 where there is none
abbrev pub at_or_zero : List ℕ → ℕ → ℕ
at_or_zero ws i = cast_word (slice_get ws i)

module _ (meaning : Meaning) (setting : Setting) (l : Layout) (procs : List Proc) (casts : List TypeCast)
    (m : Measures) where
  abbrev pub mode_here : Mode meaning.Cast
  mode_here = meaning.mode l.types casts

  abbrev pub prices_here : Prices StepKind meaning.Cast
  prices_here = meaning.prices l.types casts m

  abbrev pub CarriedAt : List ℕ → List Object → FlatValue meaning.Cast → ℕ → Type 0
  CarriedAt places objects v w = IsCarried l setting.address procs meaning places objects v w

  abbrev pub AllCarriedAt : List ℕ → List Object → FlatValues meaning.Cast → List ℕ → Type 0
  AllCarriedAt places objects vs ws = AreCarried l setting.address procs meaning places objects vs ws

  -- the region holds these objects, and in them the cells of the store
  pub record Here (places : List ℕ) (objects : List Object) (store : FlatStore meaning.Cast) (number : ℕ) (h : Heap)
      : Type 0 where
    pub filled : Filled meaning setting l number objects h
    pub cells : CellsHeld l setting.address procs meaning places objects h.memory places store

  -- on the way of a procedure that was entered from s, in a turn that began in t and asks for so many words, where the
  -- number is one of both; its frame and those above it take no more room than the scheme tells, beside that of s,
  -- whose active procedure is counted too, though another may have its place
  pub record OnWay (s t : LowState) (asks before after : ℕ) (u : LowState) : Type 0 where
    pub objects : List Object
    pub filled : Filled meaning setting l before objects (heap_of u) ⊎ Filled meaning setting l after objects
        (heap_of u)
    pub same : u.world ≡ s.world
    pub room : stack_room u ≤ stack_room s + 25 * (1 + meaning.serving l)
    pub asked : u.words ≤ t.words + asks

  -- the next step stops so
  pub record StopsNow (s : LowState) (number : ℕ) (e : Ending Verdict) (t : LowState) : Type 0 where
    pub last : LowState
    pub stops : (low_machine ending_of setting).step t ≡ Stop e last
    pub here : (objects : List Object) × Filled meaning setting l number objects (heap_of t)
    pub after : (objects : List Object) × Filled meaning setting l number objects (heap_of last)
    pub same : t.world ≡ s.world
    pub same_after : last.world ≡ s.world

  -- what the numbered procedures come to: where they go on, with these frames, this store and so many wrap steps, and
  -- what is left of the budgets of their turns
  abbrev pub Aim : Type 1
  Aim = FlatFocus meaning.Cast → List (FlatFrame meaning.Cast) → FlatStore meaning.Cast → ℕ → ℕ → LowState → Type 0

  module _ (s : LowState) where
    -- in a turn that begins here and asks for so many words, some steps that cost no more than a credit, to where Q
    -- holds of what is left of it; frames take no more room there either
    abbrev pub Walks : ℕ → ℕ → ℕ → ℕ → (ℕ → LowState → Type 0) → LowState → Type 0
    Walks asks credit before after Q t =
        (k price left : ℕ) × (price + left ≤ credit) × CostsAtMost ending_of setting k t price
        × Reaches (low_machine ending_of setting) (OnWay s t asks before after)
        (λ u. (u.words ≤ t.words + asks) × (stack_room u ≤ stack_room s + 25 * (1 + meaning.serving l)) × Q left u) k t

    -- a turn at this cost that came to this, with so much credit before and so many wrap steps; nothing is asked where
    -- the numbered procedures go wrong
    abbrev pub After : Aim → FlatAfter meaning.Cast → Cost → ℕ → ℕ → ℕ → LowState → Type 0
    After aim (On focus frames store world) cost credit number wraps t =
        (world ≡ s.world)
        × Walks cost.asks (credit + cost.budget) number (number + wraps) (aim focus frames store (number + wraps)) t
    After aim (BlameOf label) cost credit number wraps t =
        (wraps ≡ 0)
        × ((place : Pos) → slice_get setting.labels label ≡ Some place
        → Walks cost.asks (credit + cost.budget) number number
        (λ left. StopsNow s number (EndsWith (Blame place))) t)
    After aim (TrapOf trap world) cost credit number wraps t =
        (wraps ≡ 0) × (world ≡ s.world)
        × Walks cost.asks (credit + cost.budget) number number
        (λ left. StopsNow s number (EndsWith (TrapVerdict trap))) t
    After aim NoNext cost credit number wraps t = wraps ≡ 0

    -- the numbered procedures haven't come to an answer
    abbrev pub IsPending : FlatFocus meaning.Cast → List (FlatFrame meaning.Cast) → Type 0
    IsPending (Return v) [] = ⊥
    IsPending focus frames = Unit {0}

    -- so many turns more, each with some steps of the procedure or none
    abbrev pub Goes : Aim → ℕ → Aim
    Goes aim zero focus frames store number credit t = aim focus frames store number credit t
    Goes aim (suc i) focus frames store number credit t =
        IsPending focus frames × OnWay s t 0 number number t
        × After (Goes aim i) (flat_turn procs mode_here store s.world focus frames)
        (flat_cost procs mode_here prices_here focus frames) credit number
        (flat_turn_wraps procs mode_here focus frames) t

    -- a turn at this cost that came to this, with no credit before, and some turns more
    abbrev pub Serves : Aim → FlatAfter meaning.Cast → Cost → ℕ → ℕ → LowState → Type 0
    Serves aim x cost number wraps t = (i : ℕ) × After (Goes aim i) x cost 0 number wraps t

  -- a return of a word that carries the value, with objects and cells only added, and with the same procedures waiting
  pub record ReturnsAt (s : LowState) (places : List ℕ) (objects : List Object) (u : FlatValue meaning.Cast)
      (store : FlatStore meaning.Cast) (number : ℕ) (t : LowState) : Type 0 where
    pub cells : List ℕ
    pub more : List Object
    pub here : Here (places ++ cells) (objects ++ more) store number (heap_of t)
    pub word : ℕ
    pub carried : CarriedAt (places ++ cells) (objects ++ more) u word
    pub source : LowSource
    pub code : t.active.code ≡ ReturnCode source
    pub is : word_of t.active.locals source ≡ Some word
    pub waits : t.waiting ≡ s.waiting
    pub same : t.world ≡ s.world

  -- so much is left
  abbrev pub Returns : LowState → ℕ → List ℕ → List Object → List (FlatFrame meaning.Cast) → Aim
  Returns s leaves places objects base (Return u) frames store number left t =
      (frames ≡ base) × (leaves ≤ left) × ReturnsAt s places objects u store number t
  Returns s leaves places objects base _ frames store number left t = ⊥

  -- the state is as it was: a value comes back that this word carries, where the same objects stand
  abbrev pub GivesInPlace : LowState → List ℕ → List Object → List (FlatFrame meaning.Cast) → ℕ → Aim
  GivesInPlace s places objects base word (Return u) frames store number left t =
      (t ≡ s) × (frames ≡ base) × (cast_leaves ≤ left) × Here places objects store number (heap_of s)
      × CarriedAt places objects u word
  GivesInPlace s places objects base word _ frames store number left t = ⊥

  -- a function without wrappers is about to be entered with these values, and one more procedure waits, which makes
  -- these casts of what it gives
  pub record CallsAt (s : LowState) (places : List ℕ) (objects : List Object) (code : FlatCode)
      (captured : FlatValues meaning.Cast) (values : List (FlatValue meaning.Cast))
      (base frames : List (FlatFrame meaning.Cast)) (store : FlatStore meaning.Cast) (number : ℕ) (t : LowState)
      : Type 0 where
    pub cells : List ℕ
    pub more : List Object
    pub here : Here (places ++ cells) (objects ++ more) store number (heap_of t)
    pub cast : meaning.Cast
    pub results : List meaning.Cast
    pub frames_are : frames ≡ CastFrame cast ∷ casts_onto results base
    pub own : ℕ
    pub words : List ℕ
    pub function : CarriedAt (places ++ cells) (objects ++ more) (RunFun code captured) own
    pub arguments : AllCarriedAt (places ++ cells) (objects ++ more) (in_row values) words
    pub d : ℕ
    pub at : LowSource
    pub sources : List LowSource
    pub rest : Code
    pub is : t.active.code ≡ CallAt d at sources rest
    pub address : word_of t.active.locals at ≡ Some (setting.address (code.first + code.place))
    pub handed : words_of t.active.locals sources ≡ Some (own ∷ words)
    pub resumes : meaning.Resumes setting l (objects ++ more)
        (record { rest = record t.active { code = rest }; answer = d }) (cast ∷ results)
    pub room : d < t.active.count
    pub waits : t.waiting ≡ s.waiting
    pub same : t.world ≡ s.world

  -- in the turn in which its body is entered
  abbrev pub Calls : LowState → List ℕ → List Object → List (FlatFrame meaning.Cast) → Aim
  Calls s places objects base (Own (Inside body locals group)) frames store number left t =
      (code : FlatCode) × (captured : FlatValues meaning.Cast) × (values : List (FlatValue meaning.Cast)) × (p : Proc)
      × (slice_get procs (code.first + code.place) ≡ Some p) × (length values ≡ p.params) × (body ≡ p.body)
      × (locals ≡ locals_of values) × (group ≡ record { first = code.first; captured = captured })
      × (call_leaves ≤ left) × CallsAt s places objects code captured values base frames store number t
  Calls s places objects base (Return v) frames store number left t = ⊥
  Calls s places objects base (Entering f done todo) frames store number left t = ⊥

  -- ---- what each procedure is asked for, entered with these words from any state

  -- for a turn at this cost that came to this; so much is left at the end
  abbrev pub Answers : LowState → ℕ → List ℕ → List Object → List (FlatFrame meaning.Cast)
      → FlatAfter meaning.Cast → Cost → ℕ → ℕ → LowState → Type 0
  Answers s leaves places objects base x cost number wraps t =
      Serves s (Returns s leaves places objects base) x cost number wraps t

  module _ (run : Served) where
    pub record CastsMade : Type 0 where
      pub proc : LowProc
      pub stands : StandsAs setting run.cast proc 2
      pub makes : (s : LowState) (number : ℕ) (places : List ℕ) (objects : List Object)
          (store : FlatStore meaning.Cast) → Here places objects store number (heap_of s)
          → (base : List (FlatFrame meaning.Cast)) (row : ℕ) (cast : meaning.Cast) → mode_here.row row ≡ Some cast
          → (v : FlatValue meaning.Cast) (w : ℕ) → CarriedAt places objects v w
          → Answers s cast_leaves places objects base
          (flat_cast procs mode_here store s.world v cast base)
          (cast_cost procs mode_here prices_here (Some cast) v) number
          (decision_wraps (decision_at procs mode_here (Some cast) v))
          (entered s proc (w ∷ cast_word (slice_get run.cast_at row) ∷ []))

    -- what is handed on for each cast is below 2^64
    abbrev pub CastsHaveWords : Type 0
    CastsHaveWords =
        (row : ℕ) (cast : meaning.Cast) → mode_here.row row ≡ Some cast → cast_word (slice_get run.cast_at row) < 2 ^ 64

    -- what code makes of a word in place carries what the cast makes of the word's value; no procedure is entered, and
    -- in a mode that takes several turns for a cast all of them pass
    abbrev pub CastsInPlace : Type 0
    CastsInPlace =
        (s : LowState) (number : ℕ) (places : List ℕ) (objects : List Object) (store : FlatStore meaning.Cast)
        → Here places objects store number (heap_of s) → (base : List (FlatFrame meaning.Cast)) (row : ℕ)
        (cast : meaning.Cast) → mode_here.row row ≡ Some cast → (v : FlatValue meaning.Cast) (w : ℕ)
        → CarriedAt places objects v w → (word : ℕ) → in_place (way_at (slice_get run.ways row)) w ≡ Some word
        → Serves s (GivesInPlace s places objects base word)
        (flat_cast procs mode_here store s.world v cast base) (cast_cost procs mode_here prices_here (Some cast) v)
        number (decision_wraps (decision_at procs mode_here (Some cast) v)) s

    -- parts of tuples, in wrappers or not, and of values in Dyn
    pub record PartsGiven : Type 0 where
      pub proc : LowProc
      pub stands : StandsAs setting run.project proc 4
      pub gives : (s : LowState) (number : ℕ) (places : List ℕ) (objects : List Object)
          (store : FlatStore meaning.Cast) → Here places objects store number (heap_of s)
          → (base : List (FlatFrame meaning.Cast)) (v : FlatValue meaning.Cast) (cast : meaning.Cast) (w : ℕ)
          → CarriedAt places objects (RunWrap v cast) w → (part : ℤ) (label : ℕ)
          → Answers s part_leaves places objects base
          (flat_proj procs mode_here store s.world (RunWrap v cast) part base)
          (act_cost procs mode_here prices_here) number 0 (entered s proc
          (w ∷ cast_unsigned w64 part % 2 ^ 64 ∷ 1 ∷ label ∷ []))
      pub gives_dyn : (s : LowState) (number : ℕ) (places : List ℕ) (objects : List Object)
          (store : FlatStore meaning.Cast) → Here places objects store number (heap_of s)
          → (base : List (FlatFrame meaning.Cast)) (v : FlatValue meaning.Cast) (w : ℕ) → CarriedAt places objects v w
          → (part : ℤ) (label : ℕ) → label < 2 ^ 64 → int_wrap w64 part ≡ part
          → Answers s part_leaves places objects base
          (run_proj_dyn mode_here (flat_arity procs) (flat_entered procs) store s.world v part label base)
          prices_here.part number 0
          (entered s proc (w ∷ cast_unsigned w64 part % 2 ^ 64 ∷ 0 ∷ label ∷ []))

    -- of an operator on boxes only those in wrappers are handed on
    abbrev pub IsHandedOn : PrimOp → List (FlatValue meaning.Cast) → Type 0
    IsHandedOn Unbox vs =
        (v : FlatValue meaning.Cast) × (cast : meaning.Cast) × (rest : List (FlatValue meaning.Cast))
        × (vs ≡ RunWrap v cast ∷ rest)
    IsHandedOn BoxSet vs =
        (v : FlatValue meaning.Cast) × (cast : meaning.Cast) × (rest : List (FlatValue meaning.Cast))
        × (vs ≡ RunWrap v cast ∷ rest)
    IsHandedOn operator vs = Unit {0}

    -- an operator on such values, by the procedure of a number, which is handed the words that are told for theirs
    pub record OperatorDone (operator : PrimOp) (proc : LowProc) (handed : List ℕ → List ℕ) : Type 0 where
      pub does : (s : LowState) (number : ℕ) (places : List ℕ) (objects : List Object)
          (store : FlatStore meaning.Cast) → Here places objects store number (heap_of s)
          → (base : List (FlatFrame meaning.Cast)) (vs : List (FlatValue meaning.Cast)) (ws : List ℕ)
          → AllCarriedAt places objects (in_row vs) ws → IsHandedOn operator vs
          → Answers s operator_leaves places objects base
          (flat_operate procs mode_here store s.world operator vs base)
          (operator_cost procs mode_here prices_here operator vs) number 0 (entered s proc (handed ws))

    pub record CellsServed : Type 0 where
      pub read : LowProc
      pub read_stands : StandsAs setting run.read read 3
      pub unboxes : OperatorDone Unbox read (λ ws. 0 ∷ at_or_zero ws 0 ∷ 0 ∷ [])
      pub reads : OperatorDone VectorRef read (λ ws. 1 ∷ at_or_zero ws 0 ∷ at_or_zero ws 1 ∷ [])
      pub measures : OperatorDone VectorLength read (λ ws. 2 ∷ at_or_zero ws 0 ∷ 0 ∷ [])
      pub write : LowProc
      pub write_stands : StandsAs setting run.write write 4
      pub sets : OperatorDone BoxSet write (λ ws. 0 ∷ at_or_zero ws 0 ∷ 0 ∷ at_or_zero ws 1 ∷ [])
      pub writes : OperatorDone VectorSet write
          (λ ws. 1 ∷ at_or_zero ws 0 ∷ at_or_zero ws 1 ∷ at_or_zero ws 2 ∷ [])
      pub fill : LowProc
      pub fill_stands : StandsAs setting run.fill fill 2
      pub fills : OperatorDone MakeVector fill (λ ws. at_or_zero ws 0 ∷ at_or_zero ws 1 ∷ [])

    -- calls of functions in wrappers, and what waits for their answers
    pub record CallsMade : Type 0 where
      pub proc : LowProc
      pub stands : StandsAs setting run.apply proc 8
      pub calls : (s : LowState) (number : ℕ) (places : List ℕ) (objects : List Object)
          (store : FlatStore meaning.Cast) → Here places objects store number (heap_of s)
          → (base : List (FlatFrame meaning.Cast)) (v : FlatValue meaning.Cast) (cast : meaning.Cast) (w : ℕ)
          → CarriedAt places objects (RunWrap v cast) w → (vs : List (FlatValue meaning.Cast)) (ws : List ℕ)
          → AllCarriedAt places objects (in_row vs) ws → length vs ≤ 6
          → Serves s (Calls s places objects base)
          (flat_turn procs mode_here store s.world (Entering (RunWrap v cast) [] (all_plain vs)) base)
          (act_cost procs mode_here prices_here) number 0
          (entered s proc (w ∷ at_or_zero ws 0 ∷ at_or_zero ws 1 ∷ at_or_zero ws 2 ∷ at_or_zero ws 3
          ∷ at_or_zero ws 4 ∷ at_or_zero ws 5 ∷ length ws ∷ []))
      -- the word that comes back is in its place; s is what was there before it came
      pub goes_on : (s : LowState) (number : ℕ) (places : List ℕ) (objects : List Object)
          (store : FlatStore meaning.Cast) → Here places objects store number (heap_of s)
          → (base : List (FlatFrame meaning.Cast)) (waiting : Waiting) (cast : meaning.Cast)
          (results : List meaning.Cast) → meaning.Resumes setting l objects waiting (cast ∷ results)
          → (v : FlatValue meaning.Cast) (w : ℕ) → CarriedAt places objects v w
          → (waiting.answer < waiting.rest.count)
          × Answers s resumed_leaves places objects base
          (flat_cast procs mode_here store s.world v cast (casts_onto results base))
          (cast_cost procs mode_here prices_here (Some cast) v) number
          (decision_wraps (decision_at procs mode_here (Some cast) v))
          (record s { active = with_local waiting.answer w waiting.rest })

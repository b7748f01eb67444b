-- The account of a run of numbered procedures: what each turn asks for, and its budget in instructions. One definition
-- serves both modes, over what casts and other turns cost there.
use Rattle.std.specs.Prelude.{ℕ, pos, ◌+◌, ◌*◌, ◌≤◌, max, List, [], ◌∷◌, length, Option, Some, None}
use Rattle.run_laws.specs.Runs.{Run}
use Rattle.run_laws.specs.Reductions.{Reduction, reduction_run}
use Rattle.grift_base.specs.declared.operators.PrimOp.{PrimOp}
use Rattle.grift_base.specs.declared.operators.PrimOp.TheVariants.{MakeVector}
use Rattle.grift_base.specs.declared.verdicts.Verdict.{Verdict}
use Rattle.core_calc.specs.Redex.{where_some}
use Rattle.core_calc.specs.Account.{StepKind, Makes, MakesVector, Acts, operator_kind as step_kind, Account}
use Rattle.cast_modes.specs.Modes.{Mode}
use Rattle.cast_modes.specs.RunValues.{Pending, RunInt, RunWrap, shape_of}
use Rattle.cast_modes.specs.ValueSteps.{CastFrame, ProjFrame, PrimFrame, EnterFrame, OwnFrame, Own, Return, Entering}
use Rattle.cast_modes.specs.ValueSteps.{onto}
use Rattle.cast_modes.specs.AnswerTypes.{Told}
use Rattle.cast_modes.specs.Prices.{Cost, no_cost, Prices}
use Rattle.flat_ir.specs.declared.code.Operation.{Operation}
use Rattle.flat_ir.specs.declared.code.Operation.TheVariants.{Move, Prim, Cast, Tuple, Proj, ProjDyn}
use Rattle.flat_ir.specs.Bodies.{Body, Give, Call, Choose, LetBody, LetGroup, Proc}
use Rattle.flat_ir.specs.Counts.{tuple_words}
use Rattle.flat_ir.specs.Machine.{FlatCode, FlatValue, FlatFrame, FlatFocus, FlatState, Inside, Waiting, Locals, Group}
use Rattle.flat_ir.specs.Machine.{value, values, flat_arity, flat_running, flat_start}

-- ---- what a turn of the procedures costs

abbrev pub made_vector : {C : Type 0} → List (FlatValue C) → StepKind
made_vector (RunInt (pos k) ∷ rest) = MakesVector k
made_vector _ = Acts

abbrev pub operator_kind : {C : Type 0} → PrimOp → List (FlatValue C) → StepKind
operator_kind MakeVector vs = made_vector vs
operator_kind operator vs = step_kind operator []

module _ {C : Type 0} (procs : List Proc) (mode : Mode C) (prices : Prices StepKind C) where
  abbrev pub act_cost : Cost
  act_cost = prices.other (Some Acts) 0 0

  abbrev pub cast_cost : Option C → FlatValue C → Cost
  cast_cost (Some cast) v = prices.cast cast (shape_of (flat_arity procs) v)
  cast_cost None v = no_cost

  abbrev pub operator_cost : PrimOp → List (FlatValue C) → Cost
  operator_cost operator vs = prices.other (Some (operator_kind operator vs)) 0 0

  -- a name or a constant alone costs nothing here: it is counted apart
  abbrev pub operation_cost : Operation → Locals C → Group C → Cost
  operation_cost (Move o) l g = no_cost
  operation_cost (Prim operator os) l g = operator_cost operator (values l g os)
  operation_cost (Cast o number) l g = cast_cost (mode.row number) (value l g o)
  operation_cost (Tuple os) l g = prices.other (Some Makes) (tuple_words os) 0
  operation_cost (Proj o i) l g = act_cost
  operation_cost (ProjDyn o i label) l g = prices.part

  abbrev pub body_cost : Body → Locals C → Group C → Cost
  body_cost (Give operation) l g = operation_cost operation l g
  body_cost (Call f os) l g = act_cost
  body_cost (Choose o on_true on_false) l g = act_cost
  body_cost (LetBody slot inner rest) l g = no_cost
  body_cost (LetGroup slot first count captured rest) l g =
      prices.other (Some Makes) (2 * count + length captured) (2 * count + length captured)

  -- a value for a frame
  abbrev pub back_cost : FlatValue C → FlatFrame C → Cost
  back_cost v (CastFrame cast) = cast_cost (Some cast) v
  back_cost v (ProjFrame i) = act_cost
  back_cost v (PrimFrame operator done) = operator_cost operator (onto (v ∷ done) [])
  back_cost v (EnterFrame f done todo) = no_cost
  back_cost v (OwnFrame (Waiting slot rest l g)) = no_cost

  -- of a function that is no wrapper: the arguments that are to be gone over
  abbrev pub plain_cost : List (Pending C FlatCode) → Cost
  plain_cost [] = act_cost
  plain_cost (p ∷ todo) = no_cost

  abbrev pub enter_cost : FlatValue C → List (Pending C FlatCode) → Cost
  enter_cost (RunWrap f cast) todo = act_cost
  enter_cost f todo = plain_cost todo

  abbrev pub flat_cost : FlatFocus C → List (FlatFrame C) → Cost
  flat_cost (Own (Inside body l g)) k = body_cost body l g
  flat_cost (Return v) [] = no_cost
  flat_cost (Return v) (frame ∷ k) = back_cost v frame
  flat_cost (Entering f done todo) k = enter_cost f todo

-- 1 for a body that is a name or a constant
abbrev pub flat_atoms : {C : Type 0} → FlatFocus C → ℕ
flat_atoms (Own (Inside (Give (Move o)) l g)) = 1
flat_atoms _ = 0

-- ---- runs

-- what is shown: turns that make a step, bodies that are a name or a constant, the words asked for so far, the words
-- that the next turn asks for, the frames that are active, the most that were so far, and the sum of the budgets so far
pub record FlatTally : Type 0 where
  pub acts : ℕ
  pub atoms : ℕ
  pub words : ℕ
  pub asks : ℕ
  pub frames : ℕ
  pub deepest : ℕ
  pub paid : ℕ

-- a state with what was added up so far, and the most frames that were active before it
pub record FlatTallied (C : Type 0) : Type 0 where
  pub acts : ℕ
  pub atoms : ℕ
  pub words : ℕ
  pub deepest : ℕ
  pub paid : ℕ
  pub state : FlatState C

abbrev pub flat_untallied : {C : Type 0} → FlatState C → FlatTallied C
flat_untallied state = record { acts = 0; atoms = 0; words = 0; deepest = 0; paid = 0; state = state }

module _ {C : Type 0} (procs : List Proc) (mode : Mode C) (prices : Prices StepKind C) where
  abbrev pub cost_of_turn : FlatState C → Cost
  cost_of_turn state = flat_cost procs mode prices state.focus state.frames

  abbrev pub flat_tally_of : FlatTallied C → FlatTally
  flat_tally_of s = record {
    acts = s.acts;
    atoms = s.atoms;
    words = s.words;
    asks = where_some s.state.ended 0 (cost_of_turn s.state).asks;
    frames = length s.state.frames;
    deepest = max s.deepest (length s.state.frames);
    paid = s.paid;
  }

  -- a name or a constant has 64 instructions
  abbrev pub next_flat_tally : FlatTallied C → FlatState C → FlatTallied C
  next_flat_tally s next = record {
    acts = s.acts + (cost_of_turn s.state).acts;
    atoms = s.atoms + flat_atoms s.state.focus;
    words = s.words + (cost_of_turn s.state).asks;
    deepest = max s.deepest (length s.state.frames);
    paid = s.paid + (cost_of_turn s.state).budget + 64 * flat_atoms s.state.focus;
    state = next;
  }

  -- the run in the mode with its account
  abbrev pub flat_tallying : Told → Reduction (FlatTallied C) FlatTally Verdict
  flat_tallying told = record {
    step = λ s. next_flat_tally s ((flat_running procs mode told).step s.state);
    ending = λ s. (flat_running procs mode told).ending s.state;
    output = λ s. (flat_running procs mode told).output s.state;
    shown = λ s. flat_tally_of s;
  }

-- the account of procedures, of which the one with this number begins
abbrev pub flat_tally_in : {C : Type 0} → List Proc → ℕ → Mode C → Prices StepKind C → Told → List ℕ
    → Run FlatTally Verdict
flat_tally_in procs entry mode prices told input =
    reduction_run (flat_tallying procs mode prices told) (flat_untallied (flat_start procs told entry input))

abbrev pub flat_reach : FlatTally → ℕ
flat_reach flat = flat.words + flat.asks

-- ---- against the account of the calculus

-- with so many frames more than contexts were pending at one time
pub record FlatBelow (more : ℕ) (flat : FlatTally) (account : Account) : Type 0 where
  pub reach : flat_reach flat ≤ account.words + account.charge
  pub asks : flat.asks ≤ account.charge
  pub frames : flat.frames ≤ account.depth + more

-- the instructions are within the calculus's work, with 64 to spare for each step
abbrev pub FlatPaidBelow : FlatTally → Account → Type 0
FlatPaidBelow flat account = flat.paid + 64 * account.steps + 960 ≤ 64 * account.work

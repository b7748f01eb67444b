-- The account of a run with environments: what its turns may ask for, how long they may take and how deep they go, in
-- the words of the calculus's account. Turns that only go over a term, hand a value back or go over arguments cost
-- nothing here.
use Rattle.std.specs.Prelude.{ℕ, pos, ◌+◌, ◌*◌, ◌≤◌, List, [], ◌∷◌, length, Option, Some, None}
use Rattle.run_laws.specs.Runs.{Run}
use Rattle.run_laws.specs.Reductions.{Reduction, reduction_run}
use Rattle.grift_base.specs.declared.operators.PrimOp.{PrimOp}
use Rattle.grift_base.specs.declared.operators.PrimOp.TheVariants.{Mul, Quot, Rem, MakeBox, MakeVector}
use Rattle.grift_base.specs.declared.verdicts.Verdict.{Verdict}
use Rattle.core_calc.specs.Redex.{where_some}
use Rattle.core_calc.specs.Account.{Measures, wrap_charge, StepKind, Wraps, Casts, Makes, MakesVector, Multiplies, Acts}
use Rattle.core_calc.specs.Account.{Account}
use Rattle.cast_modes.specs.Modes.{Decision, Wrapping, Mode}
use Rattle.cast_modes.specs.RunValues.{RunInt, RunWrap, shape_of}
use Rattle.cast_modes.specs.ValueSteps.{CastFrame, ProjFrame, PrimFrame, EnterFrame, OwnFrame, Own, Return, Entering}
use Rattle.cast_modes.specs.ValueSteps.{onto}
use Rattle.cast_modes.specs.AnswerTypes.{Told}
use Rattle.coer_core.specs.Terms.{RowTerm, RowTerms, RowBindings, RowLambda, RowGroup, RowLet, RowSeq, RowTuple}
use Rattle.coer_core.specs.Terms.{RowPrim}
use Rattle.coer_core.specs.Terms.{NoRowTerms, RowTermThen, NoRowBindings, RowBindingThen}
use Rattle.coer_core.specs.Machine.{code_arity, CoerValue, CoerPending, CoerFocus, CoerFrame, Job, Eval, Calling}
use Rattle.coer_core.specs.Machine.{Tupling, Operating, IfFrame, SeqFrame, FunFrame, ProjDynFrame, GatherFrame}
use Rattle.coer_core.specs.Machine.{LetFrame}
use Rattle.coer_core.specs.Machine.{RunState, running, run_start}
use Rattle.coer_core.specs.Counts.{eval_words, kind_wraps}

-- ---- which step of the calculus a turn makes, and none where it makes none

abbrev pub made_vector : {C : Type 0} → List (CoerValue C) → StepKind
made_vector (RunInt (pos k) ∷ rest) = MakesVector k
made_vector _ = Acts

abbrev pub operating_kind : {C : Type 0} → PrimOp → List (CoerValue C) → StepKind
operating_kind Mul values = Multiplies
operating_kind Quot values = Multiplies
operating_kind Rem values = Multiplies
operating_kind MakeBox values = Casts
operating_kind MakeVector values = made_vector values
operating_kind _ values = Acts

-- what is done with values that are all there
abbrev pub job_kind : {C : Type 0} → Job C → List (CoerValue C) → StepKind
job_kind (Calling f) values = Acts
job_kind Tupling values = Makes
job_kind (Operating operator) values = operating_kind operator values

-- the values so far, the last one first, and the terms that follow
abbrev pub gather_kind : {C : Type 0} → Job C → List (CoerValue C) → RowTerms → Option StepKind
gather_kind job done NoRowTerms = Some (job_kind job (onto done []))
gather_kind job done (RowTermThen term rest) = None

abbrev pub bind_kind : RowBindings → Option StepKind
bind_kind NoRowBindings = Some Acts
bind_kind (RowBindingThen name term rest) = None

abbrev pub eval_kind : (C : Type 0) → RowTerm → Option StepKind
eval_kind C (RowLambda parameters body type) = Some Makes
eval_kind C (RowGroup members body) = Some Makes
eval_kind C (RowLet bindings body) = bind_kind bindings
eval_kind C (RowSeq (RowTermThen term NoRowTerms)) = Some Acts
eval_kind C (RowTuple parts) = gather_kind {C = C} Tupling [] parts
eval_kind C (RowPrim operator operands) = gather_kind {C = C} (Operating operator) [] operands
eval_kind C _ = None

abbrev pub decision_kind : {C : Type 0} → Decision C → StepKind
decision_kind (Wrapping cast) = Wraps
decision_kind _ = Casts

-- of a function that is no wrapper: the arguments that are to be gone over
abbrev pub plain_kind : {C : Type 0} → List (CoerPending C) → Option StepKind
plain_kind [] = Some Acts
plain_kind (p ∷ todo) = None

abbrev pub enter_kind : {C : Type 0} → CoerValue C → List (CoerPending C) → Option StepKind
enter_kind (RunWrap f cast) todo = Some Acts
enter_kind f todo = plain_kind todo

module _ {C : Type 0} (mode : Mode C) where
  -- a value for a frame
  abbrev pub back_kind : CoerValue C → CoerFrame C → Option StepKind
  back_kind v (CastFrame cast) = Some (decision_kind (mode.cast cast (shape_of code_arity v)))
  back_kind v (ProjFrame i) = Some Acts
  back_kind v (PrimFrame operator done) = Some (operating_kind operator (onto (v ∷ done) []))
  back_kind v (EnterFrame f done todo) = None
  back_kind v (OwnFrame (IfFrame on_true on_false env)) = Some Acts
  back_kind v (OwnFrame (SeqFrame term rest env)) = Some Acts
  back_kind v (OwnFrame (FunFrame arguments env)) = gather_kind (Calling v) [] arguments
  back_kind v (OwnFrame (ProjDynFrame i label)) = Some Casts
  back_kind v (OwnFrame (GatherFrame job done todo env)) = gather_kind job (v ∷ done) todo
  back_kind v (OwnFrame (LetFrame bound name todo body env)) = bind_kind todo

  abbrev pub turn_kind : CoerFocus C → List (CoerFrame C) → Option StepKind
  turn_kind (Own (Eval term env)) k = eval_kind C term
  turn_kind (Return v) [] = None
  turn_kind (Return v) (frame ∷ k) = back_kind v frame
  turn_kind (Entering f done todo) k = enter_kind f todo

  abbrev pub kind_of_turn : RunState C → Option StepKind
  kind_of_turn state = turn_kind state.focus state.frames

-- ---- what turns ask for, and their budgets in instructions

-- with the words of the objects that the turn makes itself
abbrev pub kind_asks : Measures → Option StepKind → ℕ → ℕ
kind_asks m None words = 0
kind_asks m (Some Wraps) words = wrap_charge m + 16
kind_asks m (Some Casts) words = 16
kind_asks m (Some Makes) words = words
kind_asks m (Some (MakesVector k)) words = k + 1
kind_asks m (Some Multiplies) words = 0
kind_asks m (Some Acts) words = 0

-- with the words of the functions that the turn makes
abbrev pub kind_budget : Measures → Option StepKind → ℕ → ℕ
kind_budget m None words = 0
kind_budget m (Some Wraps) words = 896 + 64 * wrap_charge m
kind_budget m (Some Casts) words = 896
kind_budget m (Some Makes) words = 896 + 64 * words
kind_budget m (Some (MakesVector k)) words = 896 + 64 * k
kind_budget m (Some Multiplies) words = 32768
kind_budget m (Some Acts) words = 896

abbrev pub function_words : {C : Type 0} → CoerFocus C → ℕ
function_words (Own (Eval term env)) = eval_words term
function_words _ = 0

-- the words of the functions and the tuple that the turn makes
abbrev pub made_words : {C : Type 0} → CoerFocus C → List (CoerFrame C) → ℕ
made_words (Own (Eval term env)) k = eval_words term
made_words (Return v) (OwnFrame (GatherFrame Tupling done NoRowTerms env) ∷ k) = 2 + length done
made_words _ k = 0

-- ---- counters: 1 for a turn that makes a step, for a wrap step, and for a product or the like; the elements of a new
-- vector

abbrev pub kind_acts : Option StepKind → ℕ
kind_acts None = 0
kind_acts (Some kind) = 1

abbrev pub made_wraps : Option StepKind → ℕ
made_wraps None = 0
made_wraps (Some kind) = kind_wraps kind

abbrev pub kind_elements : Option StepKind → ℕ
kind_elements (Some (MakesVector k)) = k
kind_elements _ = 0

abbrev pub kind_products : Option StepKind → ℕ
kind_products (Some Multiplies) = 1
kind_products _ = 0

-- ---- runs

-- what is shown: turns that make a step, the words asked for so far, the words that the next turn may ask for, the
-- frames that wait, wrap steps, elements of new vectors, products and the like, and the sum of the budgets so far
pub record Tally : Type 0 where
  pub acts : ℕ
  pub words : ℕ
  pub asks : ℕ
  pub frames : ℕ
  pub wraps : ℕ
  pub elements : ℕ
  pub products : ℕ
  pub paid : ℕ

-- the words asked for, those of the next turn with them
abbrev pub reach : Tally → ℕ
reach tally = tally.words + tally.asks

-- a state with what was added up so far
pub record Tallied (C : Type 0) : Type 0 where
  pub acts : ℕ
  pub words : ℕ
  pub wraps : ℕ
  pub elements : ℕ
  pub products : ℕ
  pub paid : ℕ
  pub state : RunState C

abbrev pub untallied : {C : Type 0} → RunState C → Tallied C
untallied state =
    record { acts = 0; words = 0; wraps = 0; elements = 0; products = 0; paid = 0; state = state }

-- what a state's account shows, where the next turn may ask for so many words
abbrev pub tally_with : {C : Type 0} → ℕ → Tallied C → Tally
tally_with asks s = record {
  acts = s.acts;
  words = s.words;
  asks = where_some s.state.ended 0 asks;
  frames = length s.state.frames;
  wraps = s.wraps;
  elements = s.elements;
  products = s.products;
  paid = s.paid;
}

module _ {C : Type 0} (mode : Mode C) (m : Measures) where
  abbrev pub asks_of_turn : RunState C → ℕ
  asks_of_turn state = kind_asks m (kind_of_turn mode state) (made_words state.focus state.frames)

  abbrev pub budget_of_turn : RunState C → ℕ
  budget_of_turn state = kind_budget m (kind_of_turn mode state) (function_words state.focus)

  abbrev pub tally_of : Tallied C → Tally
  tally_of s = tally_with (asks_of_turn s.state) s

  abbrev pub next_tally : Tallied C → RunState C → Tallied C
  next_tally s next = record {
    acts = s.acts + kind_acts (kind_of_turn mode s.state);
    words = s.words + asks_of_turn s.state;
    wraps = s.wraps + made_wraps (kind_of_turn mode s.state);
    elements = s.elements + kind_elements (kind_of_turn mode s.state);
    products = s.products + kind_products (kind_of_turn mode s.state);
    paid = s.paid + budget_of_turn s.state;
    state = next;
  }

  -- the run in the mode with its account
  abbrev pub tallying : Told → Reduction (Tallied C) Tally Verdict
  tallying told = record {
    step = λ s. next_tally s ((running mode told).step s.state);
    ending = λ s. (running mode told).ending s.state;
    output = λ s. (running mode told).output s.state;
    shown = λ s. tally_of s;
  }

  -- the account of a term, told these, on an input
  abbrev pub tally_in : Told → RowTerm → List ℕ → Run Tally Verdict
  tally_in told term input = reduction_run (tallying told) (untallied (run_start term input))

-- ---- a run against the calculus's account

-- the instructions are within the calculus's work, with 128 to spare for each step
abbrev pub PaidBelow : Tally → Account → Type 0
PaidBelow tally account = tally.paid + 128 * account.steps + 1024 ≤ 64 * account.work

-- the turns that make a step are no more than the calculus's steps, and the instructions are within its work
pub record SpentBelow (tally : Tally) (account : Account) : Type 0 where
  pub acts : tally.acts ≤ account.steps
  pub paid : PaidBelow tally account

-- a moment's account is within the calculus's
pub record Below (tally : Tally) (account : Account) : Type 0 where
  pub acts : tally.acts ≤ account.steps
  pub reach : reach tally ≤ account.words + account.charge
  pub asks : tally.asks ≤ account.charge
  pub frames : tally.frames ≤ account.depth + 1
  pub paid : PaidBelow tally account

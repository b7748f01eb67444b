-- Runs of the calculus.
use Rattle.std.specs.Prelude.{ℕ, ℤ, pos, if◌then◌else◌, List, [], Option, option_map, Some, None, slice_get}
use Rattle.run_laws.specs.Runs.{Ending, Verdict as EndsWith, Wrong, Run}
use Rattle.run_laws.specs.Reductions.{Reduction, reduction_run}
use Rattle.grift_base.specs.World.{WorldState}
use Rattle.grift_base.specs.Types.{TypeRows}
use Rattle.grift_base.specs.declared.places.Pos.{Pos}
use Rattle.grift_base.specs.declared.verdicts.Trap.{Trap}
use Rattle.grift_base.specs.declared.verdicts.Answer.{Answer}
use Rattle.grift_base.specs.declared.verdicts.AnswerKind.{AnswerKind}
use Rattle.grift_base.specs.declared.verdicts.AnswerKind.TheVariants.{Int, Bool as Truth, Unit as UnitKind, Function}
use Rattle.grift_base.specs.declared.verdicts.AnswerKind.TheVariants.{Tuple, Boxed, Vector}
use Rattle.grift_base.specs.declared.verdicts.Verdict.{Verdict}
use Rattle.grift_base.specs.declared.verdicts.Verdict.TheVariants.{Answer as AnswerVerdict, Blame, Trap as TrapVerdict}
use Rattle.core_calc.specs.Terms.{Term, Value, IntValue, BoolValue, UnitValue, FunValue, MemberValue, TupleValue}
use Rattle.core_calc.specs.Terms.{LocValue, WrapValue, InjectValue, as_value}
use Rattle.core_calc.specs.Outcome.{Store, Outcome, Goes, Blames, Traps, Stuck}
use Rattle.core_calc.specs.Step.{step}

abbrev pub answer : AnswerKind → ℤ → Answer
answer kind word = record { kind = kind; word = word }

-- a value as it is shown, through every injection and every wrapper
abbrev pub shown_value : Value → Answer
shown_value (IntValue n) = answer Int n
shown_value (BoolValue b) = answer Truth (if b then pos 1 else pos 0)
shown_value UnitValue = answer UnitKind (pos 0)
shown_value (FunValue _ _ _) = answer Function (pos 0)
shown_value (MemberValue _ _) = answer Function (pos 0)
shown_value (TupleValue _) = answer Tuple (pos 0)
shown_value (LocValue _ is_vector) = answer (if is_vector then Vector else Boxed) (pos 0)
shown_value (WrapValue v _ _ _) = shown_value v
shown_value (InjectValue v _) = shown_value v

-- how a run ends
pub data CalcEnd : Type 0 where
  -- the term is a value, shown so
  Answered : Answer → CalcEnd
  -- this label is blamed
  Blamed : ℕ → CalcEnd
  Trapped : Trap → CalcEnd
  -- there was no next step
  NoStep : CalcEnd

-- a state: the term, the cells, the world, and how the run has ended, if it has
pub record CalcState : Type 0 where
  pub term : Term
  pub store : Store
  pub world : WorldState
  pub ended : Option CalcEnd

-- the state with this term; it has ended where the term is a value
abbrev pub state_of : Term → Store → WorldState → CalcState
state_of term store world =
    record {
      term = term;
      store = store;
      world = world;
      ended = option_map (λ v. Answered (shown_value v)) (as_value term);
    }

-- the state at first: no cells, no output, none of the input read
abbrev pub start : Term → List ℕ → CalcState
start term input = state_of term [] (record { output = []; input = input; place = 0 })

-- the state after a step from a state came to this
abbrev pub state_after_step : CalcState → Outcome Term → CalcState
state_after_step state (Goes term store world) = state_of term store world
state_after_step state (Blames label) = record state { ended = Some (Blamed label) }
state_after_step state (Traps trap world) = record state { world = world; ended = Some (Trapped trap) }
state_after_step state Stuck = record state { ended = Some NoStep }

-- the verdict of a blame is the label's place; without a place the run has gone wrong
abbrev pub blame_at : Option Pos → Ending Verdict
blame_at (Some place) = EndsWith (Blame place)
blame_at None = Wrong

abbrev pub ending_of : List Pos → CalcEnd → Ending Verdict
ending_of labels (Answered shown) = EndsWith (AnswerVerdict shown)
ending_of labels (Blamed label) = blame_at (slice_get labels label)
ending_of labels (Trapped trap) = EndsWith (TrapVerdict trap)
ending_of labels NoStep = Wrong

-- a program: a term, the table of its types and the places of its labels
pub record Program : Type 0 where
  pub term : Term
  pub types : TypeRows
  pub labels : List Pos

-- the calculus with these types and labels; it shows its states
abbrev pub calculus : TypeRows → List Pos → Reduction CalcState CalcState Verdict
calculus types labels = record {
  step = λ state. state_after_step state (step types state.store state.world state.term);
  ending = λ state. option_map (ending_of labels) state.ended;
  output = λ state. state.world.output;
  shown = λ state. state;
}

-- the run of a program on an input: what it has come to after at most n steps
abbrev pub calc : Program → List ℕ → Run CalcState Verdict
calc program input = reduction_run (calculus program.types program.labels) (start program.term input)

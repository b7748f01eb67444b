-- What `model` puts, and what it comes to: the calculus itself, cast by cast, for so many steps at most.
use Rattle.std.specs.Prelude.{ℕ, ◌≡◌, ◌≢◌, List, [], length, Option, Some, None}
use Rattle.run_laws.specs.Runs.{Ending, Verdict as EndsWith, Exhausted, Wrong}
use Rattle.grift_base.specs.Sink.{SinkSeen, Untouched, Takes, Breaks}
use Rattle.grift_base.specs.declared.verdicts.Verdict.{Verdict}
use Rattle.grift_base.specs.declared.verdicts.Verdict.TheVariants.{StepsSpent}
use Rattle.core_calc.specs.Calculus.{Program, calc}
use Rattle.core_calc.specs.Typing.{ProgramTermHasType}
use Rattle.cast_rules.specs.Making.{Entry}
use Rattle.cast_insert.specs.Outcomes.{Elaborates}
use Rattle.front_end.specs.Texts.{HasOutcome}
use Rattle.command_words.specs.Commands.{Model}
use Rattle.grift_cli.specs.Calls.{CallSeen, HasLoaded}
use Rattle.grift_cli.specs.declared.reports.Report.{Report}
use Rattle.grift_cli.specs.declared.reports.Report.TheVariants.{HasVerdict, PutFailed, NoMemory}

-- the verdict of a run of the calculus: that of its end, or spent steps where it hasn't ended; none where it went wrong
abbrev pub calculus_verdict : Option (Ending Verdict) → Option Verdict
calculus_verdict None = Some StepsSpent
calculus_verdict (Some (EndsWith verdict)) = Some verdict
calculus_verdict (Some Exhausted) = None
calculus_verdict (Some Wrong) = None

-- a model of the program has ended with this report, on this input and for so many steps at most: what the calculus
-- prints was put whole, or the put of it failed, or no memory was left and nothing was put
abbrev pub Models : Program → ℕ → List ℕ → SinkSeen → Report → Type 0
Models program steps input out (HasVerdict verdict) =
    (calculus_verdict (calc program input steps).ending ≡ Some verdict) × Takes (calc program input steps).output out
Models program steps input out PutFailed =
    ((calc program input steps).output ≢ []) × Breaks (calc program input steps).output out
Models program steps input out NoMemory = Untouched out
Models program steps input out _ = ⊥

-- ---- calls

-- the file of a model holds a source that is elaborated to this program, which is typed; its calculus is to be run for
-- so many steps at most on this input; no image is put
pub record IsModelFile (call : CallSeen) (program : Program) (steps : ℕ) (input : List ℕ) : Type 0 where
  pub file : List ℕ
  pub input_name : Option (List ℕ)
  pub text : List ℕ
  pub loaded : HasLoaded call (Model file steps input_name) text input
  pub type : ℕ
  pub casts : List Entry
  pub elaborated : HasOutcome text (Elaborates program.term type program.types program.labels casts)
  pub typed : ProgramTermHasType program.types (length program.labels) program.term type
  pub no_image : Untouched call.img

-- the calculus has come to this verdict within the steps, and what it prints was put whole
pub record HasModelled (call : CallSeen) (verdict : Verdict) : Type 0 where
  pub program : Program
  pub steps : ℕ
  pub input : List ℕ
  pub modelled : IsModelFile call program steps input
  pub verdict_is : calculus_verdict (calc program input steps).ending ≡ Some verdict
  pub output_put : Takes (calc program input steps).output call.out

-- the put of what it prints failed
pub record FailsToPutModel (call : CallSeen) : Type 0 where
  pub program : Program
  pub steps : ℕ
  pub input : List ℕ
  pub modelled : IsModelFile call program steps input
  pub some : (calc program input steps).output ≢ []
  pub fails : Breaks (calc program input steps).output call.out

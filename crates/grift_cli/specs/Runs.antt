-- The run of an image within limits, what it is told as, and what the program comes to that it is of.
use Rattle.std.specs.Prelude.{ℕ, ◌≡◌, List, Option, Some, None}
use Rattle.run_laws.specs.Runs.{Ending, Verdict as EndsWith}
use Rattle.grift_base.specs.declared.verdicts.Verdict.{Verdict}
use Rattle.grift_base.specs.declared.verdicts.Verdict.TheVariants.{Answer, Blame, Trap, StepsSpent}
use Rattle.rv_machine.specs.State.{State}
use Rattle.machine_words.specs.Halts.{Halt, verdict_of, fault_of}
use Rattle.rv_machine.specs.Start.{start_of, fresh_world}
use Rattle.rv_machine.specs.Mach.{run_of}
use Rattle.machine_words.specs.declared.faults.MachineFault.{MachineFault}
use Rattle.core_calc.specs.Calculus.{Program, calc}
use Rattle.command_words.specs.declared.commands.Limits.{Limits}

-- the run within the limits on this input: the state, and the stop if there was one
abbrev pub run_within : Limits → List ℕ → List ℕ → State × Option Halt
run_within limits image input = run_of limits.steps (start_of image limits.region limits.stack (fresh_world input))

-- what the image prints
abbrev pub printed : Limits → List ℕ → List ℕ → List ℕ
printed limits image input = (run_within limits image input).0.world.output

-- what the image has printed after so many instructions
abbrev pub printed_after : Limits → List ℕ → List ℕ → ℕ → List ℕ
printed_after limits image input turns =
    (run_of turns (start_of image limits.region limits.stack (fresh_world input))).0.world.output

-- the verdict of a run: that of its stop, or spent steps where there was none; none where it went wrong
abbrev pub verdict_of_run : Option Halt → Option Verdict
verdict_of_run None = Some StepsSpent
verdict_of_run (Some halt) = verdict_of halt

-- how a run went wrong, if it did
abbrev pub fault_of_run : Option Halt → Option MachineFault
fault_of_run None = None
fault_of_run (Some halt) = fault_of halt

-- ---- what a program comes to

-- a run that has come to this has ended with the verdict, where that is an answer, a blame or a trap
abbrev pub HasEndedBy : Verdict → Option (Ending Verdict) → Type 0
HasEndedBy (Answer answer) ending = ending ≡ Some (EndsWith (Answer answer))
HasEndedBy (Blame place) ending = ending ≡ Some (EndsWith (Blame place))
HasEndedBy (Trap trap) ending = ending ≡ Some (EndsWith (Trap trap))
HasEndedBy _ ending = Unit {0}

-- on this input the calculus of the program comes, after some number of steps, to this very output, and has then ended
-- with the verdict, where that is an answer, a blame or a trap
pub record ComesTo (program : Program) (input output : List ℕ) (verdict : Verdict) : Type 0 where
  pub steps : ℕ
  pub output_is : (calc program input steps).output ≡ output
  pub ended : HasEndedBy verdict (calc program input steps).ending

-- The run of a state, and that of an image.
use Rattle.std.specs.Prelude.{ℕ, zero, suc, List, Option, Some, None}
use Rattle.grift_base.specs.declared.verdicts.Verdict.{Verdict as Outcome}
use Rattle.run_laws.specs.Runs.{Ending, Moment, Run}
use Rattle.run_laws.specs.Machines.{Next as Step, Go, Stop, Machine, run}
use Rattle.rv_machine.specs.State.{State, Turn, Next, Stops}
use Rattle.machine_words.specs.Halts.{Halt, ending_of}
use Rattle.rv_machine.specs.Turn.{turn_of}
use Rattle.rv_machine.specs.Start.{start_of, fresh_world}

-- goes on after a turn
abbrev pub onward : (State → State × Option Halt) → State → Turn → State × Option Halt
onward next s (Next t) = next t
onward next s (Stops halt) = (s, Some halt)

-- at most n turns: the state after them, and the stop if there was one; a turn that stops counts as one
unfoldable pub run_of : ℕ → State → State × Option Halt
run_of zero s = (s, None)
run_of (suc n) s = onward (run_of n) s (turn_of s)

-- a turn as a step, under a reading of stops as endings
abbrev pub step_by : {V : Type 0} → (Halt → Ending V) → State → Turn → Step State V
step_by reading s (Next t) = Go t
step_by reading s (Stops halt) = Stop (reading halt) s

abbrev pub step_of : State → Turn → Step State Outcome
step_of s turn = step_by ending_of s turn

-- the machine whose steps are turns; it shows its whole state
abbrev pub machine_by : {V : Type 0} → (Halt → Ending V) → Machine State State V
machine_by reading = record { step = λ s. step_by reading s (turn_of s); output = λ s. s.world.output; shown = λ s. s }

abbrev pub machine : Machine State State Outcome
machine = machine_by ending_of

-- a state, and a stop if there was one, as a moment of a run
abbrev pub moment_of : State × Option Halt → Moment State Outcome
moment_of (s, None) = record { shown = s; output = s.world.output; ending = None }
moment_of (s, Some halt) = record { shown = s; output = s.world.output; ending = Some (ending_of halt) }

-- the run of an image's bytes with a region and a stack of so many bytes and this input
abbrev pub mach : List ℕ → ℕ → ℕ → List ℕ → Run State Outcome
mach bytes region stack input = run machine (start_of bytes region stack (fresh_world input))

-- How a run over words halts, and what a stop is as the end of a run.
use Rattle.std.specs.Prelude.{◌≡◌, ◌≢◌, Option, Some, None}
use Rattle.std.specs.Option.{option_map_or}
use Rattle.grift_base.specs.declared.verdicts.Verdict.{Verdict as Outcome}
use Rattle.grift_base.specs.declared.verdicts.Verdict.TheVariants.{RegionOut, StackOut}
use Rattle.run_laws.specs.Runs.{Ending, Verdict, Exhausted, Wrong}
use Rattle.machine_words.specs.declared.faults.MachineFault.{MachineFault}

-- what a run may have too little room in
pub data Room : Type 0 where
  Region : Room
  Stack : Room

-- why a run stops: it has ended with a verdict, which is an answer, a blamed place or a trap; it lacks room; or it went
-- wrong
pub data Halt : Type 0 where
  Ended : Outcome → Halt
  Lacks : Room → Halt
  GoesWrong : MachineFault → Halt

-- the verdict that a stop is told as; none where the run went wrong
abbrev pub verdict_of : Halt → Option Outcome
verdict_of (Ended verdict) = Some verdict
verdict_of (Lacks Region) = Some RegionOut
verdict_of (Lacks Stack) = Some StackOut
verdict_of (GoesWrong fault) = None

-- how the run went wrong; none where it didn't
abbrev pub fault_of : Halt → Option MachineFault
fault_of (Ended verdict) = None
fault_of (Lacks room) = None
fault_of (GoesWrong fault) = Some fault

-- what a stop is as the end of a run
abbrev pub ending_of : Halt → Ending Outcome
ending_of (Ended verdict) = Verdict verdict
ending_of (Lacks room) = Exhausted
ending_of (GoesWrong fault) = Wrong

-- what a stop is as the end of a run in which want of room is a verdict too
abbrev pub stop_of : Halt → Ending Outcome
stop_of halt = option_map_or Verdict (verdict_of halt) Wrong

-- a reading of stops as endings takes those gone wrong, and no others, as wrong
pub record IsReading {V : Type 0} (reading : Halt → Ending V) : Type 0 where
  pub wrong : (fault : MachineFault) → reading (GoesWrong fault) ≡ Wrong
  pub ended : (verdict : Outcome) → reading (Ended verdict) ≢ Wrong
  pub lacking : (room : Room) → reading (Lacks room) ≢ Wrong

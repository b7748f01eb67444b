-- Turns and runs, as the emulator makes them.
use Rattle.std.proofs.Common.{ℕ, ◌<◌, ◌≡◌, Bool, Option, Some, None}
use Rattle.rv_machine.specs.State.{State, Turn}
use Rattle.rv_machine.specs.Turn.{turn_of}
use Rattle.rv_machine.specs.Mach.{run_of}
use Rattle.rv_machine.proofs.Public.{run_stops}
use Rattle.rv_emulator.specs.declared.stops.Stop.{Stop}
use Rattle.rv_emulator.specs.Turns.{Outcome, Halts, Spent, NoMemory, outcome_of, StopsBy, ComesTo, LacksNext, RunsTo}

-- a weaker cause for want of memory
weaker_by : (P Q : Type 0) (turn : Turn) (old : State) (outcome : Outcome) (new : State) → (P → Q) →
    StopsBy P turn old outcome new → StopsBy Q turn old outcome new
weaker_by P Q turn old (Halts halt) new f m = m
weaker_by P Q turn old Spent new f m = m
weaker_by P Q turn old NoMemory new f m = (f m.0, m.1)

pub weaker_lack : (P Q : Type 0) (turn : Turn) (old : State) (stop : Option Stop) (new : State) → (P → Q) →
    ComesTo P turn old stop new → ComesTo Q turn old stop new
weaker_lack P Q turn old None new f m = m
weaker_lack P Q turn old (Some stop) new f m = weaker_by P Q turn old (outcome_of stop) new f m

-- a turn that stops ends the run
pub run_ends : (whole : Bool) (reserved n m : ℕ) (s t u : State) (outcome : Outcome) → run_of n s ≡ (t, None) → n < m →
    StopsBy (LacksNext whole reserved t) (turn_of t) t outcome u → RunsTo whole reserved m s outcome u
run_ends whole reserved n m s t u (Halts halt) e l h = rw h.1 (run_stops n m s t _ e l h.0)
run_ends whole reserved n m s t u Spent e l h = absurd h
run_ends whole reserved n m s t u NoMemory e l h = (n, l, rw h.1 e, rw h.1 h.0)

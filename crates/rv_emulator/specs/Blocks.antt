-- What a run comes to whose output is put in blocks as it goes.
use Rattle.std.specs.Prelude.{ℕ, ◌+◌, ◌<◌, ◌≤◌, ◌≡◌, ◌≢◌, ◌⊎◌, Bool, false, List, [], ◌++◌, length, Option, Some, None}
use Rattle.std.specs.Prelude.{Result, Ok, Err}
use Rattle.grift_base.specs.Sink.{SinkSeen, Untouched, Takes, Breaks, Adds, AddsBeginning}
use Rattle.grift_base.specs.Outside.{next_count}
use Rattle.grift_base.specs.declared.sinks.SinkFault.{SinkFault}
use Rattle.grift_base.specs.declared.sinks.SinkFault.TheVariants.{Failed, OutOfMemory as SinkMemory}
use Rattle.rv_machine.specs.State.{State}
use Rattle.machine_words.specs.Halts.{Halt}
use Rattle.rv_machine.specs.Mach.{run_of}
use Rattle.rv_emulator.specs.declared.stops.Stop.{Stop}
use Rattle.rv_emulator.specs.declared.stops.Stop.TheVariants.{OutOfMemory}
use Rattle.rv_emulator.specs.declared.stops.BlockStop.{BlockStop}
use Rattle.rv_emulator.specs.declared.stops.BlockStop.TheVariants.{Stopped, SinkFailed}
use Rattle.rv_emulator.specs.Turns.{Outcome, Halts, Spent, NoMemory, outcome_of}

-- ---- puts

-- the state with this output
abbrev pub with_output : List ℕ → State → State
with_output bytes s = record s { world = record s.world { output = bytes } }

-- the state, where these bytes were printed before its own output
abbrev pub printed_before : List ℕ → State → State
printed_before bytes s = with_output (bytes ++ s.world.output) s

-- what putting all of these bytes comes to by this answer; of no bytes nothing is put
abbrev pub PutsOutput : List ℕ → Result (Unit {0}) SinkFault → SinkSeen → Type 0
PutsOutput bytes (Ok done) out = Takes bytes out
PutsOutput bytes (Err Failed) out = (bytes ≢ []) × Breaks bytes out
PutsOutput bytes (Err SinkMemory) out = (bytes ≢ []) × Untouched out

-- the rest of the output was put at a stop, or that put failed or found no memory
abbrev pub PutsRest : Stop → State → BlockStop → SinkSeen → State → Type 0
PutsRest stop old SinkFailed out new = (old.world.output ≢ []) × Breaks old.world.output out × (new ≡ old)
PutsRest stop old (Stopped other) out new =
    ((other ≡ stop) × Takes old.world.output out × (new ≡ with_output [] old))
    ⊎ ((other ≡ OutOfMemory) × (old.world.output ≢ []) × Untouched out × (new ≡ old))

-- at a stop the rest was put, except at want of memory, where nothing is done
abbrev pub EndsBlock : Outcome → Stop → State → BlockStop → SinkSeen → State → Type 0
EndsBlock (Halts halt) stop old result out new = PutsRest stop old result out new
EndsBlock Spent stop old result out new = PutsRest stop old result out new
EndsBlock NoMemory stop old result out new = (result ≡ Stopped OutOfMemory) × Untouched out × (new ≡ old)

-- how a run stops where a put failed or found no memory
abbrev pub stop_by : SinkFault → BlockStop
stop_by Failed = SinkFailed
stop_by SinkMemory = Stopped OutOfMemory

-- ---- runs

-- what is kept after these turns is to be put: it is a full block, and one turn before there was none; or the run is
-- over, with less than a block kept. A run that has stopped makes no turn more, so it is over too
pub data IsDue (steps turns : ℕ) (old : State) (halt : Option Halt) (put kept : List ℕ) : Type 0 where
  BlockIsFull : (before : ℕ) (s : State) → turns ≡ before + 1 → run_of before old ≡ (s, None)
      → length s.world.output < length put + 4096 → 4096 ≤ length kept → IsDue steps turns old halt put kept
  RunIsOver : turns ≡ steps → length kept < 4096 → IsDue steps turns old halt put kept

-- after some turns, and perhaps a stop, what was put followed by what is kept is what the machine has printed, and the
-- rest of the state is the machine's; little is kept
pub record HasMade (steps : ℕ) (old : State) (put : List ℕ) (new : State) : Type 0 where
  pub turns : ℕ
  pub halt : Option Halt
  pub within : turns ≤ steps
  pub made : run_of turns old ≡ (printed_before put new, halt)
  pub few : length new.world.output ≤ 4127

-- the sink failed at the put of what is kept, which was due; the bytes put before were taken
pub record FailsInBlocks (steps : ℕ) (old : State) (out : SinkSeen) (new : State) : Type 0 where
  pub put : List ℕ
  pub so_far : HasMade steps old put new
  pub some : new.world.output ≢ []
  pub due : IsDue steps so_far.turns old so_far.halt put new.world.output
  pub between : Option (List ℕ)
  pub taken : Adds put out.written between
  pub begun : AddsBeginning new.world.output between out.written_after
  pub faults : out.faults_after ≡ next_count out.faults

-- no memory was left: for room for a block, before the first turn; for a put, which was due; or for a store, where the
-- ram isn't whole
pub record LacksInBlocks (whole : Bool) (steps : ℕ) (old : State) (out : SinkSeen) (new : State) : Type 0 where
  pub put : List ℕ
  pub so_far : HasMade steps old put new
  pub taken : Takes put out
  pub cause : (so_far.turns ≡ 0)
      ⊎ ((new.world.output ≢ []) × IsDue steps so_far.turns old so_far.halt put new.world.output ⊎ (whole ≡ false))

-- the run has come to its end, by this stop if there was one: all that the machine prints was put, and nothing is kept
pub record EndsInBlocks (steps : ℕ) (old : State) (halt : Option Halt) (out : SinkSeen) (new : State) : Type 0 where
  pub put : List ℕ
  pub ran : run_of steps old ≡ (printed_before put new, halt)
  pub nothing_kept : new.world.output ≡ []
  pub taken : Takes put out

abbrev pub StopsInBlocks : Bool → ℕ → State → Outcome → SinkSeen → State → Type 0
StopsInBlocks whole steps old (Halts halt) out new = EndsInBlocks steps old (Some halt) out new
StopsInBlocks whole steps old Spent out new = EndsInBlocks steps old None out new
StopsInBlocks whole steps old NoMemory out new = LacksInBlocks whole steps old out new

-- what a run with blocks comes to by its answer, from a state that has printed nothing, over a ram that is whole or not
abbrev pub RunsBlocks : Bool → ℕ → State → BlockStop → SinkSeen → State → Type 0
RunsBlocks whole steps old (Stopped stop) out new = StopsInBlocks whole steps old (outcome_of stop) out new
RunsBlocks whole steps old SinkFailed out new = FailsInBlocks steps old out new

-- What putting and running an image come to.
use Rattle.std.specs.Prelude.{ℕ, ◌≡◌, ◌≢◌, ◌⊎◌, List, [], Option, Some, None, IsSomeAnd, Result, Ok, Err}
use Rattle.run_laws.specs.Runs.{NeverWrong}
use Rattle.grift_base.specs.Sink.{SinkSeen, Untouched, Takes, Breaks}
use Rattle.grift_base.specs.declared.sinks.SinkFault.{SinkFault}
use Rattle.grift_base.specs.declared.sinks.SinkFault.TheVariants.{Failed, OutOfMemory as SinkMemory}
use Rattle.machine_words.specs.Halts.{Halt}
use Rattle.rv_machine.specs.Mach.{mach}
use Rattle.rv_emulator.specs.Turns.{Outcome, Halts, Spent, NoMemory as WantsMemory}
use Rattle.grift_cli.specs.Runs.{run_within, printed, verdict_of_run, fault_of_run}
use Rattle.grift_cli.specs.Spaces.{ReportsSpace}
use Rattle.grift_cli.specs.Outcome.{ImageFails, OutputFails, OutputStops}
use Rattle.command_words.specs.declared.commands.Limits.{Limits}
use Rattle.grift_cli.specs.declared.reports.Report.{Report}
use Rattle.grift_cli.specs.declared.reports.Report.TheVariants.{HasVerdict, HasSpace, HasFault, PutFailed, NoMemory}

-- ---- the run of an image

-- the image's run on this input never goes wrong
abbrev pub RunsWell : Limits → List ℕ → List ℕ → Type 0
RunsWell limits image input = NeverWrong (mach image limits.region limits.stack input)

-- the report tells the run that has come to this: by its verdict, or by how it went wrong
abbrev pub TellsRun : Option Halt → Report → Type 0
TellsRun halt (HasVerdict verdict) = verdict_of_run halt ≡ Some verdict
TellsRun halt (HasFault fault) = fault_of_run halt ≡ Some fault
TellsRun halt _ = ⊥

-- the report of a stop tells the run, and there is none exactly for want of memory
abbrev pub TellsStop : Outcome → Option Report → Type 0
TellsStop (Halts halt) report = IsSomeAnd report (TellsRun (Some halt))
TellsStop Spent report = IsSomeAnd report (TellsRun None)
TellsStop WantsMemory report = report ≡ None

-- ---- puts

-- what putting all of these bytes comes to by this answer; of no bytes nothing is put
abbrev pub PutsAll : List ℕ → Result (Unit {0}) SinkFault → SinkSeen → Type 0
PutsAll bytes (Ok done) s = Takes bytes s
PutsAll bytes (Err Failed) s = (bytes ≢ []) × Breaks bytes s
PutsAll bytes (Err SinkMemory) s = Untouched s

-- what a fault of a sink is reported as
abbrev pub sink_report : SinkFault → Report
sink_report Failed = PutFailed
sink_report SinkMemory = NoMemory

-- ---- reports

-- not all that the image prints was put: a put failed, or no memory was left
abbrev pub StopsShort : Limits → List ℕ → List ℕ → SinkSeen → Report → Type 0
StopsShort limits image input out PutFailed = OutputFails limits image input out
StopsShort limits image input out NoMemory = OutputStops limits image input out
StopsShort limits image input out _ = ⊥

-- the image was run, and what it prints was put as it went
abbrev pub Executes : Limits → List ℕ → List ℕ → SinkSeen → Report → Type 0
Executes limits image input out PutFailed = OutputFails limits image input out
Executes limits image input out NoMemory = OutputStops limits image input out
Executes limits image input out report =
    TellsRun (run_within limits image input).1 report × Takes (printed limits image input) out

-- the image was put, then run, and what it prints was put as it went; it didn't go wrong
abbrev pub Runs : Limits → List ℕ → List ℕ → SinkSeen → SinkSeen → Report → Type 0
Runs limits image input out img (HasVerdict verdict) =
    Takes image img
    × (verdict_of_run (run_within limits image input).1 ≡ Some verdict)
    × Takes (printed limits image input) out
Runs limits image input out img PutFailed =
    ImageFails image out img ⊎ (Takes image img × OutputFails limits image input out)
Runs limits image input out img NoMemory =
    (Untouched img × Untouched out) ⊎ (Takes image img × OutputStops limits image input out)
Runs limits image input out img _ = ⊥

-- so it was with lines on its storage
abbrev pub RunsInSpace : Limits → List ℕ → List ℕ → ℕ → SinkSeen → SinkSeen → Report → Type 0
RunsInSpace limits image input tallest out img (HasSpace verdict space) =
    Runs limits image input out img (HasVerdict verdict) × ReportsSpace limits image input tallest space
RunsInSpace limits image input tallest out img (HasVerdict verdict) = ⊥
RunsInSpace limits image input tallest out img report = Runs limits image input out img report

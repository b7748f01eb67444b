-- What putting bytes and running an image come to.
use Rattle.std.proofs.Common.{ℕ, ◌≡◌, ◌≢◌, ◌==◌, inr, false, List, [], ◌∷◌, length, Option, Some, None, refl}
use Rattle.std.proofs.Common.{◌∙◌}
use Rattle.std.proofs.Common.{ap, subst}
use Rattle.std.specs.Prelude.{Result, Ok, Err}
use Rattle.grift_base.specs.Sink.{SinkSeen, Takes, Puts}
use Rattle.grift_base.specs.declared.sinks.SinkFault.{SinkFault}
use Rattle.grift_base.specs.declared.sinks.SinkFault.TheVariants.{Failed, OutOfMemory}
use Rattle.run_laws.specs.Runs.{Wrong}
use Rattle.rv_machine.specs.State.{State}
use Rattle.machine_words.specs.Halts.{Halt, Ended, Lacks as LacksRoom, GoesWrong}
use Rattle.rv_machine.specs.Start.{start_of, fresh_world}
use Rattle.rv_machine.specs.Mach.{moment_of}
use Rattle.machine_words.specs.declared.faults.MachineFault.{MachineFault}
use Rattle.rv_machine.proofs.Public.{run_is_its_turns-states}
use Rattle.command_words.specs.Commands.{default_limits}
use Rattle.grift_cli.specs.Generating.{PutsNumbers}
use Rattle.grift_cli.specs.Runs.{run_within, printed, fault_of_run}
use Rattle.grift_cli.specs.Reporting.{PutsLine, Fails, Lacks, fault_status}
use Rattle.grift_cli.specs.Running.{RunsWell, PutsAll, TellsRun, StopsShort, Executes, Runs, RunsInSpace}
use Rattle.grift_cli.specs.Spaces.{ReportsSpace, in_space}
use Rattle.grift_cli.specs.declared.reports.Space.{Space}
use Rattle.command_words.specs.declared.commands.Limits.{Limits}
use Rattle.grift_cli.specs.declared.reports.Report.{Report}
use Rattle.grift_cli.specs.declared.reports.Report.TheVariants.{HasVerdict, HasFault, PutFailed, NoMemory}

-- ---- one put

pub some_bytes : (bytes : List ℕ) → false ≡ (length bytes == 0) → bytes ≢ []
some_bytes [] h e = cc
some_bytes (x ∷ xs) h e = cc

-- a put of some bytes puts all of them
pub puts_all : (bytes : List ℕ) (answer : Result (Unit {0}) SinkFault) (s : SinkSeen) → bytes ≢ [] → Puts bytes answer s
    → PutsAll bytes answer s
puts_all bytes (Ok done) s n p = p
puts_all bytes (Err Failed) s n p = (n, p)
puts_all bytes (Err OutOfMemory) s n p = p

-- a line that the sink doesn't take
pub line_not_put : (line : List ℕ) (wanted : ℕ) (err : SinkSeen) (fault : SinkFault)
    → Puts {A = Unit {0}} line (Err fault) err → PutsLine line wanted err (fault_status fault)
line_not_put line wanted err Failed p = Fails refl p
line_not_put line wanted err OutOfMemory p = Lacks refl p

-- ---- the run of an image

fault_is_wrong : (o : Option Halt) (t : State) (fault : MachineFault) → fault_of_run o ≡ Some fault
    → (moment_of (t, o)).ending ≡ Some Wrong
fault_is_wrong None t fault h = absurd (let f : ⊥ = cc in f)
fault_is_wrong (Some (Ended verdict)) t fault h = absurd (let f : ⊥ = cc in f)
fault_is_wrong (Some (LacksRoom room)) t fault h = absurd (let f : ⊥ = cc in f)
fault_is_wrong (Some (GoesWrong found)) t fault h = refl

-- the run of an image that never goes wrong has no fault
no_fault : (limits : Limits) (image input : List ℕ) (fault : MachineFault) → RunsWell limits image input
    → fault_of_run (run_within limits image input).1 ≡ Some fault → ⊥
no_fault limits image input fault well h =
    let start = start_of image limits.region limits.stack (fresh_world input) in
    well limits.steps (ap (λ x. x.ending) (run_is_its_turns-states limits.steps start)
    ∙ fault_is_wrong (run_within limits image input).1 (run_within limits image input).0 fault h)

-- an image that never goes wrong was put, and then run
pub runs_after_put : (limits : Limits) (image input bytes : List ℕ) (out img : SinkSeen) (report : Report)
    → RunsWell limits image input → bytes ≡ image → Takes bytes img → Executes limits image input out report
    → Runs limits image input out img report
runs_after_put limits image input bytes out img (HasVerdict verdict) well b t x =
    (subst (λ xs. Takes xs img) b t, x.0, x.1)
runs_after_put limits image input bytes out img (HasFault fault) well b t x =
    no_fault limits image input fault well x.0
runs_after_put limits image input bytes out img PutFailed well b t x = inr (subst (λ xs. Takes xs img) b t, x)
runs_after_put limits image input bytes out img NoMemory well b t x = inr (subst (λ xs. Takes xs img) b t, x)
runs_after_put limits image input bytes out img report well b t x = absurd x.0

-- an image that never goes wrong was run without input, and then its lines were put
pub numbers_put : (image bytes : List ℕ) (lines : ℕ → List ℕ) (out : SinkSeen) (report : Report)
    → RunsWell default_limits image [] → TellsRun (run_within default_limits image []).1 report
    → bytes ≡ lines (length (printed default_limits image [])) → Takes bytes out → PutsNumbers image lines out report
numbers_put image bytes lines out (HasVerdict verdict) well t b x = (t, subst (λ xs. Takes xs out) b x)
numbers_put image bytes lines out (HasFault fault) well t b x = no_fault default_limits image [] fault well t
numbers_put image bytes lines out report well t b x = absurd t

-- an image is run, and all that it prints was put
pub executes_told : (limits : Limits) (image input : List ℕ) (out : SinkSeen) (report : Report)
    → TellsRun (run_within limits image input).1 report → Takes (printed limits image input) out
    → Executes limits image input out report
executes_told limits image input out (HasVerdict verdict) t p = (t, p)
executes_told limits image input out (HasFault fault) t p = (t, p)
executes_told limits image input out report t p = absurd t

-- not all of it was put
pub executes_short : (limits : Limits) (image input : List ℕ) (out : SinkSeen) (report : Report)
    → StopsShort limits image input out report → Executes limits image input out report
executes_short limits image input out PutFailed s = s
executes_short limits image input out NoMemory s = s
executes_short limits image input out report s = absurd s

-- so it is with lines on its storage
pub short_in_space : (limits : Limits) (image input bytes : List ℕ) (tallest : ℕ) (out img : SinkSeen) (report : Report)
    → bytes ≡ image → Takes bytes img → StopsShort limits image input out report
    → RunsInSpace limits image input tallest out img report
short_in_space limits image input bytes tallest out img PutFailed b t s = inr (subst (λ xs. Takes xs img) b t, s)
short_in_space limits image input bytes tallest out img NoMemory b t s = inr (subst (λ xs. Takes xs img) b t, s)
short_in_space limits image input bytes tallest out img report b t s = absurd s

-- an image that never goes wrong was put, then run, and what it prints was put: it is told with its storage
module _ (limits : Limits) (image input : List ℕ) (tallest : ℕ) (well : RunsWell limits image input)
    {bytes : List ℕ} {out img : SinkSeen} (image_is : bytes ≡ image) (taken : Takes bytes img)
    (put : Takes (printed limits image input) out) where
  pub shows_space : (report : Report) (space : Space) → TellsRun (run_within limits image input).1 report
      → ReportsSpace limits image input tallest space
      → RunsInSpace limits image input tallest out img (in_space report space)
  shows_space (HasVerdict verdict) space t r =
      ((subst (λ xs. Takes xs img) image_is taken, t, put), r)
  shows_space (HasFault fault) space t r = absurd (no_fault limits image input fault well t)
  shows_space report space t r = absurd t

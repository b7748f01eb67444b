-- What `audit` puts, and what it comes to.
use Rattle.std.specs.Prelude.{ℕ, ◌≡◌, ◌≢◌, List, [], Some, Contains, length, slice_get}
use Rattle.run_laws.specs.Runs.{Verdict as EndsWith}
use Rattle.grift_base.specs.Sink.{SinkSeen, Untouched, Takes, Breaks}
use Rattle.grift_base.specs.declared.places.Pos.{Pos}
use Rattle.grift_base.specs.declared.verdicts.Verdict.TheVariants.{Blame}
use Rattle.rv_machine.specs.Start.{IsRegionSize, IsStackSize}
use Rattle.rv_machine.specs.Mach.{mach}
use Rattle.core_calc.specs.Calculus.{Program}
use Rattle.cast_rules.specs.Making.{Entry}
use Rattle.cast_insert.specs.Outcomes.{Elaborates}
use Rattle.front_end.specs.Texts.{HasOutcome}
use Rattle.compile_driver.specs.Compiling.{FollowsProgram}
use Rattle.blame_audit.specs.Claims.{NeverTellsBlame}
use Rattle.blame_audit.specs.SafeLabels.{safe_labels}
use Rattle.blame_audit.specs.Texts.{audit_lines}
use Rattle.command_words.specs.Commands.{Audit}
use Rattle.grift_cli.specs.Calls.{CallSeen, HasLoaded}
use Rattle.grift_cli.specs.declared.reports.Report.{Report}
use Rattle.grift_cli.specs.declared.reports.Report.TheVariants.{Audited, PutFailed, NoMemory}

-- ---- what is listed

-- the safe labels of a program with this list of casts, in order
abbrev pub listed_labels : Program → List Entry → List ℕ
listed_labels program casts = safe_labels program.types casts (length program.labels)

-- the lines: the place of each safe label, and how many labels of how many are safe
abbrev pub audited_text : Program → List Entry → List ℕ
audited_text program casts = audit_lines program.labels (listed_labels program casts)

-- this holds of the place of each label that is listed
abbrev pub HoldsOfListed : Program → List Entry → (Pos → Type 0) → Type 0
HoldsOfListed program casts P =
    (p : ℕ) (place : Pos) → Contains (listed_labels program casts) p → slice_get program.labels p ≡ Some place → P place

-- no image that follows the program ends by blaming this place, whatever the region, the stack and the input
abbrev pub IsNeverBlamed : Program → Pos → Type 0
IsNeverBlamed program place =
    (image : List ℕ) (region stack : ℕ) (input : List ℕ) (n : ℕ) → FollowsProgram image program
    → IsRegionSize region → IsStackSize stack
    → (mach image region stack input n).ending ≢ Some (EndsWith (Blame place))

-- ---- calls

-- the file of an audit holds a source that is elaborated to this program, with this list of casts; no image is put
pub record IsAuditFile (call : CallSeen) (program : Program) (casts : List Entry) : Type 0 where
  pub file : List ℕ
  pub text : List ℕ
  pub loaded : HasLoaded call (Audit file) text []
  pub type : ℕ
  pub elaborated : HasOutcome text (Elaborates program.term type program.types program.labels casts)
  pub no_image : Untouched call.img

-- the lines were put whole, and no run blames a place that they list
pub record HasAudited (call : CallSeen) : Type 0 where
  pub program : Program
  pub casts : List Entry
  pub audits : IsAuditFile call program casts
  pub lines_put : Takes (audited_text program casts) call.out
  pub never_blamed : HoldsOfListed program casts (IsNeverBlamed program)

-- the put of the lines failed
pub record FailsToPutAudit (call : CallSeen) : Type 0 where
  pub program : Program
  pub casts : List Entry
  pub audits : IsAuditFile call program casts
  pub fails : Breaks (audited_text program casts) call.out

-- the lines were put whole, and no run of the program blames a place that they list; or the sink failed; or no memory
-- was left and nothing was put
abbrev pub PutsAudit : Program → List Entry → SinkSeen → Report → Type 0
PutsAudit program casts out Audited =
    Takes (audited_text program casts) out × HoldsOfListed program casts (NeverTellsBlame program)
PutsAudit program casts out PutFailed = Breaks (audited_text program casts) out
PutsAudit program casts out NoMemory = Untouched out
PutsAudit program casts out _ = ⊥

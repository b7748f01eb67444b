-- Statuses and lines of reports, and how a call is answered.
use Rattle.std.specs.Prelude.{ℕ, ◌≡◌, ◌⊎◌, List, ◌++◌, codes}
use Rattle.std.specs.Fmt.{decimal}
use Rattle.assembler.specs.declared.image.ImageFault.{ImageFault}
use Rattle.assembler.specs.declared.image.ImageFault.TheVariants.{BadMagic, BadLength, BadSection}
use Rattle.assembler.specs.declared.image.ImageFault.TheVariants.{OutOfMemory as ImageMemory}
use Rattle.grift_base.specs.Refusals.{refusal_text}
use Rattle.grift_base.specs.Sink.{SinkSeen, Untouched, Takes, Breaks}
use Rattle.grift_base.specs.VerdictLine.{verdict_text}
use Rattle.grift_base.specs.declared.refusals.Refusal.{Refusal}
use Rattle.grift_base.specs.declared.verdicts.Verdict.{Verdict}
use Rattle.grift_base.specs.declared.verdicts.Verdict.TheVariants.{Answer, Blame, Trap, RegionOut, StackOut, StepsSpent}
use Rattle.grift_base.specs.declared.refusals.FrontFault.{FrontFault}
use Rattle.grift_base.specs.declared.refusals.FrontFault.TheVariants.{Refused as SourceRefused}
use Rattle.grift_base.specs.declared.refusals.FrontFault.TheVariants.{OutOfMemory as SourceMemory}
use Rattle.grift_base.specs.declared.shelves.LoadFault.{LoadFault}
use Rattle.grift_base.specs.declared.shelves.LoadFault.TheVariants.{Failed as ShelfFailed, TooLong as ShelfTooLong}
use Rattle.grift_base.specs.declared.shelves.LoadFault.TheVariants.{OutOfMemory as ShelfMemory}
use Rattle.grift_base.specs.declared.sinks.SinkFault.{SinkFault}
use Rattle.grift_base.specs.declared.sinks.SinkFault.TheVariants.{Failed as SinkFailed, OutOfMemory as SinkMemory}
use Rattle.machine_words.specs.declared.faults.MachineFault.{MachineFault}
use Rattle.machine_words.specs.declared.faults.MachineFault.TheVariants.{Undefined, BadAddress, Misaligned}
use Rattle.listing.specs.CodeLines.{hex_text}
use Rattle.grift_cli.specs.Calls.{CallSeen}
use Rattle.grift_cli.specs.Lines.{number_line}
use Rattle.grift_cli.specs.Outcome.{Says}
use Rattle.grift_cli.specs.declared.reports.BadImage.{BadImage}
use Rattle.grift_cli.specs.declared.reports.BadImage.TheVariants.{Magic, Length, Section}
use Rattle.grift_cli.specs.declared.reports.Line.{Line}
use Rattle.grift_cli.specs.declared.reports.Line.TheVariants.{Fixed, Made}
use Rattle.grift_cli.specs.declared.reports.Report.{Report}
use Rattle.grift_cli.specs.declared.reports.Report.TheVariants.{HasVerdict, HasFault, Checked, Refused, ImageRefused}
use Rattle.grift_cli.specs.declared.reports.Report.TheVariants.{WordsRefused, LoadFailed, PutFailed}
use Rattle.grift_cli.specs.declared.reports.Report.TheVariants.{Audited, HasSpace, Shown, NoMemory, TooLong}
use Rattle.grift_cli.specs.declared.reports.Space.{Space}

-- ---- statuses and lines

abbrev pub verdict_status : Verdict → ℕ
verdict_status (Answer answer) = 0
verdict_status (Blame place) = 3
verdict_status (Trap trap) = 4
verdict_status RegionOut = 5
verdict_status StackOut = 6
verdict_status StepsSpent = 7

abbrev pub report_status : Report → ℕ
report_status (HasVerdict verdict) = verdict_status verdict
report_status (HasSpace verdict space) = verdict_status verdict
report_status Checked = 0
report_status Audited = 0
report_status Shown = 0
report_status (Refused refusal) = 1
report_status WordsRefused = 2
report_status LoadFailed = 8
report_status PutFailed = 9
report_status NoMemory = 10
report_status (HasFault fault) = 11
report_status TooLong = 12
report_status (ImageRefused fault) = 13

abbrev pub refusal_line : Refusal → List ℕ
refusal_line r =
    codes "refused " ++ refusal_text r.kind ++ codes " " ++ decimal r.pos.line ++ codes ":" ++ decimal r.pos.col
    ++ codes "\n"

abbrev pub fault_line : MachineFault → List ℕ
fault_line (Undefined pc) = codes "machine undefined " ++ hex_text pc ++ codes "\n"
fault_line (BadAddress pc) = codes "machine address " ++ hex_text pc ++ codes "\n"
fault_line (Misaligned pc) = codes "machine misaligned " ++ hex_text pc ++ codes "\n"

abbrev pub bad_image_line : BadImage → List ℕ
bad_image_line Magic = codes "bad image magic\n"
bad_image_line Length = codes "bad image length\n"
bad_image_line Section = codes "bad image section\n"

-- what is told of storage: six lines
abbrev pub space_lines : Space → List ℕ
space_lines space =
    number_line (codes "space bytes ") space.report.bytes ++ number_line (codes "space objects ") space.report.objects
    ++ number_line (codes "space proxies ") space.report.proxies
    ++ number_line (codes "space stacked ") space.report.stacked
    ++ number_line (codes "space highest ") space.report.highest ++ number_line (codes "space tallest ") space.tallest

-- the line of a report; that of a verdict with its storage has six more behind it
abbrev pub report_line : Report → List ℕ
report_line (HasVerdict verdict) = verdict_text verdict ++ codes "\n"
report_line (HasSpace verdict space) = verdict_text verdict ++ codes "\n" ++ space_lines space
report_line (HasFault fault) = fault_line fault
-- a check, an audit or a listing that went well has none
report_line Checked = codes ""
report_line Audited = codes ""
report_line Shown = codes ""
report_line (Refused refusal) = refusal_line refusal
report_line (ImageRefused fault) = bad_image_line fault
report_line WordsRefused = codes "words refused\n"
report_line LoadFailed = codes "load failed\n"
report_line TooLong = codes "file too long\n"
report_line PutFailed = codes "put failed\n"
report_line NoMemory = codes "out of memory\n"

-- the bytes of a line
abbrev pub bytes_of_line : Line → List ℕ
bytes_of_line (Fixed bytes) = bytes.now
bytes_of_line (Made text) = text

-- ---- how a call is answered

-- a line was put for this status; or the sink failed, with a beginning of the line; or no memory was left for the put,
-- and nothing was put
pub data PutsLine (line : List ℕ) (wanted : ℕ) (err : SinkSeen) (status : ℕ) : Type 0 where
  Put : status ≡ wanted → Takes line err → PutsLine line wanted err status
  Fails : status ≡ 9 → Breaks line err → PutsLine line wanted err status
  Lacks : status ≡ 10 → Untouched err → PutsLine line wanted err status

-- the line of the report takes memory to be made; the other lines are fixed
abbrev pub IsMadeLine : Report → Type 0
IsMadeLine (HasVerdict verdict) = Unit {0}
IsMadeLine (HasSpace verdict space) = Unit {0}
IsMadeLine (HasFault fault) = Unit {0}
IsMadeLine (Refused refusal) = Unit {0}
IsMadeLine _ = ⊥

-- a check, an audit or a listing that went well puts nothing; else the report's line was put, or, where no memory was
-- left to make it, that of want of memory
abbrev pub PutsReport : Report → SinkSeen → ℕ → Type 0
PutsReport Checked err status = (status ≡ 0) × Untouched err
PutsReport Audited err status = (status ≡ 0) × Untouched err
PutsReport Shown err status = (status ≡ 0) × Untouched err
PutsReport report err status =
    PutsLine (report_line report) (report_status report) err status
    ⊎ (IsMadeLine report × PutsLine (report_line NoMemory) (report_status NoMemory) err status)

-- the call is answered by this status: a report says what came of it, and its line was put
pub record IsAnswered (call : CallSeen) (err : SinkSeen) (status : ℕ) : Type 0 where
  pub report : Report
  pub says : Says report call
  pub put : PutsReport report err status

-- ---- what faults are reported as

-- the status where the sink for the line failed or found no memory
abbrev pub fault_status : SinkFault → ℕ
fault_status SinkFailed = 9
fault_status SinkMemory = 10

-- a fault of the shelf
abbrev pub load_report : LoadFault → Report
load_report ShelfFailed = LoadFailed
load_report ShelfTooLong = TooLong
load_report ShelfMemory = NoMemory

-- a fault of the source
abbrev pub source_report : FrontFault → Report
source_report (SourceRefused refusal) = Refused refusal
source_report SourceMemory = NoMemory

-- a fault of the bytes of an image
abbrev pub image_report : ImageFault → Report
image_report BadMagic = ImageRefused Magic
image_report BadLength = ImageRefused Length
image_report BadSection = ImageRefused Section
image_report ImageMemory = NoMemory

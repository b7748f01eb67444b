-- What is told of a source that is elaborated, and by which command.
use Rattle.std.specs.Prelude.{ℕ, List}
use Rattle.grift_base.specs.Sink.{SinkSeen}
use Rattle.grift_base.specs.Types.{TypeRows}
use Rattle.insert_steps.specs.Views.{entries_of}
use Rattle.cast_insert.specs.declared.insertion.Elab.{Elab}
use Rattle.blame_audit.specs.Claims.{program_over}
use Rattle.listing.specs.CastLines.{cast_listing}
use Rattle.grift_cli.specs.Auditing.{PutsAudit}
use Rattle.grift_cli.specs.Checking.{PutsLines, checked_text}
use Rattle.command_words.specs.Commands.{Command, Check, Audit, Casts}
use Rattle.grift_cli.specs.Listing.{PutsShown}
use Rattle.grift_cli.specs.declared.aspects.Aspect.{Aspect}
use Rattle.grift_cli.specs.declared.aspects.Aspect.TheVariants.{Summary, SafeLabels, Coercions}
use Rattle.grift_cli.specs.declared.reports.Report.{Report}

-- the command that tells this of a source
abbrev pub command_about : Aspect → List ℕ → Command
command_about Summary file = Check file
command_about SafeLabels file = Audit file
command_about Coercions file = Casts file

-- what comes of the put of an aspect, told the types of the source and its elaboration
abbrev pub PutsAspect : Aspect → TypeRows → Elab → SinkSeen → Report → Type 0
PutsAspect Summary types elab out report = PutsLines (checked_text types elab.ty.0 (entries_of elab.casts)) out report
PutsAspect SafeLabels types elab out report = PutsAudit (program_over types elab) (entries_of elab.casts) out report
PutsAspect Coercions types elab out report =
    PutsShown (cast_listing types elab.labels (entries_of elab.casts)) out report

-- What a report says of a call of the program.
use Rattle.std.specs.Prelude.{ℕ, ◌≤◌, ◌++◌, ◌≡◌, ◌≢◌, ◌⊎◌, Bool, true, false, List, [], Option, Some}
use Rattle.grift_base.specs.Sink.{SinkSeen, Untouched, Takes, Breaks}
use Rattle.grift_base.specs.declared.refusals.Refusal.{Refusal}
use Rattle.grift_base.specs.declared.verdicts.Verdict.{Verdict}
use Rattle.rv_machine.specs.Image.{IsImage}
use Rattle.machine_words.specs.declared.faults.MachineFault.{MachineFault}
use Rattle.core_calc.specs.Calculus.{Program}
use Rattle.assembler.specs.Faults.{IsFirstFault}
use Rattle.cast_insert.specs.Outcomes.{IsRefused as IsRefusedText}
use Rattle.front_end.specs.Texts.{HasOutcome}
use Rattle.compile_driver.specs.Bounds.{KeepsAccount}
use Rattle.compile_driver.specs.Compiling.{HasProgram, FollowsProgram, tallest_in}
use Rattle.compile_driver.specs.Space.{KeepsSpace}
use Rattle.grift_cli.specs.Runs.{run_within, printed, printed_after, verdict_of_run, fault_of_run, ComesTo}
use Rattle.grift_cli.specs.Spaces.{ReportsSpace}
use Rattle.command_words.specs.Commands.{Command, Run, Exec, Gen}
use Rattle.grift_cli.specs.Calls.{CallSeen, PutsNothing, HasLoaded, HasNoCommand, HasNoFile, HasLongFile, LacksFile}
use Rattle.grift_cli.specs.Auditing.{HasAudited, FailsToPutAudit}
use Rattle.grift_cli.specs.Checking.{HasChecked, FailsToPutLines}
use Rattle.grift_cli.specs.Generating.{HasGenerated}
use Rattle.grift_cli.specs.Listing.{HasShown, FailsToShow}
use Rattle.grift_cli.specs.Modelling.{HasModelled, FailsToPutModel}
use Rattle.grift_cli.specs.Answers.{image_fault}
use Rattle.command_words.specs.declared.commands.Limits.{Limits}
use Rattle.grift_cli.specs.declared.reports.BadImage.{BadImage}
use Rattle.grift_cli.specs.declared.reports.Report.{Report}
use Rattle.grift_cli.specs.declared.reports.Report.TheVariants.{HasVerdict, HasFault, Checked, Refused, ImageRefused}
use Rattle.grift_cli.specs.declared.reports.Report.TheVariants.{HasSpace}
use Rattle.grift_cli.specs.declared.reports.Space.{Space}
use Rattle.grift_cli.specs.declared.reports.Report.TheVariants.{WordsRefused, LoadFailed, PutFailed}
use Rattle.grift_cli.specs.declared.reports.Report.TheVariants.{Audited, Shown, NoMemory, TooLong}

-- ---- puts that fail

-- the put of the image failed, and so nothing was put on the output
abbrev pub ImageFails : List ℕ → SinkSeen → SinkSeen → Type 0
ImageFails image out img = Breaks image img × Untouched out

-- the put of what the image has printed failed, after some number of instructions: what was added, by puts before as
-- well, is a beginning of what it has printed by then
pub record OutputFails (limits : Limits) (image input : List ℕ) (out : SinkSeen) : Type 0 where
  pub turns : ℕ
  pub within : turns ≤ limits.steps
  pub some : printed_after limits image input turns ≢ []
  pub fails : Breaks (printed_after limits image input turns) out

-- no memory was left after some number of instructions: what was added is a beginning of what the image has printed by
-- then, and the rest was kept
pub record OutputStops (limits : Limits) (image input : List ℕ) (out : SinkSeen) : Type 0 where
  pub turns : ℕ
  pub within : turns ≤ limits.steps
  pub put : List ℕ
  pub kept : List ℕ
  pub output_is : printed_after limits image input turns ≡ put ++ kept
  pub taken : Takes put out

-- ---- a source that is refused

-- the command is about a source
abbrev pub IsOfSource : Command → Type 0
IsOfSource (Exec file limits input) = ⊥
IsOfSource (Gen number) = ⊥
IsOfSource _ = Unit {0}

-- the file of the command holds no source that is elaborated: this is its first refusal
pub record IsRefused (call : CallSeen) (refusal : Refusal) : Type 0 where
  pub command : Command
  pub of_source : IsOfSource command
  pub text : List ℕ
  pub input : List ℕ
  pub loaded : HasLoaded call command text input
  pub refused : HasOutcome text (IsRefusedText refusal.kind refusal.pos)
  pub nothing : PutsNothing call

-- ---- a source that is compiled and run

-- the text is the source of a program, whose term is a program term, and which this image follows, with storage as it
-- has to be at each instruction, and within the program's account; it is to be run within these limits on this input,
-- with or without lines on storage
pub record IsCompiled (call : CallSeen) (limits : Limits) (space : Bool) (image input : List ℕ) : Type 0 where
  pub file : List ℕ
  pub input_name : Option (List ℕ)
  pub name : Option (List ℕ)
  pub text : List ℕ
  pub loaded : HasLoaded call (Run file limits input_name space name) text input
  pub program : Program
  pub source : HasProgram text program
  pub whole : IsImage image
  pub follows : FollowsProgram image program
  pub keeps : KeepsSpace image program.types (tallest_in program)
  pub account : KeepsAccount image program

-- the image was put whole, the verdict of its run on the input is this one, which is what the program comes to on it,
-- and what it prints was put whole
pub record HasRun (call : CallSeen) (space : Bool) (verdict : Verdict) : Type 0 where
  pub limits : Limits
  pub image : List ℕ
  pub input : List ℕ
  pub compiled : IsCompiled call limits space image input
  pub image_put : Takes image call.img
  pub verdict_is : verdict_of_run (run_within limits image input).1 ≡ Some verdict
  pub meant : ComesTo compiled.program input (printed limits image input) verdict
  pub output_put : Takes (printed limits image input) call.out

-- so it was with `--space`, and this is what is told of the run's storage
pub record HasRunInSpace (call : CallSeen) (verdict : Verdict) (told : Space) : Type 0 where
  pub run : HasRun call true verdict
  pub reported : ReportsSpace run.limits run.image run.input (tallest_in run.compiled.program) told

-- a sink failed when there was an image
pub record FailsToPut (call : CallSeen) : Type 0 where
  pub limits : Limits
  pub space : Bool
  pub image : List ℕ
  pub input : List ℕ
  pub compiled : IsCompiled call limits space image input
  pub fails : ImageFails image call.out call.img
      ⊎ (Takes image call.img × OutputFails limits image input call.out)

-- no memory was left when there was an image: for its put, and then nothing was put; or for its run or a put of its
-- output, of which a beginning was put
pub record LacksRun (call : CallSeen) : Type 0 where
  pub limits : Limits
  pub space : Bool
  pub image : List ℕ
  pub input : List ℕ
  pub compiled : IsCompiled call limits space image input
  pub lacks : (Untouched call.img × Untouched call.out)
      ⊎ (Takes image call.img × OutputStops limits image input call.out)

-- ---- an image from a file that is run

-- the file holds an image, which is to be run within these limits on this input; none is put
pub record IsImageFile (call : CallSeen) (limits : Limits) (image input : List ℕ) : Type 0 where
  pub file : List ℕ
  pub input_name : Option (List ℕ)
  pub loaded : HasLoaded call (Exec file limits input_name) image input
  pub whole : IsImage image
  pub no_image : Untouched call.img

-- the file holds no image: this is the first test that its bytes fail
pub record IsNoImageFile (call : CallSeen) (fault : BadImage) : Type 0 where
  pub file : List ℕ
  pub limits : Limits
  pub input_name : Option (List ℕ)
  pub bytes : List ℕ
  pub input : List ℕ
  pub loaded : HasLoaded call (Exec file limits input_name) bytes input
  pub first : IsFirstFault bytes (image_fault fault)
  pub nothing : PutsNothing call

-- the call runs the image of a file, within these limits on this input
pub record RunsFile (call : CallSeen) : Type 0 where
  pub limits : Limits
  pub image : List ℕ
  pub input : List ℕ
  pub image_file : IsImageFile call limits image input

-- the verdict of its run is this one, and what it prints was put whole
pub record HasExecuted (call : CallSeen) (verdict : Verdict) : Type 0 where
  pub file : RunsFile call
  pub verdict_is : verdict_of_run (run_within file.limits file.image file.input).1 ≡ Some verdict
  pub output_put : Takes (printed file.limits file.image file.input) call.out

-- its run has gone wrong by this fault, and what it prints was put whole
pub record HasGoneWrong (call : CallSeen) (fault : MachineFault) : Type 0 where
  pub file : RunsFile call
  pub fault_is : fault_of_run (run_within file.limits file.image file.input).1 ≡ Some fault
  pub output_put : Takes (printed file.limits file.image file.input) call.out

-- a put of what it prints failed
pub record FailsToPutOutput (call : CallSeen) : Type 0 where
  pub file : RunsFile call
  pub fails : OutputFails file.limits file.image file.input call.out

-- no memory was left for its run or a put of its output, of which a beginning was put
pub record LacksOutput (call : CallSeen) : Type 0 where
  pub file : RunsFile call
  pub stops : OutputStops file.limits file.image file.input call.out

-- no memory was left for what is made of the file: nothing was put
pub record LacksImage (call : CallSeen) : Type 0 where
  pub command : Command
  pub bytes : List ℕ
  pub input : List ℕ
  pub loaded : HasLoaded call command bytes input
  pub nothing : PutsNothing call

-- ---- reports

-- what a report says of the call up to its line
abbrev pub Says : Report → CallSeen → Type 0
Says (HasVerdict verdict) call =
    HasRun call false verdict
    ⊎ (HasExecuted call verdict ⊎ (HasModelled call verdict ⊎ HasGenerated call (HasVerdict verdict)))
Says (HasSpace verdict space) call = HasRunInSpace call verdict space
Says (HasFault fault) call = HasGoneWrong call fault
Says Checked call = HasChecked call
Says Audited call = HasAudited call
Says Shown call = HasShown call
Says (Refused refusal) call = IsRefused call refusal ⊎ HasGenerated call (Refused refusal)
Says (ImageRefused fault) call = IsNoImageFile call fault
Says WordsRefused call = HasNoCommand call
Says LoadFailed call = HasNoFile call
Says TooLong call = HasLongFile call
Says PutFailed call =
    FailsToPut call
    ⊎ (FailsToPutOutput call
    ⊎ (FailsToPutLines call
    ⊎ (FailsToPutAudit call ⊎ (FailsToPutModel call ⊎ (FailsToShow call ⊎ HasGenerated call PutFailed)))))
Says NoMemory call =
    LacksFile call ⊎ (LacksImage call ⊎ (LacksRun call ⊎ (LacksOutput call ⊎ HasGenerated call NoMemory)))

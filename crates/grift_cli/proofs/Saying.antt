-- What the report of a call says of it.
use Rattle.std.proofs.Common.{ℕ, ◌≡◌, inl, inr, Bool, true, false, List, [], Option, Some, None, refl, sym, ◌∙◌}
use Rattle.std.proofs.Common.{ap}
use Rattle.std.proofs.Common.{subst}
use Rattle.std.specs.Prelude.{Err, ◌≢◌}
use Rattle.run_laws.specs.Runs.{Ending, EndsAs, Follows}
use Rattle.run_laws.proofs.Public.{follower_never_goes_wrong}
use Rattle.assembler.specs.declared.image.ImageFault.{ImageFault}
use Rattle.assembler.specs.declared.image.ImageFault.TheVariants.{BadMagic, BadLength, BadSection}
use Rattle.assembler.specs.declared.image.ImageFault.TheVariants.{OutOfMemory as ImageMemory}
use Rattle.assembler.specs.Faults.{IsFirstFault}
use Rattle.grift_base.specs.declared.places.Pos.{Pos}
use Rattle.grift_base.specs.declared.refusals.FrontFault.{FrontFault}
use Rattle.grift_base.specs.declared.refusals.FrontFault.TheVariants.{Refused as SourceRefused}
use Rattle.grift_base.specs.declared.refusals.FrontFault.TheVariants.{OutOfMemory as SourceMemory}
use Rattle.grift_base.specs.declared.shelves.LoadFault.{LoadFault}
use Rattle.grift_base.specs.declared.shelves.LoadFault.TheVariants.{Failed as ShelfFailed, TooLong as ShelfTooLong}
use Rattle.grift_base.specs.declared.shelves.LoadFault.TheVariants.{OutOfMemory as ShelfMemory}
use Rattle.grift_base.specs.declared.verdicts.Verdict.{Verdict}
use Rattle.grift_base.specs.declared.verdicts.Verdict.TheVariants.{Answer, Blame, Trap, RegionOut, StackOut, StepsSpent}
use Rattle.core_calc.specs.Calculus.{Program, calc}
use Rattle.rv_machine.specs.State.{State}
use Rattle.machine_words.specs.Halts.{Region, Stack, Halt, Ended, Lacks, GoesWrong}
use Rattle.rv_machine.specs.Start.{IsRegionSize, IsStackSize, start_of, fresh_world}
use Rattle.rv_machine.specs.Image.{IsImage}
use Rattle.rv_machine.specs.Mach.{mach, moment_of}
use Rattle.rv_machine.proofs.Public.{run_is_its_turns-states}
use Rattle.front_end.specs.Texts.{HasOutcome, IsFault}
use Rattle.core_calc.specs.Views.{term_of}
use Rattle.cast_rules.specs.Making.{Entry}
use Rattle.cast_insert.specs.Outcomes.{Elaborates}
use Rattle.insert_steps.specs.Views.{entries_of}
use Rattle.cast_insert.specs.declared.insertion.Elab.{Elab}
use Rattle.compile_driver.specs.Bounds.{KeepsAccount}
use Rattle.compile_driver.specs.Compiling.{FollowsProgram, HasProgram, IsTold, program_of, tallest_in}
use Rattle.compile_driver.specs.Space.{KeepsSpace}
use Rattle.compile_driver.specs.declared.compiling.Compiled.{Compiled}
use Rattle.blame_audit.specs.Claims.{NeverTellsBlame, program_over}
use Rattle.listing.specs.CastLines.{cast_listing}
use Rattle.grift_base.specs.Sink.{Untouched}
use Rattle.grift_base.specs.Types.{TypeRows}
use Rattle.grift_cli.specs.Aspects.{PutsAspect, command_about}
use Rattle.grift_cli.specs.Answers.{image_fault}
use Rattle.grift_cli.specs.Calls.{CallSeen, PutsNothing, File, AreLoaded, AsksNothing, LoadsFiles, HasLoaded}
use Rattle.grift_cli.specs.Calls.{file_of, input_of, source_file}
use Rattle.grift_cli.specs.Auditing.{IsAuditFile, IsNeverBlamed, PutsAudit}
use Rattle.grift_cli.specs.Checking.{ElaboratesFile, HasElaboration, PutsLines, checked_text}
use Rattle.command_words.specs.Commands.{Command, Run, Exec, Check, Audit, Casts, Model, IsCommand, IsGen}
use Rattle.grift_cli.specs.Generating.{Generates, HasGenerated}
use Rattle.grift_cli.specs.Listing.{IsImageOf, IsShownFile, PutsShown, Shows, command_by, seen_by}
use Rattle.grift_cli.specs.Modelling.{IsModelFile, Models}
use Rattle.grift_cli.specs.Outcome.{IsCompiled, IsNoImageFile, IsOfSource, RunsFile, Says}
use Rattle.grift_cli.specs.Reporting.{load_report, source_report, image_report}
use Rattle.grift_cli.specs.Running.{RunsWell, Runs, RunsInSpace, Executes}
use Rattle.grift_cli.specs.Runs.{run_within, printed, verdict_of_run, HasEndedBy, ComesTo}
use Rattle.grift_cli.specs.Spaces.{ReportsSpace}
use Rattle.grift_cli.specs.declared.aspects.Aspect.{Aspect}
use Rattle.grift_cli.specs.declared.aspects.Aspect.TheVariants.{Summary, SafeLabels, Coercions}
use Rattle.command_words.specs.declared.commands.Limits.{Limits}
use Rattle.grift_cli.specs.declared.listings.View.{View}
use Rattle.grift_cli.specs.declared.listings.View.TheVariants.{Listing, Bytes}
use Rattle.grift_cli.specs.declared.reports.BadImage.{BadImage}
use Rattle.grift_cli.specs.declared.reports.BadImage.TheVariants.{Magic, Length, Section}
use Rattle.grift_cli.specs.declared.reports.Report.{Report}
use Rattle.grift_cli.specs.declared.reports.Report.TheVariants.{HasVerdict, HasSpace, HasFault, Checked, Refused}
use Rattle.grift_cli.specs.declared.reports.Report.TheVariants.{PutFailed}
use Rattle.grift_cli.specs.declared.reports.Report.TheVariants.{Audited, Shown, NoMemory}

-- ---- the run of an image and of its program

-- an image that follows a program never goes wrong
pub runs_well : (limits : Limits) (image input : List ℕ) (program : Program) → IsRegionSize limits.region
    → IsStackSize limits.stack → FollowsProgram image program → RunsWell limits image input
runs_well limits image input program r k f = follower_never_goes_wrong (f limits.region limits.stack input r k)

same_verdict : (a b : Verdict) → ◌≡◌ {A = Option Verdict} (Some a) (Some b) → a ≡ b
same_verdict a b e = cc

-- what ends as a stop with a verdict of its own has ended by it
ended_by_own : (s : State) (verdict : Verdict) (ending : Option (Ending Verdict))
    → EndsAs (moment_of (s, Some (Ended verdict))).ending ending → HasEndedBy verdict ending
ended_by_own s (Answer answer) ending e = e
ended_by_own s (Blame place) ending e = e
ended_by_own s (Trap trap) ending e = e
ended_by_own s RegionOut ending e = tt
ended_by_own s StackOut ending e = tt
ended_by_own s StepsSpent ending e = tt

-- what ends as a run with this verdict has ended by it
ended_by : (o : Option Halt) (s : State) (verdict : Verdict) (ending : Option (Ending Verdict))
    → verdict_of_run o ≡ Some verdict → EndsAs (moment_of (s, o)).ending ending → HasEndedBy verdict ending
ended_by None s verdict ending t e = subst (λ v. HasEndedBy v ending) (same_verdict StepsSpent verdict t) tt
ended_by (Some (Ended shown)) s verdict ending t e =
    subst (λ v. HasEndedBy v ending) (same_verdict shown verdict t) (ended_by_own s shown ending e)
ended_by (Some (Lacks Region)) s verdict ending t e =
    subst (λ v. HasEndedBy v ending) (same_verdict RegionOut verdict t) tt
ended_by (Some (Lacks Stack)) s verdict ending t e =
    subst (λ v. HasEndedBy v ending) (same_verdict StackOut verdict t) tt
ended_by (Some (GoesWrong fault)) s verdict ending t e = absurd (let f : ⊥ = cc in f)

output_of : (s : State) (o : Option Halt) → (moment_of (s, o)).output ≡ s.world.output
output_of s None = refl
output_of s (Some halt) = refl

comes_at : (s : State) (o : Option Halt) (program : Program) (input : List ℕ) (verdict : Verdict) (n : ℕ)
    → verdict_of_run o ≡ Some verdict → (moment_of (s, o)).output ≡ (calc program input n).output
    → EndsAs (moment_of (s, o)).ending (calc program input n).ending → ComesTo program input s.world.output verdict
comes_at s o program input verdict n t out e = record {
  steps = n;
  output_is = sym out ∙ output_of s o;
  ended = ended_by o s verdict (calc program input n).ending t e;
}

-- the program comes to the verdict of its image's run
pub comes_to : (limits : Limits) (image input : List ℕ) (program : Program) (verdict : Verdict)
    → IsRegionSize limits.region → IsStackSize limits.stack → FollowsProgram image program
    → verdict_of_run (run_within limits image input).1 ≡ Some verdict
    → ComesTo program input (printed limits image input) verdict
comes_to limits image input program verdict r k f t =
    let follows : Follows (mach image limits.region limits.stack input) (calc program input) =
    f limits.region limits.stack input r k in
    let (n, out, e) = follows.back limits.steps in
    let here = run_is_its_turns-states limits.steps (start_of image limits.region limits.stack (fresh_world input)) in
    comes_at (run_within limits image input).0 (run_within limits image input).1 program input verdict n t
    (sym (ap (λ m. m.output) here) ∙ out) (subst (λ m. EndsAs m.ending (calc program input n).ending) here e)

-- ---- the files of a command

-- files that were loaded
pub has_loaded : (call : CallSeen) (command : Command) (file : File) (bytes input items read : List ℕ)
    → IsCommand call.words command → file_of command ≡ Some file
    → AreLoaded call.shelf file (input_of command) items read → bytes ≡ items → input ≡ read
    → HasLoaded call command bytes input
has_loaded call command file bytes input items read is of loaded e f = record {
  words = is;
  file = file;
  file_is = of;
  loaded =
      subst (λ xs. AreLoaded call.shelf file (input_of command) xs input) (sym e)
      (subst (λ ys. AreLoaded call.shelf file (input_of command) items ys) (sym f) loaded);
}

-- a file that was not loaded
pub says_load_fault : (call : CallSeen) (command : Command) (file : File) (fault : LoadFault)
    → IsCommand call.words command → file_of command ≡ Some file → PutsNothing call
    → LoadsFiles file (input_of command) (Err fault) call.shelf → Says (load_report fault) call
says_load_fault call command file ShelfFailed is of p loads =
    record { command = command; words = is; file = file; file_is = of; ends_so = loads; nothing = p }
says_load_fault call command file ShelfTooLong is of p loads =
    record { command = command; words = is; file = file; file_is = of; ends_so = loads; nothing = p }
says_load_fault call command file ShelfMemory is of p loads =
    inl (record { command = command; words = is; file = file; file_is = of; ends_so = loads; nothing = p })

-- there is no memory for what is made of the file
pub says_no_memory : (call : CallSeen) (command : Command) (bytes input : List ℕ) → HasLoaded call command bytes input
    → PutsNothing call → Says NoMemory call
says_no_memory call command bytes input l p =
    inr (inl (record { command = command; bytes = bytes; input = input; loaded = l; nothing = p }))

-- the source is refused
pub says_source_fault : (call : CallSeen) (command : Command) (text input : List ℕ) (fault : FrontFault)
    → IsOfSource command → HasLoaded call command text input → PutsNothing call → IsFault text fault
    → Says (source_report fault) call
says_source_fault call command text input (SourceRefused refusal) s l p f = inl (record {
  command = command;
  of_source = s;
  text = text;
  input = input;
  loaded = l;
  refused = f;
  nothing = p;
})
says_source_fault call command text input SourceMemory s l p f = says_no_memory call command text input l p

-- the command is about the source in this file, and reads no input
pub record ReadsSource (command : Command) (file : List ℕ) : Type 0 where
  pub of_source : IsOfSource command
  pub file_is : file_of command ≡ Some (source_file file)
  pub no_input : None ≡ input_of command

-- so are those that tell an aspect of a source
pub aspect_reads : (aspect : Aspect) (file : List ℕ) → ReadsSource (command_about aspect file) file
aspect_reads Summary file = record { of_source = tt; file_is = refl; no_input = refl }
aspect_reads SafeLabels file = record { of_source = tt; file_is = refl; no_input = refl }
aspect_reads Coercions file = record { of_source = tt; file_is = refl; no_input = refl }

-- and those that show a view of its image
pub view_reads : (view : View) (file : List ℕ) → ReadsSource (command_by view file) file
view_reads Listing file = record { of_source = tt; file_is = refl; no_input = refl }
view_reads Bytes file = record { of_source = tt; file_is = refl; no_input = refl }

-- its file was loaded
pub source_loaded : (call : CallSeen) (command : Command) (file bytes items read : List ℕ) → ReadsSource command file
    → IsCommand call.words command → AreLoaded call.shelf (source_file file) None items read → bytes ≡ items
    → [] ≡ read → HasLoaded call command bytes []
source_loaded call command file bytes items read reads is loaded e f =
    has_loaded call command (source_file file) bytes [] items read is reads.file_is
    (subst (λ input. AreLoaded call.shelf (source_file file) input items read) reads.no_input loaded) e f

-- or it was not
pub says_unloaded : (call : CallSeen) (command : Command) (file : List ℕ) (fault : LoadFault)
    → ReadsSource command file → IsCommand call.words command → PutsNothing call
    → LoadsFiles (source_file file) None (Err fault) call.shelf → Says (load_report fault) call
says_unloaded call command file fault reads is p loads =
    says_load_fault call command (source_file file) fault is reads.file_is p
    (subst (λ input. LoadsFiles (source_file file) input (Err fault) call.shelf) reads.no_input loads)

-- ---- a source that is compiled and run

-- what was compiled is to be run
abbrev pub is_compiled : (call : CallSeen) (file : List ℕ) (limits : Limits) (input_name : Option (List ℕ))
    (space : Bool) (name : Option (List ℕ)) (text input : List ℕ) (compiled : Compiled)
    → HasLoaded call (Run file limits input_name space name) text input → HasProgram text (program_of compiled)
    → IsTold text compiled → IsImage compiled.image → FollowsProgram compiled.image (program_of compiled)
    → KeepsSpace compiled.image compiled.types compiled.tallest → KeepsAccount compiled.image (program_of compiled)
    → IsCompiled call limits space compiled.image input
is_compiled call file limits input_name space name text input compiled l source told whole follows keeps account =
    record {
      file = file;
      input_name = input_name;
      name = name;
      text = text;
      loaded = l;
      program = program_of compiled;
      source = source;
      whole = whole;
      follows = follows;
      keeps = subst (KeepsSpace compiled.image compiled.types) told.tallest keeps;
      account = account;
    }

-- the image of the source is run
pub says_run : (call : CallSeen) (limits : Limits) (image input : List ℕ) (report : Report)
    → IsRegionSize limits.region → IsStackSize limits.stack → IsCompiled call limits false image input
    → Runs limits image input call.out call.img report → Says report call
says_run call limits image input (HasVerdict verdict) r k c x = inl (record {
  limits = limits;
  image = image;
  input = input;
  compiled = c;
  image_put = x.0;
  verdict_is = x.1;
  meant = comes_to limits image input c.program verdict r k c.follows x.1;
  output_put = x.2;
})
says_run call limits image input PutFailed r k c x =
    inl (record { limits = limits; space = false; image = image; input = input; compiled = c; fails = x })
says_run call limits image input NoMemory r k c x = inr (inr (inl (record {
  limits = limits;
  space = false;
  image = image;
  input = input;
  compiled = c;
  lacks = x;
})))
says_run call limits image input report r k c x = absurd x

-- so it is with lines on its storage
pub says_run_in_space : (call : CallSeen) (limits : Limits) (image input : List ℕ) (tallest : ℕ) (report : Report)
    → IsRegionSize limits.region → IsStackSize limits.stack → (c : IsCompiled call limits true image input)
    → tallest ≡ tallest_in c.program → RunsInSpace limits image input tallest call.out call.img report
    → Says report call
says_run_in_space call limits image input tallest (HasSpace verdict space) r k c e x = record {
  run = record {
    limits = limits;
    image = image;
    input = input;
    compiled = c;
    image_put = x.0.0;
    verdict_is = x.0.1;
    meant = comes_to limits image input c.program verdict r k c.follows x.0.1;
    output_put = x.0.2;
  };
  reported = subst (λ n. ReportsSpace limits image input n space) e x.1;
}
says_run_in_space call limits image input tallest PutFailed r k c e x =
    inl (record { limits = limits; space = true; image = image; input = input; compiled = c; fails = x })
says_run_in_space call limits image input tallest NoMemory r k c e x = inr (inr (inl (record {
  limits = limits;
  space = true;
  image = image;
  input = input;
  compiled = c;
  lacks = x;
})))
says_run_in_space call limits image input tallest report r k c e x = absurd x

-- ---- an image from a file that is run

-- the bytes of the file fail this test first
no_image_file : (call : CallSeen) (file : List ℕ) (limits : Limits) (input_name : Option (List ℕ))
    (bytes input : List ℕ) (fault : BadImage) → HasLoaded call (Exec file limits input_name) bytes input
    → PutsNothing call → IsFirstFault bytes (image_fault fault) → IsNoImageFile call fault
no_image_file call file limits input_name bytes input fault l p first = record {
  file = file;
  limits = limits;
  input_name = input_name;
  bytes = bytes;
  input = input;
  loaded = l;
  first = first;
  nothing = p;
}

-- the file holds no image
pub says_image_fault : (call : CallSeen) (file : List ℕ) (limits : Limits) (input_name : Option (List ℕ))
    (bytes input : List ℕ) (fault : ImageFault) → HasLoaded call (Exec file limits input_name) bytes input
    → PutsNothing call → (fault ≢ ImageMemory → IsFirstFault bytes fault)
    → Says (image_report fault) call
says_image_fault call file limits input_name bytes input BadMagic l p f =
    no_image_file call file limits input_name bytes input Magic l p (f (λ e. cc))
says_image_fault call file limits input_name bytes input BadLength l p f =
    no_image_file call file limits input_name bytes input Length l p (f (λ e. cc))
says_image_fault call file limits input_name bytes input BadSection l p f =
    no_image_file call file limits input_name bytes input Section l p (f (λ e. cc))
says_image_fault call file limits input_name bytes input ImageMemory l p f =
    says_no_memory call (Exec file limits input_name) bytes input l p

-- the image that the file holds is run
pub says_exec : (call : CallSeen) (file : RunsFile call) (report : Report)
    → Executes file.limits file.image file.input call.out report → Says report call
says_exec call file (HasVerdict verdict) x = inr (inl (record { file = file; verdict_is = x.0; output_put = x.1 }))
says_exec call file (HasFault fault) x = record { file = file; fault_is = x.0; output_put = x.1 }
says_exec call file PutFailed x = inr (inl (record { file = file; fails = x }))
says_exec call file NoMemory x = inr (inr (inr (inl (record { file = file; stops = x }))))
says_exec call file report x = absurd x.0

-- ---- a source that is elaborated

-- the lines of a source are put
pub says_check : (call : CallSeen) (lines : List ℕ) (report : Report) → ElaboratesFile call lines
    → PutsLines lines call.out report → Says report call
says_check call lines Checked e x = record { lines = lines; elaborates = e; lines_put = x }
says_check call lines PutFailed e x = inr (inr (inl (record { lines = lines; elaborates = e; fails = x })))
says_check call lines NoMemory e x =
    says_no_memory call (Check e.file) e.text [] e.loaded (record { out = x; img = e.no_image })
says_check call lines report e x = absurd x

-- ---- a source whose labels are audited

-- what no run of the program tells, no run of an image tells that follows it
never_blamed : (program : Program) (place : Pos) → NeverTellsBlame program place → IsNeverBlamed program place
never_blamed program place never image region stack input n follows r k blames =
    let (at, out, e) = (follows region stack input r k).back n in
    never input at (subst (λ ending. EndsAs ending (calc program input at).ending) blames e)

-- the lines of an audit are put
pub says_audit : (call : CallSeen) (program : Program) (casts : List Entry) (report : Report)
    → IsAuditFile call program casts → PutsAudit program casts call.out report → Says report call
says_audit call program casts Audited a x = record {
  program = program;
  casts = casts;
  audits = a;
  lines_put = x.0;
  never_blamed = λ p place listed at. never_blamed program place (x.1 p place listed at);
}
says_audit call program casts PutFailed a x =
    inr (inr (inr (inl (record { program = program; casts = casts; audits = a; fails = x }))))
says_audit call program casts NoMemory a x =
    says_no_memory call (Audit a.file) a.text [] a.loaded (record { out = x; img = a.no_image })
says_audit call program casts report a x = absurd x

-- ---- a source whose calculus is run

-- the calculus of the source is run
pub says_model : (call : CallSeen) (program : Program) (steps : ℕ) (input : List ℕ) (report : Report)
    → IsModelFile call program steps input → Models program steps input call.out report → Says report call
says_model call program steps input (HasVerdict verdict) m x = inr (inr (inl (record {
  program = program;
  steps = steps;
  input = input;
  modelled = m;
  verdict_is = x.0;
  output_put = x.1;
})))
says_model call program steps input PutFailed m x = inr (inr (inr (inr (inl (record {
  program = program;
  steps = steps;
  input = input;
  modelled = m;
  some = x.0;
  fails = x.1;
})))))
says_model call program steps input NoMemory m x =
    says_no_memory call (Model m.file steps m.input_name) m.text input m.loaded
    (record { out = x; img = m.no_image })
says_model call program steps input report m x = absurd x

-- ---- a source of which something is shown

-- what is seen of an image stands for a source
pub shows_image : (view : View) (file text image : List ℕ) → IsImageOf text image
    → Shows (command_by view file) text (seen_by view image)
shows_image Listing file text image i = record { image = image; image_of = i; bytes_are = refl }
shows_image Bytes file text image i = record { image = image; image_of = i; bytes_are = refl }

-- what is shown of the source is put
pub says_shown : (call : CallSeen) (bytes : List ℕ) (report : Report) → IsShownFile call bytes
    → PutsShown bytes call.out report → Says report call
says_shown call bytes Shown s x = record { bytes = bytes; shown = s; bytes_put = x }
says_shown call bytes PutFailed s x =
    inr (inr (inr (inr (inr (inl (record { bytes = bytes; shown = s; some = x.0; fails = x.1 }))))))
says_shown call bytes NoMemory s x =
    says_no_memory call s.command s.text [] s.loaded (record { out = x; img = s.no_image })
says_shown call bytes report s x = absurd x

-- ---- a source of which an aspect is told

-- what was made of the source is what its text is elaborated to
abbrev has_elaboration : (text : List ℕ) (types : TypeRows) (elab : Elab)
    → HasOutcome text (Elaborates (term_of elab.core) elab.ty.0 types elab.labels (entries_of elab.casts))
    → HasElaboration text
has_elaboration text types elab e = record {
  term = term_of elab.core;
  type = elab.ty.0;
  types = types;
  labels = elab.labels;
  casts = entries_of elab.casts;
  elaborated = e;
}

-- what is told of the source is put
pub says_aspect : (call : CallSeen) (aspect : Aspect) (file text : List ℕ) (types : TypeRows) (elab : Elab)
    (report : Report) → HasLoaded call (command_about aspect file) text []
    → HasOutcome text (Elaborates (term_of elab.core) elab.ty.0 types elab.labels (entries_of elab.casts))
    → Untouched call.img → PutsAspect aspect types elab call.out report → Says report call
says_aspect call Summary file text types elab report l e none x =
    says_check call (checked_text types elab.ty.0 (entries_of elab.casts)) report (record {
      file = file;
      text = text;
      loaded = l;
      source = has_elaboration text types elab e;
      lines_are = refl;
      no_image = none;
    }) x
says_aspect call SafeLabels file text types elab report l e none x =
    says_audit call (program_over types elab) (entries_of elab.casts) report
    (record { file = file; text = text; loaded = l; type = elab.ty.0; elaborated = e; no_image = none }) x
says_aspect call Coercions file text types elab report l e none x =
    says_shown call (cast_listing types elab.labels (entries_of elab.casts)) report (record {
      command = Casts file;
      text = text;
      loaded = l;
      shows = record { source = has_elaboration text types elab e; lines_are = refl };
      no_image = none;
    }) x

-- ---- a program of the family

-- what the program of a number comes to
pub says_generated : (call : CallSeen) (number : ℕ) (report : Report) → IsGen call.words number
    → AsksNothing call.shelf → Untouched call.img → Generates number call.out report → Says report call
says_generated call number report is shelf none x = by report x (record {
  number = number;
  words = is;
  shelf = shelf;
  no_image = none;
  generates = x;
})
  where
    by : (report : Report) → Generates number call.out report → HasGenerated call report → Says report call
    by (HasVerdict verdict) x g = inr (inr (inr g))
    by (Refused refusal) x g = inr g
    by PutFailed x g = inr (inr (inr (inr (inr (inr g)))))
    by NoMemory x g = inr (inr (inr (inr g)))
    by report x g = absurd x

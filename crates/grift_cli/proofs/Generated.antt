-- The program of a number, compiled and run.
use Rattle.std.proofs.Common.{ℕ, ◌≡◌, List, [], length, refl, sym, ap, subst, arith, ◌∙◌}
use Rattle.std.proofs.lemmas.List.{length-map}
use Rattle.grift_base.specs.Sink.{SinkSeen, Untouched}
use Rattle.grift_base.specs.Types.{TypeRows}
use Rattle.grift_base.specs.declared.places.Pos.{Pos}
use Rattle.grift_base.specs.declared.refusals.FrontFault.{FrontFault}
use Rattle.grift_base.specs.declared.refusals.FrontFault.TheVariants.{Refused as SourceRefused}
use Rattle.grift_base.specs.declared.refusals.FrontFault.TheVariants.{OutOfMemory as SourceMemory}
use Rattle.rv_machine.specs.Image.{IsImage}
use Rattle.rv_machine.specs.Start.{IsRegionSize, IsStackSize}
use Rattle.core_calc.specs.Terms.{Term}
use Rattle.core_calc.specs.Typing.{ProgramTermHasType}
use Rattle.core_calc.specs.Views.{term_of}
use Rattle.cast_rules.specs.Making.{Entry}
use Rattle.cast_insert.specs.Outcomes.{Outcome, Elaborates, IsRefused}
use Rattle.insert_steps.specs.Views.{entries_of, entry_of}
use Rattle.insert_steps.specs.declared.casts.CastEntry.{CastEntry}
use Rattle.front_end.specs.Texts.{HasOutcome, IsFault}
use Rattle.front_end.proofs.Public.{a_text_has_one_outcome-one}
use Rattle.compile_driver.specs.Bounds.{KeepsAccount}
use Rattle.compile_driver.specs.Compiling.{FollowsProgram, HasProgram, IsTold, program_of}
use Rattle.compile_driver.specs.declared.compiling.Compiled.{Compiled}
use Rattle.grift_gen.specs.Family.{family_text}
use Rattle.command_words.specs.Commands.{default_limits}
use Rattle.grift_cli.specs.Generating.{Generates, IsGenerated, PutsNumbers, numbers_text}
use Rattle.grift_cli.specs.Reporting.{source_report}
use Rattle.grift_cli.specs.declared.reports.Report.{Report}
use Rattle.grift_cli.specs.declared.reports.Report.TheVariants.{HasVerdict, PutFailed, NoMemory}
use Rattle.grift_cli.proofs.Saying.{comes_to}

pub default_region : IsRegionSize default_limits.region
default_region = (refl, omega arith)

pub default_stack : IsStackSize default_limits.stack
default_stack = (refl, omega arith)

same_type : (term : Term) (a b : ℕ) (types : TypeRows) (labels : List Pos) (casts entries : List Entry)
    → ◌≡◌ {A = Outcome} (Elaborates term a types labels casts) (Elaborates term b types labels entries) → a ≡ b
same_type term a b types labels casts entries e = cc

-- the program of a text that was compiled, with the casts that are told
abbrev told_program : (text : List ℕ) (compiled : Compiled) → HasProgram text (program_of compiled)
    → IsTold text compiled → HasProgram text (program_of compiled)
told_program text compiled source told = record {
  type = compiled.elab.ty.0;
  casts = entries_of compiled.elab.casts;
  elaborated = told.elaborated;
  typed =
      let term = term_of compiled.elab.core in
      let labels = compiled.elab.labels in
      let entries = entries_of compiled.elab.casts in
      subst (λ (t : ℕ). ProgramTermHasType compiled.types (length labels) term t)
      (same_type term source.type compiled.elab.ty.0 compiled.types labels source.casts entries
      (a_text_has_one_outcome-one text (Elaborates term source.type compiled.types labels source.casts)
      (Elaborates term compiled.elab.ty.0 compiled.types labels entries) source.elaborated told.elaborated))
      source.typed;
}

-- the program of a number was compiled
abbrev is_generated : (number : ℕ) (compiled : Compiled) → HasProgram (family_text number) (program_of compiled)
    → IsTold (family_text number) compiled → IsImage compiled.image
    → FollowsProgram compiled.image (program_of compiled) → KeepsAccount compiled.image (program_of compiled)
    → IsGenerated number compiled.image
is_generated number compiled source told whole follows account = record {
  compiled = record {
    program = program_of compiled;
    source = told_program (family_text number) compiled source told;
    whole = whole;
    follows = follows;
    account = account;
  };
  expression = told.source;
  forms = compiled.forms;
  forms_are = told.forms;
}

-- the list of casts has as many entries as it is seen to have
pub as_many : (entries : List CastEntry) (n : ℕ) → n ≡ length entries → n ≡ length (entries_of entries)
as_many entries n e = e ∙ sym (length-map entries entry_of)

pub same_numbers : (source forms casts entries output bytes : ℕ) → casts ≡ entries → output ≡ bytes
    → numbers_text source forms casts output ≡ numbers_text source forms entries bytes
same_numbers source forms casts entries output bytes e f = λ k. numbers_text source forms (e k) (f k)

-- its image was run, and its numbers were put
run_generated : (number : ℕ) (compiled : Compiled) (out : SinkSeen) (report : Report)
    → HasProgram (family_text number) (program_of compiled) → IsTold (family_text number) compiled
    → IsImage compiled.image → FollowsProgram compiled.image (program_of compiled)
    → KeepsAccount compiled.image (program_of compiled)
    → PutsNumbers compiled.image (numbers_text (length (family_text number)) compiled.forms
    (length (entries_of compiled.elab.casts))) out report
    → Generates number out report
run_generated number compiled out (HasVerdict verdict) source told whole follows account x = record {
  image = compiled.image;
  generated = is_generated number compiled source told whole follows account;
  verdict_is = x.0;
  meant = comes_to default_limits compiled.image [] (program_of compiled) verdict default_region default_stack follows
      x.0;
  lines_put = x.1;
}
run_generated number compiled out PutFailed source told whole follows account x = record {
  image = compiled.image;
  generated = is_generated number compiled source told whole follows account;
  fails = x;
}
run_generated number compiled out NoMemory source told whole follows account x = x
run_generated number compiled out report source told whole follows account x = absurd x

pub generates : (number size : ℕ) (text : List ℕ) (compiled : Compiled) (out : SinkSeen) (report : Report)
    → text ≡ family_text number → size ≡ length text → HasProgram text (program_of compiled) → IsTold text compiled
    → IsImage compiled.image → FollowsProgram compiled.image (program_of compiled)
    → KeepsAccount compiled.image (program_of compiled)
    → PutsNumbers compiled.image (numbers_text size compiled.forms (length (entries_of compiled.elab.casts))) out report
    → Generates number out report
generates number size text compiled out report e l source told whole follows account x =
    run_generated number compiled out report
    (subst (λ (xs : List ℕ). HasProgram xs (program_of compiled)) e source)
    (subst (λ (xs : List ℕ). IsTold xs compiled) e told) whole follows account
    (subst (λ (n : ℕ). PutsNumbers compiled.image (numbers_text n compiled.forms
    (length (entries_of compiled.elab.casts))) out report) (l ∙ ap length e) x)

-- its text was refused, or no memory was left
pub generates_fault : (number : ℕ) (text : List ℕ) (out : SinkSeen) (fault : FrontFault) → text ≡ family_text number
    → Untouched out → IsFault text fault → Generates number out (source_report fault)
generates_fault number text out (SourceRefused refusal) e u f =
    (subst (λ (xs : List ℕ). HasOutcome xs (IsRefused refusal.kind refusal.pos)) e f, u)
generates_fault number text out SourceMemory e u f = u

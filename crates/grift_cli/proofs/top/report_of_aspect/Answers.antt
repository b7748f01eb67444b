use Rattle.std.proofs.Common.{[], refl, sym, length}
use Rattle.surface_trees.specs.Views.{expr_of}
use Rattle.core_calc.specs.Views.{term_of}
use Rattle.insert_steps.specs.Views.{entries_of}
use Rattle.front_end.proofs.Public.{program_type_there, read_programs_are_sources}
use Rattle.listing.proofs.Public.{elaborated_entries_fit}
use Rattle.grift_cli.specs.Aspects.{command_about}
use Rattle.grift_cli.proofs.Saying.{aspect_reads, says_aspect, says_source_fault, says_unloaded, source_loaded}
use Rattle.grift_cli.proofs.top.report_of_aspect.Goals as goal

pub returns-in-Err : goal.returns-in-Err
returns-in-Err g c words img is none =
    rw c.report_of_load.ensures (says_unloaded _ (command_about c.args.aspect c.args.file.now) c.args.file.now
    c.in-Err.fault (aspect_reads c.args.aspect c.args.file.now) is
    (record { out = record { written = refl; faults = refl }; img = none }) c.in-Err.ensures)

pub put_aspect-requires-clause-typed : goal.put_aspect-requires-clause-typed
put_aspect-requires-clause-typed g c =
    let done = c.in-Ok-elaborate_text.done in
    program_type_there done.types (length done.elab.labels) (term_of done.elab.core) done.elab.ty.0
    c.in-Ok-elaborate_text.ensures.typed

pub put_aspect-requires-clause-elaborated : goal.put_aspect-requires-clause-elaborated
put_aspect-requires-clause-elaborated g c =
    let done = c.in-Ok-elaborate_text.done in
    let reads = c.in-Ok-elaborate_text.ensures.program.reads in record {
      source = expr_of done.program.body;
      was_read = read_programs_are_sources c.as_slice.result.now reads.datums (expr_of done.program.body) reads.reads
          reads.forms;
      made = c.in-Ok-elaborate_text.ensures.elaborated;
    }

pub put_aspect-requires-clause-fit : goal.put_aspect-requires-clause-fit
put_aspect-requires-clause-fit g c =
    let done = c.in-Ok-elaborate_text.done in
    let reads = c.in-Ok-elaborate_text.ensures.program.reads in
    let source = expr_of done.program.body in
    elaborated_entries_fit source (term_of done.elab.core) done.elab.ty.0 done.types done.elab.labels
    (entries_of done.elab.casts)
    (read_programs_are_sources c.as_slice.result.now reads.datums source reads.reads reads.forms)
    c.in-Ok-elaborate_text.ensures.elaborated

pub returns-in-Ok-elaborate_text : goal.returns-in-Ok-elaborate_text
returns-in-Ok-elaborate_text g c words img is none =
    let done = c.in-Ok-elaborate_text.done in
    says_aspect _ c.args.aspect c.args.file.now c.as_slice.result.now done.types done.elab c.put_aspect.result
    (source_loaded _ (command_about c.args.aspect c.args.file.now) c.args.file.now c.as_slice.result.now
    c.in-Ok.loaded.bytes c.in-Ok.loaded.input (aspect_reads c.args.aspect c.args.file.now) is c.in-Ok.ensures
    c.as_slice.ensures (sym c.in-Ok.ensures.input_is))
    c.in-Ok-elaborate_text.ensures.outcome none c.put_aspect.ensures

pub returns : goal.returns
returns g c words img is none =
    let reads = aspect_reads c.args.aspect c.args.file.now in
    rw c.report_of_source.ensures (says_source_fault _ (command_about c.args.aspect c.args.file.now)
    c.as_slice.result.now [] c.in-Err-elaborate_text.fault reads.of_source
    (source_loaded _ (command_about c.args.aspect c.args.file.now) c.args.file.now c.as_slice.result.now
    c.in-Ok.loaded.bytes c.in-Ok.loaded.input reads is c.in-Ok.ensures c.as_slice.ensures
    (sym c.in-Ok.ensures.input_is))
    (record { out = record { written = refl; faults = refl }; img = none }) c.in-Err-elaborate_text.ensures.refused)

-- The laws of forms and of programs, and what readers of forms are shown with, for other crates.
use Rattle.std.proofs.Common.{[], sym, ◌∙◌}
use Rattle.form_table.specs.Laws.{ReadsEachForm, ReadsFormsAlone, FormsAreOne, ReadsEachProgram}
use Rattle.form_table.specs.Laws.{ReadsProgramsAlone, ProgramsAreOne}
use Rattle.form_table.proofs.Binds.{read_is_one}
use Rattle.form_table.proofs.FormsFound.{form_found}
use Rattle.form_table.proofs.FormsRead.{form_read}
pub use Rattle.form_table.proofs.Sound.{brackets, brackets_of}
pub use Rattle.form_table.proofs.TopSound.{brackets_of_are}
use Rattle.form_table.proofs.Runs.{runs_are_new, runs_kept, none_repeat}
use Rattle.form_table.proofs.TopsFound.{tops_found}
use Rattle.form_table.proofs.TopsRead.{tops_read}
pub use Rattle.form_table.proofs.Binds.{bind_reads, read_is_one, stopped, walk_exit, walk_ok, walk_refused, went_out}
pub use Rattle.form_table.proofs.Bridge.{expanded}
pub use Rattle.form_table.proofs.Steps.{colon_lacks, colon_stands, list_steps, only_one, place_marked, place_symbol}
pub use Rattle.form_table.proofs.Steps.{reads_then, refuses_then, reserved_is, signature_more, types_more, walk_steps}
pub use Rattle.form_table.proofs.TopBridge.{tops_are}
pub use Rattle.form_table.proofs.TopSound.{program_fresh, program_shallow}

pub the_walk_reads_the_table_of_forms-each : ReadsEachForm
the_walk_reads_the_table_of_forms-each s form h = form_read h

pub the_walk_reads_the_table_of_forms-alone : ReadsFormsAlone
the_walk_reads_the_table_of_forms-alone = form_found

pub the_walk_reads_the_table_of_forms-one : FormsAreOne
the_walk_reads_the_table_of_forms-one s a b h k = read_is_one (sym (form_read h) ∙ form_read k)

pub the_walk_reads_the_table_of_programs-each : ReadsEachProgram
the_walk_reads_the_table_of_programs-each forms tops h = tops_read h.0 500 [] (runs_are_new [] tops (h.1 0) h.1) h.2

pub the_walk_reads_the_table_of_programs-alone : ReadsProgramsAlone
the_walk_reads_the_table_of_programs-alone forms tops e =
    let h = tops_found 500 [] forms tops e in
    (h.0, (runs_kept [] tops none_repeat h.1).1, h.2)

pub the_walk_reads_the_table_of_programs-one : ProgramsAreOne
the_walk_reads_the_table_of_programs-one forms a b h k =
    read_is_one (sym (the_walk_reads_the_table_of_programs-each forms a h)
    ∙ the_walk_reads_the_table_of_programs-each forms b k)

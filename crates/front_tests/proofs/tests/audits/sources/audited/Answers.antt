use Rattle.surface_trees.specs.Views.{expr_of}
use Rattle.front_end.proofs.Public.{read_programs_are_sources}
use Rattle.front_tests.proofs.tests.audits.sources.audited.Goals as goal

pub audit_text-requires : goal.audit_text-requires
audit_text-requires c =
    let done = c.in_ok-done.done in
    let reads = c.in_ok-done.ensures.program.reads in record {
      source = expr_of done.program.body;
      was_read = read_programs_are_sources c.args.text.now reads.datums (expr_of done.program.body) reads.reads
          reads.forms;
      made = c.in_ok-done.ensures.elaborated;
    }

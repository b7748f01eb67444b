use Rattle.core_calc.specs.Views.{term_of}
use Rattle.surface_trees.specs.Views.{expr_of}
use Rattle.insert_steps.specs.Views.{entries_of}
use Rattle.front_end.proofs.Public.{read_programs_are_sources}
use Rattle.listing.proofs.Public.{elaborated_entries_fit}
use Rattle.listing_tests.proofs.tests.casts.listed.Goals as goal

pub casts_text-requires : goal.casts_text-requires
casts_text-requires c =
    let done = c.in_ok-done.done in
    let reads = c.in_ok-done.ensures.program.reads in
    elaborated_entries_fit (expr_of done.program.body) (term_of done.elab.core) done.elab.ty.0 done.types
    done.elab.labels (entries_of done.elab.casts)
    (read_programs_are_sources c.args.source.now reads.datums (expr_of done.program.body) reads.reads reads.forms)
    c.in_ok-done.ensures.elaborated

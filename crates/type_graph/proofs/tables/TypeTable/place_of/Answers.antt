use Rattle.std.proofs.Common.{ap, sym, ◌∙◌}
use Rattle.std.specs.Prelude.{is_some}
use Rattle.type_graph.proofs.EntryLemmas.{row_found, row_absent}
use Rattle.type_graph.proofs.tables.TypeTable.place_of.Goals as goal

pub returns-in_err-place-clause-absent : goal.returns-in_err-place-clause-absent
returns-in_err-place-clause-absent c =
    rw (c.from_residual.ensures, ← c.self.view_is) (row_absent c.self.inside.rows.entries c.args.row.now
    (sym c.get_index_of.ensures.found ∙ ap is_some c.in_err-place.was))

pub returns-clause-found : goal.returns-clause-found
returns-clause-found c =
    rw (← c.self.view_is) (row_found c.self.inside.rows.entries c.args.row.now c.in_ok-place.place
    (sym c.in_ok-place.was ∙ c.get_index_of.ensures.index))

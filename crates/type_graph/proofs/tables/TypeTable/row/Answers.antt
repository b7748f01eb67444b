use Rattle.std.proofs.Common.{sym, ap, ◌∙◌}
use Rattle.std.specs.Prelude.{option_map}
use Rattle.std.specs.Map.Iter.{deref_pair}
use Rattle.type_graph.specs.Rows.{row_of}
use Rattle.type_graph.proofs.MapEntries.{key_of_entry}
use Rattle.type_graph.proofs.tables.TypeTable.row.Goals as goal

pub returns : goal.returns
returns c =
    rw (← c.self.view_is) (key_of_entry row_of c.self.inside.rows.entries c.args.t.0 (deref_pair c.unwrap.result)
    (sym c.get_index.ensures.entry ∙ ap (option_map deref_pair) c.unwrap.ensures))

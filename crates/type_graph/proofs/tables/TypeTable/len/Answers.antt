use Rattle.type_graph.specs.Rows.{row_of}
use Rattle.type_graph.proofs.RowLemmas.{same_row, row_of-injective}
use Rattle.type_graph.proofs.MapEntries.{seen_keys_have_no_repeats}
use Rattle.type_graph.proofs.tables.TypeTable.len.Goals as goal

pub returns-clause-table : goal.returns-clause-table
returns-clause-table c =
    rw (← c.self.view_is) (record {
      distinct = seen_keys_have_no_repeats same_row row_of row_of-injective c.self.inside.rows.entries
          c.len.ensures.unique;
      finite = c.self.invariant.finite;
      widths = c.self.invariant.widths;
      low = c.self.invariant.low;
    })

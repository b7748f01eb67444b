use Rattle.type_graph.specs.Rows.{row_of}
use Rattle.core_calc.proofs.TypesComputed.{place_is_computed}
use Rattle.core_calc.proofs.forms.place_of.Goals as goal

pub returns : goal.returns
returns c =
    place_is_computed c.args.types.now (row_of c.args.row.now) c.place_of.result c.len.ensures.table
    c.place_of.ensures.found c.place_of.ensures.absent

use Rattle.type_graph.specs.Rows.{places_of}
use Rattle.type_graph.proofs.MeasureLemmas.{IsMeasureOfParts-push}
use Rattle.type_graph.proofs.tables.TypeTable.measure_of_row.Goals as goal

pub returns-in-Fun : goal.returns-in-Fun
returns-in-Fun c =
    rw c.in-Fun.is (IsMeasureOfParts-push c.args.self.now (places_of c.in-Fun.parameters) c.in-Fun.result.0
    c.measure_of_parts.result c.measure.result c.with_part.result (rw c.as_slice.ensures at c.measure_of_parts.ensures)
    c.measure.ensures c.with_part.ensures.height c.with_part.ensures.size)

use Rattle.std.proofs.Common.{take}
use Rattle.type_graph.specs.Rows.{places_of}
use Rattle.type_graph.specs.TypeTables.{IsMeasureOfParts}
use Rattle.type_graph.proofs.tables.TypeTable.measure_of_parts.Given as goal

abbrev pub invariant-loop-part : goal.invariant-loop-part
invariant-loop-part l = IsMeasureOfParts l.self (places_of (take l.part-index l.parts)) l.measure

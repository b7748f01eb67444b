use Rattle.std.proofs.Common.{take}
use Rattle.std.specs.Prelude.{All}
use Rattle.type_graph.specs.Rows.{places_of}
use Rattle.type_graph.specs.TypeTables.{MayBePart}
use Rattle.type_graph.proofs.tables.TypeTable.may_be_parts.Given as goal

abbrev pub invariant-loop-part : goal.invariant-loop-part
invariant-loop-part l = All (MayBePart l.self) (places_of (take l.part-index l.parts))

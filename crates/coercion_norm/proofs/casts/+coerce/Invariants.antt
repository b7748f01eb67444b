use Rattle.std.proofs.Common.{◌≡◌, ◌+◌, ◌*◌}
use Rattle.type_graph.specs.Trees.{height}
use Rattle.coercion_norm.specs.Coercions.{slots, rows_of}
use Rattle.coercion_norm.specs.Nodes.{Grows}
use Rattle.coercion_norm.specs.CoercionTables.{AreCasts, AreMade, FitsTypes, cast_of}
use Rattle.coercion_norm.proofs.MadeParts.{part_tree}
use Rattle.coercion_norm.proofs.casts.+coerce.Given as goal

abbrev pub decreases-coerce_known : goal.decreases-coerce_known
decreases-coerce_known l = 4 * (height l.types.now l.cast.from.0 + height l.types.now l.cast.to.0) + 3

abbrev pub decreases-coerce_rows : goal.decreases-coerce_rows
decreases-coerce_rows l = 4 * (height l.types.now l.cast.from.0 + height l.types.now l.cast.to.0) + 2

abbrev pub decreases-coerce_solid : goal.decreases-coerce_solid
decreases-coerce_solid l = 4 * (height l.types.now l.cast.from.0 + height l.types.now l.cast.to.0) + 1

abbrev pub decreases-coerce_parts : goal.decreases-coerce_parts
decreases-coerce_parts l = 4 * (height l.types.now l.cast.from.0 + height l.types.now l.cast.to.0)

abbrev pub invariant-coerce_parts-loop-j : goal.invariant-coerce_parts-loop-j
invariant-coerce_parts-loop-j l = record {
  width_is : l.width ≡ slots (rows_of l.types) l.cast.from.0;
  grows : Grows l.fn.table.nodes l.table.nodes;
  fits : FitsTypes l.types l.table;
  known : AreCasts l.types l.table.nodes l.known;
  made : AreMade l.table.nodes l.parts.items l.j
      (part_tree (rows_of l.types) (cast_of l.types) l.kind l.cast.from.0 l.cast.to.0 l.cast.label.0 l.width);
}

use Rattle.std.proofs.Common.{◌≡◌, ◌+◌, ◌*◌, min, length}
use Rattle.coercion_norm.specs.Nodes.{Grows, coercion_places, tree_of}
use Rattle.coercion_norm.specs.CoercionTables.{AreMade, FitsTypes, composition_of}
use Rattle.coercion_compose.specs.Known.{IsKnown}
use Rattle.coercion_compose.proofs.BothParts.{part_of_both}
use Rattle.coercion_compose.proofs.Measures.{pair_high, parts_high, rank}
use Rattle.coercion_compose.proofs.compositions.+compose.Given as goal

-- 2 ^ 37 for each height; at one height 2 ^ 34 for what stands in front of a middle. Places are below 2 ^ 32
abbrev pub decreases-compose_known : goal.decreases-compose_known
decreases-compose_known l =
    137438953472 * pair_high l.types.now l.table.now.nodes l.pair.first.0 l.pair.second.0 + 68719476736

abbrev pub decreases-compose_pair : goal.decreases-compose_pair
decreases-compose_pair l =
    137438953472 * pair_high l.types.now l.table.now.nodes l.c.0 l.d.0
    + 17179869184 * rank (tree_of l.table.now.nodes l.c.0) + 8589934592

abbrev pub decreases-after_inject : goal.decreases-after_inject
decreases-after_inject l = 137438953472 * pair_high l.types.now l.table.now.nodes l.c.0 l.d.0 + 17179869184 + 1

abbrev pub decreases-after_middle : goal.decreases-after_middle
decreases-after_middle l = 137438953472 * pair_high l.types.now l.table.now.nodes l.c.0 l.d.0 + l.d.0 + 2

abbrev pub decreases-compose_parts : goal.decreases-compose_parts
decreases-compose_parts l =
    137438953472
    * parts_high l.types.now l.table.now.nodes (coercion_places l.firsts.now) (coercion_places l.seconds.now) + 1

abbrev pub invariant-compose_parts-loop-j : goal.invariant-compose_parts-loop-j
invariant-compose_parts-loop-j l = record {
  width_is : l.width ≡ length l.firsts;
  count_is : l.count ≡ min l.width (length l.seconds);
  grows : Grows l.fn.table.nodes l.table.nodes;
  fits : FitsTypes l.types l.table;
  known : IsKnown l.types l.table.nodes l.known;
  made : AreMade l.table.nodes l.parts.items l.j
      (part_of_both (composition_of l.types) l.kind (tree_of l.fn.table.nodes) (coercion_places l.firsts)
      (coercion_places l.seconds) l.width);
}

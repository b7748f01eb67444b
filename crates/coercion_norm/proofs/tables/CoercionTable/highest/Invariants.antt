use Rattle.std.proofs.Common.{◌≡◌, take}
use Rattle.type_graph.specs.Trees.{height}
use Rattle.coercion_norm.specs.Heights.{highest}
use Rattle.coercion_norm.specs.Nodes.{coercion_places, tree_of, trees}
use Rattle.coercion_norm.proofs.tables.CoercionTable.highest.Given as goal

abbrev pub invariant-loop-part : goal.invariant-loop-part
invariant-loop-part l =
    l.highest ≡ highest (height l.types) (trees (tree_of l.self.nodes) (coercion_places (take l.part-index l.parts)))

use Rattle.std.proofs.Common.{◌≡◌, true, take}
use Rattle.coercion_norm.specs.Coercions.{all_id}
use Rattle.coercion_norm.specs.Nodes.{coercion_places, tree_of, trees}
use Rattle.coercion_norm.proofs.tables.CoercionTable.all_id.Given as goal

abbrev pub invariant-loop-part : goal.invariant-loop-part
invariant-loop-part l = all_id (trees (tree_of l.self.nodes) (coercion_places (take l.part-index l.parts))) ≡ true

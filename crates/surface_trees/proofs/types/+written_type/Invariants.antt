use Rattle.std.proofs.Common.{◌≤◌}
use Rattle.surface_trees.specs.declared.types.TypeExprs.{size-TypeExprs}
use Rattle.surface_trees.proofs.types.+written_type.Given as goal

abbrev pub invariant-TypeExprs::drop-loop-of-drop_along : goal.invariant-TypeExprs::drop-loop-of-drop_along
invariant-TypeExprs::drop-loop-of-drop_along l = size-TypeExprs l.self ≤ size-TypeExprs l.fn.self

use Rattle.std.proofs.Common.{◌≤◌}
use Rattle.surface_trees.specs.declared.types.TypeExprs.{size-TypeExprs}
use Rattle.front_tests.proofs.tests.forms.+show_type.Given as goal

abbrev pub invariant-show_types-loop-list : goal.invariant-show_types-loop-list
invariant-show_types-loop-list g l = size-TypeExprs l.list ≤ size-TypeExprs l.fn.list

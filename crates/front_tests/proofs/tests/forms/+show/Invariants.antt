use Rattle.std.proofs.Common.{◌≤◌}
use Rattle.surface_trees.specs.declared.exprs.ExprList.{size-ExprList}
use Rattle.surface_trees.specs.declared.exprs.Bindings.{size-Bindings}
use Rattle.surface_trees.specs.declared.exprs.Members.{size-Members}
use Rattle.front_tests.proofs.tests.forms.+show.Given as goal

abbrev pub invariant-show_all-loop-list : goal.invariant-show_all-loop-list
invariant-show_all-loop-list g l = size-ExprList l.list ≤ size-ExprList l.fn.list

abbrev pub invariant-show_lets-loop-list : goal.invariant-show_lets-loop-list
invariant-show_lets-loop-list g l = size-Bindings l.list ≤ size-Bindings l.fn.list

abbrev pub invariant-show_letrecs-loop-list : goal.invariant-show_letrecs-loop-list
invariant-show_letrecs-loop-list g l = size-Members l.list ≤ size-Members l.fn.list

use Rattle.std.proofs.Common.{◌≤◌}
use Rattle.surface_trees.specs.declared.exprs.ExprList.{size-ExprList}
use Rattle.surface_trees.specs.declared.exprs.Bindings.{size-Bindings}
use Rattle.surface_trees.specs.declared.exprs.Members.{size-Members}
use Rattle.surface_trees.proofs.exprs.+expr.Given as goal

abbrev pub invariant-ExprList::drop-loop-of-drop_along : goal.invariant-ExprList::drop-loop-of-drop_along
invariant-ExprList::drop-loop-of-drop_along l = size-ExprList l.self ≤ size-ExprList l.fn.self

abbrev pub invariant-Bindings::drop-loop-of-drop_along : goal.invariant-Bindings::drop-loop-of-drop_along
invariant-Bindings::drop-loop-of-drop_along l = size-Bindings l.self ≤ size-Bindings l.fn.self

abbrev pub invariant-Members::drop-loop-of-drop_along : goal.invariant-Members::drop-loop-of-drop_along
invariant-Members::drop-loop-of-drop_along l = size-Members l.self ≤ size-Members l.fn.self

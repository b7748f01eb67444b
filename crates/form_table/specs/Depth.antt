-- How deep s-expressions and expressions nest. The tail of a list is no deeper than the list.
use Rattle.std.specs.Prelude.{ℕ, ◌+◌, max}
use Rattle.surface_trees.specs.Trees.{Expr, ExprAt, ExprNode, IntNode, BoolNode, UnitNode, NameNode, LambdaNode}
use Rattle.surface_trees.specs.Trees.{CallNode, LetNode, LetrecNode, IfNode, BeginNode, AscribeNode, TupleNode}
use Rattle.surface_trees.specs.Trees.{ProjNode, PrimNode, LambdaExpr, LambdaAt, Exprs, NoExprs, ExprThen, LetBindings}
use Rattle.surface_trees.specs.Trees.{NoLets, LetThen, LetrecMembers, NoLetrecs, LetrecThen}

abbrev mutual
  -- an expression without parts 1, another one more than its deepest part
  pub depth : Expr → ℕ
  depth (ExprAt p node) = 1 + depth_within node

  pub depth_within : ExprNode → ℕ
  depth_within (IntNode n) = 0
  depth_within (BoolNode b) = 0
  depth_within UnitNode = 0
  depth_within (NameNode x) = 0
  depth_within (LambdaNode l) = depth_of_lambda l
  depth_within (CallNode f es) = max (depth f) (depth_of_all es)
  depth_within (LetNode ls es) = max (depth_of_lets ls) (depth_of_all es)
  depth_within (LetrecNode ms es) = max (depth_of_letrecs ms) (depth_of_all es)
  depth_within (IfNode c t e) = max (depth c) (max (depth t) (depth e))
  depth_within (BeginNode es) = depth_of_all es
  depth_within (AscribeNode e t) = depth e
  depth_within (TupleNode es) = depth_of_all es
  depth_within (ProjNode e k p) = depth e
  depth_within (PrimNode o es) = depth_of_all es

  pub depth_of_lambda : LambdaExpr → ℕ
  depth_of_lambda (LambdaAt p params t es) = depth_of_all es

  pub depth_of_all : Exprs → ℕ
  depth_of_all NoExprs = 0
  depth_of_all (ExprThen e es) = max (depth e) (depth_of_all es)

  pub depth_of_lets : LetBindings → ℕ
  depth_of_lets NoLets = 0
  depth_of_lets (LetThen x t e rest) = max (depth e) (depth_of_lets rest)

  pub depth_of_letrecs : LetrecMembers → ℕ
  depth_of_letrecs NoLetrecs = 0
  depth_of_letrecs (LetrecThen x t l rest) = max (depth_of_lambda l) (depth_of_letrecs rest)

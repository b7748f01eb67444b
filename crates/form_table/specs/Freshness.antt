-- How often a fresh name is bound.
use Rattle.std.specs.Prelude.{◌≡◌, ℕ, ◌+◌, cond, nat_eq, nat_lt, List, [], ◌∷◌}
use Rattle.surface_trees.specs.declared.names.Ident.{Ident}
use Rattle.surface_trees.specs.declared.names.Ident.TheVariants.{Source, Fresh}
use Rattle.surface_trees.specs.Trees.{Param, Expr, ExprAt, ExprNode, IntNode, BoolNode, UnitNode, NameNode}
use Rattle.surface_trees.specs.Trees.{LambdaNode, CallNode, LetNode, LetrecNode, IfNode, BeginNode, AscribeNode}
use Rattle.surface_trees.specs.Trees.{TupleNode, ProjNode, PrimNode, LambdaExpr, LambdaAt, Exprs, NoExprs, ExprThen}
use Rattle.surface_trees.specs.Trees.{LetBindings, NoLets, LetThen, LetrecMembers, NoLetrecs, LetrecThen}

-- 1 where a name is the fresh one with this number, else 0
abbrev pub is_fresh : ℕ → Ident → ℕ
is_fresh k (Source x) = 0
is_fresh k (Fresh n) = cond (nat_eq n k) 1 0

-- how many of these parameters are the fresh name with this number
abbrev pub times_among : ℕ → List Param → ℕ
times_among k [] = 0
times_among k (param ∷ rest) = is_fresh k param.name + times_among k rest

abbrev mutual
  -- how many times the fresh name with this number is bound in an expression
  pub times : ℕ → Expr → ℕ
  times k (ExprAt p node) = times_within k node

  pub times_within : ℕ → ExprNode → ℕ
  times_within k (IntNode n) = 0
  times_within k (BoolNode b) = 0
  times_within k UnitNode = 0
  times_within k (NameNode x) = 0
  times_within k (LambdaNode l) = times_in_lambda k l
  times_within k (CallNode f es) = times k f + times_in_all k es
  times_within k (LetNode ls es) = times_in_lets k ls + times_in_all k es
  times_within k (LetrecNode ms es) = times_in_letrecs k ms + times_in_all k es
  times_within k (IfNode c t e) = times k c + (times k t + times k e)
  times_within k (BeginNode es) = times_in_all k es
  times_within k (AscribeNode e t) = times k e
  times_within k (TupleNode es) = times_in_all k es
  times_within k (ProjNode e i p) = times k e
  times_within k (PrimNode o es) = times_in_all k es

  pub times_in_lambda : ℕ → LambdaExpr → ℕ
  times_in_lambda k (LambdaAt p params t es) = times_among k params + times_in_all k es

  pub times_in_all : ℕ → Exprs → ℕ
  times_in_all k NoExprs = 0
  times_in_all k (ExprThen e es) = times k e + times_in_all k es

  pub times_in_lets : ℕ → LetBindings → ℕ
  times_in_lets k NoLets = 0
  times_in_lets k (LetThen x t e rest) = is_fresh k x + (times k e + times_in_lets k rest)

  pub times_in_letrecs : ℕ → LetrecMembers → ℕ
  times_in_letrecs k NoLetrecs = 0
  times_in_letrecs k (LetrecThen x t l rest) = is_fresh k x + (times_in_lambda k l + times_in_letrecs k rest)

-- 1 where a number is below another, else 0
abbrev pub is_below : ℕ → ℕ → ℕ
is_below k n = cond (nat_lt k n) 1 0

-- the fresh names that an expression binds are the first so many, each bound once
abbrev pub BindsFreshOnce : Expr → Type 0
BindsFreshOnce e = (count : ℕ) × ((k : ℕ) → times k e ≡ is_below k count)

-- Types, expressions and programs, each part with its place. Derived forms are expanded.
use Rattle.std.specs.Prelude.{ℤ, Bool, List, Option}
use Rattle.grift_base.specs.declared.places.Pos.{Pos}
use Rattle.grift_base.specs.declared.operators.PrimOp.{PrimOp}
use Rattle.grift_base.specs.Types.{TypeRow}
use Rattle.surface_trees.specs.declared.names.Ident.{Ident}

mutual
  pub data TypeExpr : Type 0 where
    TypeAt : Pos → TypeNode → TypeExpr

  pub data TypeNode : Type 0 where
    -- Int, Bool, Unit or Dyn
    BaseType : TypeRow → TypeNode
    -- parameters and result
    FunType : TypeExprs → TypeExpr → TypeNode
    TupleType : TypeExprs → TypeNode
    RefType : TypeExpr → TypeNode
    VectType : TypeExpr → TypeNode

  pub data TypeExprs : Type 0 where
    NoTypes : TypeExprs
    TypeThen : TypeExpr → TypeExprs → TypeExprs

-- a parameter; one without a written type has type Dyn
pub record Param : Type 0 where
  pub place : Pos
  pub name : Ident
  pub written : Option TypeExpr

mutual
  pub data Expr : Type 0 where
    ExprAt : Pos → ExprNode → Expr

  pub data ExprNode : Type 0 where
    IntNode : ℤ → ExprNode
    BoolNode : Bool → ExprNode
    UnitNode : ExprNode
    NameNode : Ident → ExprNode
    LambdaNode : LambdaExpr → ExprNode
    CallNode : Expr → Exprs → ExprNode
    LetNode : LetBindings → Exprs → ExprNode
    LetrecNode : LetrecMembers → Exprs → ExprNode
    IfNode : Expr → Expr → Expr → ExprNode
    BeginNode : Exprs → ExprNode
    AscribeNode : Expr → TypeExpr → ExprNode
    TupleNode : Exprs → ExprNode
    -- the tuple, the number of the part, and the place of that number
    ProjNode : Expr → ℤ → Pos → ExprNode
    PrimNode : PrimOp → Exprs → ExprNode

  -- parameters, result type and body
  pub data LambdaExpr : Type 0 where
    LambdaAt : Pos → List Param → Option TypeExpr → Exprs → LambdaExpr

  pub data Exprs : Type 0 where
    NoExprs : Exprs
    ExprThen : Expr → Exprs → Exprs

  -- of a binding: its name, its written type and what is bound
  pub data LetBindings : Type 0 where
    NoLets : LetBindings
    LetThen : Ident → Option TypeExpr → Expr → LetBindings → LetBindings

  -- of a member: its name, its written type and its lambda
  pub data LetrecMembers : Type 0 where
    NoLetrecs : LetrecMembers
    LetrecThen : Ident → Option TypeExpr → LambdaExpr → LetrecMembers → LetrecMembers

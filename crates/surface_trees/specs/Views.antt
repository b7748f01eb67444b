-- The crate's types as plain data: what their boxes hold, and not where.
use Rattle.std.specs.Prelude.{ℕ, List, [], map, Option, Some, None}
use Rattle.type_graph.specs.Rows.{row_of}
use Rattle.surface_trees.specs.declared.names.Ident.{Ident}
use Rattle.surface_trees.specs.declared.names.Ident.TheVariants.{Source, Fresh}
use Rattle.surface_trees.specs.declared.types.TypeExpr.{TypeExpr as RustType, out-TypeExpr}
use Rattle.surface_trees.specs.declared.types.TypeNode.{TypeNode as RustTypeNode}
use Rattle.surface_trees.specs.declared.types.TypeNode.TheVariants.{Base, Fun' as FunCase, Tuple as TupleCase}
use Rattle.surface_trees.specs.declared.types.TypeNode.TheVariants.{Ref' as RefCase, Vect' as VectCase}
use Rattle.surface_trees.specs.declared.types.TypeExprs.{TypeExprs as RustTypes}
use Rattle.surface_trees.specs.declared.types.TypeExprs.TheVariants.{Nil as NoRustTypes, Cons' as RustTypeThen}
use Rattle.surface_trees.specs.declared.types.Param.{Param as RustParam}
use Rattle.surface_trees.specs.declared.exprs.Expr.{Expr as RustExpr, out-Expr}
use Rattle.surface_trees.specs.declared.exprs.ExprNode.{ExprNode as RustNode}
use Rattle.surface_trees.specs.declared.exprs.ExprNode.TheVariants.{Int as IntCase, Bool as BoolCase, Unit as UnitCase}
use Rattle.surface_trees.specs.declared.exprs.ExprNode.TheVariants.{Name as NameCase, Lambda' as LambdaCase}
use Rattle.surface_trees.specs.declared.exprs.ExprNode.TheVariants.{Call' as CallCase, Let as LetCase}
use Rattle.surface_trees.specs.declared.exprs.ExprNode.TheVariants.{Letrec as LetrecCase, If' as IfCase}
use Rattle.surface_trees.specs.declared.exprs.ExprNode.TheVariants.{Begin as BeginCase, Ascribe' as AscribeCase}
use Rattle.surface_trees.specs.declared.exprs.ExprNode.TheVariants.{Tuple as TupleNodeCase, Proj' as ProjCase}
use Rattle.surface_trees.specs.declared.exprs.ExprNode.TheVariants.{Prim as PrimCase}
use Rattle.surface_trees.specs.declared.exprs.LambdaExpr.{LambdaExpr as RustLambda, out-LambdaExpr}
use Rattle.surface_trees.specs.declared.exprs.ExprList.{ExprList as RustExprs}
use Rattle.surface_trees.specs.declared.exprs.ExprList.TheVariants.{Nil as NoRustExprs, Cons' as RustExprThen}
use Rattle.surface_trees.specs.declared.exprs.Binding.{Binding as RustBinding, out-Binding}
use Rattle.surface_trees.specs.declared.exprs.Bindings.{Bindings as RustBindings}
use Rattle.surface_trees.specs.declared.exprs.Bindings.TheVariants.{Nil as NoRustBindings, Cons' as RustBindingThen}
use Rattle.surface_trees.specs.declared.exprs.Member.{Member as RustMember, out-Member}
use Rattle.surface_trees.specs.declared.exprs.Members.{Members as RustMembers}
use Rattle.surface_trees.specs.declared.exprs.Members.TheVariants.{Nil as NoRustMembers, Cons' as RustMemberThen}
use Rattle.surface_trees.specs.Trees.{TypeExpr, TypeNode, TypeAt, BaseType, FunType, TupleType, RefType, VectType}
use Rattle.surface_trees.specs.Trees.{TypeExprs, NoTypes, TypeThen, Param, Expr, ExprAt, ExprNode, IntNode, BoolNode}
use Rattle.surface_trees.specs.Trees.{UnitNode, NameNode, LambdaNode, CallNode, LetNode, LetrecNode, IfNode, BeginNode}
use Rattle.surface_trees.specs.Trees.{AscribeNode, TupleNode, ProjNode, PrimNode, LambdaExpr, LambdaAt, Exprs, NoExprs}
use Rattle.surface_trees.specs.Trees.{ExprThen, LetBindings, NoLets, LetThen, LetrecMembers, NoLetrecs, LetrecThen}

abbrev mutual
  -- what a written type is
  pub type_node_of : RustTypeNode → TypeNode
  type_node_of (Base row) = BaseType (row_of row)
  type_node_of (FunCase parameters _ p result) = FunType (types_of parameters) (TypeAt p (type_node_of result))
  type_node_of (TupleCase parts) = TupleType (types_of parts)
  type_node_of (RefCase _ p content) = RefType (TypeAt p (type_node_of content))
  type_node_of (VectCase _ p content) = VectType (TypeAt p (type_node_of content))

  pub types_of : RustTypes → TypeExprs
  types_of NoRustTypes = NoTypes
  types_of (RustTypeThen _ p first _ rest) = TypeThen (TypeAt p (type_node_of first)) (types_of rest)

abbrev pub type_of : RustType → TypeExpr
type_of t = TypeAt (out-TypeExpr t).pos (type_node_of (out-TypeExpr t).node)

abbrev pub written_of : Option RustType → Option TypeExpr
written_of None = None
written_of (Some t) = Some (type_of t)

abbrev pub param_of : RustParam → Param
param_of param = record { place = param.pos; name = param.name; written = written_of param.ty }

abbrev pub params_of : List RustParam → List Param
params_of params = map param_of params

-- a name's bytes in the source
abbrev pub source_of : Ident → List ℕ
source_of (Source x) = x
source_of (Fresh n) = []

-- a parameter with its name
abbrev pub named_param_of : RustParam → List ℕ × Param
named_param_of param = (source_of param.name, param_of param)

abbrev mutual
  -- what an expression is
  pub node_of : RustNode → ExprNode
  node_of (IntCase n) = IntNode n
  node_of (BoolCase b) = BoolNode b
  node_of UnitCase = UnitNode
  node_of (NameCase x) = NameNode x
  node_of (LambdaCase p params result body) =
      LambdaNode (LambdaAt p (params_of params) (written_of result) (exprs_of body))
  node_of (CallCase _ p function arguments) = CallNode (ExprAt p (node_of function)) (exprs_of arguments)
  node_of (LetCase bindings body) = LetNode (lets_of bindings) (exprs_of body)
  node_of (LetrecCase members body) = LetrecNode (letrecs_of members) (exprs_of body)
  node_of (IfCase _ p condition _ q on_true _ r on_false) =
      IfNode (ExprAt p (node_of condition)) (ExprAt q (node_of on_true)) (ExprAt r (node_of on_false))
  node_of (BeginCase body) = BeginNode (exprs_of body)
  node_of (AscribeCase _ p e type) = AscribeNode (ExprAt p (node_of e)) (type_of type)
  node_of (TupleNodeCase parts) = TupleNode (exprs_of parts)
  node_of (ProjCase _ p tuple part at) = ProjNode (ExprAt p (node_of tuple)) part at
  node_of (PrimCase operator operands) = PrimNode operator (exprs_of operands)

  pub exprs_of : RustExprs → Exprs
  exprs_of NoRustExprs = NoExprs
  exprs_of (RustExprThen _ p first _ rest) = ExprThen (ExprAt p (node_of first)) (exprs_of rest)

  pub lets_of : RustBindings → LetBindings
  lets_of NoRustBindings = NoLets
  lets_of (RustBindingThen _ name written p value _ rest) =
      LetThen name (written_of written) (ExprAt p (node_of value)) (lets_of rest)

  pub letrecs_of : RustMembers → LetrecMembers
  letrecs_of NoRustMembers = NoLetrecs
  letrecs_of (RustMemberThen _ name written p params result body _ rest) =
      LetrecThen name (written_of written) (LambdaAt p (params_of params) (written_of result) (exprs_of body))
      (letrecs_of rest)

abbrev pub expr_of : RustExpr → Expr
expr_of e = ExprAt (out-Expr e).pos (node_of (out-Expr e).node)

abbrev pub lambda_of : RustLambda → LambdaExpr
lambda_of l =
    LambdaAt (out-LambdaExpr l).pos (params_of (out-LambdaExpr l).params) (written_of (out-LambdaExpr l).result)
    (exprs_of (out-LambdaExpr l).body)

-- what a binding or a member of a group has: its name, its written type, and its value or function
abbrev pub name_of_binding : RustBinding → Ident
name_of_binding b = (out-Binding b).name

abbrev pub type_of_binding : RustBinding → Option TypeExpr
type_of_binding b = written_of (out-Binding b).ty

abbrev pub value_of_binding : RustBinding → Expr
value_of_binding b = expr_of (out-Binding b).value

abbrev pub name_of_member : RustMember → Ident
name_of_member m = (out-Member m).name

abbrev pub type_of_member : RustMember → Option TypeExpr
type_of_member m = written_of (out-Member m).ty

abbrev pub fun_of_member : RustMember → LambdaExpr
fun_of_member m = lambda_of (out-Member m).fun

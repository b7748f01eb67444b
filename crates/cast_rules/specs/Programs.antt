-- What is known of a program that was read.
use Rattle.std.specs.Prelude.{◌≡◌, ◌≤◌, ℕ, suc, max, List, [], ◌∷◌, length, Option, Some, None}
use Rattle.std.specs.Int.{w64}
use Rattle.std.specs.Int.RustNames.{FitsSigned}
use Rattle.grift_base.specs.Types.{parts_of}
use Rattle.type_graph.specs.TypeTables.{HasWidth}
use Rattle.surface_trees.specs.Trees.{TypeExpr, TypeNode, TypeExprs, TypeAt, BaseType, FunType, TupleType, RefType}
use Rattle.surface_trees.specs.Trees.{VectType, NoTypes, TypeThen}
use Rattle.surface_trees.specs.Trees.{Param, Expr, ExprNode, LambdaExpr, Exprs, LetBindings, LetrecMembers, ExprAt}
use Rattle.surface_trees.specs.Trees.{IntNode, BoolNode, UnitNode, NameNode, LambdaNode, CallNode, LetNode, LetrecNode}
use Rattle.surface_trees.specs.Trees.{IfNode, BeginNode, AscribeNode, TupleNode, ProjNode, PrimNode, LambdaAt, NoExprs}
use Rattle.surface_trees.specs.Trees.{ExprThen, NoLets, LetThen, NoLetrecs, LetrecThen}
use Rattle.cast_rules.specs.Sources.{how_many}
use Rattle.cast_rules.specs.Operators.{operands_of}

-- ---- written types

-- how many types these are
abbrev pub how_many_types : TypeExprs → ℕ
how_many_types NoTypes = 0
how_many_types (TypeThen type rest) = suc (how_many_types rest)

-- how deep a type's brackets are nested
abbrev mutual
  pub depth_of : TypeExpr → ℕ
  depth_of (TypeAt place node) = depth_of_node node

  pub depth_of_node : TypeNode → ℕ
  depth_of_node (BaseType row) = 0
  depth_of_node (FunType parameters answer) = suc (max (depth_of_all parameters) (depth_of answer))
  depth_of_node (TupleType parts) = suc (depth_of_all parts)
  depth_of_node (RefType content) = suc (depth_of content)
  depth_of_node (VectType content) = suc (depth_of content)

  pub depth_of_all : TypeExprs → ℕ
  depth_of_all NoTypes = 0
  depth_of_all (TypeThen type rest) = max (depth_of type) (depth_of_all rest)

-- the words of a type have no parts, functions have at most 6 parameters, and tuples 1 to 8 parts
abbrev mutual
  pub HasTypeWidths : TypeExpr → Type 0
  HasTypeWidths (TypeAt place node) = NodeHasWidths node

  pub NodeHasWidths : TypeNode → Type 0
  NodeHasWidths (BaseType row) = (parts_of row ≡ []) × HasWidth row
  NodeHasWidths (FunType parameters answer) =
      HaveTypeWidths parameters × HasTypeWidths answer × (how_many_types parameters ≤ 6)
  NodeHasWidths (TupleType parts) = HaveTypeWidths parts × (1 ≤ how_many_types parts) × (how_many_types parts ≤ 8)
  NodeHasWidths (RefType content) = HasTypeWidths content
  NodeHasWidths (VectType content) = HasTypeWidths content

  pub HaveTypeWidths : TypeExprs → Type 0
  HaveTypeWidths NoTypes = Unit {0}
  HaveTypeWidths (TypeThen type rest) = HasTypeWidths type × HaveTypeWidths rest

-- the most brackets that a source has open at once
abbrev pub most_brackets : ℕ
most_brackets = 200

-- a type that a source can write
abbrev pub IsWrittenType : TypeExpr → Type 0
IsWrittenType type = HasTypeWidths type × (depth_of type ≤ most_brackets)

abbrev pub MayBeWritten : Option TypeExpr → Type 0
MayBeWritten None = Unit {0}
MayBeWritten (Some type) = IsWrittenType type

abbrev pub AreSourceParams : List Param → Type 0
AreSourceParams [] = Unit {0}
AreSourceParams (parameter ∷ rest) = MayBeWritten parameter.written × AreSourceParams rest

-- ---- expressions

-- what is known of a program that was read: integers have 64 bits, bodies aren't empty, operators have their operands,
-- functions have at most 6 parameters and calls 6 arguments, tuples have 1 to 8 parts, and written types can be written
abbrev mutual
  pub IsSource : Expr → Type 0
  IsSource (ExprAt place node) = IsSourceNode node

  pub IsSourceNode : ExprNode → Type 0
  IsSourceNode (IntNode n) = FitsSigned w64 n
  IsSourceNode (BoolNode b) = Unit {0}
  IsSourceNode UnitNode = Unit {0}
  IsSourceNode (NameNode name) = Unit {0}
  IsSourceNode (LambdaNode lambda) = IsSourceLambda lambda
  IsSourceNode (CallNode function arguments) = IsSource function × AreSources arguments × (how_many arguments ≤ 6)
  IsSourceNode (LetNode bindings body) = AreSourceBindings bindings × IsSourceBody body
  IsSourceNode (LetrecNode members body) = AreSourceMembers members × IsSourceBody body
  IsSourceNode (IfNode condition on_true on_false) = IsSource condition × IsSource on_true × IsSource on_false
  IsSourceNode (BeginNode body) = IsSourceBody body
  IsSourceNode (AscribeNode expression type) = IsSource expression × IsWrittenType type
  IsSourceNode (TupleNode parts) = AreSources parts × (1 ≤ how_many parts) × (how_many parts ≤ 8)
  IsSourceNode (ProjNode tuple k place) = IsSource tuple
  IsSourceNode (PrimNode operator operands) = AreSources operands × (how_many operands ≡ length (operands_of operator))

  pub IsSourceLambda : LambdaExpr → Type 0
  IsSourceLambda (LambdaAt place parameters result body) =
      IsSourceBody body × AreSourceParams parameters × (length parameters ≤ 6) × MayBeWritten result

  pub AreSources : Exprs → Type 0
  AreSources NoExprs = Unit {0}
  AreSources (ExprThen e rest) = IsSource e × AreSources rest

  pub IsSourceBody : Exprs → Type 0
  IsSourceBody NoExprs = ⊥
  IsSourceBody (ExprThen e NoExprs) = IsSource e
  IsSourceBody (ExprThen e (ExprThen second rest)) = IsSource e × IsSourceBody (ExprThen second rest)

  pub AreSourceBindings : LetBindings → Type 0
  AreSourceBindings NoLets = Unit {0}
  AreSourceBindings (LetThen name own value rest) = IsSource value × MayBeWritten own × AreSourceBindings rest

  pub AreSourceMembers : LetrecMembers → Type 0
  AreSourceMembers NoLetrecs = Unit {0}
  AreSourceMembers (LetrecThen name own lambda rest) = IsSourceLambda lambda × MayBeWritten own × AreSourceMembers rest

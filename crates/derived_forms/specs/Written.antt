-- Expressions as they are written, each with its place, derived forms included.
use Rattle.std.specs.Prelude.{ℕ, ℤ, Bool, List, Option}
use Rattle.grift_base.specs.declared.places.Pos.{Pos}
use Rattle.grift_base.specs.declared.operators.PrimOp.{PrimOp}
use Rattle.surface_trees.specs.Trees.{TypeExpr, Param}

mutual
  pub data Form : Type 0 where
    FormAt : Pos → FormNode → Form

  pub data FormNode : Type 0 where
    IntForm : ℤ → FormNode
    BoolForm : Bool → FormNode
    UnitForm : FormNode
    NameForm : List ℕ → FormNode
    LambdaForm : LambdaWritten → FormNode
    CallForm : Form → Forms → FormNode
    LetForm : LetForms → Forms → FormNode
    LetrecForm : LetrecForms → Forms → FormNode
    IfForm : Form → Form → Form → FormNode
    BeginForm : Forms → FormNode
    AscribeForm : Form → TypeExpr → FormNode
    AndForm : Forms → FormNode
    OrForm : Forms → FormNode
    -- the counter, its first value, the bound, and the body
    RepeatForm : List ℕ → Form → Form → Form → FormNode
    -- the same, with the accumulator, its type and its first value before the body
    RepeatIntoForm : List ℕ → Form → Form → List ℕ → Option TypeExpr → Form → Form → FormNode
    TupleForm : Forms → FormNode
    -- the tuple, the number of the part, and the place of that number
    ProjForm : Form → ℤ → Pos → FormNode
    PrimForm : PrimOp → Forms → FormNode

  -- parameters, result type and body
  pub data LambdaWritten : Type 0 where
    LambdaFrom : Pos → List Param → Option TypeExpr → Forms → LambdaWritten

  pub data Forms : Type 0 where
    NoForms : Forms
    FormThen : Form → Forms → Forms

  -- of a binding: its name, its written type and what is bound
  pub data LetForms : Type 0 where
    NoLetForms : LetForms
    LetFormThen : List ℕ → Option TypeExpr → Form → LetForms → LetForms

  -- of a member: its name, its written type and its lambda
  pub data LetrecForms : Type 0 where
    NoLetrecForms : LetrecForms
    LetrecFormThen : List ℕ → Option TypeExpr → LambdaWritten → LetrecForms → LetrecForms

-- a form of a program: an expression, or a value or a function that it defines
pub data Top : Type 0 where
  ExprTop : Pos → Form → Top
  ValueTop : Pos → List ℕ → Option TypeExpr → Form → Top
  FunctionTop : Pos → List ℕ → Option TypeExpr → LambdaWritten → Top

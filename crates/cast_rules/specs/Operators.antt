-- What operators do with their operands, and the types of their answers.
use Rattle.std.specs.Prelude.{ℕ, List, [], ◌∷◌, Option, Some, None}
use Rattle.grift_base.specs.Types.{TypeRow, IntRow, BoolRow, UnitRow, DynRow, RefRow, VectRow}
use Rattle.grift_base.specs.declared.places.Pos.{Pos}
use Rattle.grift_base.specs.declared.operators.PrimOp.{PrimOp}
use Rattle.grift_base.specs.declared.operators.PrimOp.TheVariants.{Add, Sub, Mul, Quot, Rem, Lt, Le, Eq, Ge, Gt, Not}
use Rattle.grift_base.specs.declared.operators.PrimOp.TheVariants.{PrintInt, Newline, ReadInt, MakeBox, Unbox, BoxSet}
use Rattle.grift_base.specs.declared.operators.PrimOp.TheVariants.{MakeVector, VectorRef, VectorSet, VectorLength}
use Rattle.grift_base.specs.declared.refusals.RefusalKind.TheVariants.{NotRef, NotVector}
use Rattle.type_graph.specs.Forming.{intern}
use Rattle.cast_rules.specs.Making.{Making, ◌>>=◌, give, refuse, form, row_of, Typed, cast_at, cast_if, cast_to_row}

-- ---- two tables

-- what an operator does with an operand
pub data Operand : Type 0 where
  -- it is cast to this type, which has no parts
  As : TypeRow → Operand
  -- it keeps its type, which is that of the content
  Content : Operand
  -- it is a box or a vector, or is cast from Dyn to one, of the content
  Box : Operand
  Vector : Operand
  -- it is cast to the content's type
  AsContent : Operand

-- the type of an operator's answer
pub data OperatorAnswer : Type 0 where
  Always : TypeRow → OperatorAnswer
  TheContent : OperatorAnswer
  BoxOf : OperatorAnswer
  VectorOf : OperatorAnswer

abbrev pub operands_of : PrimOp → List Operand
operands_of Add = As IntRow ∷ As IntRow ∷ []
operands_of Sub = As IntRow ∷ As IntRow ∷ []
operands_of Mul = As IntRow ∷ As IntRow ∷ []
operands_of Quot = As IntRow ∷ As IntRow ∷ []
operands_of Rem = As IntRow ∷ As IntRow ∷ []
operands_of Lt = As IntRow ∷ As IntRow ∷ []
operands_of Le = As IntRow ∷ As IntRow ∷ []
operands_of Eq = As IntRow ∷ As IntRow ∷ []
operands_of Ge = As IntRow ∷ As IntRow ∷ []
operands_of Gt = As IntRow ∷ As IntRow ∷ []
operands_of Not = As BoolRow ∷ []
operands_of PrintInt = As IntRow ∷ []
operands_of Newline = []
operands_of ReadInt = []
operands_of MakeBox = Content ∷ []
operands_of Unbox = Box ∷ []
operands_of BoxSet = Box ∷ AsContent ∷ []
operands_of MakeVector = As IntRow ∷ Content ∷ []
operands_of VectorRef = Vector ∷ As IntRow ∷ []
operands_of VectorSet = Vector ∷ As IntRow ∷ AsContent ∷ []
operands_of VectorLength = Vector ∷ []

abbrev pub answer_of : PrimOp → OperatorAnswer
answer_of Add = Always IntRow
answer_of Sub = Always IntRow
answer_of Mul = Always IntRow
answer_of Quot = Always IntRow
answer_of Rem = Always IntRow
answer_of Lt = Always BoolRow
answer_of Le = Always BoolRow
answer_of Eq = Always BoolRow
answer_of Ge = Always BoolRow
answer_of Gt = Always BoolRow
answer_of Not = Always BoolRow
answer_of PrintInt = Always UnitRow
answer_of Newline = Always UnitRow
answer_of ReadInt = Always IntRow
answer_of MakeBox = BoxOf
answer_of Unbox = TheContent
answer_of BoxSet = Always UnitRow
answer_of MakeVector = VectorOf
answer_of VectorRef = TheContent
answer_of VectorSet = Always UnitRow
answer_of VectorLength = Always IntRow

-- ---- an operand

-- a term, and the type of the content that it holds or is
pub record Held : Type 0 where
  pub held : Typed
  pub content : Option ℕ

abbrev pub holds : Typed → ℕ → Held
holds e content = record { held = e; content = Some content }

-- a term of type Dyn as a box or a vector of Dyn, whose row this is
abbrev pub opened_as : TypeRow → Pos → Typed → Making Held
opened_as row place e = do
  whole ← form (intern row)
  opened ← cast_at place e whole
  give (holds opened e.type)

-- a term as a box, by the row of its type
abbrev pub box_by : Pos → Typed → Option TypeRow → Making Held
box_by place e (Some (RefRow content)) = give (holds e content)
box_by place e (Some DynRow) = opened_as (RefRow e.type) place e
box_by place e _ = refuse NotRef place

-- a term as a vector, by the row of its type
abbrev pub vector_by : Pos → Typed → Option TypeRow → Making Held
vector_by place e (Some (VectRow content)) = give (holds e content)
vector_by place e (Some DynRow) = opened_as (VectRow e.type) place e
vector_by place e _ = refuse NotVector place

abbrev pub with_content : Option ℕ → Typed → Held
with_content content e = record { held = e; content = content }

-- an operand, where the content's type is known if a box, a vector or the content came before
abbrev pub operand_by : Pos → Option ℕ → Typed → Operand → Making Held
operand_by place content e (As row) = do
  operand ← cast_to_row place row e
  give (with_content content operand)
operand_by place content e Content = give (holds e e.type)
operand_by place content e Box = do
  row ← row_of e.type
  box_by place e row
operand_by place content e Vector = do
  row ← row_of e.type
  vector_by place e row
operand_by place content e AsContent = do
  operand ← cast_if place content e
  give (with_content content operand)

-- ---- an answer

abbrev pub answer_type : OperatorAnswer → Option ℕ → Making ℕ
answer_type (Always row) content = form (intern row)
answer_type TheContent (Some content) = give content
answer_type BoxOf (Some content) = form (intern (RefRow content))
answer_type VectorOf (Some content) = form (intern (VectRow content))
-- no operator has such an answer without a content
answer_type _ None = form (intern UnitRow)

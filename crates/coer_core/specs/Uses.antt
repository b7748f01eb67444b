-- Which operators, parts of Dyn and casts stand in a term, in order and each as often as it stands there; and which
-- numbers its casts have.
use Rattle.std.specs.Prelude.{ℕ, suc, ◌<◌, ℤ, List, [], ◌∷◌, ◌++◌}
use Rattle.grift_base.specs.declared.operators.PrimOp.{PrimOp}
use Rattle.core_calc.specs.Terms.{Term}
use Rattle.coer_core.specs.Terms.{RowTerm, RowTerms, RowMembers, RowBindings, RowInt, RowBool, RowUnit, RowVar}
use Rattle.coer_core.specs.Terms.{RowLambda, RowGroup, RowLet, RowCall, RowIf, RowSeq, RowCast, RowProj, RowProjDyn}
use Rattle.coer_core.specs.Terms.{RowTuple, RowPrim, NoRowTerms, RowTermThen, NoRowMembers, RowMemberThen}
use Rattle.coer_core.specs.Terms.{NoRowBindings, RowBindingThen}
use Rattle.coer_core.specs.Gathered.{Gathers, gathered}
use Rattle.coer_core.specs.Holding.{Holding, Holds}

-- what is listed: an operator, a part of Dyn with its label, or a cast
pub data Use : Type 0 where
  OperatorUse : PrimOp → Use
  DynPartUse : ℤ → ℕ → Use
  CastUse : Use

-- what stands in a term, in front of the terms in it; values are left out
abbrev pub all_uses : Gathers Use
all_uses = record {
  cast = λ from to label inner. CastUse ∷ inner;
  part = λ k label inner. DynPartUse k label ∷ inner;
  operation = λ operator inner. OperatorUse operator ∷ inner;
  entered = λ inner. inner;
}

abbrev pub uses_in : Term → List Use
uses_in term = gathered all_uses term

-- how many terms there are
abbrev pub how_many : RowTerms → ℕ
how_many NoRowTerms = 0
how_many (RowTermThen term rest) = suc (how_many rest)

-- what is listed of a term whose casts are numbers: of a cast, of a part of Dyn, and of an operator with its operands
module _ {A : Type 0} (cast : ℕ → A) (part : ℤ → ℕ → A) (operation : PrimOp → RowTerms → A) where
  abbrev mutual
    pub listed : RowTerm → List A
    listed (RowInt n) = []
    listed (RowBool b) = []
    listed RowUnit = []
    listed (RowVar name) = []
    listed (RowLambda parameters body type) = listed body
    listed (RowGroup members body) = listed_of_members members ++ listed body
    listed (RowLet bindings body) = listed_of_bindings bindings ++ listed body
    listed (RowCall function arguments) = listed function ++ listed_of_all arguments
    listed (RowIf condition on_true on_false) = listed condition ++ (listed on_true ++ listed on_false)
    listed (RowSeq terms) = listed_of_all terms
    listed (RowCast term number) = cast number ∷ listed term
    listed (RowProj term k) = listed term
    listed (RowProjDyn term k label) = part k label ∷ listed term
    listed (RowTuple parts) = listed_of_all parts
    listed (RowPrim operator operands) = operation operator operands ∷ listed_of_all operands

    pub listed_of_all : RowTerms → List A
    listed_of_all NoRowTerms = []
    listed_of_all (RowTermThen term rest) = listed term ++ listed_of_all rest

    pub listed_of_members : RowMembers → List A
    listed_of_members NoRowMembers = []
    listed_of_members (RowMemberThen name parameters body type rest) = listed body ++ listed_of_members rest

    pub listed_of_bindings : RowBindings → List A
    listed_of_bindings NoRowBindings = []
    listed_of_bindings (RowBindingThen name bound rest) = listed bound ++ listed_of_bindings rest

abbrev pub cast_use : ℕ → Use
cast_use number = CastUse

abbrev pub operator_use : PrimOp → RowTerms → Use
operator_use operator operands = OperatorUse operator

-- what a term with coercions uses, in order
abbrev pub row_uses : RowTerm → List Use
row_uses term = listed cast_use DynPartUse operator_use term

-- the numbers of a term's casts are below this one
abbrev pub all_below : ℕ → Holding
all_below many = record {
  function = λ parameters body inner. inner;
  group = λ members inner. inner;
  cast = λ number inner. (number < many) × inner;
  tuple = λ parts inner. inner;
}

abbrev pub NumbersBelow : ℕ → RowTerm → Type 0
NumbersBelow many term = Holds (all_below many) term

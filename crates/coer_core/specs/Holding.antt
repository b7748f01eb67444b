-- What holds of all parts of a term whose casts are numbers.
use Rattle.std.specs.Prelude.{ℕ, List}
use Rattle.coer_core.specs.Terms.{RowTerm, RowTerms, RowMembers, RowBindings, RowInt, RowBool, RowUnit, RowVar}
use Rattle.coer_core.specs.Terms.{RowLambda, RowGroup, RowLet, RowCall, RowIf, RowSeq, RowCast, RowProj, RowProjDyn}
use Rattle.coer_core.specs.Terms.{RowTuple, RowPrim, NoRowTerms, RowTermThen, NoRowMembers, RowMemberThen}
use Rattle.coer_core.specs.Terms.{NoRowBindings, RowBindingThen}

-- what holds of a function with its parameters and its body, of a group, of a cast and of a tuple, each told what holds
-- of the terms in it
pub record Holding : Type 1 where
  pub function : List ℕ → RowTerm → Type 0 → Type 0
  pub group : RowMembers → Type 0 → Type 0
  pub cast : ℕ → Type 0 → Type 0
  pub tuple : RowTerms → Type 0 → Type 0

-- of other forms, what holds of the terms in them
abbrev mutual
  pub Holds : Holding → RowTerm → Type 0
  Holds h (RowInt n) = Unit {0}
  Holds h (RowBool b) = Unit {0}
  Holds h RowUnit = Unit {0}
  Holds h (RowVar name) = Unit {0}
  Holds h (RowLambda parameters body type) = h.function parameters body (Holds h body)
  Holds h (RowGroup members body) = h.group members (MembersHold h members × Holds h body)
  Holds h (RowLet bindings body) = BindingsHold h bindings × Holds h body
  Holds h (RowCall function arguments) = Holds h function × AllHold h arguments
  Holds h (RowIf condition on_true on_false) = Holds h condition × Holds h on_true × Holds h on_false
  Holds h (RowSeq terms) = AllHold h terms
  Holds h (RowCast term number) = h.cast number (Holds h term)
  Holds h (RowProj term k) = Holds h term
  Holds h (RowProjDyn term k label) = Holds h term
  Holds h (RowTuple parts) = h.tuple parts (AllHold h parts)
  Holds h (RowPrim operator operands) = AllHold h operands

  pub AllHold : Holding → RowTerms → Type 0
  AllHold h NoRowTerms = Unit {0}
  AllHold h (RowTermThen term rest) = Holds h term × AllHold h rest

  pub MembersHold : Holding → RowMembers → Type 0
  MembersHold h NoRowMembers = Unit {0}
  MembersHold h (RowMemberThen name parameters body type rest) = Holds h body × MembersHold h rest

  pub BindingsHold : Holding → RowBindings → Type 0
  BindingsHold h NoRowBindings = Unit {0}
  BindingsHold h (RowBindingThen name bound rest) = Holds h bound × BindingsHold h rest

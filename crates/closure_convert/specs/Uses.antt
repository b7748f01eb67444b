-- Which operators, parts of Dyn and casts stand in a term.
use Rattle.std.specs.Prelude.{ℕ, ℤ, Bool, true, List}
use Rattle.grift_base.specs.declared.operators.PrimOp.{PrimOp}
use Rattle.coer_core.specs.Terms.{RowTerm, RowTerms, RowMembers, RowBindings}
use Rattle.coer_core.specs.Uses.{how_many, listed, listed_of_all, listed_of_bindings, listed_of_members}
use Rattle.flat_ir.specs.Closed.{part_has_words}

-- what is listed: an operator with the number of its operands, a part of Dyn with its label, or a cast by its number
pub data Use : Type 0 where
  OperatorUse : PrimOp → ℕ → Use
  DynPartUse : ℤ → ℕ → Use
  CastUse : ℕ → Use

abbrev pub operator_use : PrimOp → RowTerms → Use
operator_use operator operands = OperatorUse operator (how_many operands)

abbrev pub term_uses : RowTerm → List Use
term_uses term = listed CastUse DynPartUse operator_use term

abbrev pub terms_uses : RowTerms → List Use
terms_uses terms = listed_of_all CastUse DynPartUse operator_use terms

abbrev pub member_uses : RowMembers → List Use
member_uses members = listed_of_members CastUse DynPartUse operator_use members

abbrev pub binding_uses : RowBindings → List Use
binding_uses bindings = listed_of_bindings CastUse DynPartUse operator_use bindings

-- the number and the label of a part of Dyn can be handed on as words
abbrev pub has_words : Use → Bool
has_words (OperatorUse operator count) = true
has_words (DynPartUse k label) = part_has_words k label
has_words (CastUse number) = true

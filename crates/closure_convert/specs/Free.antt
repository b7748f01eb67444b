-- Whether a name is free in a term.
use Rattle.std.specs.Prelude.{ℕ, nat_eq, Bool, true, false, cond}
use Rattle.core_calc.specs.Substitution.{is_among}
use Rattle.coer_core.specs.Terms.{RowTerm, RowTerms, RowMembers, RowBindings, RowInt, RowBool, RowUnit, RowVar}
use Rattle.coer_core.specs.Terms.{RowLambda, RowGroup, RowLet, RowCall, RowIf, RowSeq, RowCast, RowProj, RowProjDyn}
use Rattle.coer_core.specs.Terms.{RowTuple, RowPrim, NoRowTerms, RowTermThen, NoRowMembers, RowMemberThen}
use Rattle.coer_core.specs.Terms.{NoRowBindings, RowBindingThen}
use Rattle.coer_core.specs.Counts.{row_binding_names, row_member_names}

-- one or the other
abbrev pub either : Bool → Bool → Bool
either one other = cond one true other

-- it stands there, and is not bound around the place where it does
abbrev mutual
  pub is_free : ℕ → RowTerm → Bool
  is_free name (RowInt n) = false
  is_free name (RowBool b) = false
  is_free name RowUnit = false
  is_free name (RowVar other) = nat_eq name other
  is_free name (RowLambda parameters body type) = cond (is_among name parameters) false (is_free name body)
  is_free name (RowGroup members body) =
      cond (is_among name (row_member_names members)) false (either (is_free_in_a_member name members)
      (is_free name body))
  is_free name (RowLet bindings body) =
      either (is_free_in_bindings name bindings)
      (cond (is_among name (row_binding_names bindings)) false (is_free name body))
  is_free name (RowCall function arguments) = either (is_free name function) (is_free_in_terms name arguments)
  is_free name (RowIf condition on_true on_false) =
      either (is_free name condition) (either (is_free name on_true) (is_free name on_false))
  is_free name (RowSeq terms) = is_free_in_terms name terms
  is_free name (RowCast term number) = is_free name term
  is_free name (RowProj term k) = is_free name term
  is_free name (RowProjDyn term k label) = is_free name term
  is_free name (RowTuple parts) = is_free_in_terms name parts
  is_free name (RowPrim operator operands) = is_free_in_terms name operands

  pub is_free_in_terms : ℕ → RowTerms → Bool
  is_free_in_terms name NoRowTerms = false
  is_free_in_terms name (RowTermThen term rest) = either (is_free name term) (is_free_in_terms name rest)

  -- in the body of a function, and it is no parameter there
  pub is_free_in_a_member : ℕ → RowMembers → Bool
  is_free_in_a_member name NoRowMembers = false
  is_free_in_a_member name (RowMemberThen other parameters body type rest) =
      either (cond (is_among name parameters) false (is_free name body)) (is_free_in_a_member name rest)

  pub is_free_in_bindings : ℕ → RowBindings → Bool
  is_free_in_bindings name NoRowBindings = false
  is_free_in_bindings name (RowBindingThen other bound rest) = either (is_free name bound)
      (is_free_in_bindings name rest)

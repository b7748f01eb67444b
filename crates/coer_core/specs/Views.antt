-- The compiler's terms as terms of the definitions: what their boxes hold, and not where.
use Rattle.core_calc.specs.Views.{names_of}
use Rattle.coer_core.specs.declared.terms.CoerTerm.{CoerTerm}
use Rattle.coer_core.specs.declared.terms.CoerTerm.TheVariants.{Int, Bool, Unit as UnitCase, Var as VarCase}
use Rattle.coer_core.specs.declared.terms.CoerTerm.TheVariants.{Lambda' as LambdaCase, Group' as GroupCase}
use Rattle.coer_core.specs.declared.terms.CoerTerm.TheVariants.{Let' as LetCase, Call' as CallCase, If' as IfCase}
use Rattle.coer_core.specs.declared.terms.CoerTerm.TheVariants.{Seq as SeqCase, Coerce' as CoerceCase}
use Rattle.coer_core.specs.declared.terms.CoerTerm.TheVariants.{Proj' as ProjCase, ProjDyn' as ProjDynCase}
use Rattle.coer_core.specs.declared.terms.CoerTerm.TheVariants.{Tuple as TupleCase, Prim as PrimCase}
use Rattle.coer_core.specs.declared.terms.CoerList.{CoerList}
use Rattle.coer_core.specs.declared.terms.CoerList.TheVariants.{Nil, Cons'}
use Rattle.coer_core.specs.declared.terms.CoerMember.{CoerMember, out-CoerMember}
use Rattle.coer_core.specs.declared.terms.CoerMembers.{CoerMembers}
use Rattle.coer_core.specs.declared.terms.CoerMembers.TheVariants.{Nil as NoMember, Cons' as MemberCons}
use Rattle.coer_core.specs.declared.terms.CoerBinding.{CoerBinding, out-CoerBinding}
use Rattle.coer_core.specs.declared.terms.CoerBindings.{CoerBindings}
use Rattle.coer_core.specs.declared.terms.CoerBindings.TheVariants.{Nil as NoBinding, Cons' as BindingCons}
use Rattle.coer_core.specs.Terms.{RowTerm, RowTerms, RowMembers, RowBindings, RowInt, RowBool, RowUnit, RowVar}
use Rattle.coer_core.specs.Terms.{RowLambda, RowGroup, RowLet, RowCall, RowIf, RowSeq, RowCast, RowProj, RowProjDyn}
use Rattle.coer_core.specs.Terms.{RowTuple, RowPrim, NoRowTerms, RowTermThen, NoRowMembers, RowMemberThen}
use Rattle.coer_core.specs.Terms.{NoRowBindings, RowBindingThen}

abbrev mutual
  pub row_term_of : CoerTerm → RowTerm
  row_term_of (Int n) = RowInt n
  row_term_of (Bool b) = RowBool b
  row_term_of UnitCase = RowUnit
  row_term_of (VarCase name) = RowVar name.0
  row_term_of (LambdaCase params _ body type) = RowLambda (names_of params) (row_term_of body) type.0
  row_term_of (GroupCase members _ body) = RowGroup (row_members_of members) (row_term_of body)
  row_term_of (LetCase bindings _ body) = RowLet (row_bindings_of bindings) (row_term_of body)
  row_term_of (CallCase _ function arguments) = RowCall (row_term_of function) (row_terms_of arguments)
  row_term_of (IfCase _ condition _ on_true _ on_false) =
      RowIf (row_term_of condition) (row_term_of on_true) (row_term_of on_false)
  row_term_of (SeqCase terms) = RowSeq (row_terms_of terms)
  row_term_of (CoerceCase _ term number) = RowCast (row_term_of term) number
  row_term_of (ProjCase _ term k) = RowProj (row_term_of term) k
  row_term_of (ProjDynCase _ term k label) = RowProjDyn (row_term_of term) k label.0
  row_term_of (TupleCase parts) = RowTuple (row_terms_of parts)
  row_term_of (PrimCase operator operands) = RowPrim operator (row_terms_of operands)

  pub row_terms_of : CoerList → RowTerms
  row_terms_of Nil = NoRowTerms
  row_terms_of (Cons' _ term _ rest) = RowTermThen (row_term_of term) (row_terms_of rest)

  pub row_members_of : CoerMembers → RowMembers
  row_members_of NoMember = NoRowMembers
  row_members_of (MemberCons _ name params body type _ rest) =
      RowMemberThen name.0 (names_of params) (row_term_of body) type.0 (row_members_of rest)

  pub row_bindings_of : CoerBindings → RowBindings
  row_bindings_of NoBinding = NoRowBindings
  row_bindings_of (BindingCons _ name bound _ rest) =
      RowBindingThen name.0 (row_term_of bound) (row_bindings_of rest)

-- a member in front of others
abbrev pub members_with : CoerMember → RowMembers → RowMembers
members_with member rest =
    RowMemberThen (out-CoerMember member).name.0 (names_of (out-CoerMember member).params)
    (row_term_of (out-CoerMember member).body) (out-CoerMember member).ty.0 rest

-- a binding in front of others
abbrev pub bindings_with : CoerBinding → RowBindings → RowBindings
bindings_with binding rest =
    RowBindingThen (out-CoerBinding binding).name.0 (row_term_of (out-CoerBinding binding).value) rest

-- Terms whose casts are numbers of rows, and these terms as terms of the calculus.
use Rattle.std.specs.Prelude.{ℕ, ℤ, Bool, List, Option, Some, None, slice_get}
use Rattle.grift_base.specs.declared.operators.PrimOp.{PrimOp}
use Rattle.core_calc.specs.Terms.{Term, Terms, Members, Bindings, IntLit, BoolLit, UnitLit, Var, Lambda, Group, Let}
use Rattle.core_calc.specs.Terms.{Call, If, Seq, Cast, Proj, ProjDyn, Tuple, Prim, NoTerms, TermThen, NoMembers}
use Rattle.core_calc.specs.Terms.{MemberThen, NoBindings, BindingThen}
use Rattle.cast_modes.specs.Modes.{TypeCast}

mutual
  pub data RowTerm : Type 0 where
    RowInt : ℤ → RowTerm
    RowBool : Bool → RowTerm
    RowUnit : RowTerm
    RowVar : ℕ → RowTerm
    -- parameters, body and type
    RowLambda : List ℕ → RowTerm → ℕ → RowTerm
    -- functions that know each other, and a body that knows them
    RowGroup : RowMembers → RowTerm → RowTerm
    RowLet : RowBindings → RowTerm → RowTerm
    RowCall : RowTerm → RowTerms → RowTerm
    RowIf : RowTerm → RowTerm → RowTerm → RowTerm
    RowSeq : RowTerms → RowTerm
    -- the cast of this number
    RowCast : RowTerm → ℕ → RowTerm
    RowProj : RowTerm → ℤ → RowTerm
    -- a part of what Dyn holds, with a label
    RowProjDyn : RowTerm → ℤ → ℕ → RowTerm
    RowTuple : RowTerms → RowTerm
    RowPrim : PrimOp → RowTerms → RowTerm

  pub data RowTerms : Type 0 where
    NoRowTerms : RowTerms
    RowTermThen : RowTerm → RowTerms → RowTerms

  -- of a member: name, parameters, body and type
  pub data RowMembers : Type 0 where
    NoRowMembers : RowMembers
    RowMemberThen : ℕ → List ℕ → RowTerm → ℕ → RowMembers → RowMembers

  -- of a binding: name and bound term
  pub data RowBindings : Type 0 where
    NoRowBindings : RowBindings
    RowBindingThen : ℕ → RowTerm → RowBindings → RowBindings

-- a cast as a row has it; where there is no such row, a term that has no step
abbrev pub cast_by : Option TypeCast → Term → Term
cast_by (Some cast) term = Cast term cast.from cast.to cast.label
cast_by None term = Seq NoTerms

-- each number read as the cast of its row
module _ (casts : List TypeCast) where
  abbrev mutual
    pub core_of : RowTerm → Term
    core_of (RowInt n) = IntLit n
    core_of (RowBool b) = BoolLit b
    core_of RowUnit = UnitLit
    core_of (RowVar name) = Var name
    core_of (RowLambda parameters body type) = Lambda parameters (core_of body) type
    core_of (RowGroup members body) = Group (core_members members) (core_of body)
    core_of (RowLet bindings body) = Let (core_bindings bindings) (core_of body)
    core_of (RowCall function arguments) = Call (core_of function) (core_terms arguments)
    core_of (RowIf condition on_true on_false) = If (core_of condition) (core_of on_true) (core_of on_false)
    core_of (RowSeq terms) = Seq (core_terms terms)
    core_of (RowCast term number) = cast_by (slice_get casts number) (core_of term)
    core_of (RowProj term k) = Proj (core_of term) k
    core_of (RowProjDyn term k label) = ProjDyn (core_of term) k label
    core_of (RowTuple parts) = Tuple (core_terms parts)
    core_of (RowPrim operator operands) = Prim operator (core_terms operands)

    pub core_terms : RowTerms → Terms
    core_terms NoRowTerms = NoTerms
    core_terms (RowTermThen term rest) = TermThen (core_of term) (core_terms rest)

    pub core_members : RowMembers → Members
    core_members NoRowMembers = NoMembers
    core_members (RowMemberThen name parameters body type rest) =
        MemberThen name parameters (core_of body) type (core_members rest)

    pub core_bindings : RowBindings → Bindings
    core_bindings NoRowBindings = NoBindings
    core_bindings (RowBindingThen name bound rest) = BindingThen name (core_of bound) (core_bindings rest)

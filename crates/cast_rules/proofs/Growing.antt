-- What has its type keeps it where rows are added to the end of the table of types, and where there are more labels.
use Rattle.std.proofs.Common.{ℕ, List, ◌++◌, ◌<◌, ◌≤◌, true, false, arith}
use Rattle.grift_base.specs.Types.{TypeRow, TypeRows}
use Rattle.grift_base.specs.declared.operators.PrimOp.{PrimOp}
use Rattle.grift_base.specs.declared.operators.PrimOp.TheVariants.{Add, Sub, Mul, Quot, Rem, Lt, Le, Eq, Ge, Gt, Not}
use Rattle.grift_base.specs.declared.operators.PrimOp.TheVariants.{PrintInt, Newline, ReadInt, MakeBox, Unbox, BoxSet}
use Rattle.grift_base.specs.declared.operators.PrimOp.TheVariants.{MakeVector, VectorRef, VectorSet, VectorLength}
use Rattle.core_calc.specs.Terms.{Term, Terms, Members, Bindings, Value, Values, IntLit, BoolLit, UnitLit, Var, Lambda}
use Rattle.core_calc.specs.Terms.{Group, Let, Call, Enter, If, Seq, Cast, Proj, ProjDyn, Tuple, Prim, ValueTerm}
use Rattle.core_calc.specs.Terms.{NoTerms, TermThen, NoMembers, MemberThen, NoBindings, BindingThen, IntValue}
use Rattle.core_calc.specs.Terms.{BoolValue, UnitValue, FunValue, MemberValue, TupleValue, LocValue, WrapValue}
use Rattle.core_calc.specs.Terms.{InjectValue, NoValues, ValueThen}
use Rattle.core_calc.specs.Typing.{Context, CellType, member_types, Is, AreInts, IsOne, OperatorHasType, HasType}
use Rattle.core_calc.specs.Typing.{HaveTypes, LastHasType, MembersHaveTypes, BindingsHaveTypes, ValueHasType}
use Rattle.core_calc.specs.Typing.{ValuesHaveTypes}
use Rattle.type_graph.proofs.Public.{get_kept}

module _ (types more : TypeRows) where
  pub is_kept : (type : ℕ) (row : TypeRow) → Is types type row → Is (types ++ more) type row
  is_kept type row e = get_kept types more type row e

  ints_kept : (operands : List ℕ) → AreInts types operands → AreInts (types ++ more) operands
  ints_kept operands h = (h.0, h.1, h.2, is_kept h.0 _ h.3, is_kept h.1 _ h.4)

  one_kept : (operands : List ℕ) (row : TypeRow) → IsOne types operands row → IsOne (types ++ more) operands row
  one_kept operands row h = (h.0, h.1, is_kept h.0 row h.2)

  operator_kept : (operator : PrimOp) (operands : List ℕ) (type : ℕ) → OperatorHasType types operator operands type →
      OperatorHasType (types ++ more) operator operands type
  operator_kept Add operands type h = (ints_kept operands h.0, is_kept type _ h.1)
  operator_kept Sub operands type h = (ints_kept operands h.0, is_kept type _ h.1)
  operator_kept Mul operands type h = (ints_kept operands h.0, is_kept type _ h.1)
  operator_kept Quot operands type h = (ints_kept operands h.0, is_kept type _ h.1)
  operator_kept Rem operands type h = (ints_kept operands h.0, is_kept type _ h.1)
  operator_kept Lt operands type h = (ints_kept operands h.0, is_kept type _ h.1)
  operator_kept Le operands type h = (ints_kept operands h.0, is_kept type _ h.1)
  operator_kept Eq operands type h = (ints_kept operands h.0, is_kept type _ h.1)
  operator_kept Ge operands type h = (ints_kept operands h.0, is_kept type _ h.1)
  operator_kept Gt operands type h = (ints_kept operands h.0, is_kept type _ h.1)
  operator_kept Not operands type h = (one_kept operands _ h.0, is_kept type _ h.1)
  operator_kept PrintInt operands type h = (one_kept operands _ h.0, is_kept type _ h.1)
  operator_kept Newline operands type h = (h.0, is_kept type _ h.1)
  operator_kept ReadInt operands type h = (h.0, is_kept type _ h.1)
  operator_kept MakeBox operands type h = (h.0, h.1, is_kept type _ h.2)
  operator_kept Unbox operands type h = one_kept operands _ h
  operator_kept BoxSet operands type h = (h.0, h.1, h.2, is_kept h.0 _ h.3, is_kept type _ h.4)
  operator_kept MakeVector operands type h = (h.0, h.1, h.2, is_kept h.0 _ h.3, is_kept type _ h.4)
  operator_kept VectorRef operands type h = (h.0, h.1, h.2, is_kept h.0 _ h.3, is_kept h.1 _ h.4)
  operator_kept VectorSet operands type h = (
    h.0,
    h.1,
    h.2,
    h.3,
    is_kept h.0 _ h.4,
    is_kept h.1 _ h.5,
    is_kept type _
        h.6,
  )
  operator_kept VectorLength operands type h = (h.0, one_kept operands _ h.1, is_kept type _ h.2)

module _ (types more : TypeRows) (labels after : ℕ) (within : labels ≤ after) (cells : List CellType) where
  label_stays : (label : ℕ) → label < labels → label < after
  label_stays label below = omega arith

  mutual
    pub grow_term : (term : Term) (context : Context) (type : ℕ) → HasType types labels cells context term type →
        HasType (types ++ more) after cells context term type
    grow_term (IntLit n) context type h = (h.0, is_kept types more type _ h.1)
    grow_term (BoolLit b) context type h = is_kept types more type _ h
    grow_term UnitLit context type h = is_kept types more type _ h
    grow_term (Var name) context type h = h
    grow_term (Lambda parameters body written) context type h = (
      h.0,
      (
        h.1.0,
        h.1.1,
        h.1.2,
        is_kept types more type _ h.1.3,
        h.1.4,
        grow_term body (h.1.2 ++ context) h.1.1
            h.1.5,
      ),
    )
    grow_term (Group members body) context type h = (
      grow_members members (member_types members ++ context) h.0,
      grow_term body (member_types members ++ context)
          type h.1,
    )
    grow_term (Let bindings body) context type h =
        (h.0, grow_bindings bindings context h.0 h.1, grow_term body (h.0 ++ context) type h.2)
    grow_term (Call function arguments) context type h = (
      h.0,
      h.1,
      grow_term function context h.0 h.2,
      is_kept types more h.0 _ h.3,
      grow_terms arguments context h.1
          h.4,
    )
    grow_term (Enter function arguments) context type h = (
      h.0,
      h.1,
      grow_term function context h.0 h.2,
      is_kept types more h.0 _ h.3,
      grow_terms arguments context h.1
          h.4,
      h.5,
    )
    grow_term (If condition on_true on_false) context type h = (
      h.0,
      grow_term condition context h.0 h.1,
      is_kept types more h.0 _ h.2,
      grow_term on_true context type h.3,
      grow_term on_false context type h.4,
    )
    grow_term (Seq terms) context type h = grow_last terms context type h
    grow_term (Cast term from to label) context type h =
        (h.0, grow_term term context from h.1, (h.2.0, is_kept types more type _ h.2.1), label_stays label h.3)
    grow_term (Proj term k) context type h = (
      h.0,
      h.1,
      grow_term term context h.0 h.2,
      is_kept types more h.0 _ h.3,
      h.4,
    )
    grow_term (ProjDyn term k label) context type h =
        (grow_term term context type h.0, is_kept types more type _ h.1, label_stays label h.2)
    grow_term (Tuple parts) context type h = (
      h.0,
      grow_terms parts context h.0 h.1,
      is_kept types more type _ h.2,
      h.3,
      h.4,
    )
    grow_term (Prim operator operands) context type h =
        (h.0, grow_terms operands context h.0 h.1, operator_kept types more operator h.0 type h.2)
    grow_term (ValueTerm v) context type h = grow_value v type h

    pub grow_terms : (terms : Terms) (context : Context) (wanted : List ℕ) → HaveTypes types labels cells context terms
        wanted → HaveTypes (types ++ more) after cells context terms wanted
    grow_terms NoTerms context wanted h = h
    grow_terms (TermThen term rest) context wanted h =
        (h.0, h.1, h.2, grow_term term context h.0 h.3, grow_terms rest context h.1 h.4)

    pub grow_last : (terms : Terms) (context : Context) (type : ℕ) → LastHasType types labels cells context terms type
        → LastHasType (types ++ more) after cells context terms type
    grow_last NoTerms context type h = h
    grow_last (TermThen term NoTerms) context type h = grow_term term context type h
    grow_last (TermThen term (TermThen second rest)) context type h =
        ((h.0.0, grow_term term context h.0.0 h.0.1), grow_last (TermThen second rest) context type h.1)

    pub grow_members : (members : Members) (context : Context) → MembersHaveTypes types labels cells context members →
        MembersHaveTypes (types ++ more) after cells context members
    grow_members NoMembers context h = tt
    grow_members (MemberThen name parameters body type rest) context h = (
      (h.0.0, h.0.1, h.0.2, is_kept types more type _ h.0.3, h.0.4, grow_term body (h.0.2 ++ context) h.0.1 h.0.5),
      grow_members rest context h.1,
    )

    pub grow_bindings : (bindings : Bindings) (context bound : Context) → BindingsHaveTypes types labels cells context
        bindings bound → BindingsHaveTypes (types ++ more) after cells context bindings bound
    grow_bindings NoBindings context bound h = h
    grow_bindings (BindingThen name term rest) context bound h =
        (h.0, h.1, h.2, grow_term term context h.0 h.3, grow_bindings rest context h.1 h.4)

    pub grow_value : (v : Value) (type : ℕ) → ValueHasType types labels cells v type → ValueHasType (types ++ more)
        after cells v type
    grow_value (IntValue n) type h = (h.0, is_kept types more type _ h.1)
    grow_value (BoolValue b) type h = is_kept types more type _ h
    grow_value UnitValue type h = is_kept types more type _ h
    grow_value (FunValue parameters body written) type h =
        (h.0, (h.1.0, h.1.1, h.1.2, is_kept types more type _ h.1.3, h.1.4, grow_term body h.1.2 h.1.1 h.1.5))
    grow_value (MemberValue members place) type h = (grow_members members (member_types members) h.0, h.1)
    grow_value (TupleValue values) type h = (h.0, grow_values values h.0 h.1, is_kept types more type _ h.2, h.3, h.4)
    grow_value (LocValue cell true) type h = (h.0, h.1, h.2, is_kept types more type _ h.3)
    grow_value (LocValue cell false) type h = (h.0, h.1, is_kept types more type _ h.2)
    grow_value (WrapValue v from label to) type h = (
      h.0,
      h.1,
      h.2,
      grow_value v from h.3,
      is_kept types more from _ h.4,
      is_kept types more to _ h.5,
      h.6,
      h.7,
      h.8,
      label_stays label h.9,
    )
    grow_value (InjectValue v kept) type h = (
      h.0,
      grow_value v kept h.1,
      is_kept types more kept _ h.2,
      h.3,
      is_kept
          types more type _ h.4,
    )

    pub grow_values : (values : Values) (wanted : List ℕ) → ValuesHaveTypes types labels cells values wanted →
        ValuesHaveTypes (types ++ more) after cells values wanted
    grow_values NoValues wanted h = h
    grow_values (ValueThen v rest) wanted h = (h.0, h.1, h.2, grow_value v h.0 h.3, grow_values rest h.1 h.4)

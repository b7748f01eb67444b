-- What has its type keeps it where there are more cells.
use Rattle.std.proofs.Common.{◌≡◌, ℕ, List, ◌++◌, Some, ap, ◌∙◌, true, false, slice_get}
use Rattle.grift_base.specs.Types.{TypeRows}
use Rattle.core_calc.specs.Terms.{Term, Terms, Members, Bindings, Value, Values, IntLit, BoolLit, UnitLit, Var, Lambda}
use Rattle.core_calc.specs.Terms.{Group, Let, Call, Enter, If, Seq, Cast, Proj, ProjDyn, Tuple, Prim, ValueTerm}
use Rattle.core_calc.specs.Terms.{NoTerms, TermThen, NoMembers, MemberThen, NoBindings, BindingThen, IntValue}
use Rattle.core_calc.specs.Terms.{BoolValue, UnitValue, FunValue, MemberValue, TupleValue, LocValue, WrapValue}
use Rattle.core_calc.specs.Terms.{InjectValue, NoValues, ValueThen}
use Rattle.core_calc.specs.Typing.{Context, CellType, HasMoreCells, member_types, HasType, HaveTypes, LastHasType}
use Rattle.core_calc.specs.Typing.{MembersHaveTypes, BindingsHaveTypes, ValueHasType, ValuesHaveTypes}
use Rattle.core_calc.proofs.ListPlaces.{get_kept}

module _ (types : TypeRows) (labels : ℕ) (cells new : List CellType) (extended : HasMoreCells cells new) where
  cell_stays : (k : ℕ) (cell : CellType) → slice_get cells k ≡ Some cell → slice_get new k ≡ Some cell
  cell_stays k cell e = ap (λ cs. slice_get cs k) extended.1 ∙ get_kept cells extended.0 k cell e

  mutual
    pub more_term : (term : Term) (context : Context) (type : ℕ) → HasType types labels cells context term type →
        HasType types labels new context term type
    more_term (IntLit n) context type h = h
    more_term (BoolLit b) context type h = h
    more_term UnitLit context type h = h
    more_term (Var name) context type h = h
    more_term (Lambda parameters body written) context type h =
        (h.0, (h.1.0, h.1.1, h.1.2, h.1.3, h.1.4, more_term body (h.1.2 ++ context) h.1.1 h.1.5))
    more_term (Group members body) context type h = (
      more_members members (member_types members ++ context) h.0,
      more_term body (member_types members ++ context) type h.1,
    )
    more_term (Let bindings body) context type h =
        (h.0, more_bindings bindings context h.0 h.1, more_term body (h.0 ++ context) type h.2)
    more_term (Call function arguments) context type h =
        (h.0, h.1, more_term function context h.0 h.2, h.3, more_terms arguments context h.1 h.4)
    more_term (Enter function arguments) context type h =
        (h.0, h.1, more_term function context h.0 h.2, h.3, more_terms arguments context h.1 h.4, h.5)
    more_term (If condition on_true on_false) context type h = (
      h.0,
      more_term condition context h.0 h.1,
      h.2,
      more_term on_true context type h.3,
      more_term on_false context type h.4,
    )
    more_term (Seq terms) context type h = more_last terms context type h
    more_term (Cast term from to label) context type h = (h.0, more_term term context from h.1, h.2, h.3)
    more_term (Proj term k) context type h = (h.0, h.1, more_term term context h.0 h.2, h.3, h.4)
    more_term (ProjDyn term k label) context type h = (more_term term context type h.0, h.1, h.2)
    more_term (Tuple parts) context type h = (h.0, more_terms parts context h.0 h.1, h.2, h.3, h.4)
    more_term (Prim operator operands) context type h = (h.0, more_terms operands context h.0 h.1, h.2)
    more_term (ValueTerm v) context type h = more_value v type h

    pub more_terms : (terms : Terms) (context : Context) (wanted : List ℕ) →
        HaveTypes types labels cells context terms wanted → HaveTypes types labels new context terms wanted
    more_terms NoTerms context wanted h = h
    more_terms (TermThen term rest) context wanted h =
        (h.0, h.1, h.2, more_term term context h.0 h.3, more_terms rest context h.1 h.4)

    pub more_last : (terms : Terms) (context : Context) (type : ℕ) → LastHasType types labels cells context terms type →
        LastHasType types labels new context terms type
    more_last NoTerms context type h = h
    more_last (TermThen term NoTerms) context type h = more_term term context type h
    more_last (TermThen term (TermThen second rest)) context type h =
        ((h.0.0, more_term term context h.0.0 h.0.1), more_last (TermThen second rest) context type h.1)

    pub more_members : (members : Members) (context : Context) → MembersHaveTypes types labels cells context members →
        MembersHaveTypes types labels new context members
    more_members NoMembers context h = tt
    more_members (MemberThen name parameters body type rest) context h = (
      (h.0.0, h.0.1, h.0.2, h.0.3, h.0.4, more_term body (h.0.2 ++ context) h.0.1 h.0.5),
      more_members rest context h.1,
    )

    pub more_bindings : (bindings : Bindings) (context bound : Context) →
        BindingsHaveTypes types labels cells context bindings bound →
        BindingsHaveTypes types labels new context bindings bound
    more_bindings NoBindings context bound h = h
    more_bindings (BindingThen name term rest) context bound h =
        (h.0, h.1, h.2, more_term term context h.0 h.3, more_bindings rest context h.1 h.4)

    pub more_value : (v : Value) (type : ℕ) → ValueHasType types labels cells v type →
        ValueHasType types labels new v type
    more_value (IntValue n) type h = h
    more_value (BoolValue b) type h = h
    more_value UnitValue type h = h
    more_value (FunValue parameters body written) type h =
        (h.0, (h.1.0, h.1.1, h.1.2, h.1.3, h.1.4, more_term body h.1.2 h.1.1 h.1.5))
    more_value (MemberValue members place) type h = (more_members members (member_types members) h.0, h.1)
    more_value (TupleValue values) type h = (h.0, more_values values h.0 h.1, h.2, h.3, h.4)
    more_value (LocValue cell true) type h =
        (h.0, h.1, cell_stays cell (record { content = h.0; size = h.1 }) h.2, h.3)
    more_value (LocValue cell false) type h = (h.0, cell_stays cell (record { content = h.0; size = 1 }) h.1, h.2)
    more_value (WrapValue v from label to) type h = (h.0, h.1, h.2, more_value v from h.3, h.4, h.5, h.6, h.7, h.8, h.9)
    more_value (InjectValue v kept) type h = (h.0, more_value v kept h.1, h.2, h.3, h.4)

    pub more_values : (values : Values) (wanted : List ℕ) → ValuesHaveTypes types labels cells values wanted →
        ValuesHaveTypes types labels new values wanted
    more_values NoValues wanted h = h
    more_values (ValueThen v rest) wanted h = (h.0, h.1, h.2, more_value v h.0 h.3, more_values rest h.1 h.4)

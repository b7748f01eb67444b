-- A term has one type, and so does a value.
use Rattle.std.proofs.Common.{◌≡◌, ℕ, zero, suc, List, ◌∷◌, ◌++◌, Some, sym, ap, ◌∙◌, subst}
use Rattle.std.proofs.Common.{true, false, slice_get}
use Rattle.grift_base.specs.Types.{TypeRow, IntRow, BoolRow, UnitRow, DynRow, FunRow, TupleRow, RefRow, VectRow}
use Rattle.grift_base.specs.Types.{TypeRows, row_at, tuple_part}
use Rattle.grift_base.specs.declared.operators.PrimOp.{PrimOp}
use Rattle.core_calc.specs.Terms.{Term, Terms, Members, Bindings, Value, Values, IntLit, BoolLit, UnitLit, Var, Lambda}
use Rattle.core_calc.specs.Terms.{Group, Let, Call, Enter, If, Seq, Cast, Proj, ProjDyn, Tuple, Prim, ValueTerm}
use Rattle.core_calc.specs.Terms.{NoTerms, TermThen, NoMembers, MemberThen, NoBindings, BindingThen, IntValue}
use Rattle.core_calc.specs.Terms.{BoolValue, UnitValue, FunValue, MemberValue, TupleValue, LocValue, WrapValue}
use Rattle.core_calc.specs.Terms.{InjectValue, NoValues, ValueThen}
use Rattle.core_calc.specs.Substitution.{entry_of}
use Rattle.core_calc.specs.TypeOf.{operator_type}
use Rattle.core_calc.specs.Typing.{Context, CellType, IsTypeTable, MemberHasType, OperatorHasType}
use Rattle.core_calc.specs.Typing.{HasType, HaveTypes, LastHasType, BindingsHaveTypes, ValueHasType, ValuesHaveTypes}
use Rattle.core_calc.proofs.ListPlaces.{both_some}
use Rattle.core_calc.proofs.RowsOfTables.{same_type}
use Rattle.core_calc.proofs.TypesComputed.{operator_found}

module _ (types : TypeRows) (table : IsTypeTable types) where
  abbrev HasRowAt : ℕ → TypeRow → Type 0
  HasRowAt type row = row_at types type ≡ Some row

  -- the same place has the same row
  rows_agree : (a b : ℕ) (row other : TypeRow) → a ≡ b → HasRowAt a row → HasRowAt b other → row ≡ other
  rows_agree a b row other e f g = both_some (row_at types b) row other (ap (λ t. row_at types t) (sym e) ∙ f) g

  -- an operator answers one type for these operand types
  one_answer : (operator : PrimOp) (operands : List ℕ) (a b : ℕ) → OperatorHasType types operator operands a →
      OperatorHasType types operator operands b → a ≡ b
  one_answer operator operands a b h k =
      both_some (operator_type types operator operands) a b (operator_found types table operator operands a h)
      (operator_found types table operator operands b k)

  -- ---- functions and tuples

  answer_of_fun : (p q : List ℕ) (a b : ℕ) → FunRow p a ≡ FunRow q b → a ≡ b
  answer_of_fun p q a b e = cc

  parts_of_tuple : (p q : List ℕ) → TupleRow p ≡ TupleRow q → p ≡ q
  parts_of_tuple p q e = cc

  one_member_type : (members : Members) (place a b : ℕ) → MemberHasType members place a →
      MemberHasType members place b → a ≡ b
  one_member_type NoMembers place a b h k = absurd h
  one_member_type (MemberThen name parameters body written rest) zero a b h k = sym h ∙ k
  one_member_type (MemberThen name parameters body written rest) (suc place) a b h k =
      one_member_type rest place a b h k

  module _ (labels : ℕ) (cells : List CellType) where
    abbrev Has : Context → Term → ℕ → Type 0
    Has context term type = HasType types labels cells context term type

    one_cell_type : (cell : ℕ) (s t : CellType) → slice_get cells cell ≡ Some s → slice_get cells cell ≡ Some t → s ≡ t
    one_cell_type cell s t e f = both_some (slice_get cells cell) s t e f

    mutual
      pub a_term_has_one_type-terms : (term : Term) (context : Context) (a b : ℕ) → Has context term a →
          Has context term b → a ≡ b
      a_term_has_one_type-terms (IntLit n) context a b h k = same_type types table a b IntRow h.1 k.1
      a_term_has_one_type-terms (BoolLit t) context a b h k = same_type types table a b BoolRow h k
      a_term_has_one_type-terms UnitLit context a b h k = same_type types table a b UnitRow h k
      a_term_has_one_type-terms (Var name) context a b h k = both_some (entry_of name context) a b h k
      a_term_has_one_type-terms (Lambda parameters body written) context a b h k = sym h.0 ∙ k.0
      a_term_has_one_type-terms (Group group body) context a b h k = a_term_has_one_type-terms body _ a b h.1 k.1
      a_term_has_one_type-terms (Let bindings body) context a b h k =
          let bound : h.0 ≡ k.0 = one_bound bindings context h.0 k.0 h.1 k.1 in
          a_term_has_one_type-terms body (k.0 ++ context) a b (subst (λ c. Has (c ++ context) body a) bound h.2) k.2
      a_term_has_one_type-terms (Call function arguments) context a b h k =
          answer_of_fun h.1 k.1 a b
          (rows_agree h.0 k.0 (FunRow h.1 a) (FunRow k.1 b) (a_term_has_one_type-terms function context h.0 k.0 h.2 k.2)
          h.3 k.3)
      a_term_has_one_type-terms (Enter function arguments) context a b h k =
          answer_of_fun h.1 k.1 a b
          (rows_agree h.0 k.0 (FunRow h.1 a) (FunRow k.1 b) (a_term_has_one_type-terms function context h.0 k.0 h.2 k.2)
          h.3 k.3)
      a_term_has_one_type-terms (If condition on_true on_false) context a b h k =
          a_term_has_one_type-terms on_true context a b h.3 k.3
      a_term_has_one_type-terms (Seq terms) context a b h k = one_last terms context a b h k
      a_term_has_one_type-terms (Cast term from to label) context a b h k = sym h.0 ∙ k.0
      a_term_has_one_type-terms (Proj term part) context a b h k =
          let rows =
          rows_agree h.0 k.0 (TupleRow h.1) (TupleRow k.1) (a_term_has_one_type-terms term context h.0 k.0 h.2 k.2)
          h.3 k.3 in
          both_some (tuple_part (TupleRow k.1) part) a b (ap (λ r. tuple_part r part) (sym rows) ∙ h.4) k.4
      a_term_has_one_type-terms (ProjDyn term part label) context a b h k = same_type types table a b DynRow h.1 k.1
      a_term_has_one_type-terms (Tuple parts) context a b h k =
          let same : h.0 ≡ k.0 = one_list parts context h.0 k.0 h.1 k.1 in
          same_type types table a b (TupleRow k.0) (h.2 ∙ ap (λ p. Some (TupleRow p)) same) k.2
      a_term_has_one_type-terms (Prim operator operands) context a b h k =
          let same : h.0 ≡ k.0 = one_list operands context h.0 k.0 h.1 k.1 in
          one_answer operator k.0 a b (subst (λ p. OperatorHasType types operator p a) same h.2) k.2
      a_term_has_one_type-terms (ValueTerm v) context a b h k = a_term_has_one_type-values v a b h k

      one_list : (terms : Terms) (context : Context) (a b : List ℕ) → HaveTypes types labels cells context terms a →
          HaveTypes types labels cells context terms b → a ≡ b
      one_list NoTerms context a b h k = h ∙ sym k
      one_list (TermThen term rest) context a b h k =
          let first : h.0 ≡ k.0 = a_term_has_one_type-terms term context h.0 k.0 h.3 k.3 in
          let others : h.1 ≡ k.1 = one_list rest context h.1 k.1 h.4 k.4 in
          h.2 ∙ ap (λ t. t ∷ h.1) first ∙ ap (λ ts. k.0 ∷ ts) others ∙ sym k.2

      one_last : (terms : Terms) (context : Context) (a b : ℕ) → LastHasType types labels cells context terms a →
          LastHasType types labels cells context terms b → a ≡ b
      one_last NoTerms context a b h k = absurd h
      one_last (TermThen term NoTerms) context a b h k = a_term_has_one_type-terms term context a b h k
      one_last (TermThen term (TermThen second rest)) context a b h k =
          one_last (TermThen second rest) context a b h.1 k.1

      one_bound : (bindings : Bindings) (context a b : Context) →
          BindingsHaveTypes types labels cells context bindings a →
          BindingsHaveTypes types labels cells context bindings b → a ≡ b
      one_bound NoBindings context a b h k = h ∙ sym k
      one_bound (BindingThen name term rest) context a b h k =
          let first : h.0 ≡ k.0 = a_term_has_one_type-terms term context h.0 k.0 h.3 k.3 in
          let others : h.1 ≡ k.1 = one_bound rest context h.1 k.1 h.4 k.4 in
          h.2 ∙ ap (λ t. (name, t) ∷ h.1) first ∙ ap (λ ts. (name, k.0) ∷ ts) others ∙ sym k.2

      pub a_term_has_one_type-values : (v : Value) (a b : ℕ) → ValueHasType types labels cells v a →
          ValueHasType types labels cells v b → a ≡ b
      a_term_has_one_type-values (IntValue n) a b h k = same_type types table a b IntRow h.1 k.1
      a_term_has_one_type-values (BoolValue t) a b h k = same_type types table a b BoolRow h k
      a_term_has_one_type-values UnitValue a b h k = same_type types table a b UnitRow h k
      a_term_has_one_type-values (FunValue parameters body written) a b h k = sym h.0 ∙ k.0
      a_term_has_one_type-values (MemberValue group place) a b h k = one_member_type group place a b h.1 k.1
      a_term_has_one_type-values (TupleValue parts) a b h k =
          let same : h.0 ≡ k.0 = one_values parts h.0 k.0 h.1 k.1 in
          same_type types table a b (TupleRow k.0) (h.2 ∙ ap (λ p. Some (TupleRow p)) same) k.2
      a_term_has_one_type-values (LocValue cell true) a b h k =
          let same = one_cell_type cell (record { content = h.0; size = h.1 }) (record { content = k.0; size = k.1 })
          h.2 k.2 in
          same_type types table a b (VectRow k.0) (h.3 ∙ ap (λ c. Some (VectRow c.content)) same) k.3
      a_term_has_one_type-values (LocValue cell false) a b h k =
          let same = one_cell_type cell (record { content = h.0; size = 1 }) (record { content = k.0; size = 1 })
          h.1 k.1 in
          same_type types table a b (RefRow k.0) (h.2 ∙ ap (λ c. Some (RefRow c.content)) same) k.2
      a_term_has_one_type-values (WrapValue v from label to) a b h k = sym h.2 ∙ k.2
      a_term_has_one_type-values (InjectValue v kept) a b h k = same_type types table a b DynRow h.4 k.4

      one_values : (parts : Values) (a b : List ℕ) → ValuesHaveTypes types labels cells parts a →
          ValuesHaveTypes types labels cells parts b → a ≡ b
      one_values NoValues a b h k = h ∙ sym k
      one_values (ValueThen v rest) a b h k =
          let first : h.0 ≡ k.0 = a_term_has_one_type-values v h.0 k.0 h.3 k.3 in
          let others : h.1 ≡ k.1 = one_values rest h.1 k.1 h.4 k.4 in
          h.2 ∙ ap (λ t. t ∷ h.1) first ∙ ap (λ ts. k.0 ∷ ts) others ∙ sym k.2

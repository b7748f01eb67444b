-- The answer of a typed program is of its type's kind.
use Rattle.std.proofs.Common.{◌≡◌, ℕ, List, [], length, Option, Some, None, refl, sym, ap, ◌∙◌, subst, true, false}
use Rattle.std.specs.Prelude.{option_map}
use Rattle.grift_base.specs.Types.{TypeRow, IntRow, BoolRow, UnitRow, DynRow, FunRow, TupleRow, RefRow, VectRow}
use Rattle.grift_base.specs.Types.{TypeRows, row_at, same_head}
use Rattle.grift_base.specs.declared.verdicts.Answer.{Answer}
use Rattle.grift_base.specs.declared.verdicts.AnswerKind.{AnswerKind}
use Rattle.grift_base.specs.declared.verdicts.AnswerKind.TheVariants.{Int, Bool as Truth, Unit as UnitKind, Function}
use Rattle.grift_base.specs.declared.verdicts.AnswerKind.TheVariants.{Tuple, Boxed, Vector}
use Rattle.core_calc.specs.Terms.{Term, Value, IntValue, BoolValue, UnitValue, FunValue, MemberValue, TupleValue}
use Rattle.core_calc.specs.Terms.{LocValue, WrapValue, InjectValue, as_value}
use Rattle.core_calc.specs.Calculus.{shown_value, CalcState, Answered, Program, calc}
use Rattle.core_calc.specs.Typing.{CellType, HasType, ValueHasType, kind_of_type, EndsWell, ProgramTermHasType}
use Rattle.core_calc.proofs.ListPlaces.{none_is_not_some, both_some}
use Rattle.core_calc.proofs.RowsOfTables.{false_is_not_true}
use Rattle.core_calc.proofs.TypedValues.{member_function, value_of_term}
use Rattle.core_calc.proofs.RunsKeepTypes.{typed_programs_never_go_wrong-typed}

same_kind_shown : (row other : TypeRow) → same_head row other ≡ true → kind_of_type row ≡ kind_of_type other
same_kind_shown IntRow IntRow e = refl
same_kind_shown BoolRow BoolRow e = refl
same_kind_shown UnitRow UnitRow e = refl
same_kind_shown DynRow DynRow e = refl
same_kind_shown (FunRow parameters answer) (FunRow others other) e = refl
same_kind_shown (TupleRow parts) (TupleRow others) e = refl
same_kind_shown (RefRow content) (RefRow other) e = refl
same_kind_shown (VectRow content) (VectRow other) e = refl
same_kind_shown row other e = absurd (false_is_not_true e)

module _ (types : TypeRows) (labels : ℕ) (cells : List CellType) where
  kind_at : (known : TypeRow) (type : ℕ) (row : TypeRow) (kind shown : AnswerKind) → row_at types type ≡ Some known →
      row_at types type ≡ Some row → kind_of_type known ≡ Some shown → kind_of_type row ≡ Some kind → shown ≡ kind
  kind_at known type row kind shown e f g h =
      both_some (kind_of_type row) shown kind (ap kind_of_type (both_some (row_at types type) row known f e) ∙ g) h

  kind_of_value : (v : Value) (type : ℕ) (row : TypeRow) (kind : AnswerKind) → ValueHasType types labels cells v type →
      row_at types type ≡ Some row → kind_of_type row ≡ Some kind → (shown_value v).kind ≡ kind
  kind_of_value (IntValue n) type row kind h e k = kind_at IntRow type row kind Int h.1 e refl k
  kind_of_value (BoolValue b) type row kind h e k = kind_at BoolRow type row kind Truth h e refl k
  kind_of_value UnitValue type row kind h e k = kind_at UnitRow type row kind UnitKind h e refl k
  kind_of_value (FunValue parameters body written) type row kind h e k =
      kind_at (FunRow h.1.0 h.1.1) type row kind Function h.1.3 e refl k
  kind_of_value (MemberValue members place) type row kind h e k =
      let f = member_function types labels cells members _ place type h.0 h.1 in
      kind_at (FunRow f.0 f.1) type row kind Function f.2 e refl k
  kind_of_value (TupleValue held) type row kind h e k = kind_at (TupleRow h.0) type row kind Tuple h.2 e refl k
  kind_of_value (LocValue cell true) type row kind h e k = kind_at (VectRow h.0) type row kind Vector h.3 e refl k
  kind_of_value (LocValue cell false) type row kind h e k = kind_at (RefRow h.0) type row kind Boxed h.2 e refl k
  kind_of_value (WrapValue v from label to) type row kind h e k =
      let to_row : h.1 ≡ row = both_some (row_at types to) h.1 row h.5 (ap (λ t. row_at types t) h.2 ∙ e) in
      kind_of_value v from h.0 kind h.3 h.4 (same_kind_shown h.0 h.1 h.6 ∙ ap kind_of_type to_row ∙ k)
  kind_of_value (InjectValue v kept) type row kind h e k =
      absurd (none_is_not_some kind (ap kind_of_type (both_some (row_at types type) DynRow row h.4 e) ∙ k))

  kind_of_option : (term : Term) (type : ℕ) (row : TypeRow) (kind : AnswerKind) (shown : Answer)
      (option : Option Value) → as_value term ≡ option → HasType types labels cells [] term type →
      row_at types type ≡ Some row → kind_of_type row ≡ Some kind → option_map shown_value option ≡ Some shown →
      shown.kind ≡ kind
  kind_of_option term type row kind shown (Some v) is h e k s =
      let same : shown_value v ≡ shown = both_some (Some shown) (shown_value v) shown (sym s) refl in
      ap (λ a. a.kind) (sym same) ∙ kind_of_value v type row kind (value_of_term types labels cells term [] type v h is)
      e k
  kind_of_option term type row kind shown None is h e k s = absurd (none_is_not_some shown s)

pub answers_have_their_types_kind : (program : Program) (input : List ℕ) (type n : ℕ) (row : TypeRow)
    (kind : AnswerKind)
    (shown : Answer) → ProgramTermHasType program.types (length program.labels) program.term type →
    row_at program.types type ≡ Some row → kind_of_type row ≡ Some kind →
    (calc program input n).shown.ended ≡ Some (Answered shown) → shown.kind ≡ kind
answers_have_their_types_kind program input type n row kind shown h e k ended =
    let stands = typed_programs_never_go_wrong-typed program input type n h in
    let state : CalcState = (calc program input n).shown in
    let well = subst (λ o. EndsWell (length program.labels) o (as_value state.term)) ended stands.1 in
    kind_of_option program.types (length program.labels) stands.0.1 state.term type row kind shown
    (as_value state.term) refl stands.0.3 e k well

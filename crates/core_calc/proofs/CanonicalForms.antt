-- What a value of a type can be: its head is that of its type.
use Rattle.std.proofs.Common.{◌≡◌, ℕ, zero, suc, List, [], ◌∷◌, length, Some, refl, sym, ap, ◌∙◌}
use Rattle.std.proofs.Common.{true, false}
use Rattle.std.proofs.lemmas.Bool.{eqb-true}
use Rattle.grift_base.specs.Types.{TypeRow, IntRow, BoolRow, UnitRow, DynRow, FunRow, TupleRow, RefRow, VectRow}
use Rattle.grift_base.specs.Types.{TypeRows, row_at, TypeHead, IntHead, BoolHead, UnitHead, DynHead, FunHead, TupleHead}
use Rattle.grift_base.specs.Types.{RefHead, VectHead, head_of, equal_heads, is_dyn}
use Rattle.core_calc.specs.Terms.{Members, Value, Values, IntValue, BoolValue, UnitValue, FunValue, MemberValue}
use Rattle.core_calc.specs.Terms.{TupleValue, LocValue, WrapValue, InjectValue, NoMembers, MemberThen, NoValues}
use Rattle.core_calc.specs.Terms.{ValueThen, value_list}
use Rattle.core_calc.specs.Substitution.{bind}
use Rattle.core_calc.specs.Typing.{Context, CellType, member_types, MemberHasType, MembersHaveTypes, ValueHasType}
use Rattle.core_calc.specs.Typing.{ValuesHaveTypes}
use Rattle.core_calc.specs.ValueHeads.{member_head, value_head}
use Rattle.core_calc.proofs.ListPlaces.{none_is_not_some, both_some}
use Rattle.core_calc.proofs.RowsOfTables.{false_is_not_true}
use Rattle.core_calc.proofs.SubstitutionKeepsTypes.{both_parts}
use Rattle.core_calc.proofs.TypedValues.{can_be, form}

-- heads that are compared as equal are equal
equal_heads_equal : (head other : TypeHead) → equal_heads head other ≡ true → head ≡ other
equal_heads_equal IntHead IntHead e = refl
equal_heads_equal BoolHead BoolHead e = refl
equal_heads_equal UnitHead UnitHead e = refl
equal_heads_equal DynHead DynHead e = refl
equal_heads_equal (FunHead m) (FunHead n) e = ap FunHead (eqb-true m n e)
equal_heads_equal (TupleHead m) (TupleHead n) e = ap TupleHead (eqb-true m n e)
equal_heads_equal RefHead RefHead e = refl
equal_heads_equal VectHead VectHead e = refl
equal_heads_equal head other e = absurd (false_is_not_true e)

-- as many names are bound as there are types
pub bind_length : {A : Type 0} (names : List ℕ) (wanted : List A) (bound : List (ℕ × A)) →
    bind names wanted ≡ Some bound → length names ≡ length wanted
bind_length [] [] bound e = refl
bind_length [] (t ∷ wanted) bound e = absurd (none_is_not_some bound e)
bind_length (name ∷ names) [] bound e = absurd (none_is_not_some bound e)
bind_length (name ∷ names) (t ∷ wanted) bound e =
    let parts = both_parts (name, t) (bind names wanted) bound e in
    ap suc (bind_length names wanted parts.0 parts.1)

module _ (types : TypeRows) (labels : ℕ) (cells : List CellType) where
  -- a value has the head of this row
  abbrev HasHead : Value → ℕ → TypeRow → Type 0
  HasHead v type row = row_at types type ≡ Some row → value_head v ≡ head_of row

  known : (type : ℕ) (there row : TypeRow) (head : TypeHead) → head ≡ head_of there → row_at types type ≡ Some there →
      row_at types type ≡ Some row → head ≡ head_of row
  known type there row head h e f = h ∙ ap head_of (both_some (row_at types type) there row e f)

  length_of_values : (values : Values) (parts : List ℕ) → ValuesHaveTypes types labels cells values parts →
      length (value_list values) ≡ length parts
  length_of_values NoValues parts h = ap length (sym h)
  length_of_values (ValueThen v rest) parts h =
      ap suc (length_of_values rest h.1 h.4) ∙ ap length (sym h.2)

  member_has_head : (members : Members) (context : Context) (place type : ℕ) (row : TypeRow) →
      MembersHaveTypes types labels cells context members → MemberHasType members place type →
      row_at types type ≡ Some row → member_head members place ≡ head_of row
  member_has_head NoMembers context place type row h m e = absurd m
  member_has_head (MemberThen name parameters body written rest) context zero type row h m e =
      known type (FunRow h.0.0 h.0.1) row (FunHead (length parameters))
      (ap FunHead (bind_length parameters h.0.0 h.0.2 h.0.4)) (ap (λ t. row_at types t) (sym m) ∙ h.0.3) e
  member_has_head (MemberThen name parameters body written rest) context (suc place) type row h m e =
      member_has_head rest context place type row h.1 m e

  pub values_have_their_types_heads-heads : (v : Value) (type : ℕ) (row : TypeRow) →
      ValueHasType types labels cells v type →
      row_at types type ≡ Some row → value_head v ≡ head_of row
  values_have_their_types_heads-heads (IntValue n) type row h e = known type IntRow row IntHead refl h.1 e
  values_have_their_types_heads-heads (BoolValue b) type row h e = known type BoolRow row BoolHead refl h e
  values_have_their_types_heads-heads UnitValue type row h e = known type UnitRow row UnitHead refl h e
  values_have_their_types_heads-heads (FunValue parameters body written) type row h e =
      known type (FunRow h.1.0 h.1.1) row (FunHead (length parameters))
      (ap FunHead (bind_length parameters h.1.0 h.1.2 h.1.4)) h.1.3 e
  values_have_their_types_heads-heads (MemberValue group place) type row h e =
      member_has_head group (member_types group) place type row h.0 h.1 e
  values_have_their_types_heads-heads (TupleValue values) type row h e =
      known type (TupleRow h.0) row (TupleHead (length (value_list values)))
      (ap TupleHead (length_of_values values h.0 h.1)) h.2 e
  values_have_their_types_heads-heads (LocValue cell true) type row h e =
      known type (VectRow h.0) row VectHead refl h.3 e
  values_have_their_types_heads-heads (LocValue cell false) type row h e =
      known type (RefRow h.0) row RefHead refl h.2 e
  values_have_their_types_heads-heads (WrapValue v from label to) type row h e =
      known to h.1 row (value_head v)
      (values_have_their_types_heads-heads v from h.0 h.3 h.4 ∙ equal_heads_equal (head_of h.0) (head_of h.1) h.6) h.5
      (ap (λ t. row_at types t) h.2 ∙ e)
  values_have_their_types_heads-heads (InjectValue v kept) type row h e = known type DynRow row DynHead refl h.4 e

  unit_like : (v : Value) → can_be v UnitRow ≡ true → v ≡ UnitValue
  unit_like UnitValue e = refl
  unit_like v e = absurd (false_is_not_true e)

  pub values_have_their_types_heads-units : (v : Value) (type : ℕ) → ValueHasType types labels cells v type →
      row_at types type ≡ Some UnitRow → v ≡ UnitValue
  values_have_their_types_heads-units v type h e = unit_like v (form types labels cells v type UnitRow h e)

  -- a value that keeps its type, which isn't Dyn
  abbrev KeepsItsType : Value → Type 0
  KeepsItsType v =
      (held : Value) × (kept : ℕ) × (row : TypeRow) × (v ≡ InjectValue held kept) ×
      ValueHasType types labels cells held kept × (row_at types kept ≡ Some row) × (is_dyn row ≡ false)

  dyn_like : (v : Value) (type : ℕ) → can_be v DynRow ≡ true → ValueHasType types labels cells v type → KeepsItsType v
  dyn_like (InjectValue held kept) type e h = (held, kept, h.0, refl, h.1, h.2, h.3)
  dyn_like v type e h = absurd (false_is_not_true e)

  pub values_have_their_types_heads-dyns : (v : Value) (type : ℕ) → ValueHasType types labels cells v type →
      row_at types type ≡ Some DynRow → KeepsItsType v
  values_have_their_types_heads-dyns v type h e = dyn_like v type (form types labels cells v type DynRow h e) h

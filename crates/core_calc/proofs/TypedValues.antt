-- What a value of a type looks like, and what values stand for bound names.
use Rattle.std.proofs.Common.{◌≡◌, ℕ, zero, suc, ◌+◌, List, [], ◌∷◌, ◌++◌, Option, Some, None, refl, sym, ap, ◌∙◌}
use Rattle.std.proofs.Common.{subst, arith, Bool, true, false, slice_get}
use Rattle.std.specs.Prelude.{ℤ, nat_eq, cond, not, ◌&&◌}
use Rattle.std.specs.Int.{w64}
use Rattle.std.specs.Int.RustNames.{FitsSigned}
use Rattle.grift_base.specs.Types.{TypeRow, IntRow, BoolRow, UnitRow, DynRow, FunRow, TupleRow, RefRow, VectRow}
use Rattle.grift_base.specs.Types.{TypeRows, row_at, is_dyn, is_base}
use Rattle.core_calc.specs.Terms.{Term, Terms, Members, Bindings, Value, Values, IntLit, BoolLit, UnitLit, Prim}
use Rattle.core_calc.specs.Terms.{ValueTerm, NoTerms, TermThen, NoMembers, MemberThen, NoBindings, BindingThen}
use Rattle.core_calc.specs.Terms.{IntValue, BoolValue, UnitValue, FunValue, MemberValue, TupleValue, LocValue}
use Rattle.core_calc.specs.Terms.{WrapValue, InjectValue, NoValues, ValueThen, as_value, all_values, values_from}
use Rattle.core_calc.specs.Terms.{value_list, both_in_front, binding_names, bound_values}
use Rattle.core_calc.specs.Substitution.{Substitution, entry_of, bind, members_from, group_values}
use Rattle.core_calc.specs.Typing.{Context, CellType, member_types, MemberHasType, HasType, HaveTypes, MembersHaveTypes}
use Rattle.core_calc.specs.Typing.{BindingsHaveTypes, ValueHasType, ValuesHaveTypes}
use Rattle.core_calc.proofs.ListPlaces.{none_is_not_some, same_some, both_some}
use Rattle.core_calc.proofs.RowsOfTables.{false_is_not_true, HasRow, same_kind}
use Rattle.core_calc.proofs.SubstitutionKeepsTypes.{At, Substitutes, both_parts}

-- whether a value can have a type with this row
abbrev pub can_be : Value → TypeRow → Bool
can_be (IntValue n) IntRow = true
can_be (BoolValue b) BoolRow = true
can_be UnitValue UnitRow = true
can_be (FunValue parameters body type) (FunRow wanted answer) = true
can_be (MemberValue group place) (FunRow wanted answer) = true
can_be (TupleValue held) (TupleRow parts) = true
can_be (LocValue cell is_vector) (VectRow content) = is_vector
can_be (LocValue cell is_vector) (RefRow content) = not is_vector
can_be (WrapValue v from label to) row = not (is_base row) && not (is_dyn row)
can_be (InjectValue v kept) DynRow = true
can_be v row = false

neither : (a b : Bool) → a ≡ false → b ≡ false → (not a && not b) ≡ true
neither false false e f = refl
neither true b e f = absurd (false_is_not_true (sym e))
neither false true e f = absurd (false_is_not_true (sym f))

pub both_row : (a b : TypeRow) (o : Option TypeRow) → o ≡ Some a → o ≡ Some b → a ≡ b
both_row a b o e f = both_some o a b e f

module _ (types : TypeRows) (labels : ℕ) (cells : List CellType) where
  abbrev ValueHas : Value → ℕ → Type 0
  ValueHas v type = ValueHasType types labels cells v type

  abbrev TermHas : Term → ℕ → Type 0
  TermHas term type = HasType types labels cells [] term type

  -- a member's body has its result type where its parameters and the group's names have their types
  pub member_function : (members : Members) (context : Context) (place type : ℕ) →
      MembersHaveTypes types labels cells context members → MemberHasType members place type → (parameters : List ℕ) ×
      (answer : ℕ) × (row_at types type ≡ Some (FunRow parameters answer))
  member_function NoMembers context place type h m = absurd m
  member_function (MemberThen name parameters body written rest) context zero type h m =
      (h.0.0, h.0.1, ap (λ t. row_at types t) (sym m) ∙ h.0.3)
  member_function (MemberThen name parameters body written rest) context (suc place) type h m =
      member_function rest context place type h.1 m

  -- the type of a value has a row, and the value can have it
  pub row_of_value : (v : Value) (type : ℕ) → ValueHas v type → (row : TypeRow) × (row_at types type ≡ Some row) ×
      (can_be v row ≡ true)
  row_of_value (IntValue n) type h = (IntRow, h.1, refl)
  row_of_value (BoolValue b) type h = (BoolRow, h, refl)
  row_of_value UnitValue type h = (UnitRow, h, refl)
  row_of_value (FunValue parameters body written) type h = (FunRow h.1.0 h.1.1, h.1.3, refl)
  row_of_value (MemberValue members place) type h =
      let f = member_function members (member_types members) place type h.0 h.1 in
      (FunRow f.0 f.1, f.2, refl)
  row_of_value (TupleValue held) type h = (TupleRow h.0, h.2, refl)
  row_of_value (LocValue cell true) type h = (VectRow h.0, h.3, refl)
  row_of_value (LocValue cell false) type h = (RefRow h.0, h.2, refl)
  row_of_value (WrapValue v from label to) type h =
      let kind = same_kind h.0 h.1 h.6 in (
        h.1,
        ap (λ t. row_at types t) (sym h.2) ∙ h.5,
        neither (is_base h.1) (is_dyn h.1) (sym kind.0 ∙ h.7) (sym kind.1 ∙ h.8),
      )
  row_of_value (InjectValue v kept) type h = (DynRow, h.4, refl)

  pub form : (v : Value) (type : ℕ) (row : TypeRow) → ValueHas v type → row_at types type ≡ Some row →
      can_be v row ≡ true
  form v type row h e =
      let r = row_of_value v type h in
      subst (λ x. can_be v x ≡ true) (both_row r.0 row (row_at types type) r.1 e) r.2

  pub value_has_row : (v : Value) (type : ℕ) → ValueHas v type → HasRow types type
  value_has_row v type h = let r = row_of_value v type h in (r.0, r.1)

  -- ---- base types

  int_like : (v : Value) (type : ℕ) → ValueHas v type → can_be v IntRow ≡ true → (n : ℤ) × (v ≡ IntValue n) ×
      FitsSigned w64 n
  int_like (IntValue n) type h e = (n, refl, h.0)
  int_like v type h e = absurd (false_is_not_true e)

  pub values_have_their_types_heads-integers : (v : Value) (type : ℕ) → ValueHas v type →
      row_at types type ≡ Some IntRow → (n : ℤ) ×
      (v ≡ IntValue n) × FitsSigned w64 n
  values_have_their_types_heads-integers v type h e = int_like v type h (form v type IntRow h e)

  bool_like : (v : Value) → can_be v BoolRow ≡ true → (b : Bool) × (v ≡ BoolValue b)
  bool_like (BoolValue b) e = (b, refl)
  bool_like v e = absurd (false_is_not_true e)

  pub values_have_their_types_heads-truth_values : (v : Value) (type : ℕ) → ValueHas v type →
      row_at types type ≡ Some BoolRow → (b : Bool) ×
      (v ≡ BoolValue b)
  values_have_their_types_heads-truth_values v type h e = bool_like v (form v type BoolRow h e)

  -- ---- terms that are values

  pub value_of_term : (term : Term) (context : Context) (type : ℕ) (v : Value) →
      HasType types labels cells context term type → as_value term ≡ Some v → ValueHas v type
  value_of_term (IntLit n) context type v h e = subst (λ x. ValueHas x type) (same_some (IntValue n) v e) h
  value_of_term (BoolLit b) context type v h e = subst (λ x. ValueHas x type) (same_some (BoolValue b) v e) h
  value_of_term UnitLit context type v h e = subst (λ x. ValueHas x type) (same_some UnitValue v e) h
  value_of_term (ValueTerm u) context type v h e = subst (λ x. ValueHas x type) (same_some u v e) h
  value_of_term _ context type v h e = absurd (none_is_not_some v e)

  -- values in a list with their types
  abbrev pub ListHasTypes : List Value → List ℕ → Type 0
  ListHasTypes [] [] = Unit {0}
  ListHasTypes [] (type ∷ rest) = ⊥
  ListHasTypes (v ∷ values) [] = ⊥
  ListHasTypes (v ∷ values) (type ∷ rest) = ValueHas v type × ListHasTypes values rest

  in_front : (v : Value) (o : Option Value) (os : Option (List Value)) (type : ℕ) (rest_types : List ℕ)
      (values : List Value) → both_in_front o os ≡ Some values → ((u : Value) → o ≡ Some u → ValueHas u type) →
      ((us : List Value) → os ≡ Some us → ListHasTypes us rest_types) → ListHasTypes values (type ∷ rest_types)
  in_front v (Some u) (Some us) type rest_types values e one more =
      subst (λ x. ListHasTypes x (type ∷ rest_types)) (same_some (u ∷ us) values e) (one u refl, more us refl)
  in_front v (Some u) None type rest_types values e one more = absurd (none_is_not_some values e)
  in_front v None os type rest_types values e one more = absurd (none_is_not_some values e)

  pub values_of_terms : (terms : Terms) (context : Context) (wanted : List ℕ) (values : List Value) →
      HaveTypes types labels cells context terms wanted → all_values terms ≡ Some values → ListHasTypes values wanted
  values_of_terms NoTerms context wanted values h e =
      subst (λ x. ListHasTypes values x) (sym h) (subst (λ x. ListHasTypes x []) (same_some [] values e) tt)
  values_of_terms (TermThen term rest) context wanted values h e =
      subst (λ x. ListHasTypes values x) (sym h.2)
      (in_front UnitValue (as_value term) (all_values rest) h.0 h.1 values e
      (λ u f. value_of_term term context h.0 u h.3 f) (λ us f. values_of_terms rest context h.1 us h.4 f))

  pub values_have_types : (values : List Value) (wanted : List ℕ) → ListHasTypes values wanted →
      ValuesHaveTypes types labels cells (values_from values) wanted
  values_have_types [] [] h = refl
  values_have_types [] (type ∷ wanted) h = absurd h
  values_have_types (v ∷ values) [] h = absurd h
  values_have_types (v ∷ values) (type ∷ wanted) h = (type, wanted, refl, h.0, values_have_types values wanted h.1)

  -- the part at a place
  pub part_of_values : (values : Values) (parts : List ℕ) (k type : ℕ) →
      ValuesHaveTypes types labels cells values parts → slice_get parts k ≡ Some type → (v : Value) ×
      (slice_get (value_list values) k ≡ Some v) × ValueHas v type
  part_of_values NoValues parts k type h e =
      absurd (none_is_not_some type (subst (λ x. slice_get x k ≡ Some type) h e))
  part_of_values (ValueThen v rest) parts zero type h e =
      let same : Some h.0 ≡ Some type = subst (λ x. slice_get x 0 ≡ Some type) h.2 e in
      (v, refl, subst (λ t. ValueHas v t) (same_some h.0 type same) h.3)
  part_of_values (ValueThen v rest) parts (suc k) type h e =
      part_of_values rest h.1 k type h.4 (subst (λ x. slice_get x (suc k) ≡ Some type) h.2 e)

  -- ---- values for bound names

  -- the names are the same, in order, and each value has its name's type
  abbrev pub StandFor : Substitution → Context → Type 0
  StandFor [] [] = Unit {0}
  StandFor [] (entry ∷ context) = ⊥
  StandFor (entry ∷ values) [] = ⊥
  StandFor (entry ∷ values) (other ∷ context) =
      (entry.0 ≡ other.0) × ValueHas entry.1 other.1 × StandFor values context

  pub stand_for_both : (values more : Substitution) (context rest : Context) → StandFor values context →
      StandFor more rest → StandFor (values ++ more) (context ++ rest)
  stand_for_both [] more [] rest h m = m
  stand_for_both [] more (entry ∷ context) rest h m = absurd h
  stand_for_both (entry ∷ values) more [] rest h m = absurd h
  stand_for_both (entry ∷ values) more (other ∷ context) rest h m =
      (h.0, h.1, stand_for_both values more context rest h.2 m)

  abbrev AtNone : Option Value → Option ℕ → Type 0
  AtNone value type = At types labels cells value None type

  pub stands_for : (values : Substitution) (context : Context) → StandFor values context →
      Substitutes types labels cells context values []
  stands_for [] [] h name = tt
  stands_for [] (entry ∷ context) h name = absurd h
  stands_for (entry ∷ values) [] h name = tt
  stands_for (entry ∷ values) (other ∷ context) h name =
      subst (λ n. AtNone (cond (nat_eq name entry.0) (Some entry.1) (entry_of name values))
      (cond (nat_eq name n) (Some other.1) (entry_of name context))) h.0
      (one (nat_eq name entry.0) (stands_for values context h.2 name))
    where
      one : (b : Bool) → AtNone (entry_of name values) (entry_of name context) →
          AtNone (cond b (Some entry.1) (entry_of name values)) (cond b (Some other.1) (entry_of name context))
      one true at = h.1
      one false at = at

  -- parameters bound to values of the parameter types
  pub bound_values_stand : (names : List ℕ) (values : List Value) (wanted : List ℕ) (bound : Context) →
      ListHasTypes values wanted → bind names wanted ≡ Some bound → (s : Substitution) × (bind names values ≡ Some s) ×
      StandFor s bound
  bound_values_stand [] [] [] bound h e = ([], refl, subst (λ c. StandFor [] c) (same_some [] bound e) tt)
  bound_values_stand [] [] (t ∷ wanted) bound h e = absurd h
  bound_values_stand [] (v ∷ values) [] bound h e = absurd h
  bound_values_stand [] (v ∷ values) (t ∷ wanted) bound h e = absurd (none_is_not_some bound e)
  bound_values_stand (name ∷ names) [] [] bound h e = absurd (none_is_not_some bound e)
  bound_values_stand (name ∷ names) [] (t ∷ wanted) bound h e = absurd h
  bound_values_stand (name ∷ names) (v ∷ values) [] bound h e = absurd h
  bound_values_stand (name ∷ names) (v ∷ values) (t ∷ wanted) bound h e =
      let parts = both_parts (name, t) (bind names wanted) bound e in
      let rest = bound_values_stand names values wanted parts.0 h.1 parts.1 in (
        (name, v) ∷ rest.0,
        ap (λ o. both_in_front (Some (name, v)) o) rest.1,
        subst (λ c. StandFor ((name, v) ∷ rest.0) c) (sym parts.2) (refl, h.0, rest.2),
      )

  -- the values of bound terms
  pub bindings_stand : (bindings : Bindings) (context bound : Context) (values : List Value) →
      BindingsHaveTypes types labels cells context bindings bound → bound_values bindings ≡ Some values →
      (s : Substitution) × (bind (binding_names bindings) values ≡ Some s) × StandFor s bound
  bindings_stand NoBindings context bound values h e =
      ([], ap (λ vs. bind [] vs) (sym (same_some [] values e)), subst (λ c. StandFor [] c) (sym h) tt)
  bindings_stand (BindingThen name term rest) context bound values h e =
      both (as_value term) (bound_values rest) e (λ v f. value_of_term term context h.0 v h.3 f)
      (λ vs f. bindings_stand rest context h.1 vs h.4 f)
    where
      both : (o : Option Value) (os : Option (List Value)) → both_in_front o os ≡ Some values →
          ((v : Value) → o ≡ Some v → ValueHas v h.0) → ((vs : List Value) → os ≡ Some vs → (s : Substitution) ×
          (bind (binding_names rest) vs ≡ Some s) × StandFor s h.1) → (s : Substitution) ×
          (bind (name ∷ binding_names rest) values ≡ Some s) × StandFor s bound
      both (Some v) (Some vs) e one more =
          let r = more vs refl in (
            (name, v) ∷ r.0,
            ap (λ x. bind (name ∷ binding_names rest) x) (sym (same_some (v ∷ vs) values e)) ∙
                ap (λ o. both_in_front (Some (name, v)) o) r.1,
            subst (λ c. StandFor ((name, v) ∷ r.0) c) (sym h.2) (
              refl,
              one v refl,
              r.2,
            ),
          )
      both (Some v) None e one more = absurd (none_is_not_some values e)
      both None os e one more = absurd (none_is_not_some values e)

  -- ---- the members of a group

  abbrev later : ℕ → ℕ → ℕ
  later zero place = place
  later (suc k) place = later k (suc place)

  later_from : (k place : ℕ) → later k place ≡ k + place
  later_from zero place = omega arith
  later_from (suc k) place =
      let e : k + suc place ≡ suc k + place = omega arith in
      later_from k (suc place) ∙ e

  members_stand_from : (group rest : Members) (place : ℕ) →
      MembersHaveTypes types labels cells (member_types group) group → ((k type : ℕ) → MemberHasType rest k type →
      MemberHasType group (later k place) type) → StandFor (members_from group rest place) (member_types rest)
  members_stand_from group NoMembers place h each = tt
  members_stand_from group (MemberThen name parameters body type rest) place h each =
      (refl, (h, each zero type refl), members_stand_from group rest (suc place) h (λ k t m. each (suc k) t m))

  pub members_stand : (group : Members) → MembersHaveTypes types labels cells (member_types group) group →
      StandFor (group_values group) (member_types group)
  members_stand group h =
      members_stand_from group group 0 h (λ k t m. let e : k ≡ later k 0 = at_first k in
      subst (λ place. MemberHasType group place t) e m)
    where
      at_first : (k : ℕ) → k ≡ later k 0
      at_first k = let e : k ≡ k + 0 = omega arith in e ∙ sym (later_from k 0)

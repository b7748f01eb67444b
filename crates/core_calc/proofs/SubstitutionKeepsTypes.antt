-- What stands in the place of names has their types, and so the term keeps its type.
use Rattle.std.proofs.Common.{◌≡◌, ℕ, List, [], ◌∷◌, ◌++◌, Option, Some, None, refl, sym, ap, ◌∙◌, subst, Bool, true}
use Rattle.std.proofs.Common.{false}
use Rattle.std.specs.Prelude.{nat_eq, cond}
use Rattle.std.proofs.lemmas.Bool.{eqb-true}
use Rattle.grift_base.specs.Types.{TypeRows}
use Rattle.core_calc.specs.Terms.{Term, Terms, Members, Bindings, Value, IntLit, BoolLit, UnitLit, Var, Lambda, Group}
use Rattle.core_calc.specs.Terms.{Let, Call, Enter, If, Seq, Cast, Proj, ProjDyn, Tuple, Prim, ValueTerm, NoTerms}
use Rattle.core_calc.specs.Terms.{TermThen, NoMembers, MemberThen, NoBindings, BindingThen, as_value, both_in_front}
use Rattle.core_calc.specs.Terms.{member_names, binding_names}
use Rattle.core_calc.specs.Substitution.{Substitution, entry_of, is_among, without, value_or_name, substitute}
use Rattle.core_calc.specs.Substitution.{substitute_terms, substitute_members, substitute_bindings, bind}
use Rattle.core_calc.specs.Typing.{Context, CellType, member_types, HasType, HaveTypes, LastHasType, MembersHaveTypes}
use Rattle.core_calc.specs.Typing.{BindingsHaveTypes, ValueHasType}
use Rattle.core_calc.proofs.ListPlaces.{none_is_not_some, same_some}

-- ---- names and their entries

abbrev is_some : {A : Type 0} → Option A → Bool
is_some (Some a) = true
is_some None = false

abbrev first_of : {A : Type 0} → Option A → Option A → Option A
first_of (Some a) other = Some a
first_of None other = other

abbrev names_of : Context → List ℕ
names_of [] = []
names_of (entry ∷ rest) = entry.0 ∷ names_of rest

entry_appended : (name : ℕ) (xs ys : Context) →
    entry_of name (xs ++ ys) ≡ first_of (entry_of name xs) (entry_of name ys)
entry_appended name [] ys = refl
entry_appended name (entry ∷ rest) ys =
    one (nat_eq name entry.0) (entry_of name rest) (entry_of name (rest ++ ys)) (entry_appended name rest ys)
  where
    one : (b : Bool) (o o' : Option ℕ) → o' ≡ first_of o (entry_of name ys) →
        cond b (Some entry.1) o' ≡ first_of (cond b (Some entry.1) o) (entry_of name ys)
    one true o o' e = refl
    one false o o' e = e

among_bound : (name : ℕ) (bound : Context) → is_among name (names_of bound) ≡ is_some (entry_of name bound)
among_bound name [] = refl
among_bound name (entry ∷ rest) =
    one (nat_eq name entry.0) (entry_of name rest) (is_among name (names_of rest)) (among_bound name rest)
  where
    one : (b : Bool) (o : Option ℕ) (a : Bool) → a ≡ is_some o → cond b true a ≡ is_some (cond b (Some entry.1) o)
    one true o a e = refl
    one false o a e = e

-- nothing stands for a name that is bound again
entry_without : (name : ℕ) (names : List ℕ) (values : Substitution) →
    entry_of name (without names values) ≡ cond (is_among name names) None (entry_of name values)
entry_without name names [] = nothing (is_among name names)
  where
    nothing : (b : Bool) → ◌≡◌ {A = Option Value} None (cond b None None)
    nothing true = refl
    nothing false = refl
entry_without name names (entry ∷ rest) =
    one (is_among entry.0 names) (nat_eq name entry.0) refl refl (entry_without name names rest)
  where
    hidden : (b : Bool) → b ≡ true → (o : Option Value) → None ≡ cond b None o
    hidden true e o = refl
    hidden false e o = absurd (cc)

    same_name : (b : Bool) → is_among entry.0 names ≡ b → nat_eq name entry.0 ≡ true → is_among name names ≡ b
    same_name b e f = ap (λ n. is_among n names) (eqb-true name entry.0 f) ∙ e

    shown : (a : Bool) → a ≡ false → Some entry.1 ≡ cond a None (Some entry.1)
    shown false e = refl
    shown true e = absurd (cc)

    one : (a b : Bool) → is_among entry.0 names ≡ a → nat_eq name entry.0 ≡ b →
        entry_of name (without names rest) ≡ cond (is_among name names) None (entry_of name rest) →
        entry_of name (cond a (without names rest) (entry ∷ without names rest)) ≡ cond (is_among name names) None
        (cond b (Some entry.1) (entry_of name rest))
    one true true e f ih =
        let hid : is_among name names ≡ true = same_name true e f in
        ih ∙ sym (hidden (is_among name names) hid (entry_of name rest)) ∙ hidden (is_among name names) hid
        (Some entry.1)
    one true false e f ih = ih
    one false true e f ih =
        ap (λ b. cond b (Some entry.1) (entry_of name (without names rest))) f ∙ shown (is_among name names)
        (same_name false e f)
    one false false e f ih = ap (λ b. cond b (Some entry.1) (entry_of name (without names rest))) f ∙ ih

-- ---- names bound to types have the names that they were bound by

pub both_parts : {A : Type 0} (a : A) (o : Option (List A)) (all : List A) → both_in_front (Some a) o ≡ Some all →
    (rest : List A) × (o ≡ Some rest) × (all ≡ a ∷ rest)
both_parts a (Some rest) all e = (rest, refl, sym (same_some (a ∷ rest) all e))
both_parts a None all e = absurd (none_is_not_some all e)

pub bound_names : (names : List ℕ) (wanted : List ℕ) (bound : Context) → bind names wanted ≡ Some bound →
    names_of bound ≡ names
bound_names [] [] bound e = ap names_of (sym (same_some [] bound e))
bound_names [] (t ∷ wanted) bound e = absurd (none_is_not_some bound e)
bound_names (name ∷ names) [] bound e = absurd (none_is_not_some bound e)
bound_names (name ∷ names) (t ∷ wanted) bound e =
    let parts = both_parts (name, t) (bind names wanted) bound e in
    ap names_of parts.2 ∙ ap (λ rest. name ∷ rest) (bound_names names wanted parts.0 parts.1)

member_type_names : (members : Members) → names_of (member_types members) ≡ member_names members
member_type_names NoMembers = refl
member_type_names (MemberThen name parameters body type rest) = ap (λ names. name ∷ names) (member_type_names rest)

-- values put into a group leave its names and types
substituted_types : (members : Members) (values : Substitution) → member_types (substitute_members members values) ≡
    member_types members
substituted_types NoMembers values = refl
substituted_types (MemberThen name parameters body type rest) values =
    ap (λ c. (name, type) ∷ c) (substituted_types rest values)

-- what is a value stays one
still_value : (term : Term) (values : Substitution) (v : Value) → as_value term ≡ Some v →
    as_value (substitute term values) ≡ Some v
still_value (IntLit n) values v e = e
still_value (BoolLit b) values v e = e
still_value UnitLit values v e = e
still_value (ValueTerm u) values v e = e
still_value _ values v e = absurd (none_is_not_some v e)

module _ (types : TypeRows) (labels : ℕ) (cells : List CellType) where
  binding_type_names : (bindings : Bindings) (context bound : Context) →
      BindingsHaveTypes types labels cells context bindings bound → names_of bound ≡ binding_names bindings
  binding_type_names NoBindings context bound h = ap names_of h
  binding_type_names (BindingThen name term rest) context bound h =
      ap names_of h.2 ∙ ap (λ names. name ∷ names) (binding_type_names rest context h.1 h.4)

  -- ---- values for names

  -- what stands for a name has its type, or the name has its type from elsewhere
  abbrev pub At : Option Value → Option ℕ → Option ℕ → Type 0
  At value given None = Unit {0}
  At (Some v) given (Some type) = ValueHasType types labels cells v type
  At None given (Some type) = given ≡ Some type

  abbrev pub Substitutes : Context → Substitution → Context → Type 0
  Substitutes context values given =
      (name : ℕ) → At (entry_of name values) (entry_of name given) (entry_of name context)

  -- under names that are bound again
  under : (names : List ℕ) (bound context given : Context) (values : Substitution) → names_of bound ≡ names →
      Substitutes context values given → Substitutes (bound ++ context) (without names values) (bound ++ given)
  under names bound context given values e h name =
      subst (λ o. At o (entry_of name (bound ++ given)) (entry_of name (bound ++ context))) (sym hidden)
      (subst (λ o. At (cond (is_some (entry_of name bound)) None (entry_of name values)) o
      (entry_of name (bound ++ context))) (sym (entry_appended name bound given))
      (subst (λ o. At (cond (is_some (entry_of name bound)) None (entry_of name values))
      (first_of (entry_of name bound) (entry_of name given)) o) (sym (entry_appended name bound context))
      (one (entry_of name bound) (entry_of name values) (entry_of name given) (entry_of name context) (h name))))
    where
      hidden : entry_of name (without names values) ≡ cond (is_some (entry_of name bound)) None (entry_of name values)
      hidden =
          entry_without name names values ∙ ap (λ b. cond b None (entry_of name values)) (ap (is_among name) (sym e) ∙
          among_bound name bound)

      one : (o : Option ℕ) (v : Option Value) (g c : Option ℕ) → At v g c →
          At (cond (is_some o) None v) (first_of o g) (first_of o c)
      one (Some t) v g c at = refl
      one None v g c at = at

  in_place_of_name : (o : Option Value) (given : Context) (name type : ℕ) (c : Option ℕ) →
      At o (entry_of name given) c → c ≡ Some type → HasType types labels cells given (value_or_name o name) type
  in_place_of_name o given name type None at e = absurd (none_is_not_some type e)
  in_place_of_name (Some v) given name type (Some t) at e =
      subst (λ x. ValueHasType types labels cells v x) (same_some t type e) at
  in_place_of_name None given name type (Some t) at e = at ∙ e

  mutual
    pub substituted : (term : Term) (context given : Context) (values : Substitution) (type : ℕ) →
        Substitutes context values given → HasType types labels cells context term type →
        HasType types labels cells given (substitute term values) type
    substituted (IntLit n) context given values type s h = h
    substituted (BoolLit b) context given values type s h = h
    substituted UnitLit context given values type s h = h
    substituted (Var name) context given values type s h =
        in_place_of_name (entry_of name values) given name type (entry_of name context) (s name) h
    substituted (Lambda parameters body written) context given values type s h = (
      h.0,
      (
        h.1.0,
        h.1.1,
        h.1.2,
        h.1.3,
        h.1.4,
        substituted body (h.1.2 ++ context) (h.1.2 ++ given) (without parameters values) h.1.1
            (under parameters h.1.2 context given values (bound_names parameters h.1.0 h.1.2 h.1.4) s) h.1.5,
      ),
    )
    substituted (Group members body) context given values type s h =
        (let inner = under (member_names members) (member_types members) context given values
        (member_type_names members) s in (
          subst (λ c. MembersHaveTypes types labels cells (c ++ given)
              (substitute_members members (without (member_names members) values)))
              (sym (substituted_types members (without (member_names members) values)))
              (substituted_members members (member_types members ++ context) (member_types members ++ given)
              (without (member_names members) values) inner h.0),
          subst (λ c. HasType types labels cells (c ++ given)
              (substitute body (without (member_names members) values)) type)
              (sym (substituted_types members (without (member_names members) values)))
              (substituted body (member_types members ++ context) (member_types members ++ given)
              (without (member_names members) values) type inner h.1),
        ))
    substituted (Let bindings body) context given values type s h = (
      h.0,
      substituted_bindings bindings context given values h.0 s h.1,
      substituted body (h.0 ++ context) (h.0 ++ given) (without (binding_names bindings) values) type
          (under (binding_names bindings) h.0 context given values (binding_type_names bindings context h.0 h.1) s)
          h.2,
    )
    substituted (Call function arguments) context given values type s h = (
      h.0,
      h.1,
      substituted function context given values h.0 s h.2,
      h.3,
      substituted_terms arguments context given values h.1 s h.4,
    )
    substituted (Enter function arguments) context given values type s h = (
      h.0,
      h.1,
      substituted function context given values h.0 s h.2,
      h.3,
      substituted_terms arguments context given values h.1 s h.4,
      (h.5.0, still_value function values h.5.0 h.5.1),
    )
    substituted (If condition on_true on_false) context given values type s h = (
      h.0,
      substituted condition context given values h.0 s h.1,
      h.2,
      substituted on_true context given values type s h.3,
      substituted on_false context given values type s h.4,
    )
    substituted (Seq terms) context given values type s h = substituted_last terms context given values type s h
    substituted (Cast term from to label) context given values type s h =
        (h.0, substituted term context given values from s h.1, h.2, h.3)
    substituted (Proj term k) context given values type s h =
        (h.0, h.1, substituted term context given values h.0 s h.2, h.3, h.4)
    substituted (ProjDyn term k label) context given values type s h =
        (substituted term context given values type s h.0, h.1, h.2)
    substituted (Tuple parts) context given values type s h =
        (h.0, substituted_terms parts context given values h.0 s h.1, h.2, h.3, h.4)
    substituted (Prim operator operands) context given values type s h =
        (h.0, substituted_terms operands context given values h.0 s h.1, h.2)
    substituted (ValueTerm v) context given values type s h = h

    substituted_terms : (terms : Terms) (context given : Context) (values : Substitution) (wanted : List ℕ) →
        Substitutes context values given → HaveTypes types labels cells context terms wanted →
        HaveTypes types labels cells given (substitute_terms terms values) wanted
    substituted_terms NoTerms context given values wanted s h = h
    substituted_terms (TermThen term rest) context given values wanted s h = (
      h.0,
      h.1,
      h.2,
      substituted term context given values h.0 s h.3,
      substituted_terms rest context given values h.1 s h.4,
    )

    substituted_last : (terms : Terms) (context given : Context) (values : Substitution) (type : ℕ) →
        Substitutes context values given → LastHasType types labels cells context terms type →
        LastHasType types labels cells given (substitute_terms terms values) type
    substituted_last NoTerms context given values type s h = h
    substituted_last (TermThen term NoTerms) context given values type s h =
        substituted term context given values type s h
    substituted_last (TermThen term (TermThen second rest)) context given values type s h = (
      (h.0.0, substituted term context given values h.0.0 s h.0.1),
      substituted_last (TermThen second rest) context given values type s h.1,
    )

    substituted_members : (members : Members) (context given : Context) (values : Substitution) →
        Substitutes context values given → MembersHaveTypes types labels cells context members →
        MembersHaveTypes types labels cells given (substitute_members members values)
    substituted_members NoMembers context given values s h = tt
    substituted_members (MemberThen name parameters body type rest) context given values s h = (
      (
        h.0.0,
        h.0.1,
        h.0.2,
        h.0.3,
        h.0.4,
        substituted body (h.0.2 ++ context) (h.0.2 ++ given)
            (without parameters values) h.0.1 (under parameters h.0.2 context given values
            (bound_names parameters h.0.0 h.0.2 h.0.4) s) h.0.5,
      ),
      substituted_members rest context given values s h.1,
    )

    substituted_bindings : (bindings : Bindings) (context given : Context) (values : Substitution) (bound : Context) →
        Substitutes context values given → BindingsHaveTypes types labels cells context bindings bound →
        BindingsHaveTypes types labels cells given (substitute_bindings bindings values) bound
    substituted_bindings NoBindings context given values bound s h = h
    substituted_bindings (BindingThen name term rest) context given values bound s h = (
      h.0,
      h.1,
      h.2,
      substituted term context given values h.0 s h.3,
      substituted_bindings rest context given values h.1 s h.4,
    )

-- Names that are bound once: how often a name stands in a list, and contexts with more names behind them.
use Rattle.std.proofs.Common.{◌≡◌, ℕ, zero, suc, ◌+◌, ◌≤◌, ◌<◌, Bool, true, false, cond, List, [], ◌∷◌}
use Rattle.std.proofs.Common.{◌++◌, length, take, Option, Some, None, refl, sym, ap, ◌∙◌, subst, arith, slice_get}
use Rattle.std.proofs.Common.{append_assoc, append-nil}
use Rattle.std.specs.Prelude.{nat_eq, is_some, ◌||◌}
use Rattle.std.proofs.lemmas.Bool.{eqb-true, eq-eqb}
use Rattle.grift_base.specs.Tables.{HasNoRepeats}
use Rattle.core_calc.specs.Terms.{Members, NoMembers, MemberThen}
use Rattle.core_calc.specs.Terms.{both_in_front}
use Rattle.std.specs.List.{list_any}
use Rattle.core_calc.specs.Substitution.{entry_of, bind}
use Rattle.core_calc.specs.Typing.{Context, member_types, binders, member_binders}
use Rattle.core_calc.specs.TypeOf.{with_names, with_bound}
use Rattle.core_calc.proofs.ListPlaces.{none_is_not_some, some_is_not_none, same_some}
use Rattle.core_calc.proofs.RowsOfTables.{false_is_not_true}

-- ---- how often a name stands in a list

abbrev pub one_if : Bool → ℕ
one_if true = 1
one_if false = 0

abbrev pub times : ℕ → List ℕ → ℕ
times x [] = 0
times x (y ∷ ys) = one_if (nat_eq x y) + times x ys

pub times_append : (x : ℕ) (xs ys : List ℕ) → times x (xs ++ ys) ≡ times x xs + times x ys
times_append x [] ys = omega arith
times_append x (z ∷ xs) ys = let rest = times_append x xs ys in omega arith

itself_once : (x : ℕ) → one_if (nat_eq x x) ≡ 1
itself_once x = ap one_if (eq-eqb x x refl)

stands_once : (x : ℕ) (xs : List ℕ) (j : ℕ) → slice_get xs j ≡ Some x → 1 ≤ times x xs
stands_once x [] j e = absurd (none_is_not_some x e)
stands_once x (y ∷ ys) zero e =
    let h = ap one_if (eq-eqb x y (sym (same_some y x e))) in
    omega arith
stands_once x (y ∷ ys) (suc j) e = let h = stands_once x ys j e in omega arith

stands_at : (x : ℕ) (xs : List ℕ) → 1 ≤ times x xs → (j : ℕ) × (slice_get xs j ≡ Some x)
stands_at x [] h = absurd (omega arith)
stands_at x (y ∷ ys) h = by_test (λ l. stands_at x ys l) (nat_eq x y) refl
  where
    by_test : (1 ≤ times x ys → (j : ℕ) × (slice_get ys j ≡ Some x)) → (b : Bool) → nat_eq x y ≡ b →
        (j : ℕ) × (slice_get (y ∷ ys) j ≡ Some x)
    by_test behind true e = (0, ap Some (sym (eqb-true x y e)))
    by_test behind false e =
        let none = ap one_if e in
        let later : 1 ≤ times x ys = omega arith in
        let found = behind later in
        (suc found.0, found.1)

pub once-from_HasNoRepeats : (xs : List ℕ) → HasNoRepeats xs → (x : ℕ) → times x xs ≤ 1
once-from_HasNoRepeats [] apart x = omega arith
once-from_HasNoRepeats (y ∷ ys) apart x =
    by_test (once-from_HasNoRepeats ys (λ i j within e. tail i j within e) x) (nat_eq x y) refl
  where
    tail : (i j : ℕ) → i < length ys → slice_get ys i ≡ slice_get ys j → i ≡ j
    tail i j within e =
        let same : suc i ≡ suc j = apart (suc i) (suc j) (omega arith) e in
        omega arith

    by_test : times x ys ≤ 1 → (b : Bool) → nat_eq x y ≡ b → times x (y ∷ ys) ≤ 1
    by_test rest false e = let none = ap one_if e in omega arith
    by_test rest true e = by_number (times x ys) refl
      where
        by_number : (n : ℕ) → times x ys ≡ n → times x (y ∷ ys) ≤ 1
        by_number zero f = let one = ap one_if e in omega arith
        by_number (suc n) f =
            let some : 1 ≤ times x ys = omega arith in
            let found = stands_at x ys some in
            let same : 0 ≡ suc found.0 =
            apart 0 (suc found.0) (omega arith) (ap Some (sym (eqb-true x y e)) ∙ sym found.1) in
            absurd (omega arith)

pub HasNoRepeats-from_once : (xs : List ℕ) → ((x : ℕ) → times x xs ≤ 1) → HasNoRepeats xs
HasNoRepeats-from_once [] once i j within e = absurd (omega arith)
HasNoRepeats-from_once (y ∷ ys) once zero zero within e = refl
HasNoRepeats-from_once (y ∷ ys) once zero (suc j) within e =
    absurd (let h = stands_once y ys j (sym e) in let t = itself_once y in let o = once y in omega arith)
HasNoRepeats-from_once (y ∷ ys) once (suc i) zero within e =
    absurd (let h = stands_once y ys i e in let t = itself_once y in let o = once y in omega arith)
HasNoRepeats-from_once (y ∷ ys) once (suc i) (suc j) within e =
    ap suc (HasNoRepeats-from_once ys (λ x. fewer x) i j (omega arith) e)
  where
    fewer : (x : ℕ) → times x ys ≤ 1
    fewer x = let o = once x in omega arith

-- ---- names that were met

among_by : (x : ℕ) (xs : List ℕ) (b : Bool) → list_any (nat_eq x) xs ≡ b → times x xs ≡ 0 → b ≡ false
among_by x [] b e h = sym e
among_by x (y ∷ ys) b e h = by_test (λ g k. among_by x ys b g k) (nat_eq x y) refl
  where
    by_test : (list_any (nat_eq x) ys ≡ b → times x ys ≡ 0 → b ≡ false) → (c : Bool) → nat_eq x y ≡ c → b ≡ false
    by_test behind true f = let one = ap one_if f in absurd (omega arith)
    by_test behind false f =
        let none = ap one_if f in
        behind (sym (ap (λ c. c || list_any (nat_eq x) ys) f) ∙ e) (omega arith)

not_among : (x : ℕ) (xs : List ℕ) → list_any (nat_eq x) xs ≡ false → times x xs ≡ 0
not_among x [] e = refl
not_among x (y ∷ ys) e = by_test (λ g. not_among x ys g) (nat_eq x y) refl
  where
    by_test : (list_any (nat_eq x) ys ≡ false → times x ys ≡ 0) → (c : Bool) → nat_eq x y ≡ c → times x (y ∷ ys) ≡ 0
    by_test behind true f = absurd (false_is_not_true (sym e ∙ ap (λ c. c || list_any (nat_eq x) ys) f))
    by_test behind false f =
        let none = ap one_if f in
        let rest = behind (sym (ap (λ c. c || list_any (nat_eq x) ys) f) ∙ e) in
        omega arith

-- names that are new are put behind those that were met
pub names_added : (seen xs : List ℕ) → ((x : ℕ) → times x seen + times x xs ≤ 1) →
    with_names seen xs ≡ Some (seen ++ xs)
names_added seen [] once = ap Some (sym (append-nil seen))
names_added seen (y ∷ ys) once =
    ap (λ b. cond b None (with_names (seen ++ y ∷ []) ys)) new
    ∙ names_added (seen ++ y ∷ []) ys later
    ∙ ap Some (append_assoc seen (y ∷ []) ys)
  where
    new : list_any (nat_eq y) seen ≡ false
    new =
        let o = once y in
        let t = itself_once y in
        let none : times y seen ≡ 0 = omega arith in
        among_by y seen (list_any (nat_eq y) seen) refl none

    later : (x : ℕ) → times x (seen ++ y ∷ []) + times x ys ≤ 1
    later x =
        let o = once x in
        let t = times_append x seen (y ∷ []) in
        omega arith

-- where names were put behind others, none stands twice
pub names_once : (seen xs new : List ℕ) → with_names seen xs ≡ Some new → ((x : ℕ) → times x seen ≤ 1) → (x : ℕ) →
    times x seen + times x xs ≤ 1
names_once seen [] new e once x = let o = once x in omega arith
names_once seen (y ∷ ys) new e once x =
    by_test (λ g h. names_once (seen ++ y ∷ []) ys new g h x) (list_any (nat_eq y) seen) refl
  where
    by_test : (with_names (seen ++ y ∷ []) ys ≡ Some new → ((z : ℕ) → times z (seen ++ y ∷ []) ≤ 1) →
        times x (seen ++ y ∷ []) + times x ys ≤ 1) → (b : Bool) → list_any (nat_eq y) seen ≡ b →
        times x seen + times x (y ∷ ys) ≤ 1
    by_test behind true f =
        absurd (none_is_not_some new (sym (ap (λ b. cond b None (with_names (seen ++ y ∷ []) ys)) f) ∙ e))
    by_test behind false f =
        let rest = behind
        (sym (ap (λ b. cond b None (with_names (seen ++ y ∷ []) ys)) f) ∙ e) (λ z. later z) in
        let t = times_append x seen (y ∷ []) in
        omega arith
      where
        later : (z : ℕ) → times z (seen ++ y ∷ []) ≤ 1
        later z = by_name (nat_eq z y) refl
          where
            by_name : (c : Bool) → nat_eq z y ≡ c → times z (seen ++ y ∷ []) ≤ 1
            by_name true g =
                let none = subst (λ n. times n seen ≡ 0) (sym (eqb-true z y g)) (not_among y seen f) in
                let one = ap one_if g in
                let t = times_append z seen (y ∷ []) in
                omega arith
            by_name false g =
                let o = once z in
                let none = ap one_if g in
                let t = times_append z seen (y ∷ []) in
                omega arith

-- ---- contexts

-- how often a name stands in a context
abbrev pub times_bound : ℕ → Context → ℕ
times_bound x [] = 0
times_bound x (entry ∷ rest) = one_if (nat_eq x entry.0) + times_bound x rest

pub times_bound_append : (x : ℕ) (a b : Context) → times_bound x (a ++ b) ≡ times_bound x a + times_bound x b
times_bound_append x [] b = omega arith
times_bound_append x (entry ∷ a) b = let rest = times_bound_append x a b in omega arith

abbrev pub or_else : {A : Type 0} → Option A → Option A → Option A
or_else (Some a) other = Some a
or_else None other = other

or_none : {A : Type 0} (o : Option A) → or_else o None ≡ o
or_none (Some a) = refl
or_none None = refl

entry_append : (x : ℕ) (a b : Context) → entry_of x (a ++ b) ≡ or_else (entry_of x a) (entry_of x b)
entry_append x [] b = refl
entry_append x (entry ∷ a) b = by_test (entry_append x a b) (nat_eq x entry.0)
  where
    by_test : entry_of x (a ++ b) ≡ or_else (entry_of x a) (entry_of x b) → (c : Bool) →
        cond c (Some entry.1) (entry_of x (a ++ b)) ≡
        or_else (cond c (Some entry.1) (entry_of x a)) (entry_of x b)
    by_test behind true = refl
    by_test behind false = behind

not_bound : (x : ℕ) (a : Context) → times_bound x a ≡ 0 → entry_of x a ≡ None
not_bound x [] h = refl
not_bound x (entry ∷ a) h = by_test (λ k. not_bound x a k) (nat_eq x entry.0) refl
  where
    by_test : (times_bound x a ≡ 0 → entry_of x a ≡ None) → (c : Bool) → nat_eq x entry.0 ≡ c →
        entry_of x (entry ∷ a) ≡ None
    by_test behind true e = let one = ap one_if e in absurd (omega arith)
    by_test behind false e =
        let none = ap one_if e in
        ap (λ c. cond c (Some entry.1) (entry_of x a)) e ∙ behind (omega arith)

-- contexts that give each name the same type
abbrev pub Agrees : Context → Context → Type 0
Agrees a b = (x : ℕ) → entry_of x a ≡ entry_of x b

-- what the first of more names says
abbrev FirstNew : (ℕ × ℕ) → Context → Context → Context → Type 0
FirstNew entry context rest inner =
    (entry_of entry.0 context ≡ None) × (with_bound (context ++ entry ∷ []) rest ≡ Some inner)

first_new : (entry : ℕ × ℕ) (context rest inner : Context) → with_bound context (entry ∷ rest) ≡ Some inner →
    FirstNew entry context rest inner
first_new entry context rest inner e = by_entry (entry_of entry.0 context) refl
  where
    by_entry : (o : Option ℕ) → entry_of entry.0 context ≡ o → FirstNew entry context rest inner
    by_entry None f =
        (f, sym (ap (λ o. cond (is_some o) None (with_bound (context ++ entry ∷ []) rest)) f) ∙ e)
    by_entry (Some type) f =
        absurd (none_is_not_some inner
        (sym (ap (λ o. cond (is_some o) None (with_bound (context ++ entry ∷ []) rest)) f) ∙ e))

-- more names stand behind those from before
pub bound_behind : (context bound inner : Context) → with_bound context bound ≡ Some inner → inner ≡ context ++ bound
bound_behind context [] inner e = sym (same_some context inner e) ∙ sym (append-nil context)
bound_behind context (entry ∷ rest) inner e =
    bound_behind (context ++ entry ∷ []) rest inner (first_new entry context rest inner e).1
    ∙ append_assoc context (entry ∷ []) rest

take_front : (a b : Context) → take (length a) (a ++ b) ≡ a
take_front [] [] = refl
take_front [] (entry ∷ b) = refl
take_front (entry ∷ a) b = ap (λ es. entry ∷ es) (take_front a b)

-- without them the names from before are left
pub bound_left : (context bound inner : Context) → with_bound context bound ≡ Some inner →
    take (length context) inner ≡ context
bound_left context bound inner e =
    ap (λ es. take (length context) es) (bound_behind context bound inner e) ∙ take_front context bound

left_missing : (o p : Option ℕ) → or_else o p ≡ None → o ≡ None
left_missing None p e = refl
left_missing (Some t) p e = absurd (some_is_not_none t e)

-- no name is among both
bound_apart : (context bound inner : Context) → with_bound context bound ≡ Some inner → (x type : ℕ) →
    entry_of x bound ≡ Some type → entry_of x context ≡ None
bound_apart context [] inner e x type f = absurd (none_is_not_some type f)
bound_apart context (entry ∷ rest) inner e x type f =
    by_test (λ g h. bound_apart (context ++ entry ∷ []) rest inner g x type h) (nat_eq x entry.0) refl
  where
    first : FirstNew entry context rest inner
    first = first_new entry context rest inner e

    by_test : (with_bound (context ++ entry ∷ []) rest ≡ Some inner → entry_of x rest ≡ Some type →
        entry_of x (context ++ entry ∷ []) ≡ None) → (c : Bool) → nat_eq x entry.0 ≡ c → entry_of x context ≡ None
    by_test behind true g = subst (λ n. entry_of n context ≡ None) (sym (eqb-true x entry.0 g)) first.0
    by_test behind false g =
        let later : entry_of x rest ≡ Some type =
        sym (ap (λ c. cond c (Some entry.1) (entry_of x rest)) g) ∙ f in
        left_missing (entry_of x context) (entry_of x (entry ∷ []))
        (sym (entry_append x context (entry ∷ []))
        ∙ behind first.1 later)

-- the names in scope, with more behind them, are those of a context with more in front
pub Agrees-bound : (own context bound inner : Context) → Agrees own context → with_bound own bound ≡ Some inner →
    Agrees inner (bound ++ context)
Agrees-bound own context bound inner agrees e x =
    ap (entry_of x) (bound_behind own bound inner e)
    ∙ entry_append x own bound
    ∙ by_entry (entry_of x bound) refl
    ∙ sym (entry_append x bound context)
  where
    by_entry : (o : Option ℕ) → entry_of x bound ≡ o → or_else (entry_of x own) (entry_of x bound) ≡
        or_else (entry_of x bound) (entry_of x context)
    by_entry None f =
        ap (or_else (entry_of x own)) f ∙ or_none (entry_of x own) ∙ agrees x
        ∙ sym (ap (λ o. or_else o (entry_of x context)) f)
    by_entry (Some type) f =
        ap (λ o. or_else o (entry_of x bound)) (bound_apart own bound inner e x type f) ∙ f
        ∙ sym (ap (λ o. or_else o (entry_of x context)) f)

-- names that are new can be bound
pub new_names_bound : (own bound : Context) → ((x : ℕ) → times_bound x own + times_bound x bound ≤ 1) →
    with_bound own bound ≡ Some (own ++ bound)
new_names_bound own [] once = ap Some (sym (append-nil own))
new_names_bound own (entry ∷ rest) once =
    ap (λ o. cond (is_some o) None (with_bound (own ++ entry ∷ []) rest)) new
    ∙ new_names_bound (own ++ entry ∷ []) rest later
    ∙ ap Some (append_assoc own (entry ∷ []) rest)
  where
    new : entry_of entry.0 own ≡ None
    new =
        let o = once entry.0 in
        let t = itself_once entry.0 in
        let none : times_bound entry.0 own ≡ 0 = omega arith in
        not_bound entry.0 own none

    later : (x : ℕ) → times_bound x (own ++ entry ∷ []) + times_bound x rest ≤ 1
    later x =
        let o = once x in
        let t = times_bound_append x own (entry ∷ []) in
        omega arith

-- ---- the names of a function's parameters, of a group and of bindings

pub both_there : {A : Type 0} (a : A) (o : Option (List A)) (all : List A) → both_in_front (Some a) o ≡ Some all →
    (rest : List A) × (o ≡ Some rest) × (all ≡ a ∷ rest)
both_there a (Some rest) all e = (rest, refl, sym (same_some (a ∷ rest) all e))
both_there a None all e = absurd (none_is_not_some all e)

pub times_of_parameters : (x : ℕ) (names types : List ℕ) (bound : Context) → bind names types ≡ Some bound →
    times_bound x bound ≡ times x names
times_of_parameters x [] [] bound e = ap (times_bound x) (sym (same_some [] bound e))
times_of_parameters x [] (t ∷ types) bound e = absurd (none_is_not_some bound e)
times_of_parameters x (name ∷ names) [] bound e = absurd (none_is_not_some bound e)
times_of_parameters x (name ∷ names) (t ∷ types) bound e =
    let rest = both_there (name, t) (bind names types) bound e in
    ap (times_bound x) rest.2 ∙ ap (λ n. one_if (nat_eq x name) + n) (times_of_parameters x names types rest.0 rest.1)

-- how often a name is bound inside the functions of a group
abbrev pub times_inside : ℕ → Members → ℕ
times_inside x NoMembers = 0
times_inside x (MemberThen name parameters body type rest) =
    times x parameters + times x (binders body) + times_inside x rest

pub times_of_group : (x : ℕ) (members : Members) →
    times x (member_binders members) ≡ times_bound x (member_types members) + times_inside x members
times_of_group x NoMembers = refl
times_of_group x (MemberThen name parameters body type rest) =
    let later = times_of_group x rest in
    let outer = times_append x (parameters ++ binders body) (member_binders rest) in
    let inner = times_append x parameters (binders body) in
    omega arith

-- Names that are fresh in turn: each number stands at most once in the list, and only from a first one on and below a
-- last one. Said by counting, so that the order of the names doesn't matter.
use Rattle.std.proofs.Common.{◌≡◌, ℕ, zero, suc, ◌+◌, ◌≤◌, Bool, true, false, List, [], ◌∷◌, ◌++◌, Some, refl, sym, ap}
use Rattle.std.proofs.Common.{arith, slice_get}
use Rattle.std.specs.Prelude.{nat_eq, nat_lt}
use Rattle.std.proofs.lemmas.Bool.{ltb-true, ltb-false, eqb-true, eq-eqb}
use Rattle.grift_base.specs.Tables.{HasNoRepeats}
use Rattle.type_graph.proofs.Public.{same_some, none_is_not_some}

abbrev pub one_if : Bool → ℕ
one_if true = 1
one_if false = 0

abbrev pub times : ℕ → List ℕ → ℕ
times x [] = 0
times x (y ∷ ys) = one_if (nat_eq x y) + times x ys

abbrev pub below : ℕ → ℕ → ℕ
below x bound = one_if (nat_lt x bound)

-- no number stands in the list more often than it is one from `first` on and below `last`
abbrev pub AreFresh : ℕ → ℕ → List ℕ → Type 0
AreFresh first last names = (x : ℕ) → times x names + below x first ≤ below x last

pub times_append : (x : ℕ) (xs ys : List ℕ) → times x (xs ++ ys) ≡ times x xs + times x ys
times_append x [] ys = omega arith
times_append x (z ∷ xs) ys =
    let ih = times_append x xs ys in
    omega arith

pub below_grows : (x a b : ℕ) → a ≤ b → below x a ≤ below x b
below_grows x a b within = one (nat_lt x a) (nat_lt x b) refl refl
  where
    one : (p q : Bool) → nat_lt x a ≡ p → nat_lt x b ≡ q → one_if p ≤ one_if q
    one true true e f = omega arith
    one true false e f = absurd (let c = ltb-true x a e in let d = ltb-false x b f in omega arith)
    one false q e f = omega arith

pub no_names : (first last : ℕ) → first ≤ last → AreFresh first last []
no_names first last within x = let h = below_grows x first last within in omega arith

pub one_name : (name : ℕ) → AreFresh name (suc name) (name ∷ [])
one_name name x = one (nat_eq x name) (nat_lt x name) (nat_lt x (suc name)) refl refl refl
  where
    one : (p q r : Bool) → nat_eq x name ≡ p → nat_lt x name ≡ q → nat_lt x (suc name) ≡ r → one_if p + 0 + one_if q ≤
        one_if r
    one true true r e f g = absurd (let a = eqb-true x name e in let b = ltb-true x name f in omega arith)
    one true false true e f g = omega arith
    one true false false e f g = absurd (let a = eqb-true x name e in let b = ltb-false x (suc name) g in omega arith)
    one false true true e f g = omega arith
    one false true false e f g = absurd (let a = ltb-true x name f in let b = ltb-false x (suc name) g in omega arith)
    one false false r e f g = omega arith

pub append_names : (first middle last : ℕ) (xs ys : List ℕ) → AreFresh first middle xs → AreFresh middle last ys →
    AreFresh first last (xs ++ ys)
append_names first middle last xs ys left right x =
    let e = times_append x xs ys in
    let a = left x in
    let b = right x in
    omega arith

pub widen_names : (first earlier last later : ℕ) (xs : List ℕ) → earlier ≤ first → last ≤ later → AreFresh first last
    xs → AreFresh earlier later xs
widen_names first earlier last later xs before after fresh x =
    let a = below_grows x earlier first before in
    let b = below_grows x last later after in
    let c = fresh x in
    omega arith

stands_once : (x : ℕ) (xs : List ℕ) (j : ℕ) → slice_get xs j ≡ Some x → 1 ≤ times x xs
stands_once x [] j e = absurd (none_is_not_some x e)
stands_once x (y ∷ ys) zero e =
    let t = eq-eqb x y (sym (same_some y x e)) in
    let h = ap one_if t in
    omega arith
stands_once x (y ∷ ys) (suc j) e = let h = stands_once x ys j e in omega arith

pub distinct_names : (xs : List ℕ) → ((x : ℕ) → times x xs ≤ 1) → HasNoRepeats xs
distinct_names [] once i j within e = absurd (omega arith)
distinct_names (y ∷ ys) once zero zero within e = refl
distinct_names (y ∷ ys) once zero (suc j) within e =
    absurd (let h = stands_once y ys j (sym e) in let t = ap one_if (eq-eqb y y refl) in let o = once y in omega arith)
distinct_names (y ∷ ys) once (suc i) zero within e =
    absurd (let h = stands_once y ys i e in let t = ap one_if (eq-eqb y y refl) in let o = once y in omega arith)
distinct_names (y ∷ ys) once (suc i) (suc j) within e = ap suc (distinct_names ys (λ x. fewer x) i j (omega arith) e)
  where
    fewer : (x : ℕ) → times x ys ≤ 1
    fewer x = let o = once x in omega arith

at_most_one : (b : Bool) → one_if b ≤ 1
at_most_one true = omega arith
at_most_one false = omega arith

pub fresh_are_distinct : (first last : ℕ) (xs : List ℕ) → AreFresh first last xs → HasNoRepeats xs
fresh_are_distinct first last xs fresh = distinct_names xs (λ x. once x)
  where
    once : (x : ℕ) → times x xs ≤ 1
    once x = let a = fresh x in let b = at_most_one (nat_lt x last) in omega arith

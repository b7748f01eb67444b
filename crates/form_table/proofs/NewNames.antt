-- Names that are new, one after another, and names that stand once.
use Rattle.std.proofs.Common.{◌≡◌, ◌<◌, ◌⊎◌, inl, inr, ℕ, zero, suc, Bool, true, false, ◌||◌, List, [], ◌∷◌}
use Rattle.std.proofs.Common.{◌++◌, length, get_or, slice_get, Some, refl, sym, ap, ◌∙◌, subst, arith}
use Rattle.std.proofs.Common.{append_assoc, append-nil}
use Rattle.std.specs.Prelude.{bytes_eq}
use Rattle.std.proofs.lemmas.Option.{slice_get_within, slice_get-get_or}
use Rattle.std.proofs.lemmas.Slice.Eq.{bytes_eq-Decides}
use Rattle.grift_base.specs.Tables.{HasNoRepeats}
use Rattle.form_table.specs.Walking.{is_among}

-- names that differ from one another and from these
abbrev pub AreNew : List (List ℕ) → List (List ℕ) → Type 0
AreNew seen [] = Unit {0}
AreNew seen (x ∷ xs) = (is_among seen x ≡ false) × AreNew (seen ++ x ∷ []) xs

abbrev At : List (List ℕ) → List ℕ → Type 0
At seen x = (i : ℕ) × (slice_get seen i ≡ Some x)

among_step : (x y : List ℕ) (ys : List (List ℕ)) (b : Bool) → bytes_eq x y ≡ b → (is_among ys x ≡ true → At ys x)
    → (b || is_among ys x) ≡ true → At (y ∷ ys) x
among_step x y ys true h k e = (0, ap Some (sym ((bytes_eq-Decides x y).0 h)))
among_step x y ys false h k e = let found = k e in (suc found.0, found.1)

among_at : (seen : List (List ℕ)) (x : List ℕ) → is_among seen x ≡ true → At seen x
among_at [] x e = absurd (let z : ⊥ = cc in z)
among_at (y ∷ ys) x e = among_step x y ys (bytes_eq x y) refl (among_at ys x) e

or_with_true : (b : Bool) → (b || true) ≡ true
or_with_true true = refl
or_with_true false = refl

at_among : (seen : List (List ℕ)) (i : ℕ) (x : List ℕ) → slice_get seen i ≡ Some x → is_among seen x ≡ true
at_among [] i x e = absurd (let z : ⊥ = cc in z)
at_among (y ∷ ys) zero x e =
    let same : x ≡ y = cc in
    ap (λ b. b || is_among ys x) ((bytes_eq-Decides x y).1 same)
at_among (y ∷ ys) (suc i) x e = ap (λ b. bytes_eq x y || b) (at_among ys i x e) ∙ or_with_true (bytes_eq x y)

left_of : (seen xs : List (List ℕ)) (i : ℕ) (x : List ℕ) → slice_get seen i ≡ Some x → slice_get (seen ++ xs) i ≡ Some x
left_of [] xs i x e = absurd (let z : ⊥ = cc in z)
left_of (y ∷ ys) xs zero x e = e
left_of (y ∷ ys) xs (suc i) x e = left_of ys xs i x e

seam_at : (seen : List (List ℕ)) (x : List ℕ) (xs : List (List ℕ)) → slice_get (seen ++ x ∷ xs) (length seen) ≡ Some x
seam_at [] x xs = refl
seam_at (y ∷ ys) x xs = seam_at ys x xs

pub absent_if : (seen : List (List ℕ)) (x : List ℕ) (xs : List (List ℕ)) (b : Bool) → is_among seen x ≡ b
    → HasNoRepeats (seen ++ x ∷ xs) → b ≡ false
absent_if seen x xs false e h = refl
absent_if seen x xs true e h =
    let found = among_at seen x e in
    let within : found.0 < length seen = slice_get_within seen found.0 x found.1 in
    let at : slice_get (seen ++ x ∷ xs) found.0 ≡ Some x = left_of seen (x ∷ xs) found.0 x found.1 in
    let inside : found.0 < length (seen ++ x ∷ xs) = slice_get_within (seen ++ x ∷ xs) found.0 x at in
    let same : found.0 ≡ length seen = h found.0 (length seen) inside (at ∙ sym (seam_at seen x xs)) in
    absurd (omega arith)

are_new_behind : (seen xs : List (List ℕ)) → HasNoRepeats (seen ++ xs) → AreNew seen xs
are_new_behind seen [] h = tt
are_new_behind seen (x ∷ xs) h = (
  absent_if seen x xs (is_among seen x) refl h,
  are_new_behind (seen ++ x ∷ []) xs (subst HasNoRepeats (sym (append_assoc seen (x ∷ []) xs)) h),
)

-- names that stand once are new one after another
pub are_new : (xs : List (List ℕ)) → HasNoRepeats xs → AreNew [] xs
are_new xs h = are_new_behind [] xs h

place_cases : (seen : List (List ℕ)) (x : List ℕ) (j : ℕ) (y : List ℕ) → slice_get (seen ++ x ∷ []) j ≡ Some y
    → (slice_get seen j ≡ Some y) ⊎ ((j ≡ length seen) × (y ≡ x))
place_cases [] x zero y e = inr (refl, let same : y ≡ x = cc in same)
place_cases [] x (suc j) y e = absurd (let z : ⊥ = cc in z)
place_cases (z ∷ zs) x zero y e = inl e
place_cases (z ∷ zs) x (suc j) y e =
    elim (place_cases zs x j y e) [ inl h ↦ inl h | inr h ↦ inr (ap suc h.0, h.1) ]

not_both : (seen : List (List ℕ)) (x : List ℕ) (i : ℕ) (y : List ℕ) → is_among seen x ≡ false
    → slice_get seen i ≡ Some y
    → y ≡ x → ⊥
not_both seen x i y e at same =
    let there = at_among seen i x (at ∙ ap Some same) in
    let z : ⊥ = cc in z

pub one_more : (seen : List (List ℕ)) (x : List ℕ) → HasNoRepeats seen → is_among seen x ≡ false
    → HasNoRepeats (seen ++ x ∷ [])
one_more seen x h new i j within e =
    let all = seen ++ x ∷ [] in
    let a = get_or all i x in
    let at_i : slice_get all i ≡ Some a = slice_get-get_or all i x within in
    let at_j : slice_get all j ≡ Some a = sym e ∙ at_i in
    elim (place_cases seen x i a at_i) [
      | inl hi ↦ elim (place_cases seen x j a at_j) [
        | inl hj ↦ h i j (slice_get_within seen i a hi) (hi ∙ sym hj)
        | inr hj ↦ absurd (not_both seen x i a new hi hj.1)
      ]
      | inr hi ↦ elim (place_cases seen x j a at_j) [
        | inl hj ↦ absurd (not_both seen x j a new hj hi.1)
        | inr hj ↦ hi.0 ∙ sym hj.0
      ]
    ]

no_repeats_behind : (seen xs : List (List ℕ)) → HasNoRepeats seen → AreNew seen xs → HasNoRepeats (seen ++ xs)
no_repeats_behind seen [] h new = subst HasNoRepeats (sym (append-nil seen)) h
no_repeats_behind seen (x ∷ xs) h new =
    subst HasNoRepeats (append_assoc seen (x ∷ []) xs)
    (no_repeats_behind (seen ++ x ∷ []) xs (one_more seen x h new.0) new.1)

-- names that are new one after another stand once
pub no_repeats : (xs : List (List ℕ)) → AreNew [] xs → HasNoRepeats xs
no_repeats xs new = no_repeats_behind [] xs (λ i j within e. absurd (let z : ⊥ = omega arith in z)) new

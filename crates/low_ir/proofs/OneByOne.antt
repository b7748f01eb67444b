-- A test of all elements of a list, one after the other.
use Rattle.std.proofs.Common.{◌≡◌, ℕ, zero, suc, ◌+◌, ◌<◌, Bool, true, false, List, [], ◌∷◌, length, get_or, take}
use Rattle.std.proofs.Common.{refl, sym, ap, ◌∙◌, subst, arith}
use Rattle.std.specs.Prelude.{◌&&◌}
use Rattle.std.proofs.Math.Bool.{and-false}

-- told that the test of a list is that of its first element and that of the rest
module _ {A : Type 0} (all : List A → Bool) (one : A → Bool) (none : all [] ≡ true)
    (first : (x : A) (xs : List A) → all (x ∷ xs) ≡ (one x && all xs)) where
  next : (xs : List A) (k : ℕ) (d : A) → k < length xs → all (take k xs) ≡ true → one (get_or xs k d) ≡ true
      → all (take (suc k) xs) ≡ true
  next [] k d within before now = absurd (omega arith)
  next (x ∷ xs) zero d within before now = first x [] ∙ (ap (λ b. b && all []) now ∙ none)
  next (x ∷ xs) (suc k) d within before now =
      let both = parts (one x) (all (take k xs)) (sym (first x (take k xs)) ∙ before) in
      first x (take (suc k) xs) ∙ (ap (λ b. b && all (take (suc k) xs)) both.0 ∙ next xs k d (omega arith) both.1 now)
    where
      parts : (a b : Bool) → (a && b) ≡ true → (a ≡ true) × (b ≡ true)
      parts true b e = (refl, e)
      parts false b e = absurd (let z : ⊥ = cc in z)

  -- one more element passes
  pub one_more : (xs : List A) (k : ℕ) (d : A) → k < length xs → all (take k xs) ≡ true → one (get_or xs k d) ≡ true
      → all (take (k + 1) xs) ≡ true
  one_more xs k d within before now =
      let is : suc k ≡ k + 1 = omega arith in
      subst (λ n. all (take n xs) ≡ true) is (next xs k d within before now)

  -- an element that doesn't pass
  pub not_all : (xs : List A) (k : ℕ) (d : A) → k < length xs → one (get_or xs k d) ≡ false → all xs ≡ false
  not_all [] k d within e = absurd (omega arith)
  not_all (x ∷ xs) zero d within e = first x xs ∙ ap (λ b. b && all xs) e
  not_all (x ∷ xs) (suc k) d within e =
      first x xs ∙ (ap (λ b. one x && b) (not_all xs k d (omega arith) e) ∙ and-false (one x))

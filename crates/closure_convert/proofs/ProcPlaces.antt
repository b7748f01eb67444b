-- Lists that stand in another list from a place on.
use Rattle.std.proofs.Common.{◌≡◌, ℕ, suc, ◌+◌, List, [], ◌∷◌, ◌++◌, length, Some, slice_get, refl}
use Rattle.std.proofs.Common.{subst, arith}

module _ {A : Type 0} where
  -- the second list stands in the first from this place on
  abbrev pub HasAt : List A → ℕ → List A → Type 0
  HasAt all place [] = Unit {0}
  HasAt all place (x ∷ xs) = (slice_get all place ≡ Some x) × HasAt all (place + 1) xs

  pub has_front : (all : List A) (place : ℕ) (xs ys : List A) → HasAt all place (xs ++ ys) → HasAt all place xs
  has_front all place [] ys h = tt
  has_front all place (x ∷ xs) ys h = (h.0, has_front all (place + 1) xs ys h.1)

  pub has_back : (all : List A) (place : ℕ) (xs ys : List A) → HasAt all place (xs ++ ys)
      → HasAt all (place + length xs) ys
  has_back all place [] ys h = let e : place ≡ place + 0 = omega arith in subst (λ n. HasAt all n ys) e h
  has_back all place (x ∷ xs) ys h =
      let e : place + 1 + length xs ≡ place + suc (length xs) = omega arith in
      subst (λ n. HasAt all n ys) e (has_back all (place + 1) xs ys h.1)

  next_place : (x : A) (all : List A) (place : ℕ) (xs : List A) → HasAt all place xs → HasAt (x ∷ all) (suc place) xs
  next_place x all place [] h = tt
  next_place x all place (y ∷ xs) h =
      let e : suc (place + 1) ≡ suc place + 1 = omega arith in
      (h.0, subst (λ n. HasAt (x ∷ all) n xs) e (next_place x all (place + 1) xs h.1))

  -- a list stands in itself
  pub whole : (all : List A) → HasAt all 0 all
  whole [] = tt
  whole (x ∷ all) =
      let e : suc 0 ≡ 0 + 1 = omega arith in
      (refl, subst (λ n. HasAt (x ∷ all) n all) e (next_place x all 0 all (whole all)))

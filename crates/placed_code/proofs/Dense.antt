-- Slots that are numbered one after another: the numbers are those of the procedure, two slots have two, and the number
-- of a register's slot lies no further from the first than the register does.
use Rattle.std.proofs.Common.{ℕ, zero, suc, ◌+◌, ◌-◌, ◌<◌, ◌≤◌, ◌≡◌, Bool, true, false, List, [], ◌∷◌, ◌++◌}
use Rattle.std.proofs.Common.{refl, sym, ◌∙◌, ap, subst, arith}
use Rattle.std.specs.Prelude.{◌==◌, ◌&&◌, ◌||◌, nat_lt, nat_le, if◌then◌else◌, length}
use Rattle.rv_select.specs.declared.code.Place.{Place}
use Rattle.rv_select.specs.declared.code.Place.TheVariants.{InReg, Slot}
use Rattle.rv_select.specs.Run.{Found, is_own}
use Rattle.placed_code.specs.Rename.{densely, is_in, index_of, also, kept_in}
use Rattle.placed_code.proofs.Names.{IsNaming, equal_of}

-- ---- lists of numbers

in_more : (i j : ℕ) (xs : List ℕ) → is_in i xs ≡ true → is_in i (xs ++ (j ∷ [])) ≡ true
in_more i j [] h = absurd (let z : ⊥ = cc in z)
in_more i j (x ∷ xs) h = pick (x == i) h (λ k. in_more i j xs k)
  where
    pick : (c : Bool) → (c || is_in i xs) ≡ true → (is_in i xs ≡ true → is_in i (xs ++ (j ∷ [])) ≡ true)
        → (c || is_in i (xs ++ (j ∷ []))) ≡ true
    pick true k later = refl
    pick false k later = later k

in_last : (i : ℕ) (xs : List ℕ) → is_in i (xs ++ (i ∷ [])) ≡ true
in_last i [] = grind arith
in_last i (x ∷ xs) = pick (x == i) (in_last i xs)
  where
    pick : (c : Bool) → is_in i (xs ++ (i ∷ [])) ≡ true → (c || is_in i (xs ++ (i ∷ []))) ≡ true
    pick true later = refl
    pick false later = later

index_below : (i : ℕ) (xs : List ℕ) → is_in i xs ≡ true → index_of i xs < length xs
index_below i [] h = absurd (let z : ⊥ = cc in z)
index_below i (x ∷ xs) h = pick (x == i) h (λ k. index_below i xs k)
  where
    pick : (c : Bool) → (c || is_in i xs) ≡ true → (is_in i xs ≡ true → index_of i xs < length xs)
        → (if c then 0 else suc (index_of i xs)) < suc (length xs)
    pick true k later = omega arith
    pick false k later = let z = later k in omega arith

-- the first of equal numbers stays first
index_more : (i j : ℕ) (xs : List ℕ) → is_in i xs ≡ true → index_of i (xs ++ (j ∷ [])) ≡ index_of i xs
index_more i j [] h = absurd (let z : ⊥ = cc in z)
index_more i j (x ∷ xs) h = pick (x == i) h (λ k. index_more i j xs k)
  where
    pick : (c : Bool) → (c || is_in i xs) ≡ true
        → (is_in i xs ≡ true → index_of i (xs ++ (j ∷ [])) ≡ index_of i xs)
        → (if c then 0 else suc (index_of i (xs ++ (j ∷ [])))) ≡ (if c then 0 else suc (index_of i xs))
    pick true k later = refl
    pick false k later = ap suc (later k)

zero_suc : (a : ℕ) → (0 == suc a) ≡ false
zero_suc a = grind arith

suc_zero : (a : ℕ) → (suc a == 0) ≡ false
suc_zero a = grind arith

suc_apart : (a b : ℕ) → (a == b) ≡ false → (suc a == suc b) ≡ false
suc_apart a b h = grind arith

index_apart : (i j : ℕ) (xs : List ℕ) → is_in i xs ≡ true → is_in j xs ≡ true → (i == j) ≡ false
    → (index_of i xs == index_of j xs) ≡ false
index_apart i j [] h k d = absurd (let z : ⊥ = cc in z)
index_apart i j (x ∷ xs) h k d =
    pick (x == i) (x == j) refl refl h k (λ a b. index_apart i j xs a b d)
  where
    pick : (b c : Bool) → (x == i) ≡ b → (x == j) ≡ c → (b || is_in i xs) ≡ true → (c || is_in j xs) ≡ true
        → (is_in i xs ≡ true → is_in j xs ≡ true → (index_of i xs == index_of j xs) ≡ false)
        → ((if b then 0 else suc (index_of i xs)) == (if c then 0 else suc (index_of j xs))) ≡ false
    pick true true e f g o later = absurd (let z : ⊥ = grind arith in z)
    pick true false e f g o later = zero_suc (index_of j xs)
    pick false true e f g o later = suc_zero (index_of i xs)
    pick false false e f g o later = suc_apart (index_of i xs) (index_of j xs) (later g o)

length_more : (i : ℕ) (xs : List ℕ) → length (xs ++ (i ∷ [])) ≡ suc (length xs)
length_more i [] = refl
length_more i (x ∷ xs) = ap suc (length_more i xs)

-- ---- the slots of registers

in_also : (p : Place) (i : ℕ) (xs : List ℕ) → is_in i xs ≡ true → is_in i (also p xs) ≡ true
in_also (InReg r) i xs h = h
in_also (Slot j) i xs h = pick (is_in j xs)
  where
    pick : (c : Bool) → is_in i (if c then xs else xs ++ (j ∷ [])) ≡ true
    pick true = h
    pick false = in_more i j xs h

in_this : (i : ℕ) (xs : List ℕ) → is_in i (also (Slot i) xs) ≡ true
in_this i xs = pick (is_in i xs) refl
  where
    pick : (c : Bool) → is_in i xs ≡ c → is_in i (if c then xs else xs ++ (i ∷ [])) ≡ true
    pick true e = e
    pick false e = in_last i xs

length_also : (p : Place) (xs : List ℕ) → length (also p xs) ≤ suc (length xs)
length_also (InReg r) xs = omega arith
length_also (Slot j) xs = pick (is_in j xs)
  where
    pick : (c : Bool) → length (if c then xs else xs ++ (j ∷ [])) ≤ suc (length xs)
    pick true = omega arith
    pick false = let e = length_more j xs in omega (arith, e)

index_also : (p : Place) (i : ℕ) (xs : List ℕ) → is_in i xs ≡ true → index_of i (also p xs) ≡ index_of i xs
index_also (InReg r) i xs h = refl
index_also (Slot j) i xs h = pick (is_in j xs)
  where
    pick : (c : Bool) → index_of i (if c then xs else xs ++ (j ∷ [])) ≡ index_of i xs
    pick true = refl
    pick false = index_more i j xs h

module _ (place : ℕ → Place) where
  in_kept : (first count v i : ℕ) → first ≤ v → v < first + count → place v ≡ Slot i
      → is_in i (kept_in place first count) ≡ true
  in_kept first zero v i h k e = absurd (omega arith)
  in_kept first (suc n) v i h k e =
      pick (v == first + n) refl (λ l. in_kept first n v i h l e)
    where
      pick : (c : Bool) → (v == first + n) ≡ c
          → (v < first + n → is_in i (kept_in place first n) ≡ true)
          → is_in i (also (place (first + n)) (kept_in place first n)) ≡ true
      pick true q later =
          let same : v ≡ first + n = equal_of v (first + n) q in
          subst (λ p. is_in i (also p (kept_in place first n)) ≡ true) (sym e ∙ ap place same)
          (in_this i (kept_in place first n))
      pick false q later = in_also (place (first + n)) i (kept_in place first n) (later (grind arith))

  pub few : (first count : ℕ) → length (kept_in place first count) ≤ count
  few first zero = omega arith
  few first (suc n) =
      let a = few first n in
      let b = length_also (place (first + n)) (kept_in place first n) in omega (arith, a, b)

  -- a longer list keeps the places
  index_on : (first n c i : ℕ) → n ≤ c → is_in i (kept_in place first n) ≡ true
      → (index_of i (kept_in place first c) ≡ index_of i (kept_in place first n))
      × (is_in i (kept_in place first c) ≡ true)
  index_on first n zero i le h =
      let e : n ≡ 0 = omega (arith, le) in
      absurd (let z : ⊥ = nothing (subst (λ m. is_in i (kept_in place first m) ≡ true) e h) in z)
    where
      nothing : false ≡ true → ⊥
      nothing z = cc
  index_on first n (suc c) i le h = pick (n == suc c) refl (λ l. index_on first n c i l h)
    where
      pick : (b : Bool) → (n == suc c) ≡ b
          → (n ≤ c → (index_of i (kept_in place first c) ≡ index_of i (kept_in place first n))
          × (is_in i (kept_in place first c) ≡ true))
          → (index_of i (kept_in place first (suc c)) ≡ index_of i (kept_in place first n))
          × (is_in i (kept_in place first (suc c)) ≡ true)
      pick true q later =
          let same : n ≡ suc c = equal_of n (suc c) q in (
            ap (λ m. index_of i (kept_in place first m)) (sym same),
            subst (λ m. is_in i (kept_in place first m) ≡ true) same h,
          )
      pick false q later =
          let k = later (grind (arith, le)) in (
            index_also (place (first + c)) i (kept_in place first c) k.1 ∙ k.0,
            in_also (place (first + c)) i (kept_in place first c) k.1,
          )

  -- the slot of a register lies no further than the register
  pub near : (first count v i : ℕ) → first ≤ v → v < first + count → place v ≡ Slot i
      → index_of i (kept_in place first count) ≤ v - first
  near first count v i h k e =
      let n : ℕ = v - first in
      let there = in_kept first (suc n) v i h (omega arith) e in
      let a = index_below i (kept_in place first (suc n)) there in
      let b = few first (suc n) in
      let same = (index_on first (suc n) count i (omega arith) there).0 in
      omega (arith, a, b, same)

  own_bounds : (f : Found) (v : ℕ) → is_own f v ≡ true → (f.first ≤ v) × (v < f.first + f.count)
  own_bounds f v h = grind arith

  within : (first x n : ℕ) → x < n → (nat_le first (first + x) && nat_lt (first + x) (first + n)) ≡ true
  within first x n h = grind arith

  sums_apart : (a x y : ℕ) → (x == y) ≡ false → (a + x == a + y) ≡ false
  sums_apart a x y h = grind arith

  pub dense_naming : IsNaming (densely place)
  dense_naming = record {
    own = λ f v i h e.
        let b = own_bounds f v h in
        within f.first (index_of i (kept_in place f.first f.count)) (length (kept_in place f.first f.count))
        (index_below i (kept_in place f.first f.count) (in_kept f.first f.count v i b.0 b.1 e));
    apart = λ f u v i j h k e g d.
        let a = own_bounds f u h in
        let b = own_bounds f v k in
        sums_apart f.first (index_of i (kept_in place f.first f.count)) (index_of j (kept_in place f.first f.count))
        (index_apart i j (kept_in place f.first f.count) (in_kept f.first f.count u i a.0 a.1 e)
        (in_kept f.first f.count v j b.0 b.1 g) d);
    near = λ f v i h e.
        let b = own_bounds f v h in
        let n = near f.first f.count v i b.0 b.1 e in omega (arith, n);
    few = few;
  }

-- The slots of a procedure in a set that keeps its order, and where a slot stands in it.
use Rattle.std.proofs.Common.{ℕ, suc, ◌+◌, ◌≤◌, ◌≡◌, Bool, true, false, List, [], ◌∷◌, ◌++◌, refl, sym, ◌∙◌, ap}
use Rattle.std.proofs.Common.{cond, Some, None, arith, add-one}
use Rattle.std.specs.Prelude.{◌==◌, ◌||◌, nat_eq, nat_lt, not, if◌then◌else◌, length, unwrap_or, position}
use Rattle.std.specs.List.{list_any, position_or_len}
use Rattle.indexmap.specs.IndexSet.{insert_key}
use Rattle.rv_select.specs.declared.code.Place.{Place}
use Rattle.rv_select.specs.declared.code.Place.TheVariants.{InReg, Slot}
use Rattle.placed_code.specs.Rename.{is_in, index_of, also, kept_in}

same_test : (i x : ℕ) → (x == i) ≡ nat_eq i x
same_test i x = grind arith

in_is : (i : ℕ) (xs : List ℕ) → is_in i xs ≡ list_any (nat_eq i) xs
in_is i [] = refl
in_is i (x ∷ xs) = pick (x == i) (nat_eq i x) (same_test i x) (in_is i xs)
  where
    pick : (b c : Bool) → b ≡ c → is_in i xs ≡ list_any (nat_eq i) xs → (b || is_in i xs) ≡ (c || list_any (nat_eq i)
        xs)
    pick b c e f = ap (λ z. z || is_in i xs) e ∙ ap (λ z. c || z) f

-- one more slot is put into the set
pub also_is : (i : ℕ) (xs : List ℕ) → also (Slot i) xs ≡ insert_key nat_eq xs i
also_is i xs = ap (λ b. if b then xs else xs ++ (i ∷ [])) (in_is i xs)

index_is : (i : ℕ) (xs : List ℕ) → index_of i xs ≡ position_or_len (nat_eq i) xs
index_is i [] = refl
index_is i (x ∷ xs) = pick (x == i) (nat_eq i x) (same_test i x) (index_is i xs)
  where
    pick : (b c : Bool) → b ≡ c → index_of i xs ≡ position_or_len (nat_eq i) xs
        → (if b then 0 else suc (index_of i xs)) ≡ cond (not c) (1 + position_or_len (nat_eq i) xs) 0
    pick true true e f = refl
    pick true false e f = absurd (let z : ⊥ = cc in z)
    pick false true e f = absurd (let z : ⊥ = cc in z)
    pick false false e f = omega arith

index_within : (i : ℕ) (xs : List ℕ) → index_of i xs ≤ length xs
index_within i [] = omega arith
index_within i (x ∷ xs) = pick (x == i) (index_within i xs)
  where
    pick : (b : Bool) → index_of i xs ≤ length xs → (if b then 0 else suc (index_of i xs)) ≤ suc (length xs)
    pick true e = omega arith
    pick false e = omega arith

-- where it stands, or how many there are
pub place_is : (i : ℕ) (xs : List ℕ) → unwrap_or (position (nat_eq i) xs) (length xs) ≡ index_of i xs
place_is i xs =
    let n : ℕ = position_or_len (nat_eq i) xs in
    pick n (nat_lt n (length xs)) refl (index_is i xs) (index_within i xs)
  where
    pick : (n : ℕ) (b : Bool) → nat_lt n (length xs) ≡ b → index_of i xs ≡ n → index_of i xs ≤ length xs
        → unwrap_or (cond b (Some n) None) (length xs) ≡ index_of i xs
    pick n true e f l = sym f
    pick n false e f l = let le : length xs ≤ n = grind arith in omega arith

-- the slots with that of one more register
pub kept_slot : (place : ℕ → Place) (first i s : ℕ) (xs : List ℕ) → xs ≡ kept_in place first i
    → place (first + i) ≡ Slot s → insert_key nat_eq xs s ≡ kept_in place first (i + 1)
kept_slot place first i s xs e at =
    sym (also_is s xs) ∙ (ap (also (Slot s)) e
    ∙ (ap (λ p. also p (kept_in place first i)) (sym at) ∙ ap (kept_in place first) (sym (add-one i))))

pub kept_other : (place : ℕ → Place) (first i r : ℕ) (xs : List ℕ) → xs ≡ kept_in place first i
    → place (first + i) ≡ InReg r → xs ≡ kept_in place first (i + 1)
kept_other place first i r xs e at =
    e ∙ (ap (λ p. also p (kept_in place first i)) (sym at) ∙ ap (kept_in place first) (sym (add-one i)))

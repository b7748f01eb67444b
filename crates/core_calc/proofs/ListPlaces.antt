-- Places of lists, as the cells of a store and the parts of a type are read.
use Rattle.std.proofs.Common.{◌≡◌, ℕ, zero, suc, List, [], ◌∷◌, ◌++◌, length, Option, Some, None, refl, sym, ap, ◌∙◌}
use Rattle.std.proofs.Common.{arith, slice_get, inl, inr}
use Rattle.std.specs.Prelude.{slice_set, replicate, ◌⊎◌}
pub use Rattle.type_graph.proofs.Public.{none_is_not_some, same_some, get_kept, get_before_or_last}

pub some_is_not_none : {A : Type 0} (a : A) → Some a ≡ None → ⊥
some_is_not_none a e = cc

pub both_some : {A : Type 0} (o : Option A) (a b : A) → o ≡ Some a → o ≡ Some b → a ≡ b
both_some o a b e f = same_some a b (sym e ∙ f)

-- what is put behind a list stands at its length
pub get_last : {A : Type 0} (xs : List A) (a : A) (k : ℕ) → k ≡ length xs → slice_get (xs ++ a ∷ []) k ≡ Some a
get_last [] a zero e = refl
get_last [] a (suc k) e = absurd (omega arith)
get_last (x ∷ xs) a zero e = absurd (omega arith)
get_last (x ∷ xs) a (suc k) e = get_last xs a k (omega arith)

-- a list of the same length has something at each place where the other has
pub get_within : {A B : Type 0} (xs : List A) (ys : List B) (k : ℕ) (a : A) → length xs ≡ length ys →
    slice_get xs k ≡ Some a → (b : B) × (slice_get ys k ≡ Some b)
get_within [] ys k a same e = absurd (none_is_not_some a e)
get_within (x ∷ xs) [] k a same e = absurd (omega arith)
get_within (x ∷ xs) (y ∷ ys) zero a same e = (y, refl)
get_within (x ∷ xs) (y ∷ ys) (suc k) a same e = get_within xs ys k a (omega arith) e

pub get_past : {A : Type 0} (xs : List A) (k : ℕ) (a : A) → k ≡ length xs → slice_get xs k ≡ Some a → ⊥
get_past [] k a e h = none_is_not_some a h
get_past (x ∷ xs) zero a e h = omega arith
get_past (x ∷ xs) (suc k) a e h = get_past xs k a (omega arith) h

pub length_set : {A : Type 0} (xs : List A) (k : ℕ) (a : A) → length (slice_set xs k a) ≡ length xs
length_set [] k a = refl
length_set (x ∷ xs) zero a = refl
length_set (x ∷ xs) (suc k) a = ap suc (length_set xs k a)

-- where one place is changed, a place is that one, or has what it had
pub get_set : {A : Type 0} (xs : List A) (k : ℕ) (a : A) (i : ℕ) (b : A) → slice_get (slice_set xs k a) i ≡ Some b →
    ((i ≡ k) × (a ≡ b)) ⊎ (slice_get xs i ≡ Some b)
get_set [] k a i b e = inr e
get_set (x ∷ xs) zero a zero b e = inl (refl, same_some a b e)
get_set (x ∷ xs) zero a (suc i) b e = inr e
get_set (x ∷ xs) (suc k) a zero b e = inr e
get_set (x ∷ xs) (suc k) a (suc i) b e = next (get_set xs k a i b e)
  where
    next : ((i ≡ k) × (a ≡ b)) ⊎ (slice_get xs i ≡ Some b) → ((suc i ≡ suc k) × (a ≡ b)) ⊎ (slice_get xs i ≡ Some b)
    next (inl e) = inl (ap suc e.0, e.1)
    next (inr e) = inr e

pub get_replicate : {A : Type 0} (n : ℕ) (a : A) (i : ℕ) (b : A) → slice_get (replicate n a) i ≡ Some b → a ≡ b
get_replicate zero a i b e = absurd (none_is_not_some b e)
get_replicate (suc n) a zero b e = same_some a b e
get_replicate (suc n) a (suc i) b e = get_replicate n a i b e

pub length_one_more : {A B : Type 0} (xs : List A) (ys : List B) (a : A) (b : B) → length xs ≡ length ys →
    length (xs ++ a ∷ []) ≡ length (ys ++ b ∷ [])
length_one_more [] [] a b e = refl
length_one_more [] (y ∷ ys) a b e = absurd (omega arith)
length_one_more (x ∷ xs) [] a b e = absurd (omega arith)
length_one_more (x ∷ xs) (y ∷ ys) a b e = ap suc (length_one_more xs ys a b (omega arith))

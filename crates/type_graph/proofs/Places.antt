-- Places of lists.
use Rattle.std.proofs.Common.{◌≡◌, ◌⊎◌, inl, inr, ℕ, zero, suc, ◌<◌, List, [], ◌∷◌, ◌++◌, length, Some, None}
use Rattle.std.proofs.Common.{refl, sym, ap, ◌∙◌, arith, map, slice_get}
use Rattle.std.specs.Prelude.{Contains}
use Rattle.std.proofs.lemmas.Option.{slice_get_within, get_or_from_slice_get}
use Rattle.grift_base.specs.Tables.{HasNoRepeats}

pub none_is_not_some : {A : Type 0} (a : A) → None ≡ Some a → ⊥
none_is_not_some a e = cc

pub same_some : {A : Type 0} (a b : A) → Some a ≡ Some b → a ≡ b
same_some a b e = cc

-- a place of a list has something
pub slice_get_at : {A : Type 0} (xs : List A) (k : ℕ) → k < length xs → (a : A) × (slice_get xs k ≡ Some a)
slice_get_at [] k within = absurd (omega arith)
slice_get_at (x ∷ xs) zero within = (x, refl)
slice_get_at (x ∷ xs) (suc k) within = slice_get_at xs k (omega arith)

-- what stands at a place is there
pub contained : {A : Type 0} (xs : List A) (x : A) (k : ℕ) → slice_get xs k ≡ Some x → Contains xs x
contained xs x k e = (k, slice_get_within xs k x e, get_or_from_slice_get xs k x x e)

-- what stands at a place stands there still when more is put behind
pub get_kept : {A : Type 0} (xs ys : List A) (k : ℕ) (a : A) → slice_get xs k ≡ Some a → slice_get (xs ++ ys) k ≡ Some a
get_kept [] ys k a e = absurd (none_is_not_some a e)
get_kept (x ∷ xs) ys zero a e = e
get_kept (x ∷ xs) ys (suc k) a e = get_kept xs ys k a e

-- what is put behind a list stands at its length
pub get_last : {A : Type 0} (xs : List A) (a : A) → slice_get (xs ++ a ∷ []) (length xs) ≡ Some a
get_last [] a = refl
get_last (x ∷ xs) a = get_last xs a

-- where no two are seen as one, lists are seen as one only where they are one
pub map-injective : {A B : Type 0} (f : A → B) → ((x y : A) → f x ≡ f y → x ≡ y) → (xs ys : List A) →
    map f xs ≡ map f ys → xs ≡ ys
map-injective f one [] [] e = refl
map-injective f one [] (y ∷ ys) e = cc
map-injective f one (x ∷ xs) [] e = cc
map-injective f one (x ∷ xs) (y ∷ ys) e =
    let head : f x ≡ f y = cc in
    let tail : map f xs ≡ map f ys = cc in
    let first = one x y head in
    let rest = map-injective f one xs ys tail in
    cc

-- with one more at the end, a place is one from before or the last
pub get_before_or_last : {A : Type 0} (xs : List A) (a b : A) (k : ℕ) → slice_get (xs ++ a ∷ []) k ≡ Some b →
    (slice_get xs k ≡ Some b) ⊎ ((k ≡ length xs) × (a ≡ b))
get_before_or_last [] a b zero e = inr (refl, same_some a b e)
get_before_or_last [] a b (suc k) e = absurd (none_is_not_some b e)
get_before_or_last (x ∷ xs) a b zero e = inl e
get_before_or_last (x ∷ xs) a b (suc k) e = next (get_before_or_last xs a b k e)
  where
    next : (slice_get xs k ≡ Some b) ⊎ ((k ≡ length xs) × (a ≡ b)) →
        (slice_get xs k ≡ Some b) ⊎ ((suc k ≡ suc (length xs)) × (a ≡ b))
    next (inl e) = inl e
    next (inr e) = inr (ap suc e.0, e.1)

-- what is put behind a list in which it does not stand leaves that without repeats
pub HasNoRepeats-push : {A : Type 0} (xs : List A) (a : A) → HasNoRepeats xs →
    ((k : ℕ) → slice_get xs k ≡ Some a → ⊥) → HasNoRepeats (xs ++ a ∷ [])
HasNoRepeats-push {A} xs a apart absent i j within e = by_place (slice_get_at (xs ++ a ∷ []) i within)
  where
    by_places : (b : A) → (slice_get xs i ≡ Some b) ⊎ ((i ≡ length xs) × (a ≡ b)) →
        (slice_get xs j ≡ Some b) ⊎ ((j ≡ length xs) × (a ≡ b)) → i ≡ j
    by_places b (inl f) (inl g) = apart i j (slice_get_within xs i b f) (f ∙ sym g)
    by_places b (inl f) (inr g) = absurd (absent i (f ∙ ap Some (sym g.1)))
    by_places b (inr f) (inl g) = absurd (absent j (g ∙ ap Some (sym f.1)))
    by_places b (inr f) (inr g) = f.0 ∙ sym g.0

    by_place : (b : A) × (slice_get (xs ++ a ∷ []) i ≡ Some b) → i ≡ j
    by_place found =
        by_places found.0 (get_before_or_last xs a found.0 i found.1)
        (get_before_or_last xs a found.0 j (sym e ∙ found.1))

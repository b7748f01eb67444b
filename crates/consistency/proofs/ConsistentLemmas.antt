-- Consistency goes by rows, and stays where rows are added.
use Rattle.std.proofs.Common.{◌≡◌, ℕ, zero, suc, ◌<◌, Bool, true, false, List, [], ◌∷◌, length, take}
use Rattle.std.proofs.Common.{get_or, ◌+◌, Option, Some, None, refl, ap, ap₂, ◌∙◌, arith}
use Rattle.std.specs.Prelude.{◌&&◌, ◌||◌, All}
use Rattle.std.proofs.lemmas.Bool.{and_parts}
use Rattle.std.proofs.lemmas.List.Elements.{All-head, All-tail}
use Rattle.grift_base.specs.Types.{TypeRow, TypeRows, row_at, parts_of, is_dyn, same_head}
use Rattle.type_graph.specs.Trees.{row_parts, EndsWithin, AreFinite, related}
use Rattle.type_graph.specs.TypeTables.{HasMoreRows}
use Rattle.type_graph.proofs.Public.{row_same, parts_within, parts_end_twice, ends_deeper, ends_within_new}
use Rattle.consistency.specs.declared.pairs.Pair.{Pair}
use Rattle.consistency.specs.Consistency.{consistent_rows, consistent_to, consistent}
use Rattle.consistency.specs.Pairs.{firsts, seconds}

-- ---- parts one by one

related_same : (f g : ℕ → ℕ → Bool) (P : ℕ → Type 0) (xs ys : List ℕ) → ((s t : ℕ) → P s → f s t ≡ g s t) →
    All P xs → related f xs ys ≡ related g xs ys
related_same f g P [] [] same all = refl
related_same f g P [] (y ∷ ys) same all = refl
related_same f g P (x ∷ xs) [] same all = refl
related_same f g P (x ∷ xs) (y ∷ ys) same all =
    ap₂ ◌&&◌ (same x y (All-head P x xs all)) (related_same f g P xs ys same (All-tail P x xs all))

rows_same : (f g : ℕ → ℕ → Bool) (P : ℕ → Type 0) (row other : Option TypeRow) → ((s t : ℕ) → P s → f s t ≡ g s t) →
    All P (row_parts row) → consistent_rows f row other ≡ consistent_rows g row other
rows_same f g P (Some row) (Some other) same parts =
    ap (λ b. is_dyn row || is_dyn other || (same_head row other && b))
    (related_same f g P (parts_of row) (parts_of other) same parts)
rows_same f g P (Some row) None same parts = refl
rows_same f g P None other same parts = refl

-- ---- at each depth that is deep enough

consistent_steady : (types : TypeRows) (n m a b : ℕ) → EndsWithin n types a → EndsWithin m types a →
    consistent_to n types a b ≡ consistent_to m types a b
consistent_steady types zero m a b one two = cc
consistent_steady types (suc n) zero a b one two = cc
consistent_steady types (suc n) (suc m) a b one two =
    rows_same (consistent_to n types) (consistent_to m types) (λ s. EndsWithin n types s × EndsWithin m types s)
    (row_at types a) (row_at types b) (λ s t both. consistent_steady types n m s t both.0 both.1)
    (parts_end_twice types n m a one two)

-- the rule of consistency, for the types of a table
pub consistent_by_rows : (types : TypeRows) → AreFinite types → (a b : ℕ) → a < length types →
    consistent types a b ≡ consistent_rows (consistent types) (row_at types a) (row_at types b)
consistent_by_rows types finite a b within =
    let ends = finite.ends a within in
    consistent_steady types (length types) (suc (length types)) a b ends (ends_deeper types (length types) a ends)

-- ---- where rows are added

related_kept : (f g : ℕ → ℕ → Bool) (n : ℕ) (xs ys : List ℕ) → ((s t : ℕ) → s < n → t < n → f s t ≡ g s t) →
    All (λ x. x < n) xs → All (λ y. y < n) ys → related f xs ys ≡ related g xs ys
related_kept f g n [] [] same all others = refl
related_kept f g n [] (y ∷ ys) same all others = refl
related_kept f g n (x ∷ xs) [] same all others = refl
related_kept f g n (x ∷ xs) (y ∷ ys) same all others =
    ap₂ ◌&&◌ (same x y (All-head (λ z. z < n) x xs all) (All-head (λ z. z < n) y ys others))
    (related_kept f g n xs ys same (All-tail (λ z. z < n) x xs all) (All-tail (λ z. z < n) y ys others))

rows_kept : (f g : ℕ → ℕ → Bool) (n : ℕ) (row other : Option TypeRow) →
    ((s t : ℕ) → s < n → t < n → f s t ≡ g s t) →
    ((r : TypeRow) → row ≡ Some r → All (λ x. x < n) (parts_of r)) →
    ((r : TypeRow) → other ≡ Some r → All (λ x. x < n) (parts_of r)) →
    consistent_rows f row other ≡ consistent_rows g row other
rows_kept f g n (Some row) (Some other) same all others =
    ap (λ b. is_dyn row || is_dyn other || (same_head row other && b))
    (related_kept f g n (parts_of row) (parts_of other) same (all row refl) (others other refl))
rows_kept f g n (Some row) None same all others = refl
rows_kept f g n None other same all others = refl

module _ (types new : TypeRows) (finite : AreFinite types) (more : HasMoreRows types new) where
  there : (a : ℕ) (r : TypeRow) → row_at types a ≡ Some r → All (λ x. x < length types) (parts_of r)
  there a r e = parts_within types a r finite e

  consistent_to_kept : (depth a b : ℕ) → a < length types → b < length types →
      consistent_to depth new a b ≡ consistent_to depth types a b
  consistent_to_kept zero a b one two = refl
  consistent_to_kept (suc depth) a b one two =
      ap₂ (λ r o. consistent_rows (consistent_to depth new) r o) (row_same types new a more one)
      (row_same types new b more two)
      ∙ rows_kept (consistent_to depth new) (consistent_to depth types) (length types) (row_at types a) (row_at types b)
      (λ s t in_types also. consistent_to_kept depth s t in_types also) (λ r e. there a r e) (λ r e. there b r e)

  -- types are consistent in the larger table where they are in the smaller
  pub consistent_kept : (a b : ℕ) → a < length types → b < length types → consistent new a b ≡ consistent types a b
  consistent_kept a b one two =
      consistent_to_kept (length new) a b one two
      ∙ consistent_steady types (length new) (length types) a b (ends_within_new types new finite more a one)
      (finite.ends a one)

-- ---- consistency by the rows of two types

module _ (types : TypeRows) (finite : AreFinite types) (a b : ℕ) (within : a < length types) (row other : TypeRow)
    (at_a : row_at types a ≡ Some row) (at_b : row_at types b ≡ Some other) where
  abbrev have_parts : Bool
  have_parts = same_head row other && related (consistent types) (parts_of row) (parts_of other)

  by_rows : consistent types a b ≡ (is_dyn row || is_dyn other || have_parts)
  by_rows =
      consistent_by_rows types finite a b within ∙ ap₂ (λ r o. consistent_rows (consistent types) r o) at_a at_b

  -- Dyn is consistent with every type
  pub dyn_consistent : is_dyn row ≡ true → consistent types a b ≡ true
  dyn_consistent dyn = by_rows ∙ ap (λ d. d || is_dyn other || have_parts) dyn

  -- and so is every other type with Dyn
  pub consistent_dyn : is_dyn row ≡ false → is_dyn other ≡ true → consistent types a b ≡ true
  consistent_dyn plain dyn = by_rows ∙ ap₂ (λ s t. s || t || have_parts) plain dyn

  -- two other types are where their heads are equal and their parts are consistent
  pub plain_pair : is_dyn row ≡ false → is_dyn other ≡ false → consistent types a b ≡ have_parts
  plain_pair plain also = by_rows ∙ ap₂ (λ s t. s || t || have_parts) plain also

  pub heads_differ : is_dyn row ≡ false → is_dyn other ≡ false → same_head row other ≡ false →
      consistent types a b ≡ false
  heads_differ plain also e =
      plain_pair plain also ∙ ap (λ h. h && related (consistent types) (parts_of row) (parts_of other)) e

  pub heads_agree : is_dyn row ≡ false → is_dyn other ≡ false → same_head row other ≡ true →
      consistent types a b ≡ related (consistent types) (parts_of row) (parts_of other)
  heads_agree plain also e =
      plain_pair plain also ∙ ap (λ h. h && related (consistent types) (parts_of row) (parts_of other)) e

-- ---- pairs of types, as far as they are gone through

-- a pair that is not related spoils the pairs
pub pairs_fail : (f : ℕ → ℕ → Bool) (pairs : List Pair) (k : ℕ) (d : Pair) → k < length pairs →
    f (get_or pairs k d).first.0 (get_or pairs k d).second.0 ≡ false →
    related f (firsts pairs) (seconds pairs) ≡ false
pairs_fail f [] k d within e = absurd (omega arith)
pairs_fail f (pair ∷ pairs) zero d within e = ap (λ b. b && related f (firsts pairs) (seconds pairs)) e
pairs_fail f (pair ∷ pairs) (suc k) d within e =
    ap (λ b. f pair.first.0 pair.second.0 && b) (pairs_fail f pairs k d (omega arith) e)
    ∙ and_false (f pair.first.0 pair.second.0)
  where
    and_false : (b : Bool) → (b && false) ≡ false
    and_false true = refl
    and_false false = refl

-- one pair more
pub pairs_more : (f : ℕ → ℕ → Bool) (pairs : List Pair) (k : ℕ) (d : Pair) → k < length pairs →
    related f (firsts (take k pairs)) (seconds (take k pairs)) ≡ true →
    f (get_or pairs k d).first.0 (get_or pairs k d).second.0 ≡ true →
    related f (firsts (take (k + 1) pairs)) (seconds (take (k + 1) pairs)) ≡ true
pairs_more f [] k d within e h = absurd (omega arith)
pairs_more f (pair ∷ pairs) zero d within e h = ap (λ b. b && true) h
pairs_more f (pair ∷ pairs) (suc k) d within e h =
    let both = and_parts (f pair.first.0 pair.second.0)
    (related f (firsts (take k pairs)) (seconds (take k pairs))) e in
    let one : suc k + 1 ≡ suc (k + 1) = omega arith in
    ap (λ n. related f (firsts (take n (pair ∷ pairs))) (seconds (take n (pair ∷ pairs)))) one
    ∙ ap₂ ◌&&◌ both.0 (pairs_more f pairs k d (omega arith) both.1 h)

-- Two changes of memory that leave a row as it is: past its end, and in a word that says nothing of other objects.
use Rattle.std.proofs.Common.{◌≡◌, ◌≢◌, ℕ, zero, suc, ◌+◌, ◌*◌, ◌≤◌, ◌<◌, List, [], ◌∷◌, length, Some, sym, ap}
use Rattle.std.proofs.Common.{◌∙◌, subst, arith, ◌⊎◌, inl, inr, true}
use Rattle.std.proofs.lemmas.Bool.{eqb-true}
use Rattle.std.proofs.lemmas.List.{length-replicate}
use Rattle.object_layout.specs.declared.headers.Header.{Header}
use Rattle.object_layout.specs.declared.kinds.Kind.{Kind}
use Rattle.object_layout.specs.declared.kinds.Kind.TheVariants.{Proxy, Fun}
use Rattle.object_layout.specs.declared.kinds.Kind.TheVariants.{Tup, Ref, Vec, Inject, Project}
use Rattle.object_layout.specs.declared.kinds.Wanted.{Wanted}
use Rattle.object_layout.specs.declared.kinds.Wanted.TheVariants.{Anything, Target, Middle, Coercion, TypeAddress}
use Rattle.object_layout.specs.declared.wholes.Area.{Area}
use Rattle.object_layout.specs.Kinds.{kind_of, is_free, allows_count, wanted_words}
use Rattle.object_layout.specs.Wholes.{Telling, IsWanted, IsWhole, Fills, IsRow, IsNth, StartsAt, MayPoint}
use Rattle.object_layout.specs.Wholes.{PointFrom, PointsIntoItself, IsFreeWord}
use Rattle.object_layout.proofs.Places.{nth_above, one_nth, inside_one, inside_no_start}
use Rattle.object_layout.proofs.Changing.{IsIn, SameBehind, whole_same, fills_same, words_same}
use Rattle.object_layout.proofs.KindLemmas.{free_wanted}

-- the words that are wanted are among those that there are
pub wanted_within : (kind : Kind) (count : ℕ) → allows_count kind count ≡ true →
    length (wanted_words kind count) ≤ count
wanted_within Proxy count e = let two : count ≡ 2 = eqb-true count 2 e in omega arith
wanted_within Fun count e = let all = length-replicate count Coercion in omega arith
wanted_within Tup count e = let all = length-replicate count Coercion in omega arith
wanted_within Ref count e = let all = length-replicate count Coercion in omega arith
wanted_within Vec count e = let all = length-replicate count Coercion in omega arith
wanted_within Inject count e = let two : count ≡ 2 = eqb-true count 2 e in omega arith
wanted_within Project count e = let three : count ≡ 3 = eqb-true count 3 e in omega arith
wanted_within kind count e = omega arith

-- ---- past the end

module _ (memory other : Telling) (area : Area) (to : ℕ) (same : (at : ℕ) → at < to → other at ≡ memory at) where
  -- whatever is an address lies below the object
  behind_below : (own : ℕ) (wanted : Wanted) (w : ℕ) → own < to → IsWanted memory own wanted w →
      SameBehind memory other wanted w
  behind_below own Anything w below is = tt
  behind_below own Target w below is = let b = is.below in same w (omega arith)
  behind_below own Middle w below is = let b = is.below in same w (omega arith)
  behind_below own Coercion w below (inl z) = let e : w ≡ 0 = z in same w (omega arith)
  behind_below own Coercion w below (inr a) = let b = a.below in same w (omega arith)
  behind_below own TypeAddress w below is = let b = is.below in same w (omega arith)

  whole_below : (at : ℕ) (h : Header) → IsWhole memory area to at h → IsWhole other area to at h
  whole_below at h w =
      let fits = w.fits in
      let few = wanted_within w.kind h.count w.count in
      let inside : at < to = omega arith in
      whole_same memory other area to at h w (same at inside)
      (words_same memory other at (at + 8) (wanted_words w.kind h.count) (λ p above below. same p (omega arith))
      (λ p wanted v told is n. behind_below at wanted v inside is) w.words)

  pub a_row_stays_past_its_end : (from : ℕ) (headers : List Header) → IsRow memory area from headers to →
      IsRow other area from headers to
  a_row_stays_past_its_end from headers f =
      fills_same memory other area to from headers to (λ place at h n w. whole_below at h w) f

-- ---- a word of an object that says nothing of others

-- what points is told of each word
point_at : (memory : Telling) (from : ℕ) (headers : List Header) (p : ℕ) (wanted : Wanted) (w at : ℕ)
    (list : List Wanted) → PointFrom memory from headers at list → memory p ≡ Some w → IsIn p wanted at list →
    MayPoint from headers wanted w
point_at memory from headers p wanted w at [] points told n = absurd n
point_at memory from headers p wanted w at (first ∷ rest) points told (inl n) =
    subst (λ x. MayPoint from headers x w) (sym n.1) (points.0 w (ap memory (sym n.0) ∙ told))
point_at memory from headers p wanted w at (first ∷ rest) points told (inr n) =
    point_at memory from headers p wanted w (at + 8) rest points.1 told n

-- an object of a row is whole
pub an_object_of_a_row_is_whole : (memory : Telling) (area : Area) (end from : ℕ) (headers : List Header) (to place
    at : ℕ) (h : Header) →
    Fills memory area end from headers to → IsNth from headers place at h → IsWhole memory area end at h
an_object_of_a_row_is_whole memory area end from [] to place at h f n = absurd n
an_object_of_a_row_is_whole memory area end from (first ∷ rest) to zero at h f n =
    subst (λ a. IsWhole memory area end a h) (sym n.0)
    (subst (λ k. IsWhole memory area end from k) (sym n.1) f.0)
an_object_of_a_row_is_whole memory area end from (first ∷ rest) to (suc place) at h f n =
    an_object_of_a_row_is_whole memory area end (from + (8 + 8 * first.count)) rest to place at h f.1 n

module _ (memory other : Telling) (area : Area) (from : ℕ) (headers : List Header) (to x : ℕ)
    (word : IsFreeWord from headers x) (same : (y : ℕ) → y ≢ x → other y ≡ memory y)
    (points : PointsIntoItself memory from headers) (row : IsRow memory area from headers to) where
  no_start : (place at : ℕ) (h : Header) → IsNth from headers place at h → at ≢ x
  no_start place at h n =
      inside_no_start from headers word.place place word.at at word.header h x word.there n word.above word.below

  -- no address points there
  not_pointed : (v : ℕ) → (v ≡ 0) ⊎ ((v < from) ⊎ StartsAt from headers v) → v ≢ x
  not_pointed v (inl z) e = let above = word.above in omega arith
  not_pointed v (inr (inl less)) e =
      let first = nth_above from headers word.place word.at word.header word.there in
      let above = word.above in
      omega arith
  not_pointed v (inr (inr (place, h, n))) e = no_start place v h n e

  not_there : (wanted : Wanted) (w : ℕ) → MayPoint from headers wanted w → SameBehind memory other wanted w
  not_there Anything w m = tt
  not_there Target w m = same w (not_pointed w m)
  not_there Middle w m = same w (not_pointed w m)
  not_there Coercion w m = same w (not_pointed w m)
  not_there TypeAddress w m = same w (not_pointed w (inr (inl m)))

  -- the wanted words of any object lie elsewhere
  wanted_elsewhere : (place at : ℕ) (h : Header) (w : IsWhole memory area to at h) → IsNth from headers place at h →
      (p : ℕ) → at + 8 ≤ p → p < at + 8 + 8 * length (wanted_words w.kind h.count) → p ≢ x
  wanted_elsewhere place at h w n p above below e =
      let few = wanted_within w.kind h.count w.count in
      let here : word.place ≡ place = inside_one from headers word.place place word.at at word.header h x word.there n
      word.above word.below (omega arith) (omega arith) in
      let first = one_nth from headers place word.at at word.header h
      (subst (λ q. IsNth from headers q word.at word.header) here word.there) n in
      let kinds : Some w.kind ≡ Some word.kind =
      sym w.kind_is ∙ ap (λ k. kind_of k.kind) (sym first.1) ∙ word.kind_is in
      let kind : word.kind ≡ w.kind = cc in
      let none : wanted_words w.kind h.count ≡ [] =
      free_wanted w.kind h.count (subst (λ k. is_free k ≡ true) kind word.free) in
      let nothing : length (wanted_words w.kind h.count) ≡ 0 = ap length none in
      omega arith

  whole_elsewhere : (place at : ℕ) (h : Header) → IsNth from headers place at h → IsWhole memory area to at h →
      IsWhole other area to at h
  whole_elsewhere place at h n w =
      whole_same memory other area to at h w (same at (no_start place at h n))
      (words_same memory other at (at + 8) (wanted_words w.kind h.count)
      (λ p above below. same p (wanted_elsewhere place at h w n p above below))
      (λ p wanted v told is m. not_there wanted v (point_at memory from headers p wanted v (at + 8)
      (wanted_words w.kind h.count) (points place at h w.kind n w.kind_is) told m)) w.words)

  pub a_row_stays_in_a_free_word-row : IsRow other area from headers to
  a_row_stays_in_a_free_word-row = fills_same memory other area to from headers to whole_elsewhere row

  points_same : (at : ℕ) (list : List Wanted) → ((p : ℕ) → at ≤ p → p < at + 8 * length list → p ≢ x) →
      PointFrom memory from headers at list → PointFrom other from headers at list
  points_same at [] elsewhere p = tt
  points_same at (wanted ∷ rest) elsewhere p = (
    λ w told. p.0 w (sym (same at (elsewhere at (omega arith) (omega arith))) ∙ told),
    points_same (at + 8) rest (λ q above below. elsewhere q (omega arith) (omega arith)) p.1,
  )

  pub a_row_stays_in_a_free_word-points : PointsIntoItself other from headers
  a_row_stays_in_a_free_word-points place at h kind n kind_is =
      let w = an_object_of_a_row_is_whole memory area to from headers to place at h row n in
      let kinds : Some w.kind ≡ Some kind = sym w.kind_is ∙ kind_is in
      let same_kind : w.kind ≡ kind = cc in
      points_same (at + 8) (wanted_words kind h.count)
      (λ p above below. wanted_elsewhere place at h w n p above
      (subst (λ k. p < at + 8 + 8 * length (wanted_words k h.count)) (sym same_kind) below))
      (points place at h kind n kind_is)

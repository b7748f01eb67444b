-- Distinct casts make distinct rows.
use Rattle.std.proofs.Common.{◌≡◌, inl, inr, ℕ, zero, suc, ◌+◌, ◌<◌, List, [], ◌∷◌, ◌++◌, length, take}
use Rattle.std.proofs.Common.{Option}
use Rattle.std.proofs.Common.{Some, None}
use Rattle.std.proofs.Common.{refl, sym, ap, ◌∙◌, subst, arith, slice_get, Contains}
use Rattle.std.specs.Prelude.{option_map}
use Rattle.std.specs.Prelude.{max, slice_index_or}
use Rattle.std.proofs.Math.Seq.{take-suc}
use Rattle.std.proofs.lemmas.List.{map-append}
use Rattle.std.proofs.lemmas.List.Elements.{All-same, All-push, All-weaker}
use Rattle.std.proofs.lemmas.Option.{slice_get-get_or, slice_get-map, slice_get_read, slice_get_within}
use Rattle.std.proofs.lemmas.Option.{get_or_from_slice_get}
use Rattle.grift_base.specs.Tables.{HasNoRepeats, Interns}
use Rattle.coercion_norm.specs.declared.casts.Cast.{Cast}
use Rattle.coercion_norm.specs.declared.cast_rows.CastRow.{CastRow}
use Rattle.grift_base.specs.Types.{TypeRows}
use Rattle.coercion_norm.specs.CoercionTables.{cast_of}
use Rattle.coercion_norm.specs.Nodes.{Node, PartsBefore, Grows, IsTree}
use Rattle.coercion_norm.proofs.Public.{IsTree-kept}
use Rattle.coer_core.specs.Programs.{HaveCoercions, cast_height, tallest_of}
use Rattle.cast_modes.specs.Modes.{TypeCast}
use Rattle.coercion_norm.specs.CastRows.{row_cast, row_casts}
use Rattle.coer_core.specs.Conversion.{cast_view, cast_views}
use Rattle.coer_core.proofs.Joining.{ap2, ap3}

same_view : (a b : Cast) → cast_view a ≡ cast_view b → a ≡ b
same_view a b e =
    ap3 (λ x y z. let c : Cast = record { from = record { 0 = x }; to = record { 0 = y }; label = record { 0 = z } } in
    c)
    (ap (λ (t : TypeCast). t.from) e) (ap (λ (t : TypeCast). t.to) e) (ap (λ (t : TypeCast). t.label) e)

within_take : {A : Type 0} (i : ℕ) (xs : List A) (k : ℕ) → k < length (take i xs) → k < i
within_take zero xs k lt = absurd (omega (arith, lt))
within_take (suc i) [] k lt = absurd (omega (arith, lt))
within_take (suc i) (x ∷ xs) zero lt = omega arith
within_take (suc i) (x ∷ xs) (suc k) lt = let less = within_take i xs k (omega (arith, lt)) in omega (arith, less)

get_take : {A : Type 0} (i : ℕ) (xs : List A) (k : ℕ) → k < i → slice_get (take i xs) k ≡ slice_get xs k
get_take zero xs k lt = absurd (omega (arith, lt))
get_take (suc i) [] k lt = refl
get_take (suc i) (x ∷ xs) zero lt = refl
get_take (suc i) (x ∷ xs) (suc k) lt = get_take i xs k (omega (arith, lt))

was_some : (o : Option Cast) (t : TypeCast) → option_map cast_view o ≡ Some t
    → (c : Cast) × (o ≡ Some c) × (cast_view c ≡ t)
was_some (Some c) t e = (c, refl, inner (cast_view c) t e)
  where
    inner : (a b : TypeCast) → ◌≡◌ {A = Option TypeCast} (Some a) (Some b) → a ≡ b
    inner a b h = cc
was_some None t e = absurd (cc e)

-- none of the casts before a cast is that cast
pub fresh : (casts : List Cast) (i : ℕ) (cast : Cast) → HasNoRepeats casts → slice_get casts i ≡ Some cast
    → ¬ Contains (cast_views (take i casts)) (cast_view cast)
fresh casts i cast apart here (k, lt, e) =
    let at : slice_get (cast_views (take i casts)) k ≡ Some (cast_view cast) =
    slice_get_read (cast_views (take i casts)) (length (cast_views (take i casts))) k (cast_view cast) refl lt
    (sym e) in
    let before : slice_get (take i casts) k ≡ slice_get (take i casts) k = refl in
    let other = was_some (slice_get (take i casts) k) (cast_view cast)
    (sym (slice_get-map cast_view (take i casts) k) ∙ at) in
    let less : k < i = within_take i casts k (slice_get_within (take i casts) k other.0 other.1) in
    let first : slice_get casts k ≡ Some cast =
    sym (get_take i casts k less) ∙ other.1 ∙ ap Some (same_view other.0 cast other.2) in
    let one : k ≡ i = apart k i (slice_get_within casts k cast first) (first ∙ sym here) in
    omega (arith, less, one)

contains_cast : (rows : List CastRow) (row : CastRow) → Contains rows row → Contains (row_casts rows) (row_cast row)
contains_cast rows row (k, lt, e) =
    let at : slice_get (row_casts rows) k ≡ Some (row_cast row) =
    slice_get-map row_cast rows k ∙ ap (option_map row_cast) (slice_get_read rows (length rows) k row refl lt
    (sym e)) in (
      k,
      slice_get_within (row_casts rows) k (row_cast row) at,
      get_or_from_slice_get (row_casts rows) k (row_cast row) (row_cast row) at,
    )

-- a row whose cast is new goes last
pub goes_last : (old : List CastRow) (row : CastRow) (new : List CastRow) → ¬ Contains (row_casts old) (row_cast row)
    → Interns old row new → new ≡ old ++ row ∷ []
goes_last old row new absent (inl h) = absurd (absent (contains_cast old row h.0))
goes_last old row new absent (inr h) = h.1

-- ---- one cast more

pub not_there : (casts : List Cast) (i : ℕ) (d : Cast) (seen : List TypeCast) → HasNoRepeats casts → i < length casts
    → seen ≡ cast_views (take i casts) → ¬ Contains seen (cast_view (slice_index_or casts i d))
not_there casts i d seen apart lt e =
    subst (λ s. ¬ Contains s (cast_view (slice_index_or casts i d))) (sym e)
    (fresh casts i (slice_index_or casts i d) apart (slice_get-get_or casts i d lt))

-- the casts up to the next place
pub one_cast_more : (casts : List Cast) (i : ℕ) (d : Cast) → i < length casts
    → cast_views (take (i + 1) casts) ≡ cast_views (take i casts) ++ cast_view (slice_index_or casts i d) ∷ []
one_cast_more casts i d lt =
    let n : i + 1 ≡ suc i = omega arith in
    ap (λ m. cast_views (take m casts)) n ∙ ap cast_views (take-suc casts i d lt)
    ∙ map-append cast_view (take i casts) (slice_index_or casts i d ∷ [])

-- the tallest of one cast more
pub tallest_more : (types : TypeRows) (casts : List TypeCast) (cast : TypeCast)
    → tallest_of types (casts ++ cast ∷ []) ≡ max (tallest_of types casts) (cast_height types cast)
tallest_more types [] cast = omega arith
tallest_more types (c ∷ casts) cast = let e = tallest_more types casts cast in omega (arith, e)

abbrev IsMade : TypeRows → List Node → CastRow → Type 0
IsMade types nodes row = IsTree nodes row.coercion.0 (cast_of types row.from.0 row.to.0 row.label.0)

-- rows keep their coercions as the table grows, and a row more has its own
pub coercions_kept : (types : TypeRows) (old new : List Node) (rows later : List CastRow) (row : CastRow)
    → PartsBefore old → Grows old new → HaveCoercions types old rows → later ≡ rows ++ row ∷ []
    → IsTree new row.coercion.0 (cast_of types row.from.0 row.to.0 row.label.0) → HaveCoercions types new later
coercions_kept types old new rows later row before grows made e last =
    All-same (IsMade types new) later (rows ++ row ∷ []) e
    (All-push (IsMade types new) rows row
    (All-weaker (IsMade types old) (IsMade types new)
    (λ r is. IsTree-kept old new r.coercion.0 (cast_of types r.from.0 r.to.0 r.label.0) before grows is)
    rows made) last)

-- ---- a turn of the loop over casts

pub no_such : (casts items : List Cast) (i : ℕ) (d : Cast) (seen : List TypeCast) → items ≡ casts → HasNoRepeats casts
    → i < length items → seen ≡ cast_views (take i casts) → ¬ Contains seen (cast_view (slice_index_or items i d))
no_such casts items i d seen e apart lt s =
    subst (λ l. ¬ Contains seen (cast_view (slice_index_or l i d))) (sym e)
    (not_there casts i d seen apart (subst (λ l. i < length l) e lt) s)

pub next_rows : (casts items : List Cast) (i : ℕ) (d : Cast) (rows new : List TypeCast) → items ≡ casts
    → i < length items → rows ≡ cast_views (take i casts) → new ≡ rows ++ cast_view (slice_index_or items i d) ∷ []
    → new ≡ cast_views (take (i + 1) casts)
next_rows casts items i d rows new e lt r n =
    n ∙ ap2 (λ l t. l ++ t ∷ []) r (ap (λ l. cast_view (slice_index_or l i d)) e)
    ∙ sym (one_cast_more casts i d (subst (λ l. i < length l) e lt))

pub next_tallest : (types : TypeRows) (casts items : List Cast) (i : ℕ) (d : Cast) (tallest high next : ℕ)
    → items ≡ casts → i < length items → tallest ≡ tallest_of types (cast_views (take i casts))
    → high ≡ cast_height types (cast_view (slice_index_or items i d)) → next ≡ max tallest high
    → next ≡ tallest_of types (cast_views (take (i + 1) casts))
next_tallest types casts items i d tallest high next e lt t h n =
    n ∙ ap2 max t (h ∙ ap (λ l. cast_height types (cast_view (slice_index_or l i d))) e)
    ∙ sym (ap (tallest_of types) (one_cast_more casts i d (subst (λ l. i < length l) e lt))
    ∙ tallest_more types (cast_views (take i casts)) (cast_view (slice_index_or casts i d)))

-- A row that is put into a table: where it stands, and what the table keeps.
use Rattle.std.proofs.Common.{◌≡◌, ◌⊎◌, inl, inr, ℕ, zero, suc, ◌+◌, ◌<◌, ◌≤◌, max, min, Bool, true, false, cond, List}
use Rattle.std.proofs.Common.{[], ◌∷◌, ◌++◌, length, Option, Some, None, refl, sym, ap, ap₂, ◌∙◌, subst, arith}
use Rattle.std.proofs.Common.{length-append, append-nil, slice_get}
use Rattle.std.specs.Prelude.{option_map, All, Contains}
use Rattle.std.proofs.lemmas.List.Elements.{All-head, All-tail, All-weaker}
use Rattle.std.proofs.lemmas.Option.{slice_get_within, slice_get-get_or}
use Rattle.grift_base.specs.Tables.{HasNoRepeats, Interns}
use Rattle.grift_base.specs.Types.{TypeRow, TypeRows, row_at, parts_of}
use Rattle.type_graph.specs.Forming.{equal_rows, place_where, at_place_or_last, intern}
use Rattle.type_graph.specs.Trees.{row_parts, EndsWithin, PartsFirst, AreFinite, sum_of, size, above_all, height}
use Rattle.type_graph.specs.TypeTables.{HasWidth, HaveWidths, AreLow, MayBePart, FitsTable, IsOrderedTable, IsMeasure}
use Rattle.type_graph.specs.TypeTables.{IsMeasureOfParts, IsKept}
use Rattle.type_graph.specs.TypeTables.{HasMoreRows}
use Rattle.type_graph.specs.declared.tables.Measure.{Measure}
use Rattle.type_graph.specs.declared.tables.TheConstants.{MOST_HEIGHT, SIZE_SHOWN}
use Rattle.grift_base.specs.declared.places.TheConstants.{MOST_ENTRIES}
use Rattle.type_graph.proofs.Places.{none_is_not_some, same_some, contained, get_last, get_before_or_last}
use Rattle.type_graph.proofs.Places.{HasNoRepeats-push}
use Rattle.type_graph.proofs.RowLemmas.{rows_are_equal, row_is_itself}
use Rattle.type_graph.proofs.TreeLemmas.{ends_by_parts, ends_deeper, ends_grown, size_by_parts, height_by_parts}
use Rattle.type_graph.proofs.TreeLemmas.{size_grown, height_grown}

-- ---- the place of a row

found_from : {A : Type 0} (passes : A → Bool) (x : A) (xs : List A) (k : ℕ) (now : Bool) → passes x ≡ now →
    (o : Option ℕ) → ((j : ℕ) → o ≡ Some j → (a : A) × (slice_get xs j ≡ Some a) × (passes a ≡ true)) →
    cond now (Some 0) (option_map suc o) ≡ Some k → (a : A) × (slice_get (x ∷ xs) k ≡ Some a) × (passes a ≡ true)
found_from passes x xs k true p o later e =
    let first : 0 ≡ k = same_some 0 k e in
    (x, ap (λ i. slice_get (x ∷ xs) i) (sym first), p)
found_from passes x xs k false p None later e = absurd (none_is_not_some k e)
found_from passes x xs k false p (Some j) later e =
    let found = later j refl in
    (found.0, subst (λ i. slice_get (x ∷ xs) i ≡ Some found.0) (same_some (suc j) k e) found.1, found.2)

-- at the place that is found there is something that passes
pub place_found : {A : Type 0} (passes : A → Bool) (xs : List A) (k : ℕ) → place_where passes xs ≡ Some k →
    (a : A) × (slice_get xs k ≡ Some a) × (passes a ≡ true)
place_found passes [] k e = absurd (none_is_not_some k e)
place_found passes (x ∷ xs) k e =
    found_from passes x xs k (passes x) refl (place_where passes xs) (λ j f. place_found passes xs j f) e

missing_from : {A : Type 0} (passes : A → Bool) (x a : A) (xs : List A) (now : Bool) → passes x ≡ now → (o : Option ℕ) →
    (o ≡ None → (j : ℕ) → slice_get xs j ≡ Some a → ⊥) → (k : ℕ) → cond now (Some 0) (option_map suc o) ≡ None →
    slice_get (x ∷ xs) k ≡ Some a → passes a ≡ true → ⊥
missing_from passes x a xs true q o later k e f p = cc
missing_from passes x a xs false q (Some j) later k e f p = cc
missing_from passes x a xs false q None later zero e f p =
    let same = same_some x a f in
    let r = ap passes same in
    cc
missing_from passes x a xs false q None later (suc j) e f p = later refl j f

-- where none is found, nothing passes
pub place_missing : {A : Type 0} (passes : A → Bool) (xs : List A) → place_where passes xs ≡ None → (k : ℕ) (a : A) →
    slice_get xs k ≡ Some a → passes a ≡ true → ⊥
place_missing passes [] e k a f p = none_is_not_some a f
place_missing passes (x ∷ xs) e k a f p =
    missing_from passes x a xs (passes x) refl (place_where passes xs)
    (λ none j g. place_missing passes xs none j a g p)
    k e f p

-- A row that is interned, and then stands at a place, has the place and the table that the definition gives.
pub intern-from_Interns : (row : TypeRow) (old new : TypeRows) (place : ℕ) → HasNoRepeats old → Interns old row new →
    row_at new place ≡ Some row → intern row old ≡ (place, new)
intern-from_Interns row old new place apart interns at_place = by_place (place_where (equal_rows row) old) refl interns
  where
    there : (k : ℕ) → place_where (equal_rows row) old ≡ Some k → row_at old k ≡ Some row
    there k e =
        let found = place_found (equal_rows row) old k e in
        found.1 ∙ ap Some (sym (rows_are_equal row found.0 found.2))

    absent : place_where (equal_rows row) old ≡ None → Contains old row → ⊥
    absent e h =
        place_missing (equal_rows row) old e h.0 row (slice_get-get_or old h.0 row h.1 ∙ ap Some h.2)
        (row_is_itself row)

    last : new ≡ old ++ row ∷ [] → (¬ Contains old row) → place ≡ length old
    last e none = by_cases (get_before_or_last old row row place (ap (λ xs. slice_get xs place) (sym e) ∙ at_place))
      where
        by_cases : (slice_get old place ≡ Some row) ⊎ ((place ≡ length old) × (row ≡ row)) → place ≡ length old
        by_cases (inl f) = absurd (none (contained old row place f))
        by_cases (inr f) = f.0

    by_place : (o : Option ℕ) → place_where (equal_rows row) old ≡ o → Interns old row new →
        at_place_or_last o row old ≡ (place, new)
    by_place (Some k) e (inl h) =
        let found_old : row_at old place ≡ Some row = ap (λ xs. slice_get xs place) (sym h.1) ∙ at_place in
        let same : k ≡ place = apart k place (slice_get_within old k row (there k e)) (there k e ∙ sym found_old) in
        ap₂ (λ x y. (x, y)) same (sym h.1)
    by_place (Some k) e (inr h) = absurd (h.0 (contained old row k (there k e)))
    by_place None e (inl h) = absurd (absent e h.0)
    by_place None e (inr h) = ap₂ (λ x y. (x, y)) (sym (last h.1 h.0)) (sym h.1)

-- ---- one row more

before_or_last : (a n : ℕ) → a < suc n → (a < n) ⊎ (a ≡ n)
before_or_last zero zero h = inr refl
before_or_last zero (suc n) h = inl (omega arith)
before_or_last (suc a) zero h = absurd (omega arith)
before_or_last (suc a) (suc n) h = more (before_or_last a n (omega arith))
  where
    more : (a < n) ⊎ (a ≡ n) → (suc a < suc n) ⊎ (suc a ≡ suc n)
    more (inl k) = inl (omega arith)
    more (inr k) = inr (ap suc k)

-- a type and its row in a table with one row more
abbrev InNewRow : TypeRows → TypeRow → ℕ → TypeRow → Type 0
InNewRow types row type other = (row_at types type ≡ Some other) ⊎ ((type ≡ length types) × (row ≡ other))

one_row_more : (types : TypeRows) (row : TypeRow) → length (types ++ row ∷ []) ≡ suc (length types)
one_row_more types row =
    length-append types (row ∷ []) ∙ (let one_more : length types + 1 ≡ suc (length types) = omega arith in one_more)

-- types are trees where a row is put behind a table that has its parts
module _ (types : TypeRows) (row : TypeRow) (finite : AreFinite types)
    (there : All (λ part. part < length types) (parts_of row)) where
  abbrev longer_table : TypeRows
  longer_table = types ++ row ∷ []

  abbrev has_more : HasMoreRows types longer_table
  has_more = (row ∷ [], refl)

  part_there : (part : ℕ) → part < length types → part < length longer_table
  part_there part below = let e = one_row_more types row in omega arith

  ends_longer : (part : ℕ) → part < length types → EndsWithin (length types) longer_table part
  ends_longer part below = ends_grown types longer_table finite.closed has_more (length types) part below
      (finite.ends part below)

  pub AreFinite-push : AreFinite longer_table
  AreFinite-push = record {
    closed = λ type other e. closed_at type other (get_before_or_last types row other type e);
    ends = λ type within. subst (λ n. EndsWithin n longer_table type) (sym (one_row_more types row))
        (ends_at type (before_or_last type (length types) (let e = one_row_more types row in omega arith)));
  }
    where
      closed_at : (type : ℕ) (other : TypeRow) → InNewRow types row type other →
          All (λ part. part < length longer_table) (parts_of other)
      closed_at type other (inl f) =
          All-weaker (λ part. part < length types) (λ part. part < length longer_table) part_there (parts_of other)
          (finite.closed type other f)
      closed_at type other (inr f) =
          subst (λ r. All (λ part. part < length longer_table) (parts_of r)) f.1
          (All-weaker (λ part. part < length types) (λ part. part < length longer_table) part_there
          (parts_of row) there)

      ends_at : (type : ℕ) → (type < length types) ⊎ (type ≡ length types) →
          EndsWithin (suc (length types)) longer_table type
      ends_at type (inl old) = ends_deeper longer_table (length types) type (ends_longer type old)
      ends_at type (inr last) =
          ends_by_parts longer_table (length types) type
          (subst (λ r. All (EndsWithin (length types) longer_table) (row_parts r))
          (sym (ap (λ k. slice_get longer_table k) last ∙ get_last types row))
          (All-weaker (λ part. part < length types) (EndsWithin (length types) longer_table) ends_longer (parts_of row)
          there))

module _ (types : TypeRows) (row : TypeRow) (fits : FitsTable types row) (finite : AreFinite types) where
  abbrev new : TypeRows
  new = types ++ row ∷ []

  -- the parts are there, and low
  there : All (λ part. part < length types) (parts_of row)
  there = All-weaker (MayBePart types) (λ part. part < length types) (λ part h. h.there) (parts_of row) fits.parts

  low_parts : All (λ part. height types part < MOST_HEIGHT) (parts_of row)
  low_parts =
      All-weaker (MayBePart types) (λ part. height types part < MOST_HEIGHT) (λ part h. h.low) (parts_of row) fits.parts

  abbrev longer : HasMoreRows types new
  longer = (row ∷ [], refl)

  pub HaveWidths-push : HaveWidths types → HaveWidths new
  HaveWidths-push widths type other e = by_place (get_before_or_last types row other type e)
    where
      by_place : InNewRow types row type other → HasWidth other
      by_place (inl f) = widths type other f
      by_place (inr f) = subst HasWidth f.1 fits.width

  sums_kept : (parts : List ℕ) → All (λ part. part < length types) parts
      → sum_of (size new) parts ≡ sum_of (size types) parts
  sums_kept [] all = refl
  sums_kept (part ∷ parts) all =
      ap₂ ◌+◌ (size_grown types new finite longer part (All-head (λ x. x < length types) part parts all))
      (sums_kept parts (All-tail (λ x. x < length types) part parts all))

  greatest_kept : (parts : List ℕ) → All (λ part. part < length types) parts →
      above_all (height new) parts ≡ above_all (height types) parts
  greatest_kept [] all = refl
  greatest_kept (part ∷ parts) all =
      ap₂ (λ a b. max (suc a) b) (height_grown types new finite longer part
      (All-head (λ x. x < length types) part parts all))
      (greatest_kept parts (All-tail (λ x. x < length types) part parts all))

  -- size and height of the new type
  pub size-new : size new (length types) ≡ suc (sum_of (size types) (parts_of row))
  size-new =
      size_by_parts new (AreFinite-push types row finite there) (length types)
      (let e = one_row_more types row in omega arith)
      ∙ ap (λ r. suc (sum_of (size new) (row_parts r))) (get_last types row)
      ∙ ap suc (sums_kept (parts_of row) there)

  pub height-new : height new (length types) ≡ above_all (height types) (parts_of row)
  height-new =
      height_by_parts new (AreFinite-push types row finite there) (length types)
      (let e = one_row_more types row in omega arith)
      ∙ ap (λ r. above_all (height new) (row_parts r)) (get_last types row)
      ∙ greatest_kept (parts_of row) there

  not_too_high : (parts : List ℕ) → All (λ part. height types part < MOST_HEIGHT) parts →
      above_all (height types) parts ≤ MOST_HEIGHT
  not_too_high [] all = omega arith
  not_too_high (part ∷ parts) all =
      let head = All-head (λ x. height types x < MOST_HEIGHT) part parts all in
      let rest = not_too_high parts (All-tail (λ x. height types x < MOST_HEIGHT) part parts all) in
      omega arith

  pub AreLow-push : AreLow types → AreLow new
  AreLow-push low type within = by_order
      (before_or_last type (length types) (let e = one_row_more types row in omega arith))
    where
      by_order : (type < length types) ⊎ (type ≡ length types) → height new type ≤ MOST_HEIGHT
      by_order (inl old) =
          subst (λ h. h ≤ MOST_HEIGHT) (sym (height_grown types new finite longer type old)) (low type old)
      by_order (inr last) =
          subst (λ h. h ≤ MOST_HEIGHT) (sym (ap (height new) last ∙ height-new)) (not_too_high (parts_of row) low_parts)

  -- the invariant of a table with one row and its measure more
  pub IsKept-push : (measures : List Measure) (m : Measure) → length measures ≡ length types → IsKept types measures →
      length types < MOST_ENTRIES → IsMeasureOfParts types (parts_of row) m → IsKept new (measures ++ m ∷ [])
  IsKept-push measures m same kept room measure = record {
    most = let e = one_row_more types row in omega arith;
    finite = AreFinite-push types row finite there;
    widths = HaveWidths-push kept.widths;
    low = AreLow-push kept.low;
    measured = λ type n e. by_place type n (get_before_or_last measures m n type e);
  }
    where
      by_place : (type : ℕ) (n : Measure) → (slice_get measures type ≡ Some n) ⊎ ((type ≡ length measures) × (m ≡ n)) →
          IsMeasure new type n
      by_place type n (inl f) =
          let old = kept.measured type n f in
          let within : type < length types = let w = slice_get_within measures type n f in omega arith in
          record {
            height_is = old.height_is ∙ sym (height_grown types new finite longer type within);
            size_is = old.size_is ∙ ap (min SIZE_SHOWN) (sym (size_grown types new finite longer type within));
          }
      by_place type n (inr f) =
          let last : type ≡ length types = f.0 ∙ same in
          subst (λ (k : Measure). IsMeasure new type k) f.1 (record {
            height_is = measure.height_is ∙ sym (ap (height new) last ∙ height-new);
            size_is = measure.size_is ∙ ap (min SIZE_SHOWN) (sym (ap (size new) last ∙ size-new));
          })

-- an interned row leaves a table of types one
pub IsOrderedTable-intern : (types : TypeRows) (row : TypeRow) → IsOrderedTable types → FitsTable types row →
    IsOrderedTable (intern row types).1
IsOrderedTable-intern types row table fits = by_place (place_where (equal_rows row) types) refl
  where
    by_place : (o : Option ℕ) → place_where (equal_rows row) types ≡ o → IsOrderedTable (at_place_or_last o row types).1
    by_place (Some k) e = table
    by_place None e = record {
      distinct = HasNoRepeats-push types row table.distinct
          (λ k f. place_missing (equal_rows row) types e k row f (row_is_itself row));
      finite = AreFinite-push types row table.finite
          (All-weaker (MayBePart types) (λ part. part < length types) (λ part h. h.there) (parts_of row) fits.parts);
      widths = HaveWidths-push types row fits table.finite table.widths;
      low = AreLow-push types row fits table.finite table.low;
    }

-- parts stand before wholes where a row is interned, if they did before
pub PartsFirst-intern : (types : TypeRows) (row : TypeRow) → PartsFirst types → FitsTable types row →
    PartsFirst (intern row types).1
PartsFirst-intern types row first fits = by_place (place_where (equal_rows row) types)
  where
    there : All (λ part. part < length types) (parts_of row)
    there = All-weaker (MayBePart types) (λ part. part < length types) (λ part h. h.there) (parts_of row) fits.parts

    last : (type : ℕ) (other : TypeRow) → InNewRow types row type other → All (λ part. part < type) (parts_of other)
    last type other (inl f) = first type other f
    last type other (inr f) =
        subst (λ r. All (λ part. part < type) (parts_of r)) f.1
        (subst (λ n. All (λ part. part < n) (parts_of row)) (sym f.0) there)

    by_place : (o : Option ℕ) → PartsFirst (at_place_or_last o row types).1
    by_place (Some k) = first
    by_place None = λ type other e. last type other (get_before_or_last types row other type e)

-- an interned row stands at its place
pub row_at-intern : (row : TypeRow) (types : TypeRows) → row_at (intern row types).1 (intern row types).0 ≡ Some row
row_at-intern row types = by_place (place_where (equal_rows row) types) refl
  where
    by_place : (o : Option ℕ) → place_where (equal_rows row) types ≡ o →
        row_at (at_place_or_last o row types).1 (at_place_or_last o row types).0 ≡ Some row
    by_place (Some k) e =
        let found = place_found (equal_rows row) types k e in
        found.1 ∙ ap Some (sym (rows_are_equal row found.0 found.2))
    by_place None e = get_last types row

-- a table has what it had before, where a row is interned
pub intern_adds : (row : TypeRow) (types : TypeRows) → HasMoreRows types (intern row types).1
intern_adds row types = by_place (place_where (equal_rows row) types)
  where
    by_place : (o : Option ℕ) → HasMoreRows types (at_place_or_last o row types).1
    by_place (Some k) = ([], sym (append-nil types))
    by_place None = (row ∷ [], refl)

-- a row that is there is found where it stands
pub intern_there : (row : TypeRow) (types : TypeRows) (place : ℕ) → HasNoRepeats types → row_at types place ≡ Some row →
    intern row types ≡ (place, types)
intern_there row types place apart at =
    intern-from_Interns row types types place apart (inl (contained types row place at, refl)) at

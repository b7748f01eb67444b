-- Types as trees: what is read to a depth is the same at each depth that is deep enough, and where rows are added.
use Rattle.std.proofs.Common.{◌≡◌, ℕ, zero, suc, ◌+◌, ◌<◌, ◌≤◌, max, Bool, true, false, List, [], ◌∷◌, subst}
use Rattle.std.proofs.Common.{◌++◌, length, Option, Some, None, refl, sym, ap, ap₂, ◌∙◌, arith, length-append}
use Rattle.std.proofs.Common.{append-nil, append_assoc}
use Rattle.std.specs.Prelude.{◌&&◌, ◌||◌, All}
use Rattle.std.proofs.lemmas.Bool.{and_parts, eq-eqb, and_from, or_parts}
use Rattle.std.proofs.lemmas.List.Elements.{All-head, All-tail, All-cons, All-weaker}
use Rattle.std.proofs.Common.{get_or}
use Rattle.std.proofs.lemmas.Option.{slice_get_within, slice_get-get_or}
use Rattle.grift_base.specs.Tables.{HasNoRepeats}
use Rattle.grift_base.specs.Types.{TypeRow, TypeRows, row_at, parts_of, same_head}
use Rattle.type_graph.specs.Forming.{equal_numbers}
use Rattle.type_graph.specs.Trees.{row_parts, IsClosed, any_of, deep_to, EndsWithin, AreFinite, sum_of, size_to, size}
use Rattle.type_graph.specs.Trees.{above_all, height_to, height, related, agree_rows, agree_to}
use Rattle.type_graph.specs.Trees.{AreSame}
use Rattle.type_graph.specs.TypeTables.{HasMoreRows}
use Rattle.type_graph.proofs.Places.{slice_get_at, get_kept}
use Rattle.type_graph.proofs.RowLemmas.{rows_are_equal, row_is_itself}

-- ---- tables that grow

pub same_rows : (types : TypeRows) → HasMoreRows types types
same_rows types = ([], sym (append-nil types))

pub more_rows : (a b c : TypeRows) → HasMoreRows a b → HasMoreRows b c → HasMoreRows a c
more_rows a b c f g = (f.0 ++ g.0, g.1 ∙ ap (λ xs. xs ++ g.0) f.1 ∙ append_assoc a f.0 g.0)

pub more_length : (a b : TypeRows) → HasMoreRows a b → length a ≤ length b
more_length a b f = let e = ap length f.1 ∙ length-append a f.0 in omega arith

pub row_stays : (a b : TypeRows) (type : ℕ) (row : TypeRow) → HasMoreRows a b → row_at a type ≡ Some row →
    row_at b type ≡ Some row
row_stays a b type row f e = ap (λ types. row_at types type) f.1 ∙ get_kept a f.0 type row e

pub row_same : (types new : TypeRows) (a : ℕ) → HasMoreRows types new → a < length types → row_at new a ≡ row_at types a
row_same types new a more within =
    let found = slice_get_at types a within in
    row_stays types new a found.0 more found.1 ∙ sym found.1

pub later_within : (a b : TypeRows) (type : ℕ) → HasMoreRows a b → type < length a → type < length b
later_within a b type more below = let m = more_length a b more in omega arith

-- ---- types that end

-- a fact that no part has
pub none_of : (holds : ℕ → Bool) (parts : List ℕ) → any_of holds parts ≡ false → All (λ part. holds part ≡ false) parts
none_of holds [] e = λ k d h. absurd (omega arith)
none_of holds (part ∷ parts) e =
    let both = or_parts (holds part) (any_of holds parts) e in
    All-cons (λ x. holds x ≡ false) part parts both.0 (none_of holds parts both.1)

pub any_of-none : (holds : ℕ → Bool) (parts : List ℕ) → All (λ part. holds part ≡ false) parts → any_of holds parts
    ≡ false
any_of-none holds [] all = refl
any_of-none holds (part ∷ parts) all =
    ap₂ ◌||◌ (All-head (λ x. holds x ≡ false) part parts all)
    (any_of-none holds parts (All-tail (λ x. holds x ≡ false) part parts all))

-- the parts of a type that ends within a depth end within one less
pub parts_end : (types : TypeRows) (depth type : ℕ) → EndsWithin (suc depth) types type →
    All (EndsWithin depth types) (row_parts (row_at types type))
parts_end types depth type e = none_of (λ part. deep_to depth types part) (row_parts (row_at types type)) e

pub ends_by_parts : (types : TypeRows) (depth type : ℕ) → All (EndsWithin depth types) (row_parts (row_at types type)) →
    EndsWithin (suc depth) types type
ends_by_parts types depth type all =
    any_of-none (λ part. deep_to depth types part) (row_parts (row_at types type)) all

-- a type that ends within a depth ends within one more
pub ends_deeper : (types : TypeRows) (depth type : ℕ) → EndsWithin depth types type → EndsWithin (suc depth) types type
ends_deeper types zero type e = cc
ends_deeper types (suc depth) type e =
    ends_by_parts types (suc depth) type
    (All-weaker (EndsWithin depth types) (EndsWithin (suc depth) types) (λ part ends. ends_deeper types depth part ends)
    (row_parts (row_at types type)) (parts_end types depth type e))

-- and within any number more
pub ends_much_deeper : (types : TypeRows) (more depth type : ℕ) → EndsWithin depth types type →
    EndsWithin (more + depth) types type
ends_much_deeper types zero depth type e =
    let same : depth ≡ 0 + depth = omega arith in subst (λ k. EndsWithin k types type) same e
ends_much_deeper types (suc more) depth type e =
    let one_more : suc (more + depth) ≡ suc more + depth = omega arith in
    subst (λ k. EndsWithin k types type) one_more
    (ends_deeper types (more + depth) type (ends_much_deeper types more depth type e))

-- ---- parts

-- the parts of a row are places of the table
pub parts_within : (types : TypeRows) (type : ℕ) (row : TypeRow) → AreFinite types → row_at types type ≡ Some row →
    All (λ part. part < length types) (parts_of row)
parts_within types type row finite e = finite.closed type row e

pub row_parts_within : (types : TypeRows) (type : ℕ) (row : Option TypeRow) → IsClosed types → row_at types type ≡ row →
    All (λ part. part < length types) (row_parts row)
row_parts_within types type (Some row) closed e = closed type row e
row_parts_within types type None closed e = λ k d h. absurd (omega arith)

-- the parts of all rows are places of the table
pub all_parts_within : (types : TypeRows) → AreFinite types →
    All (λ row. All (λ part. part < length types) (parts_of row)) types
all_parts_within types finite k d within =
    parts_within types k (get_or types k d) finite (slice_get-get_or types k d within)

-- ---- at each depth that is deep enough

-- numbers that two functions give to the same parts
sums_same : (f g : ℕ → ℕ) (P : ℕ → Type 0) (xs : List ℕ) → ((s : ℕ) → P s → f s ≡ g s) → All P xs →
    sum_of f xs ≡ sum_of g xs
sums_same f g P [] same all = refl
sums_same f g P (x ∷ xs) same all =
    ap₂ ◌+◌ (same x (All-head P x xs all)) (sums_same f g P xs same (All-tail P x xs all))

greatest_same : (f g : ℕ → ℕ) (P : ℕ → Type 0) (xs : List ℕ) → ((s : ℕ) → P s → f s ≡ g s) → All P xs →
    above_all f xs ≡ above_all g xs
greatest_same f g P [] same all = refl
greatest_same f g P (x ∷ xs) same all =
    ap₂ (λ a b. max (suc a) b) (same x (All-head P x xs all)) (greatest_same f g P xs same (All-tail P x xs all))

-- two facts of the same parts
pub both_of : (P Q : ℕ → Type 0) (xs : List ℕ) → All P xs → All Q xs → All (λ x. P x × Q x) xs
both_of P Q xs one two k d within = (one k d within, two k d within)

module _ (types : TypeRows) where
  -- parts of a type that ends within two depths
  abbrev pub EndsTwice : ℕ → ℕ → ℕ → Type 0
  EndsTwice n m s = EndsWithin n types s × EndsWithin m types s

  pub parts_end_twice : (n m a : ℕ) → EndsWithin (suc n) types a → EndsWithin (suc m) types a →
      All (EndsTwice n m) (row_parts (row_at types a))
  parts_end_twice n m a one two =
      both_of (EndsWithin n types) (EndsWithin m types) (row_parts (row_at types a)) (parts_end types n a one)
      (parts_end types m a two)

  size_steady : (n m a : ℕ) → EndsWithin n types a → EndsWithin m types a → size_to n types a ≡ size_to m types a
  size_steady zero m a one two = cc
  size_steady (suc n) zero a one two = cc
  size_steady (suc n) (suc m) a one two =
      ap suc (sums_same (λ part. size_to n types part) (λ part. size_to m types part) (EndsTwice n m)
      (row_parts (row_at types a)) (λ s both. size_steady n m s both.0 both.1) (parts_end_twice n m a one two))

  height_steady : (n m a : ℕ) → EndsWithin n types a → EndsWithin m types a → height_to n types a ≡ height_to m types a
  height_steady zero m a one two = cc
  height_steady (suc n) zero a one two = cc
  height_steady (suc n) (suc m) a one two =
      greatest_same (λ part. height_to n types part) (λ part. height_to m types part) (EndsTwice n m)
      (row_parts (row_at types a)) (λ s both. height_steady n m s both.0 both.1) (parts_end_twice n m a one two)

  -- a type that ends within a depth is less high
  height_below : (n a : ℕ) → EndsWithin n types a → height_to n types a < n
  height_below zero a e = cc
  height_below (suc n) a e =
      all_low (λ part. height_to n types part) n (row_parts (row_at types a))
      (All-weaker (EndsWithin n types) (λ part. height_to n types part < n) (λ part ends. height_below n part ends)
      (row_parts (row_at types a)) (parts_end types n a e))
    where
      all_low : (f : ℕ → ℕ) (bound : ℕ) (xs : List ℕ) → All (λ x. f x < bound) xs → above_all f xs < suc bound
      all_low f bound [] all = omega arith
      all_low f bound (x ∷ xs) all =
          let head = All-head (λ x. f x < bound) x xs all in
          let rest = all_low f bound xs (All-tail (λ x. f x < bound) x xs all) in
          omega arith

-- each part is less than what is above all
pub below_above_all : (f : ℕ → ℕ) (xs : List ℕ) → All (λ x. f x < above_all f xs) xs
below_above_all f [] = λ k d h. absurd (omega arith)
below_above_all f (x ∷ xs) =
    All-cons (λ y. f y < above_all f (x ∷ xs)) x xs (omega arith)
    (All-weaker (λ y. f y < above_all f xs) (λ y. f y < above_all f (x ∷ xs)) (λ y below. omega arith) xs
    (below_above_all f xs))

module _ (types : TypeRows) (finite : AreFinite types) where
  -- the size of a type is one more than the sizes of its parts
  pub size_by_parts : (a : ℕ) → a < length types →
      size types a ≡ suc (sum_of (size types) (row_parts (row_at types a)))
  size_by_parts a within =
      let ends = finite.ends a within in
      size_steady types (length types) (suc (length types)) a ends (ends_deeper types (length types) a ends)

  -- the height of a type is one more than that of its highest part
  pub height_by_parts : (a : ℕ) → a < length types →
      height types a ≡ above_all (height types) (row_parts (row_at types a))
  height_by_parts a within =
      let ends = finite.ends a within in
      height_steady types (length types) (suc (length types)) a ends (ends_deeper types (length types) a ends)

  -- a type is higher than its parts
  pub parts_lower : (a : ℕ) (row : TypeRow) → row_at types a ≡ Some row →
      All (λ part. height types part < height types a) (parts_of row)
  parts_lower a row at =
      subst (λ h. All (λ part. height types part < h) (parts_of row))
      (sym (height_by_parts a (slice_get_within types a row at) ∙ ap (λ r. above_all (height types) (row_parts r)) at))
      (below_above_all (height types) (parts_of row))

  -- a type is less high than the table is long
  pub height_within : (a : ℕ) → a < length types → height types a < length types
  height_within a within = height_below types (length types) a (finite.ends a within)

-- ---- where rows are added

module _ (types new : TypeRows) (closed : IsClosed types) (more : HasMoreRows types new) where
  size_to_grown : (depth a : ℕ) → a < length types → size_to depth new a ≡ size_to depth types a
  size_to_grown zero a within = refl
  size_to_grown (suc depth) a within =
      ap (λ row. suc (sum_of (λ part. size_to depth new part) (row_parts row))) (row_same types new a more within)
      ∙ ap suc (sums_same (λ part. size_to depth new part) (λ part. size_to depth types part) (λ s. s < length types)
      (row_parts (row_at types a)) (λ s below. size_to_grown depth s below)
      (row_parts_within types a (row_at types a) closed refl))

  height_to_grown : (depth a : ℕ) → a < length types → height_to depth new a ≡ height_to depth types a
  height_to_grown zero a within = refl
  height_to_grown (suc depth) a within =
      ap (λ row. above_all (λ part. height_to depth new part) (row_parts row)) (row_same types new a more within)
      ∙ greatest_same (λ part. height_to depth new part) (λ part. height_to depth types part) (λ s. s < length types)
      (row_parts (row_at types a)) (λ s below. height_to_grown depth s below)
      (row_parts_within types a (row_at types a) closed refl)

  -- a type that ends within a depth still does
  pub ends_grown : (depth a : ℕ) → a < length types → EndsWithin depth types a → EndsWithin depth new a
  ends_grown zero a within e = cc
  ends_grown (suc depth) a within e =
      ends_by_parts new depth a (subst (λ r. All (EndsWithin depth new) (row_parts r))
      (sym (row_same types new a more within))
      (All-weaker (λ s. (s < length types) × EndsWithin depth types s) (EndsWithin depth new)
      (λ s both. ends_grown depth s both.0 both.1) (row_parts (row_at types a))
      (both_of (λ s. s < length types) (EndsWithin depth types) (row_parts (row_at types a))
      (row_parts_within types a (row_at types a) closed refl) (parts_end types depth a e))))

module _ (types new : TypeRows) (finite : AreFinite types) (more : HasMoreRows types new) where
  -- a type of the old table ends within the new one's length, by the old table's rows
  pub ends_within_new : (a : ℕ) → a < length types → EndsWithin (length new) types a
  ends_within_new a within =
      let longer : length more.0 + length types ≡ length new =
      let e = ap length more.1 ∙ length-append types more.0 in omega arith in
      subst (λ k. EndsWithin k types a) longer
      (ends_much_deeper types (length more.0) (length types) a (finite.ends a within))

  -- a type keeps its size and its height where rows are added
  pub size_grown : (a : ℕ) → a < length types → size new a ≡ size types a
  size_grown a within =
      size_to_grown types new finite.closed more (length new) a within
      ∙ size_steady types (length new) (length types) a (ends_within_new a within) (finite.ends a within)

  pub height_grown : (a : ℕ) → a < length types → height new a ≡ height types a
  height_grown a within =
      height_to_grown types new finite.closed more (length new) a within
      ∙ height_steady types (length new) (length types) a (ends_within_new a within) (finite.ends a within)

-- ---- types that agree are one

module _ (types : TypeRows) (distinct : HasNoRepeats types) where
  parts_equal : (f : ℕ → ℕ → Bool) (P : ℕ → Type 0) (xs ys : List ℕ) →
      ((s t : ℕ) → P s → f s t ≡ true → s ≡ t) → All P xs → related f xs ys ≡ true →
      equal_numbers xs ys ≡ true
  parts_equal f P [] [] same all e = refl
  parts_equal f P [] (y ∷ ys) same all e = e
  parts_equal f P (x ∷ xs) [] same all e = e
  parts_equal f P (x ∷ xs) (y ∷ ys) same all e =
      let both = and_parts (f x y) (related f xs ys) e in
      ap₂ ◌&&◌ (eq-eqb x y (same x y (All-head P x xs all) both.0))
      (parts_equal f P xs ys same (All-tail P x xs all) both.1)

  agreeing_rows : (depth a b : ℕ) → ((s t : ℕ) → EndsWithin depth types s → agree_to depth types s t ≡ true → s ≡ t) →
      (row other : Option TypeRow) → row_at types a ≡ row → row_at types b ≡ other →
      All (EndsWithin depth types) (row_parts row) →
      agree_rows (λ s t. agree_to depth types s t) row other ≡ true → a ≡ b
  agreeing_rows depth a b below (Some row) (Some other) one two ends e =
      let parts_agree : Bool = related (λ s t. agree_to depth types s t) (parts_of row) (parts_of other) in
      let both = and_parts (same_head row other) parts_agree e in
      let parts = parts_equal (λ s t. agree_to depth types s t) (EndsWithin depth types) (parts_of row) (parts_of other)
      below ends both.1 in
      let same = rows_are_equal row other
      (and_from (same_head row other) (equal_numbers (parts_of row) (parts_of other)) both.0 parts) in
      distinct a b (slice_get_within types a row one) (one ∙ ap Some same ∙ sym two)
  agreeing_rows depth a b below (Some row) None one two ends e = cc
  agreeing_rows depth a b below None other one two ends e = cc

  -- types that agree down to a depth within which one of them ends are one
  pub agreeing_types_are_one : (depth a b : ℕ) → EndsWithin depth types a → agree_to depth types a b ≡ true → a ≡ b
  agreeing_types_are_one zero a b ends e = cc
  agreeing_types_are_one (suc depth) a b ends e =
      agreeing_rows depth a b (λ s t end f. agreeing_types_are_one depth s t end f)
      (row_at types a) (row_at types b) refl refl (parts_end types depth a ends) e

-- two types of a table that are the same are one
pub same_types_are_one : (types : TypeRows) → HasNoRepeats types → AreFinite types → (a b : ℕ) → AreSame types a b →
    a ≡ b
same_types_are_one types distinct finite a b same = by_row (row_at types a) refl
  where
    by_row : (row : Option TypeRow) → row_at types a ≡ row → a ≡ b
    by_row (Some row) at =
        agreeing_types_are_one types distinct (length types) a b (finite.ends a (slice_get_within types a row at))
        (same (length types))
    by_row None at =
        let never = sym (ap (λ r. agree_rows (λ s t. true) r (row_at types b)) at) ∙ same 1 in
        cc

module _ (types : TypeRows) (closed : IsClosed types) where
  parts_agree : (f : ℕ → ℕ → Bool) (bound : ℕ) (xs : List ℕ) → ((s : ℕ) → s < bound → f s s ≡ true) →
      All (λ x. x < bound) xs → related f xs xs ≡ true
  parts_agree f bound [] same all = refl
  parts_agree f bound (x ∷ xs) same all =
      ap₂ ◌&&◌ (same x (All-head (λ x. x < bound) x xs all))
      (parts_agree f bound xs same (All-tail (λ x. x < bound) x xs all))

  agrees_by_row : (depth a : ℕ) (row : TypeRow) → row_at types a ≡ Some row →
      ((s : ℕ) → s < length types → agree_to depth types s s ≡ true) → agree_to (suc depth) types a a ≡ true
  agrees_by_row depth a row e parts =
      let equal = and_parts (same_head row row) (equal_numbers (parts_of row) (parts_of row)) (row_is_itself row) in
      ap (λ r. agree_rows (λ s t. agree_to depth types s t) r r) e
      ∙ and_from (same_head row row) (related (λ s t. agree_to depth types s t) (parts_of row) (parts_of row)) equal.0
      (parts_agree (λ s t. agree_to depth types s t) (length types) (parts_of row) parts (closed a row e))

  -- a type agrees with itself
  pub type_agrees_with_itself : (depth a : ℕ) → a < length types → agree_to depth types a a ≡ true
  type_agrees_with_itself zero a within = refl
  type_agrees_with_itself (suc depth) a within =
      let found = slice_get_at types a within in
      agrees_by_row depth a found.0 found.1 (λ s below. type_agrees_with_itself depth s below)

-- ---- one part more

pub above_all-push : (f : ℕ → ℕ) (xs : List ℕ) (x : ℕ) → above_all f (xs ++ x ∷ []) ≡ max (above_all f xs) (f x + 1)
above_all-push f [] x = omega arith
above_all-push f (y ∷ xs) x = let rest = above_all-push f xs x in omega arith

pub sum_of-push : (f : ℕ → ℕ) (xs : List ℕ) (x : ℕ) → sum_of f (xs ++ x ∷ []) ≡ sum_of f xs + f x
sum_of-push f [] x = omega arith
sum_of-push f (y ∷ xs) x = let rest = sum_of-push f xs x in omega arith

-- Blends that are formed are as they should be.
use Rattle.std.proofs.Common.{◌≡◌, ℕ, zero, suc, ◌<◌, Bool, true, false, List, [], ◌∷◌, length}
use Rattle.std.proofs.Common.{Some, refl, sym, ap, ap₂, ◌∙◌, subst, arith, append-nil}
use Rattle.std.specs.Prelude.{All}
use Rattle.std.proofs.lemmas.List.Elements.{All-head, All-tail, All-cons, All-nil, All-weaker}
use Rattle.grift_base.specs.declared.places.TypeId.{TypeId}
use Rattle.grift_base.specs.Types.{TypeRow, TypeRows, row_at, parts_of, is_dyn}
use Rattle.type_graph.specs.Rows.{places_of}
use Rattle.type_graph.specs.Forming.{intern}
use Rattle.type_graph.specs.Trees.{row_parts, IsClosed, EndsWithin, AreFinite, related}
use Rattle.type_graph.specs.TypeTables.{HasMoreRows, IsOrderedTable}
use Rattle.type_graph.proofs.Public.{slice_get_at, same_rows, more_rows, later_within}
use Rattle.type_graph.proofs.Public.{parts_end, ends_grown, IsOrderedTable-intern, row_at-intern, intern_adds}
use Rattle.consistency.specs.declared.pairs.Pair.{Pair}
use Rattle.consistency.specs.Consistency.{consistent}
use Rattle.consistency.specs.Blending.{with_parts, blend_each, blend_rows, blend_to, blend}
use Rattle.consistency.specs.Known.{MayBlend, IsFormed, EachFormed, FormsBlend}
use Rattle.consistency.specs.Pairs.{firsts, seconds}
use Rattle.consistency.proofs.ConsistentLemmas.{consistent_kept}
use Rattle.consistency.proofs.BlendLemmas.{IsFormed-grown, plain_blend, plain_consistent, All-MayBlend, both_fits}
use Rattle.consistency.proofs.BlendLemmas.{pairs_of_parts_fit}
use Rattle.consistency.proofs.BlendLemmas.{have_blended_parts}
use Rattle.consistency.proofs.BlendLemmas.{IsFormed-both, IsFormed-first, IsFormed-second, heads_have_one_width}

-- ---- numbers as places

abbrev id_of : ℕ → TypeId
id_of n = record { 0 = n }

abbrev ids : List ℕ → List TypeId
ids [] = []
ids (n ∷ ns) = id_of n ∷ ids ns

places_of-ids : (ns : List ℕ) → places_of (ids ns) ≡ ns
places_of-ids [] = refl
places_of-ids (n ∷ ns) = ap (λ l. n ∷ l) (places_of-ids ns)

abbrev pair_up : List ℕ → List ℕ → List Pair
pair_up [] ys = []
pair_up (x ∷ xs) [] = []
pair_up (x ∷ xs) (y ∷ ys) = record { first = id_of x; second = id_of y } ∷ pair_up xs ys

firsts-pair_up : (xs ys : List ℕ) → length xs ≡ length ys → firsts (pair_up xs ys) ≡ xs
firsts-pair_up [] ys e = refl
firsts-pair_up (x ∷ xs) [] e = absurd (omega arith)
firsts-pair_up (x ∷ xs) (y ∷ ys) e = ap (λ l. x ∷ l) (firsts-pair_up xs ys (omega arith))

seconds-pair_up : (xs ys : List ℕ) → length xs ≡ length ys → seconds (pair_up xs ys) ≡ ys
seconds-pair_up [] [] e = refl
seconds-pair_up [] (y ∷ ys) e = absurd (omega arith)
seconds-pair_up (x ∷ xs) [] e = absurd (omega arith)
seconds-pair_up (x ∷ xs) (y ∷ ys) e = ap (λ l. y ∷ l) (seconds-pair_up xs ys (omega arith))

-- ---- parts

-- what stays of pairs that may be blended where rows are added
MayBlend-grown : (types new : TypeRows) (pairs : List Pair) → AreFinite types → HasMoreRows types new →
    All (MayBlend types) pairs → All (MayBlend new) pairs
MayBlend-grown types new pairs finite more all =
    All-weaker (MayBlend types) (MayBlend new) (λ pair may. record {
      first_there = later_within types new pair.first.0 more may.first_there;
      second_there = later_within types new pair.second.0 more may.second_there;
      consistent_pair =
          consistent_kept types new finite more pair.first.0 pair.second.0 may.first_there may.second_there
          ∙ may.consistent_pair;
    }) pairs all

-- and their first types end within a depth still
firsts_end : (depth : ℕ) (types new : TypeRows) (pairs : List Pair) → IsClosed types → HasMoreRows types new →
    All (MayBlend types) pairs → All (EndsWithin depth types) (firsts pairs) → All (EndsWithin depth new) (firsts pairs)
firsts_end depth types new [] closed more may deep = All-nil (EndsWithin depth new)
firsts_end depth types new (pair ∷ pairs) closed more may deep =
    All-cons (EndsWithin depth new) pair.first.0 (firsts pairs)
    (ends_grown types new closed more depth pair.first.0 (All-head (MayBlend types) pair pairs may).first_there
    (All-head (EndsWithin depth types) pair.first.0 (firsts pairs) deep))
    (firsts_end depth types new pairs closed more (All-tail (MayBlend types) pair pairs may)
    (All-tail (EndsWithin depth types) pair.first.0 (firsts pairs) deep))

abbrev FormsBlends : ℕ → Type 0
FormsBlends depth =
    (types : TypeRows) (a b : ℕ) → IsOrderedTable types → a < length types → b < length types →
    consistent types a b ≡ true → EndsWithin depth types a → FormsBlend types a b (blend_to depth a b types)

abbrev FormsEach : TypeRows → List Pair → List ℕ × TypeRows → Type 0
FormsEach types pairs outcome =
    IsOrderedTable outcome.1 × HasMoreRows types outcome.1 × EachFormed outcome.1 pairs (ids outcome.0)

each_forms : (depth : ℕ) → FormsBlends depth → (pairs : List Pair) (types : TypeRows) → IsOrderedTable types →
    All (MayBlend types) pairs → All (EndsWithin depth types) (firsts pairs) →
    FormsEach types pairs (blend_each (blend_to depth) (firsts pairs) (seconds pairs) types)
each_forms depth forms [] types table may deep = (table, same_rows types, tt)
each_forms depth forms (pair ∷ pairs) types table may deep =
    let a : ℕ = pair.first.0 in
    let b : ℕ = pair.second.0 in
    let head = All-head (MayBlend types) pair pairs may in
    let others = All-tail (MayBlend types) pair pairs may in
    let one = forms types a b table head.first_there head.second_there head.consistent_pair
    (All-head (EndsWithin depth types) a (firsts pairs) deep) in
    let middle : TypeRows = (blend_to depth a b types).1 in
    let rest = each_forms depth forms pairs middle one.table
    (MayBlend-grown types middle pairs table.finite one.grown others)
    (firsts_end depth types middle pairs table.finite.closed one.grown others
    (All-tail (EndsWithin depth types) a (firsts pairs) deep)) in
    let last : TypeRows = (blend_each (blend_to depth) (firsts pairs) (seconds pairs) middle).1 in (
      rest.0,
      more_rows types middle last one.grown rest.1,
      (IsFormed-grown middle last a b (blend_to depth a b types).0 one.table.finite rest.1 one.formed, rest.2),
    )

-- ---- rows

-- an outcome that is known
outcome_is : (types : TypeRows) (a b : ℕ) (outcome known : ℕ × TypeRows) → outcome ≡ known →
    FormsBlend types a b known →
    FormsBlend types a b outcome
outcome_is types a b outcome known e h = subst (λ (o : ℕ × TypeRows). FormsBlend types a b o) (sym e) h

module _ (depth : ℕ) (forms : FormsBlends depth) (types : TypeRows) (a b : ℕ) (table : IsOrderedTable types)
    (a_there : a < length types) (b_there : b < length types) (h : consistent types a b ≡ true)
    (deep : EndsWithin (suc depth) types a) (row other : TypeRow) (at_a : row_at types a ≡ Some row)
    (at_b : row_at types b ≡ Some other) where
  -- the blend is there already
  there_already : (c : ℕ) → IsFormed types a b c → FormsBlend types a b (blend_to (suc depth) a b types)
  there_already c formed =
      outcome_is types a b (blend_to (suc depth) a b types) (c, types)
      (subst (λ (rows : TypeRows). EndsWithin (suc depth) rows a → blend_to (suc depth) a b rows ≡ (c, rows))
      (append-nil types) (formed.again [] (suc depth)) deep)
      (record { table = table; grown = same_rows types; formed = formed })

  plain_forms : is_dyn row ≡ false → is_dyn other ≡ false → FormsBlend types a b (blend_to (suc depth) a b types)
  plain_forms row_plain other_plain =
      let parts = plain_consistent types a b row other table.finite a_there at_a at_b row_plain other_plain h in
      let xs : List ℕ = parts_of row in
      let ys : List ℕ = parts_of other in
      let lengths = heads_have_one_width row other parts.0 in
      let pairs : List Pair = pair_up xs ys in
      let left : firsts pairs ≡ xs = firsts-pair_up xs ys lengths in
      let right : seconds pairs ≡ ys = seconds-pair_up xs ys lengths in
      let fit = pairs_of_parts_fit types table.finite a b row other pairs at_a at_b left right in
      let may = All-MayBlend types pairs fit.1 (ap₂ (λ l m. related (consistent types) l m) left right ∙ parts.1) in
      let parts_deep : All (EndsWithin depth types) (firsts pairs) =
      subst (λ (l : List ℕ). All (EndsWithin depth types) l) (ap row_parts at_a ∙ sym left)
      (parts_end types depth a deep) in
      let each = each_forms depth forms pairs types table may parts_deep in
      let done : List ℕ × TypeRows = blend_each (blend_to depth) (firsts pairs) (seconds pairs) types in
      let middle : TypeRows = done.1 in
      let cs : List TypeId = ids done.0 in
      let both : TypeRow = with_parts row (places_of cs) in
      let known = have_blended_parts types middle a b row other pairs cs table.finite a_there at_a at_b row_plain
      other_plain h each.1 left right each.2 in
      let fits = both_fits middle a b row other pairs cs each.0 known in
      let formed =
      IsFormed-both middle a b row other pairs cs each.0 known (intern both middle).1 (intern both middle).0
      (IsOrderedTable-intern middle both each.0 fits) (intern_adds both middle) (row_at-intern both middle) in
      outcome_is types a b (blend_to (suc depth) a b types) (intern both middle)
      (ap₂ (λ r o. blend_rows (blend_to depth) a b r o types) at_a at_b
      ∙ plain_blend (blend_to depth) a b row other types row_plain other_plain
      ∙ ap₂ (λ l m. intern (with_parts row (blend_each (blend_to depth) l m types).0)
      (blend_each (blend_to depth) l m types).1) (sym left) (sym right)
      ∙ ap (λ l. intern (with_parts row l) middle) (sym (places_of-ids done.0)))
      (record {
        table = IsOrderedTable-intern middle both each.0 fits;
        grown = more_rows types middle (intern both middle).1 each.1 (intern_adds both middle);
        formed = formed;
      })

  by_dyn : (d e : Bool) → is_dyn row ≡ d → is_dyn other ≡ e → FormsBlend types a b (blend_to (suc depth) a b types)
  by_dyn true e row_dyn other_is = there_already a (IsFormed-first types a b row other at_a at_b row_dyn)
  by_dyn false true row_plain other_dyn =
      there_already b (IsFormed-second types a b row other at_a at_b row_plain other_dyn)
  by_dyn false false row_plain other_plain = plain_forms row_plain other_plain

-- with fuel enough
blend_to_forms : (depth : ℕ) → FormsBlends depth
blend_to_forms zero types a b table one two h deep = cc
blend_to_forms (suc depth) types a b table one two h deep =
    let at_a = slice_get_at types a one in
    let at_b = slice_get_at types b two in
    by_dyn depth (blend_to_forms depth) types a b table one two h deep at_a.0 at_b.0 at_a.1 at_b.1 (is_dyn at_a.0)
    (is_dyn at_b.0) refl refl

pub blend_forms : (types : TypeRows) (a b : ℕ) → IsOrderedTable types → a < length types → b < length types →
    consistent types a b ≡ true → FormsBlend types a b (blend a b types)
blend_forms types a b table one two h =
    blend_to_forms (length types) types a b table one two h (table.finite.ends a one)

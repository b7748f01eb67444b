-- Blends of rows and of parts, and what stays of them where rows are added.
use Rattle.std.proofs.Common.{◌≡◌, ℕ, zero, suc, ◌+◌, ◌-◌, ◌<◌, ◌≤◌, max, Bool, true, false, cond, List}
use Rattle.std.proofs.Common.{[], ◌∷◌, ◌++◌, length, take, get_or, Option, Some, None, refl, sym, ap, ap₂, ◌∙◌}
use Rattle.std.proofs.Common.{subst, arith, append_assoc, length-append}
use Rattle.std.specs.Prelude.{◌||◌, All, MatchBool, option_map, slice_index}
use Rattle.std.proofs.lemmas.Bool.{and_parts, eqb-true, eq-eqb}
use Rattle.std.proofs.lemmas.List.{map_more, length-map, take_more, take_all, length-take-le, map-append}
use Rattle.std.proofs.lemmas.List.Elements.{All-head, All-tail, All-cons, All-nil}
use Rattle.std.proofs.Common.{rules}
use Rattle.std.proofs.lemmas.Option.{slice_get_within}
use Rattle.grift_base.specs.Tables.{HasNoRepeats}
use Rattle.grift_base.specs.declared.places.TypeId.{TypeId}
use Rattle.grift_base.specs.Types.{TypeRow, TypeRows, IntRow, BoolRow, UnitRow, DynRow, FunRow, TupleRow, RefRow}
use Rattle.grift_base.specs.Types.{VectRow, row_at, parts_of, is_dyn, same_head}
use Rattle.type_graph.specs.Rows.{places_of}
use Rattle.type_graph.specs.Forming.{Forming, formed, intern, place_where, at_place_or_last, equal_rows}
use Rattle.type_graph.specs.Trees.{EndsWithin, AreFinite, related, height, above_all, row_parts}
use Rattle.type_graph.specs.TypeTables.{HasMoreRows, MayBePart, HasWidth, FitsTable, IsOrderedTable}
use Rattle.type_graph.specs.declared.tables.TheConstants.{MOST_HEIGHT}
use Rattle.type_graph.proofs.Public.{none_is_not_some, get_kept, row_stays}
use Rattle.type_graph.proofs.Public.{later_within, parts_end, height_grown, height_by_parts, place_found}
use Rattle.type_graph.proofs.Public.{place_missing, rows_are_equal, row_is_itself, each_entry-insert}
use Rattle.type_graph.proofs.Public.{parts_within, parts_lower, above_all-most, same_some}
use Rattle.consistency.specs.declared.pairs.Pair.{Pair}
use Rattle.std.specs.HashMap.{get}
use Rattle.consistency.specs.contracts.pairs.PairPartialEq.TheImpl.{ghosts}
use Rattle.consistency.specs.Consistency.{consistent}
use Rattle.consistency.specs.Blending.{with_parts, blend_each, blend_rows, blend_to, AllBlend, IsBlendTo}
use Rattle.consistency.specs.Known.{Blends, MayBlend, IsFormed, AreFormed, EachFormed}
use Rattle.consistency.specs.Pairs.{AreThere, firsts, seconds}
use Rattle.consistency.proofs.ConsistentLemmas.{plain_pair}

-- ---- rows with other parts

-- a list is what stands before its last element, and that
split_at_last : (xs : List ℕ) (n : ℕ) → length xs ≡ suc n →
    take (length xs - 1) xs ++ slice_index xs (length xs - 1) ∷ [] ≡ xs
split_at_last xs n e =
    let last : length xs - 1 ≡ n = omega arith in
    ap (λ k. take k xs ++ slice_index xs k ∷ []) last
    ∙ sym (take_more xs n 0 (omega arith)) ∙ take_all (n + 1) xs (omega arith)

one_part : (xs : List ℕ) → length xs ≡ 1 → slice_index xs 0 ∷ [] ≡ xs
one_part [] e = absurd (omega arith)
one_part (x ∷ []) e = refl
one_part (x ∷ y ∷ xs) e = absurd (omega arith)

no_parts : (xs : List ℕ) → length xs ≡ 0 → [] ≡ xs
no_parts [] e = refl
no_parts (x ∷ xs) e = absurd (omega arith)

function_parts : (parameters : List ℕ) (answer : ℕ) → length (parameters ++ answer ∷ []) ≡ suc (length parameters)
function_parts parameters answer =
    length-append parameters (answer ∷ [])
    ∙ (let one_more : length parameters + 1 ≡ suc (length parameters) = omega arith in one_more)

-- the parts of a row with other parts are these
pub parts_of-with_parts : (row : TypeRow) (parts : List ℕ) → length parts ≡ length (parts_of row) →
    parts_of (with_parts row parts) ≡ parts
parts_of-with_parts IntRow parts e = no_parts parts e
parts_of-with_parts BoolRow parts e = no_parts parts e
parts_of-with_parts UnitRow parts e = no_parts parts e
parts_of-with_parts DynRow parts e = no_parts parts e
parts_of-with_parts (FunRow parameters answer) parts e =
    split_at_last parts (length parameters) (e ∙ function_parts parameters answer)
parts_of-with_parts (TupleRow own) parts e = refl
parts_of-with_parts (RefRow content) parts e = one_part parts e
parts_of-with_parts (VectRow content) parts e = one_part parts e

before_last_length : (parameters : List ℕ) (answer : ℕ) (parts : List ℕ) →
    length parts ≡ length (parameters ++ answer ∷ []) → length (take (length parts - 1) parts) ≡ length parameters
before_last_length parameters answer parts e =
    let whole = function_parts parameters answer in
    length-take-le (length parts - 1) parts (omega arith)
    ∙ (let one_less : length parts - 1 ≡ length parameters = omega arith in one_less)

-- a row with other parts has its head
pub same_head-with_parts : (row : TypeRow) (parts : List ℕ) → length parts ≡ length (parts_of row) →
    same_head row (with_parts row parts) ≡ true
same_head-with_parts IntRow parts e = refl
same_head-with_parts BoolRow parts e = refl
same_head-with_parts UnitRow parts e = refl
same_head-with_parts DynRow parts e = refl
same_head-with_parts (FunRow parameters answer) parts e =
    eq-eqb (length parameters) (length (take (length parts - 1) parts))
    (sym (before_last_length parameters answer parts e))
same_head-with_parts (TupleRow own) parts e = eq-eqb (length own) (length parts) (sym e)
same_head-with_parts (RefRow content) parts e = refl
same_head-with_parts (VectRow content) parts e = refl

pub HasWidth-with_parts : (row : TypeRow) (parts : List ℕ) → length parts ≡ length (parts_of row) → HasWidth row →
    HasWidth (with_parts row parts)
HasWidth-with_parts IntRow parts e h = tt
HasWidth-with_parts BoolRow parts e h = tt
HasWidth-with_parts UnitRow parts e h = tt
HasWidth-with_parts DynRow parts e h = tt
HasWidth-with_parts (FunRow parameters answer) parts e h =
    let same = before_last_length parameters answer parts e in omega arith
HasWidth-with_parts (TupleRow own) parts e h = (omega (arith, h.0, e), omega (arith, h.1, e))
HasWidth-with_parts (RefRow content) parts e h = tt
HasWidth-with_parts (VectRow content) parts e h = tt

-- rows with one head: the second has as many parts
pub heads_have_one_width : (row other : TypeRow) → same_head row other ≡ true →
    length (parts_of row) ≡ length (parts_of other)
heads_have_one_width IntRow IntRow e = refl
heads_have_one_width BoolRow BoolRow e = refl
heads_have_one_width UnitRow UnitRow e = refl
heads_have_one_width DynRow DynRow e = refl
heads_have_one_width (FunRow xs x) (FunRow ys y) e =
    let same = eqb-true (length xs) (length ys) e in
    function_parts xs x ∙ ap suc same ∙ sym (function_parts ys y)
heads_have_one_width (TupleRow xs) (TupleRow ys) e = eqb-true (length xs) (length ys) e
heads_have_one_width (RefRow x) (RefRow y) e = refl
heads_have_one_width (VectRow x) (VectRow y) e = refl
heads_have_one_width row other e = cc

same_heads-symmetric : (row other : TypeRow) → same_head row other ≡ true → (parts : List ℕ) →
    length parts ≡ length (parts_of row) → same_head other (with_parts row parts) ≡ true
same_heads-symmetric IntRow IntRow e parts k = refl
same_heads-symmetric BoolRow BoolRow e parts k = refl
same_heads-symmetric UnitRow UnitRow e parts k = refl
same_heads-symmetric DynRow DynRow e parts k = refl
same_heads-symmetric (FunRow xs x) (FunRow ys y) e parts k =
    eq-eqb (length ys) (length (take (length parts - 1) parts))
    (sym (eqb-true (length xs) (length ys) e) ∙ sym (before_last_length xs x parts k))
same_heads-symmetric (TupleRow xs) (TupleRow ys) e parts k =
    eq-eqb (length ys) (length parts) (sym (eqb-true (length xs) (length ys) e) ∙ sym k)
same_heads-symmetric (RefRow x) (RefRow y) e parts k = refl
same_heads-symmetric (VectRow x) (VectRow y) e parts k = refl
same_heads-symmetric row other e parts k = cc

-- ---- blends where rows are added

match_more : (b : Bool) (P Q R : Type 0) → (Q → R) → MatchBool b P Q → MatchBool b P R
match_more true P Q R f h = h
match_more false P Q R f h = f h

all_more : (F G : ℕ → ℕ → ℕ → Type 0) (xs ys zs : List ℕ) → ((s t u : ℕ) → F s t u → G s t u) →
    AllBlend F xs ys zs → AllBlend G xs ys zs
all_more F G [] ys zs up k = k
all_more F G (x ∷ xs) ys zs up k = (k.0, k.1, k.2, k.3, k.4, k.5, up x k.0 k.2 k.6, all_more F G xs k.1 k.3 up k.7)

blend_stays : (depth : ℕ) (types new : TypeRows) (a b c : ℕ) → HasMoreRows types new → IsBlendTo depth types a b c →
    IsBlendTo depth new a b c
blend_stays zero types new a b c more h = tt
blend_stays (suc depth) types new a b c more h = (
  h.0,
  h.1,
  h.2,
  row_stays types new a h.0 more h.3,
  row_stays types new b h.1 more h.4,
  row_stays types new c h.2 more h.5,
  match_more (is_dyn h.0 || is_dyn h.1) (h.2 ≡ DynRow)
      ((same_head h.0 h.2 ≡ true) × (same_head h.1 h.2 ≡ true)
      × AllBlend (IsBlendTo depth types) (parts_of h.0) (parts_of h.1) (parts_of h.2))
      ((same_head h.0 h.2 ≡ true) × (same_head h.1 h.2 ≡ true)
      × AllBlend (IsBlendTo depth new) (parts_of h.0) (parts_of h.1) (parts_of h.2))
      (λ k. (
        k.0,
        k.1,
        all_more (IsBlendTo depth types) (IsBlendTo depth new) (parts_of h.0) (parts_of h.1)
            (parts_of h.2) (λ s t u j. blend_stays depth types new s t u more j) k.2,
      )) h.6,
)

-- a blend that is there stays there
pub IsFormed-grown : (types new : TypeRows) (a b c : ℕ) → AreFinite types → HasMoreRows types new →
    IsFormed types a b c → IsFormed new a b c
IsFormed-grown types new a b c finite more h =
    let top = h.blends 1 in
    let a_within = slice_get_within types a top.0 top.3 in
    let b_within = slice_get_within types b top.1 top.4 in
    record {
      there = later_within types new c more h.there;
      again = λ later depth deep.
          let here = ap (λ rows. rows ++ later) more.1 ∙ append_assoc types more.0 later in
          subst (λ (rows : TypeRows). EndsWithin depth rows a → blend_to depth a b rows ≡ (c, rows)) (sym here)
          (h.again (more.0 ++ later) depth) deep;
      blends = λ depth. blend_stays depth types new a b c more (h.blends depth);
      low =
          let at_a = height_grown types new finite more a a_within in
          let at_b = height_grown types new finite more b b_within in
          let at_c = height_grown types new finite more c h.there in
          let low = h.low in
          omega arith;
    }

pub EachFormed-grown : (types new : TypeRows) (pairs : List Pair) (cs : List TypeId) → AreFinite types →
    HasMoreRows types new → EachFormed types pairs cs → EachFormed new pairs cs
EachFormed-grown types new [] [] finite more h = tt
EachFormed-grown types new [] (c ∷ cs) finite more h = h
EachFormed-grown types new (pair ∷ pairs) [] finite more h = h
EachFormed-grown types new (pair ∷ pairs) (c ∷ cs) finite more h = (
  IsFormed-grown types new pair.first.0 pair.second.0 c.0 finite more h.0,
  EachFormed-grown types new pairs cs finite more h.1,
)

pub EachFormed-push : (types : TypeRows) (pairs : List Pair) (cs : List TypeId) (pair : Pair) (c : TypeId) →
    EachFormed types pairs cs → IsFormed types pair.first.0 pair.second.0 c.0 →
    EachFormed types (pairs ++ pair ∷ []) (cs ++ c ∷ [])
EachFormed-push types [] [] pair c h one = (one, tt)
EachFormed-push types [] (d ∷ cs) pair c h one = absurd h
EachFormed-push types (p ∷ pairs) [] pair c h one = absurd h
EachFormed-push types (p ∷ pairs) (d ∷ cs) pair c h one = (h.0, EachFormed-push types pairs cs pair c h.1 one)

pub EachFormed-length : (types : TypeRows) (pairs : List Pair) (cs : List TypeId) → EachFormed types pairs cs →
    length (places_of cs) ≡ length (firsts pairs)
EachFormed-length types [] [] h = refl
EachFormed-length types [] (c ∷ cs) h = absurd h
EachFormed-length types (pair ∷ pairs) [] h = absurd h
EachFormed-length types (pair ∷ pairs) (c ∷ cs) h = ap suc (EachFormed-length types pairs cs h.1)

-- parts that were blended are blends
AllBlend-from_EachFormed : (depth : ℕ) (types : TypeRows) (pairs : List Pair) (cs : List TypeId) →
    EachFormed types pairs cs → AllBlend (IsBlendTo depth types) (firsts pairs) (seconds pairs) (places_of cs)
AllBlend-from_EachFormed depth types [] [] h = (refl, refl)
AllBlend-from_EachFormed depth types [] (c ∷ cs) h = absurd h
AllBlend-from_EachFormed depth types (pair ∷ pairs) [] h = absurd h
AllBlend-from_EachFormed depth types (pair ∷ pairs) (c ∷ cs) h = (
  pair.second.0,
  seconds pairs,
  c.0,
  places_of cs,
  refl,
  refl,
  h.0.blends depth,
  AllBlend-from_EachFormed depth types pairs cs h.1,
)

-- parts that were blended are blended to the same once more
each_again : (depth : ℕ) (types more : TypeRows) (pairs : List Pair) (cs : List TypeId) →
    EachFormed types pairs cs → All (EndsWithin depth (types ++ more)) (firsts pairs) →
    blend_each (blend_to depth) (firsts pairs) (seconds pairs) (types ++ more) ≡ (places_of cs, types ++ more)
each_again depth types more [] [] h deep = refl
each_again depth types more [] (c ∷ cs) h deep = absurd h
each_again depth types more (pair ∷ pairs) [] h deep = absurd h
each_again depth types more (pair ∷ pairs) (c ∷ cs) h deep =
    let ends : ℕ → Type 0 = EndsWithin depth (types ++ more) in
    let head = h.0.again more depth (All-head ends pair.first.0 (firsts pairs) deep) in
    let rest = each_again depth types more pairs cs h.1 (All-tail ends pair.first.0 (firsts pairs) deep) in
    ap (λ (done : ℕ × TypeRows). (
      done.0 ∷ (blend_each (blend_to depth) (firsts pairs) (seconds pairs) done.1).0,
      (blend_each (blend_to depth) (firsts pairs) (seconds pairs) done.1).1,
    )) head
    ∙ ap (λ (done : List ℕ × TypeRows). (c.0 ∷ done.0, done.1)) rest

-- one pair more
pub blend_each-push : (blended : ℕ → ℕ → Forming ℕ) (xs ys : List ℕ) (x y : ℕ) (types : TypeRows) →
    length xs ≡ length ys →
    blend_each blended (xs ++ x ∷ []) (ys ++ y ∷ []) types
    ≡ (
      (blend_each blended xs ys types).0 ++ (blended x y (blend_each blended xs ys types).1).0 ∷ [],
      (blended x y (blend_each blended xs ys types).1).1,
    )
blend_each-push blended [] [] x y types e = refl
blend_each-push blended [] (z ∷ ys) x y types e = absurd (omega arith)
blend_each-push blended (w ∷ xs) [] x y types e = absurd (omega arith)
blend_each-push blended (w ∷ xs) (z ∷ ys) x y types e =
    let first : ℕ = (blended w z types).0 in
    ap (λ (done : List ℕ × TypeRows). (first ∷ done.0, done.1))
    (blend_each-push blended xs ys x y (blended w z types).1 (omega arith))

-- ---- a row that is there

place_from : {A : Type 0} (passes : A → Bool) (x : A) (xs ys : List A) (now : Bool) (o : Option ℕ) (k : ℕ) →
    ((j : ℕ) → o ≡ Some j → place_where passes (xs ++ ys) ≡ Some j) → cond now (Some 0) (option_map suc o) ≡ Some k →
    cond now (Some 0) (option_map suc (place_where passes (xs ++ ys))) ≡ Some k
place_from passes x xs ys true o k later e = e
place_from passes x xs ys false None k later e = absurd (none_is_not_some k e)
place_from passes x xs ys false (Some j) k later e = ap (option_map suc) (later j refl) ∙ e

place_where-append : {A : Type 0} (passes : A → Bool) (xs ys : List A) (k : ℕ) → place_where passes xs ≡ Some k →
    place_where passes (xs ++ ys) ≡ Some k
place_where-append passes [] ys k e = absurd (none_is_not_some k e)
place_where-append passes (x ∷ xs) ys k e =
    place_from passes x xs ys (passes x) (place_where passes xs) k (λ j f. place_where-append passes xs ys j f) e

-- a row that is there is found there, also where rows are added
intern_there_more : (row : TypeRow) (types more : TypeRows) (place : ℕ) → HasNoRepeats types →
    row_at types place ≡ Some row → intern row (types ++ more) ≡ (place, types ++ more)
intern_there_more row types more place apart at = by_place (place_where (equal_rows row) types) refl
  where
    by_place : (o : Option ℕ) → place_where (equal_rows row) types ≡ o → intern row (types ++ more) ≡ (
      place,
      types ++ more,
    )
    by_place None e = absurd (place_missing (equal_rows row) types e place row at (row_is_itself row))
    by_place (Some k) e =
        let found = place_found (equal_rows row) types k e in
        let there : row_at types k ≡ Some row = found.1 ∙ ap Some (sym (rows_are_equal row found.0 found.2)) in
        let same : k ≡ place = apart k place (slice_get_within types k row there) (there ∙ sym at) in
        ap (λ o. at_place_or_last o row (types ++ more)) (place_where-append (equal_rows row) types more k e)
        ∙ ap (λ n. (n, types ++ more)) same

-- ---- blends of rows that aren't Dyn

-- such a blend is the row with the blends of the parts
pub plain_blend : (blended : ℕ → ℕ → Forming ℕ) (a b : ℕ) (row other : TypeRow) (types : TypeRows) →
    is_dyn row ≡ false →
    is_dyn other ≡ false →
    blend_rows blended a b (Some row) (Some other) types
    ≡ intern (with_parts row (blend_each blended (parts_of row) (parts_of other) types).0)
    (blend_each blended (parts_of row) (parts_of other) types).1
plain_blend blended a b row other types e f =
    let joined : Forming ℕ =
    λ rows. intern (with_parts row (blend_each blended (parts_of row) (parts_of other) rows).0)
    (blend_each blended (parts_of row) (parts_of other) rows).1 in
    ap (λ t. cond t (formed a) (cond (is_dyn other) (formed b) joined) types) e
    ∙ ap (λ t. cond t (formed b) joined types) f

-- what consistency says of two rows that aren't Dyn
pub plain_consistent : (types : TypeRows) (a b : ℕ) (row other : TypeRow) → AreFinite types → a < length types →
    row_at types a ≡ Some row → row_at types b ≡ Some other → is_dyn row ≡ false → is_dyn other ≡ false →
    consistent types a b ≡ true →
    (same_head row other ≡ true) × (related (consistent types) (parts_of row) (parts_of other) ≡ true)
plain_consistent types a b row other finite within at_a at_b e f h =
    and_parts (same_head row other) (related (consistent types) (parts_of row) (parts_of other))
    (sym (plain_pair types finite a b within row other at_a at_b e f) ∙ h)

-- pairs of parts of types that are there
pub All-AreThere : (types : TypeRows) (pairs : List Pair) → All (λ s. s < length types) (firsts pairs) →
    All (λ s. s < length types) (seconds pairs) → All (AreThere types) pairs
All-AreThere types [] one two = All-nil (AreThere types)
All-AreThere types (pair ∷ pairs) one two =
    let below = λ (s : ℕ). s < length types in
    All-cons (AreThere types) pair pairs
    (record {
      first = All-head below pair.first.0 (firsts pairs) one;
      second = All-head below pair.second.0 (seconds pairs) two;
    })
    (All-AreThere types pairs (All-tail below pair.first.0 (firsts pairs) one)
    (All-tail below pair.second.0 (seconds pairs) two))

-- consistent parts may be blended
pub All-MayBlend : (types : TypeRows) (pairs : List Pair) → All (AreThere types) pairs →
    related (consistent types) (firsts pairs) (seconds pairs) ≡ true → All (MayBlend types) pairs
All-MayBlend types [] there h = All-nil (MayBlend types)
All-MayBlend types (pair ∷ pairs) there h =
    let both = and_parts (consistent types pair.first.0 pair.second.0)
    (related (consistent types) (firsts pairs) (seconds pairs)) h in
    let head = All-head (AreThere types) pair pairs there in
    All-cons (MayBlend types) pair pairs
    (record { first_there = head.first; second_there = head.second; consistent_pair = both.0 })
    (All-MayBlend types pairs (All-tail (AreThere types) pair pairs there) both.1)

-- ---- heights

-- each is lower than what is above all
below_all : (f : ℕ → ℕ) (parts : List ℕ) (bound : ℕ) → above_all f parts ≤ bound → All (λ part. f part < bound) parts
below_all f [] bound h = All-nil (λ part. f part < bound)
below_all f (part ∷ parts) bound h =
    All-cons (λ x. f x < bound) part parts (omega arith) (below_all f parts bound (omega arith))

-- the parts of a type are lower than types may be
pub parts_are_low : (types : TypeRows) (a : ℕ) (row : TypeRow) → IsOrderedTable types → row_at types a ≡ Some row →
    All (λ part. height types part < MOST_HEIGHT) (parts_of row)
parts_are_low types a row table at =
    let within = slice_get_within types a row at in
    let high : height types a ≡ above_all (height types) (parts_of row) =
    height_by_parts types table.finite a within ∙ ap (λ r. above_all (height types) (row_parts r)) at in
    let low = table.low a within in
    below_all (height types) (parts_of row) MOST_HEIGHT (omega arith)

parts_fit : (types : TypeRows) (pairs : List Pair) (cs : List TypeId) → EachFormed types pairs cs →
    All (λ part. height types part < MOST_HEIGHT) (firsts pairs) →
    All (λ part. height types part < MOST_HEIGHT) (seconds pairs) → All (MayBePart types) (places_of cs)
parts_fit types [] [] h one two = All-nil (MayBePart types)
parts_fit types [] (c ∷ cs) h one two = absurd h
parts_fit types (pair ∷ pairs) [] h one two = absurd h
parts_fit types (pair ∷ pairs) (c ∷ cs) h one two =
    let low = h.0.low in
    let first = All-head (λ part. height types part < MOST_HEIGHT) pair.first.0 (firsts pairs) one in
    let second = All-head (λ part. height types part < MOST_HEIGHT) pair.second.0 (seconds pairs) two in
    All-cons (MayBePart types) c.0 (places_of cs) (record { there = h.0.there; low = omega arith })
    (parts_fit types pairs cs h.1 (All-tail (λ part. height types part < MOST_HEIGHT) pair.first.0 (firsts pairs) one)
    (All-tail (λ part. height types part < MOST_HEIGHT) pair.second.0 (seconds pairs) two))

parts_no_higher : (types : TypeRows) (pairs : List Pair) (cs : List TypeId) → EachFormed types pairs cs →
    above_all (height types) (places_of cs)
    ≤ max (above_all (height types) (firsts pairs)) (above_all (height types) (seconds pairs))
parts_no_higher types [] [] h = omega arith
parts_no_higher types [] (c ∷ cs) h = absurd h
parts_no_higher types (pair ∷ pairs) [] h = absurd h
parts_no_higher types (pair ∷ pairs) (c ∷ cs) h =
    let low = h.0.low in
    let rest = parts_no_higher types pairs cs h.1 in
    omega arith

-- ---- the blend of two types of a table whose parts were blended

-- two types of a table that aren't Dyn, with the pairs of their parts and the blends of these
pub record HaveBlendedParts (types : TypeRows) (a b : ℕ) (row other : TypeRow) (pairs : List Pair) (cs : List TypeId) :
    Type 0 where
  pub at_a : row_at types a ≡ Some row
  pub at_b : row_at types b ≡ Some other
  pub row_plain : is_dyn row ≡ false
  pub other_plain : is_dyn other ≡ false
  pub heads : same_head row other ≡ true
  pub left : firsts pairs ≡ parts_of row
  pub right : seconds pairs ≡ parts_of other
  pub each : EachFormed types pairs cs

-- consistent types have them in the table into which the blends of their parts went
pub have_blended_parts : (types middle : TypeRows) (a b : ℕ) (row other : TypeRow) (pairs : List Pair)
    (cs : List TypeId) → AreFinite types → a < length types → row_at types a ≡ Some row → row_at types b ≡ Some other →
    is_dyn row ≡ false → is_dyn other ≡ false → consistent types a b ≡ true → HasMoreRows types middle →
    firsts pairs ≡ parts_of row → seconds pairs ≡ parts_of other → EachFormed middle pairs cs →
    HaveBlendedParts middle a b row other pairs cs
have_blended_parts types middle a b row other pairs cs finite within at_a at_b e f h grown left right each = record {
  at_a = row_stays types middle a row grown at_a;
  at_b = row_stays types middle b other grown at_b;
  row_plain = e;
  other_plain = f;
  heads = (plain_consistent types a b row other finite within at_a at_b e f h).0;
  left = left;
  right = right;
  each = each;
}

-- the row of these blends, where the first type is looked up once more
pub blended_row : {found row new : TypeRow} {at : Option TypeRow} {parts cs : List TypeId} → at ≡ Some found →
    at ≡ Some row → new ≡ with_parts found (places_of parts) → parts ≡ cs → new ≡ with_parts row (places_of cs)
blended_row {found} {row} at_found at_row new same =
    new ∙ ap₂ (λ r (xs : List TypeId). with_parts r (places_of xs)) (same_some found row (sym at_found ∙ at_row)) same

module _ (middle : TypeRows) (a b : ℕ) (row other : TypeRow) (pairs : List Pair) (cs : List TypeId)
    (table : IsOrderedTable middle) (known : HaveBlendedParts middle a b row other pairs cs) where
  abbrev both : TypeRow
  both = with_parts row (places_of cs)

  pub as_many : length (places_of cs) ≡ length (parts_of row)
  as_many = EachFormed-length middle pairs cs known.each ∙ ap length known.left

  -- the row may go into the table
  pub both_fits : FitsTable middle both
  both_fits = record {
    parts = subst (λ (parts : List ℕ). All (MayBePart middle) parts)
        (sym (parts_of-with_parts row (places_of cs) as_many))
        (parts_fit middle pairs cs known.each
        (subst (λ (parts : List ℕ). All (λ part. height middle part < MOST_HEIGHT) parts) (sym known.left)
        (parts_are_low middle a row table known.at_a))
        (subst (λ (parts : List ℕ). All (λ part. height middle part < MOST_HEIGHT) parts) (sym known.right)
        (parts_are_low middle b other table known.at_b)));
    width = HasWidth-with_parts row (places_of cs) as_many (table.widths a row known.at_a);
  }

  -- in each table that has its row there, the parts of the first type end within one depth less
  deep_enough : (rows : TypeRows) → row_at rows a ≡ Some row → (depth : ℕ) → EndsWithin (suc depth) rows a →
      All (EndsWithin depth rows) (firsts pairs)
  deep_enough rows at depth deep =
      subst (λ (parts : List ℕ). All (EndsWithin depth rows) parts) (ap row_parts at ∙ sym known.left)
      (parts_end rows depth a deep)

  -- in the table that it went into
  module _ (new : TypeRows) (c : ℕ) (ordered : IsOrderedTable new) (grown : HasMoreRows middle new)
      (at_c : row_at new c ≡ Some both) where
    new_a : row_at new a ≡ Some row
    new_a = row_stays middle new a row grown known.at_a

    new_b : row_at new b ≡ Some other
    new_b = row_stays middle new b other grown known.at_b

    new_each : EachFormed new pairs cs
    new_each = EachFormed-grown middle new pairs cs table.finite grown known.each

    formed_again : (more : TypeRows) (depth : ℕ) → EndsWithin depth (new ++ more) a →
        blend_to depth a b (new ++ more) ≡ (c, new ++ more)
    formed_again more zero deep = cc
    formed_again more (suc depth) deep =
        ap₂ (λ r o. blend_rows (blend_to depth) a b r o (new ++ more)) (get_kept new more a row new_a)
        (get_kept new more b other new_b)
        ∙ plain_blend (blend_to depth) a b row other (new ++ more) known.row_plain known.other_plain
        ∙ ap₂ (λ xs ys. intern (with_parts row (blend_each (blend_to depth) xs ys (new ++ more)).0)
        (blend_each (blend_to depth) xs ys (new ++ more)).1) (sym known.left) (sym known.right)
        ∙ ap (λ (done : List ℕ × TypeRows). intern (with_parts row done.0) done.1)
        (each_again depth new more pairs cs new_each
        (deep_enough (new ++ more) (get_kept new more a row new_a) depth deep))
        ∙ intern_there_more both new more c ordered.distinct at_c

    blends : (depth : ℕ) → IsBlendTo depth new a b c
    blends zero = tt
    blends (suc depth) = (
      row,
      other,
      both,
      new_a,
      new_b,
      at_c,
      subst (λ d. MatchBool d (both ≡ DynRow)
          ((same_head row both ≡ true) × (same_head other both ≡ true)
          × AllBlend (IsBlendTo depth new) (parts_of row) (parts_of other) (parts_of both)))
          (sym (ap₂ ◌||◌ known.row_plain known.other_plain)) (
            same_head-with_parts row (places_of cs) as_many,
            same_heads-symmetric row other known.heads (places_of cs) as_many,
            subst (λ (parts : List ℕ). AllBlend (IsBlendTo depth new) (parts_of row) (parts_of other) parts)
                (sym (parts_of-with_parts row (places_of cs) as_many))
                (subst (λ (parts : List ℕ). AllBlend (IsBlendTo depth new) parts (parts_of other) (places_of cs))
                known.left
                (subst (λ (parts : List ℕ). AllBlend (IsBlendTo depth new) (firsts pairs) parts (places_of cs))
                known.right
                (AllBlend-from_EachFormed depth new pairs cs new_each))),
          ),
    )

    height_of : (k : ℕ) (r : TypeRow) → row_at new k ≡ Some r → height new k ≡ above_all (height new) (parts_of r)
    height_of k r at =
        height_by_parts new ordered.finite k (slice_get_within new k r at)
        ∙ ap (λ o. above_all (height new) (row_parts o)) at

    no_higher : height new c ≤ max (height new a) (height new b)
    no_higher =
        let of_c = height_of c both at_c
        ∙ ap (above_all (height new)) (parts_of-with_parts row (places_of cs) as_many) in
        let of_a = height_of a row new_a ∙ ap (above_all (height new)) (sym known.left) in
        let of_b = height_of b other new_b ∙ ap (above_all (height new)) (sym known.right) in
        let parts = parts_no_higher new pairs cs new_each in
        omega arith

    -- the blend is there
    pub IsFormed-both : IsFormed new a b c
    IsFormed-both = record {
      there = slice_get_within new c both at_c;
      again = formed_again;
      blends = blends;
      low = no_higher;
    }

    -- and it is what was to be formed from the table before
    pub computes : (old : TypeRows) → row_at old a ≡ Some row → row_at old b ≡ Some other →
        ((depth : ℕ) → All (EndsWithin depth old) (firsts pairs) →
        blend_each (blend_to depth) (firsts pairs) (seconds pairs) old ≡ (places_of cs, middle)) →
        intern both middle ≡ (c, new) → (depth : ℕ) → EndsWithin depth old a → blend_to depth a b old ≡ (c, new)
    computes old old_a old_b parts last zero deep = cc
    computes old old_a old_b parts last (suc depth) deep =
        ap₂ (λ r o. blend_rows (blend_to depth) a b r o old) old_a old_b
        ∙ plain_blend (blend_to depth) a b row other old known.row_plain known.other_plain
        ∙ ap₂ (λ xs ys. intern (with_parts row (blend_each (blend_to depth) xs ys old).0)
        (blend_each (blend_to depth) xs ys old).1) (sym known.left) (sym known.right)
        ∙ ap (λ (done : List ℕ × TypeRows). intern (with_parts row done.0) done.1)
        (parts depth (deep_enough old old_a depth deep))
        ∙ last

-- ---- blends with Dyn

dyn_row : (row : TypeRow) → is_dyn row ≡ true → row ≡ DynRow
dyn_row DynRow e = refl
dyn_row row e = cc

module _ (types : TypeRows) (a b : ℕ) (row other : TypeRow) (at_a : row_at types a ≡ Some row)
    (at_b : row_at types b ≡ Some other) where
  abbrev DynIsBlend : ℕ → ℕ → TypeRow → Type 0
  DynIsBlend depth c both =
      MatchBool (is_dyn row || is_dyn other) (both ≡ DynRow)
      ((same_head row both ≡ true) × (same_head other both ≡ true)
      × AllBlend (IsBlendTo depth types) (parts_of row) (parts_of other) (parts_of both))

  either_dyn : (depth c : ℕ) (both : TypeRow) → (is_dyn row || is_dyn other) ≡ true → both ≡ DynRow →
      DynIsBlend depth c both
  either_dyn depth c both dyn same =
      subst (λ d. MatchBool d (both ≡ DynRow)
      ((same_head row both ≡ true) × (same_head other both ≡ true)
      × AllBlend (IsBlendTo depth types) (parts_of row) (parts_of other) (parts_of both))) (sym dyn) same

  -- Dyn is the blend where either is Dyn and it is what is formed
  dyn_formed : (c : ℕ) (both : TypeRow) → row_at types c ≡ Some both → both ≡ DynRow →
      (is_dyn row || is_dyn other) ≡ true → height types c ≤ max (height types a) (height types b) →
      ((blended : ℕ → ℕ → Forming ℕ) (rows : TypeRows) →
      blend_rows blended a b (Some row) (Some other) rows ≡ (c, rows)) → IsFormed types a b c
  dyn_formed c both at_c same dyn low forms = record {
    there = slice_get_within types c both at_c;
    again = again;
    blends = blends;
    low = low;
  }
    where
      again : (more : TypeRows) (depth : ℕ) → EndsWithin depth (types ++ more) a →
          blend_to depth a b (types ++ more) ≡ (c, types ++ more)
      again more zero deep = cc
      again more (suc depth) deep =
          ap₂ (λ r o. blend_rows (blend_to depth) a b r o (types ++ more)) (get_kept types more a row at_a)
          (get_kept types more b other at_b)
          ∙ forms (blend_to depth) (types ++ more)

      blends : (depth : ℕ) → IsBlendTo depth types a b c
      blends zero = tt
      blends (suc depth) = (row, other, both, at_a, at_b, at_c, either_dyn depth c both dyn same)

  abbrev joined : (ℕ → ℕ → Forming ℕ) → Forming ℕ
  joined blended =
      λ rows. intern (with_parts row (blend_each blended (parts_of row) (parts_of other) rows).0)
      (blend_each blended (parts_of row) (parts_of other) rows).1

  -- the blend of Dyn and another type is Dyn
  pub IsFormed-first : is_dyn row ≡ true → IsFormed types a b a
  IsFormed-first dyn = dyn_formed a row at_a (dyn_row row dyn) (ap (λ d. d || is_dyn other) dyn) (omega arith) first_dyn
    where
      first_dyn : (blended : ℕ → ℕ → Forming ℕ) (rows : TypeRows) →
          blend_rows blended a b (Some row) (Some other) rows ≡ (a, rows)
      first_dyn blended rows =
          ap (λ t. cond t (formed a) (cond (is_dyn other) (formed b) (joined blended)) rows) dyn

  -- and so is that of another type and Dyn
  pub IsFormed-second : is_dyn row ≡ false → is_dyn other ≡ true → IsFormed types a b b
  IsFormed-second plain dyn =
      dyn_formed b other at_b (dyn_row other dyn) (ap₂ ◌||◌ plain dyn) (omega arith) second_dyn
    where
      second_dyn : (blended : ℕ → ℕ → Forming ℕ) (rows : TypeRows) →
          blend_rows blended a b (Some row) (Some other) rows ≡ (b, rows)
      second_dyn blended rows =
          ap (λ t. cond t (formed a) (cond (is_dyn other) (formed b) (joined blended)) rows) plain
          ∙ ap (λ t. cond t (formed b) (joined blended) rows) dyn

-- ---- pairs of parts

-- the parts of two rows by pairs are lower than the first of the two types, and there
pub pairs_of_parts_fit : (types : TypeRows) → AreFinite types → (a b : ℕ) (row other : TypeRow) (pairs : List Pair) →
    row_at types a ≡ Some row → row_at types b ≡ Some other → firsts pairs ≡ parts_of row →
    seconds pairs ≡ parts_of other →
    (above_all (height types) (firsts pairs) ≤ height types a) × All (AreThere types) pairs
pairs_of_parts_fit types finite a b row other pairs at_a at_b left right =
    let there = λ (xs : List ℕ). All (λ s. s < length types) xs in (
      subst (λ (xs : List ℕ). above_all (height types) xs ≤ height types a) (sym left)
          (above_all-most (height types) (height types a) (parts_of row) (parts_lower types finite a row at_a)),
      All-AreThere types pairs (subst there (sym left) (parts_within types a row finite at_a))
          (subst there (sym right) (parts_within types b other finite at_b)),
    )

-- ---- what is remembered

same_pair : (x y : Pair) → ghosts.eq x y ≡ true → x ≡ y
same_pair = search rules

pub AreFormed-grown : (types new : TypeRows) (known : Blends) → AreFinite types → HasMoreRows types new →
    AreFormed types known → AreFormed new known
AreFormed-grown types new known finite more h pair c e =
    IsFormed-grown types new pair.first.0 pair.second.0 c.0 finite more (h pair c e)

-- one blend more
pub AreFormed-insert : (types : TypeRows) (old new : Blends) (key : Pair) (c : TypeId) → AreFormed types old →
    IsFormed types key.first.0 key.second.0 c.0 →
    ((pair : Pair) → get ghosts.eq new pair ≡ cond (ghosts.eq key pair) (Some c) (get ghosts.eq old pair)) →
    AreFormed types new
AreFormed-insert types old new key c h one updates =
    each_entry-insert same_pair (λ (pair : Pair) (d : TypeId). IsFormed types pair.first.0 pair.second.0 d.0)
    (get ghosts.eq old) (get ghosts.eq new) key c h one updates

-- ---- pairs in a list

-- stands for an element where there is none
abbrev pub nowhere : Pair
nowhere = record { first = record { 0 = 0 }; second = record { 0 = 0 } }

pub first_below_all : (f : ℕ → ℕ) (pairs : List Pair) (k : ℕ) (d : Pair) → k < length pairs →
    f (get_or pairs k d).first.0 < above_all f (firsts pairs)
first_below_all f [] k d within = absurd (omega arith)
first_below_all f (pair ∷ pairs) zero d within = omega arith
first_below_all f (pair ∷ pairs) (suc k) d within = let later = first_below_all f pairs k d (omega arith) in omega arith

pub one_more_computed : (depth : ℕ) (old middle new : TypeRows) (pairs : List Pair) (k : ℕ) (d : Pair)
    (cs : List TypeId)
    (c : TypeId) → k < length pairs →
    blend_each (blend_to depth) (firsts (take k pairs)) (seconds (take k pairs)) old ≡ (places_of cs, middle) →
    blend_to depth (get_or pairs k d).first.0 (get_or pairs k d).second.0 middle ≡ (c.0, new) →
    blend_each (blend_to depth) (firsts (take (k + 1) pairs)) (seconds (take (k + 1) pairs)) old
    ≡ (places_of (cs ++ c ∷ []), new)
one_more_computed depth old middle new pairs k d cs c within before last =
    let x : ℕ = (get_or pairs k d).first.0 in
    let y : ℕ = (get_or pairs k d).second.0 in
    let lengths : length (firsts (take k pairs)) ≡ length (seconds (take k pairs)) =
    length-map (take k pairs) (λ (p : Pair). p.first.0) ∙ sym (length-map (take k pairs) (λ (p : Pair). p.second.0)) in
    ap₂ (λ xs ys. blend_each (blend_to depth) xs ys old) (map_more (λ (p : Pair). p.first.0) pairs k d within)
    (map_more (λ (p : Pair). p.second.0) pairs k d within)
    ∙ blend_each-push (blend_to depth) (firsts (take k pairs)) (seconds (take k pairs)) x y old lengths
    ∙ ap (λ (done : List ℕ × TypeRows). (
      done.0 ++ (blend_to depth x y done.1).0 ∷ [],
      (blend_to depth x y done.1).1,
    )) before
    ∙ ap (λ (done : ℕ × TypeRows). (places_of cs ++ done.0 ∷ [], done.1)) last
    ∙ ap (λ l. (l, new)) (sym (map-append (λ (id : TypeId). id.0) cs (c ∷ [])))

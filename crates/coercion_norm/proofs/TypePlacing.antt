-- Types whose objects are placed one after the other, each at the address that is told for it.
use Rattle.std.proofs.Common.{◌≡◌, ◌⊎◌, inl, inr, ℕ, zero, suc, ◌+◌, ◌*◌, ◌<◌, ◌≤◌, refl, sym, ap, ap₂, ◌∙◌, subst}
use Rattle.std.proofs.Common.{arith, append-nil}
use Rattle.std.proofs.Common.{List, [], ◌∷◌, ◌++◌, length, Some, All, length-append}
use Rattle.std.specs.Prelude.{slice_index}
use Rattle.std.proofs.lemmas.List.{length-map}
use Rattle.grift_base.specs.Types.{TypeRow, TypeRows, parts_of}
use Rattle.type_graph.specs.Trees.{height}
use Rattle.type_graph.specs.TypeTables.{HasWidth, IsOrderedTable}
use Rattle.type_graph.proofs.Public.{slice_get_at, parts_within}
use Rattle.object_layout.specs.declared.wholes.Area.TheVariants.{Statics as InStatics}
use Rattle.object_layout.specs.declared.kinds.Kind.{Kind as ObjectKind}
use Rattle.object_layout.specs.Headers.{packed}
use Rattle.object_layout.specs.Wholes.{Telling, IsNth, IsRow, header_at}
use Rattle.object_layout.proofs.Public.{fills_one_more, fills_sooner}
use Rattle.coercion_norm.specs.Coercions.{rows_of}
use Rattle.coercion_norm.specs.StaticObjects.{HoldsTypeTo, Tells, type_header, type_headers}
use Rattle.coercion_norm.specs.StaticObjects.{type_kind}
use Rattle.coercion_norm.specs.StaticObjects.{header, type_object, up_to, words_at}
use Rattle.coercion_norm.specs.Objects.{words_of_all}
use Rattle.coercion_norm.specs.ObjectsOfRows.{object_of_type, type_objects}
use Rattle.coercion_norm.specs.Placed.{ArePlacedTypes, AreTypeAddresses, words_before}
use Rattle.coercion_norm.proofs.CastLemmas.{row_is}
use Rattle.coercion_norm.proofs.ObjectLists.{words_append}
use Rattle.coercion_norm.proofs.Objects.{nth_kept, nth_last}
use Rattle.coercion_norm.proofs.Objects.{few_parts, stand_each, tells_both, told_header, told_last, told_old}
use Rattle.coercion_norm.proofs.Objects.{whole_type}

-- a number below the next one is below, or is the last
pub below_or_last : (k j : ℕ) → k < j + 1 → (k < j) ⊎ (k ≡ j)
below_or_last k j l = grind arith

as_many_headers : (types : TypeRows) (n : ℕ) → length (up_to (type_headers types) n) ≡ n
as_many_headers types zero = refl
as_many_headers types (suc n) =
    let e = length-append (up_to (type_headers types) n) (type_header types n ∷ []) in
    let f = as_many_headers types n in
    omega (arith, e, f)

-- ---- addresses

pub no_addresses : (types : TypeRows) (start : ℕ) (type_at : List ℕ) → type_at ≡ []
    → AreTypeAddresses types start 0 type_at
no_addresses types start type_at e = record {
  as_many = ap (λ xs. length xs) e;
  each = λ type l. absurd (omega arith);
}

-- the address of one type more
pub address_more : (types : TypeRows) (start many : ℕ) (type_at next : List ℕ)
    → AreTypeAddresses types start many type_at → next ≡ type_at ++ (start + 8 * words_before types many) ∷ []
    → AreTypeAddresses types start (many + 1) next
address_more types start many type_at next old e = record {
  as_many =
      let count = old.as_many in
      let long =
      ap (λ (xs : List ℕ). length xs) e ∙ length-append type_at ((start + 8 * words_before types many) ∷ []) in
      omega (arith, count, long);
  each = λ type l.
      let count = old.as_many in
      elim (below_or_last type many l) [
        | inl less ↦ ap (λ (xs : List ℕ). slice_index xs type) e
            ∙ told_old type_at (start + 8 * words_before types many) type (omega (arith, count, less))
            ∙ old.each type less
        | inr same ↦ ap (λ (xs : List ℕ). slice_index xs type) e
            ∙ told_last type_at (start + 8 * words_before types many) type (omega (arith, count, same))
            ∙ ap (λ n. start + 8 * words_before types n) (sym same)
      ];
}

-- a type's object, by its row
pub object_of_row : (types : TypeRows) (type_at : List ℕ) (type high : ℕ) (row : TypeRow) (kind : ObjectKind)
    (words : List ℕ) → rows_of types type ≡ row → kind ≡ type_kind row → high ≡ height types type
    → words ≡ words_at type_at (parts_of row)
    → packed (header kind high (length words)) ∷ words ≡ type_object types type_at type
object_of_row types type_at type high row kind words row_of_it kind_is high_is words_are =
    ap (λ k. packed (header k high (length words)) ∷ words) kind_is
    ∙ ap (λ n. packed (header (type_kind row) n (length words)) ∷ words) high_is
    ∙ ap (λ (xs : List ℕ). packed (header (type_kind row) (height types type) (length xs)) ∷ xs) words_are
    ∙ ap (λ n. packed (header (type_kind row) (height types type) n) ∷ words_at type_at (parts_of row))
    (length-map (parts_of row) (λ place. slice_index type_at place))
    ∙ ap (λ r. packed (header (type_kind r) (height types type) (length (parts_of r)))
    ∷ words_at type_at (parts_of r)) (sym row_of_it)

-- ---- how many words the objects have

-- the objects of fewer types have fewer words
pub words_rise : (types : TypeRows) (a b : ℕ) → a < b → words_before types a < words_before types b
words_rise types a zero less = absurd (omega (arith, less))
words_rise types a (suc b) less = elim (below_or_last a b (omega (arith, less))) [
  | inl lower ↦ (let rest = words_rise types a b lower in omega (arith, rest))
  | inr same ↦ (let e = ap (words_before types) same in omega (arith, e))
]

-- the words of the objects of one type more
pub words_next : (types : TypeRows) (type_at : List ℕ) (type : ℕ)
    → words_of_all (type_objects types (λ t. slice_index type_at t) (suc type))
    ≡ words_of_all (type_objects types (λ t. slice_index type_at t) type) ++ type_object types type_at type
words_next types type_at type =
    words_append (type_objects types (λ t. slice_index type_at t) type)
    (object_of_type types (λ t. slice_index type_at t) type ∷ [])
    ∙ ap (λ (xs : List ℕ). words_of_all (type_objects types (λ t. slice_index type_at t) type) ++ xs)
    (append-nil (type_object types type_at type))

module _ (types : TypeRows) (table : IsOrderedTable types) where
  wide : (type : ℕ) → type < length types → HasWidth (rows_of types type)
  wide type within =
      let found = slice_get_at types type within in
      subst HasWidth (sym (row_is types type found.0 found.1)) (table.widths type found.0 found.1)

  parts_there : (type : ℕ) → type < length types → All (λ part. part < length types) (parts_of (rows_of types type))
  parts_there type within =
      let found = slice_get_at types type within in
      subst (λ row. All (λ part. part < length types) (parts_of row)) (sym (row_is types type found.0 found.1))
      (parts_within types type found.0 table.finite found.1)

  pub few_words : (many : ℕ) → many ≤ length types → words_before types many ≤ 9 * many
  few_words zero le = omega arith
  few_words (suc many) le =
      let rest = few_words many (omega (arith, le)) in
      let few = few_parts (rows_of types many) (wide many (omega (arith, le))) in
      omega (arith, rest, few)

  module _ (start : ℕ) (type_at : List ℕ) (told : AreTypeAddresses types start (length types) type_at) where
    -- the words of the objects of the first types
    abbrev words_to : ℕ → List ℕ
    words_to many = words_of_all (type_objects types (λ type. slice_index type_at type) many)

    pub words_long : (many : ℕ) → length (words_to many) ≡ words_before types many
    words_long zero = refl
    words_long (suc many) =
        ap (λ (xs : List ℕ). length xs) (words_next types type_at many)
        ∙ length-append (words_to many) (type_object types type_at many)
        ∙ ap₂ (λ n k. n + suc k) (words_long many)
        (length-map (parts_of (rows_of types many)) (λ place. slice_index type_at place))

    -- the last object stands behind the words of those before it
    here : (type : ℕ) → type < length types → slice_index type_at type ≡ start + 8 * length (words_to type)
    here type within = told.each type within ∙ ap (λ n. start + 8 * n) (sym (words_long type))

    told_parts : (memory : Telling) (type : ℕ) → type < length types → Tells memory start (words_to (suc type))
        → Tells memory start (words_to type)
        × Tells memory (slice_index type_at type) (type_object types type_at type)
    told_parts memory type within t =
        let both = tells_both memory start (words_to type) (type_object types type_at type)
        (subst (Tells memory start) (words_next types type_at type) t) in
        (both.0, subst (λ at. Tells memory at (type_object types type_at type)) (sym (here type within)) both.1)

    -- an object tells its header, and the addresses of the type's parts
    abbrev Told : Telling → ℕ → Type 0
    Told memory type =
        (header_at memory (slice_index type_at type) ≡ Some (type_header types type))
        × Tells memory (slice_index type_at type + 8) (words_at type_at (parts_of (rows_of types type)))

    last_told : (memory : Telling) (type : ℕ) → type < length types → Tells memory start (words_to (suc type))
        → Told memory type
    last_told memory type within t =
        let object = (told_parts memory type within t).1 in
        let low = table.low type within in
        let few = few_parts (rows_of types type) (wide type within) in (
          told_header memory (slice_index type_at type) (type_kind (rows_of types type)) (height types type)
              (length (parts_of (rows_of types type))) (omega (arith, low)) (omega (arith, few)) object.0,
          object.1,
        )

    each_told : (memory : Telling) (many type : ℕ) → many ≤ length types → type < many
        → Tells memory start (words_to many) → Told memory type
    each_told memory zero type le l t = absurd (omega (arith, l))
    each_told memory (suc many) type le l t = elim (below_or_last type many (omega (arith, l))) [
      | inl less ↦ each_told memory many type (omega (arith, le)) less
          (told_parts memory many (omega (arith, le)) t).0
      | inr same ↦ subst (Told memory) (sym same) (last_told memory many (omega (arith, le)) t)
    ]

    -- so the address of a type holds it, wherever its parts stand
    held : (memory : Telling) → Tells memory start (words_to (length types)) → (depth type : ℕ) → type < length types
        → HoldsTypeTo memory types depth (slice_index type_at type) type
    held memory t zero type within = tt
    held memory t (suc depth) type within =
        let one = each_told memory (length types) type (omega arith) within t in (
          one.0,
          stand_each memory (HoldsTypeTo memory types depth) type_at (slice_index type_at type + 8)
              (parts_of (rows_of types type)) one.1
              (λ k d l. held memory t depth _ (parts_there type within k d l)),
        )

    row : (memory : Telling) (many : ℕ) → many ≤ length types → Tells memory start (words_to many)
        → IsRow memory InStatics start (up_to (type_headers types) many) (start + 8 * length (words_to many))
    row memory zero le t = (let e : start ≡ start + 8 * 0 = omega arith in e)
    row memory (suc many) le t =
        let within : many < length types = omega (arith, le) in
        let at : ℕ = start + 8 * length (words_to many) in
        let parts : ℕ = length (parts_of (rows_of types many)) in
        let long = words_long many in
        let next = words_long (suc many) in
        let end : start + 8 * length (words_to (suc many)) ≡ at + (8 + 8 * parts) = omega (arith, long, next) in
        let header = subst (λ n. header_at memory n ≡ Some (type_header types many)) (here many within)
        (last_told memory many within t).0 in
        fills_one_more memory InStatics (start + 8 * length (words_to (suc many))) start at
        (start + 8 * length (words_to (suc many))) (up_to (type_headers types) many) (type_header types many) end
        (fills_sooner memory InStatics at (start + 8 * length (words_to (suc many))) start
        (up_to (type_headers types) many) at (omega (arith, end))
        (row memory many (omega (arith, le)) (told_parts memory many within t).0))
        (whole_type memory (start + 8 * length (words_to (suc many))) at (height types many) (rows_of types many)
        (wide many within) header (omega (arith, end)))

    starts : (memory : Telling) (many type : ℕ) → many ≤ length types → type < many
        → Tells memory start (words_to many)
        → IsNth start (up_to (type_headers types) many) type (slice_index type_at type) (type_header types type)
    starts memory zero type le l t = absurd (omega (arith, l))
    starts memory (suc many) type le l t =
        let within : many < length types = omega (arith, le) in
        let before = (told_parts memory many within t).0 in
        elim (below_or_last type many (omega (arith, l))) [
          | inl less ↦ nth_kept start (up_to (type_headers types) many) (type_header types many ∷ []) type
              (slice_index type_at type) (type_header types type)
              (starts memory many type (omega (arith, le)) less before)
          | inr same ↦ subst (λ k. IsNth start (up_to (type_headers types) (suc many)) k (slice_index type_at k)
              (type_header types k)) (sym same)
              (subst (λ word. IsNth start (up_to (type_headers types) (suc many)) many word (type_header types many))
              (sym (here many within))
              (subst (λ k. IsNth start (up_to (type_headers types) (suc many)) k
              (start + 8 * length (words_to many)) (type_header types many)) (as_many_headers types many)
              (nth_last memory InStatics (start + 8 * length (words_to many)) start
              (start + 8 * length (words_to many)) (up_to (type_headers types) many) (type_header types many)
              (row memory many (omega (arith, le)) before))))
        ]

    placed_words : ArePlacedTypes types start (words_to (length types)) type_at
    placed_words = record {
      as_many = told.as_many;
      few =
          let long = words_long (length types) in
          let few = few_words (length types) (omega arith) in
          omega (arith, long, few);
      row = λ memory t. row memory (length types) (omega arith) t;
      each = λ memory t type within depth. held memory t depth type within;
      starts = λ memory t type within. starts memory (length types) type (omega arith) within t;
      below = λ type within.
          let e = told.each type within in
          let long = words_long (length types) in
          let rise = words_rise types type (length types) within in
          omega (arith, e, long, rise);
    }

    -- words that are those of all objects place them
    pub types_placed : (words : List ℕ) → words ≡ words_to (length types) → ArePlacedTypes types start words type_at
    types_placed words e = subst (λ (ws : List ℕ). ArePlacedTypes types start ws type_at) (sym e) placed_words

-- Objects that are told from an address on: their headers and words, and that they are whole.
use Rattle.std.proofs.Common.{zero}
use Rattle.std.proofs.Common.{◌≡◌, ℕ, suc, ◌+◌, ◌*◌, ◌<◌, ◌≤◌, ◌^◌, true, refl, sym, ap, ◌∙◌, subst}
use Rattle.std.proofs.Common.{arith}
use Rattle.std.proofs.Common.{List, [], ◌∷◌, ◌++◌, length, Some, All, get_or}
use Rattle.std.specs.Prelude.{slice_index, option_and_then, nat_le, ◌&&◌, IsSome, ◌↔◌}
use Rattle.std.proofs.lemmas.List.{get_or_append_left}
use Rattle.std.proofs.lemmas.List.Elements.{All-head, All-tail}
use Rattle.std.proofs.Math.Seq.{get_or-append_seam}
use Rattle.grift_base.specs.Types.{TypeRow, IntRow, BoolRow, UnitRow, DynRow, FunRow, TupleRow, RefRow, VectRow}
use Rattle.grift_base.specs.Types.{parts_of}
use Rattle.type_graph.specs.TypeTables.{HasWidth}
use Rattle.object_layout.specs.declared.headers.Header.{Header}
use Rattle.object_layout.specs.declared.kinds.Kind.{Kind as ObjectKind}
use Rattle.object_layout.specs.declared.wholes.Area.TheVariants.{Statics as InStatics}
use Rattle.object_layout.specs.Headers.{packed, unpacked}
use Rattle.object_layout.specs.Kinds.{kind_of, allows_count, wanted_words}
use Rattle.object_layout.specs.declared.wholes.Area.{Area}
use Rattle.object_layout.specs.Wholes.{Fills, IsNth}
use Rattle.object_layout.specs.Wholes.{Telling, AreWanted, HasHeight, IsWhole, header_at, kind_at}
use Rattle.object_layout.proofs.Public.{unpacks, number_of_kind, small_number}
use Rattle.coercion_norm.specs.StaticObjects.{StandEach, Tells, header, type_kind, words_at}

-- ---- words

-- words that stand one behind another from an address on are two runs of words, where none stand anywhere, and where
-- the first of some stands apart from those behind it
pub words_part : (Stands : ℕ → ℕ → Type 0) (Stand : ℕ → List ℕ → Type 0) → ((at : ℕ) → Stand at [])
    → ((at x : ℕ) (xs : List ℕ) → Stand at (x ∷ xs) ↔ (Stands at x × Stand (at + 8) xs)) → (at : ℕ) (xs ys : List ℕ)
    → Stand at (xs ++ ys) → Stand at xs × Stand (at + 8 * length xs) ys
words_part Stands Stand none first at [] ys h =
    let e : at ≡ at + 8 * 0 = omega arith in (none at, subst (λ a. Stand a ys) e h)
words_part Stands Stand none first at (x ∷ xs) ys h =
    let apart = (first at x (xs ++ ys)).0 h in
    let rest = words_part Stands Stand none first (at + 8) xs ys apart.1 in
    let e : at + 8 + 8 * length xs ≡ at + 8 * length (x ∷ xs) = omega arith in
    ((first at x xs).1 (apart.0, rest.0), subst (λ a. Stand a ys) e rest.1)

pub tells_both : (memory : Telling) (at : ℕ) (xs ys : List ℕ) → Tells memory at (xs ++ ys)
    → Tells memory at xs × Tells memory (at + 8 * length xs) ys
tells_both memory =
    words_part (λ at x. memory at ≡ Some x) (Tells memory) (λ at. tt) (λ at x xs. (λ h. h, λ h. h))

-- words that are told for places hold what stands there
pub stand_each : (memory : Telling) (Holds : ℕ → ℕ → Type 0) (told : List ℕ) (at : ℕ) (places : List ℕ)
    → Tells memory at (words_at told places) → All (λ place. Holds (slice_index told place) place) places
    → StandEach memory Holds at places
stand_each memory Holds told at [] t all = tt
stand_each memory Holds told at (place ∷ places) t all = (
  (
    slice_index told place,
    t.0,
    All-head (λ p. Holds (slice_index told p) p) place places all,
  ),
  stand_each memory Holds told (at + 8) places t.1 (All-tail (λ p. Holds (slice_index told p) p) place places all),
)

-- one word more is told
pub told_old : (told : List ℕ) (word k : ℕ) → k < length told
    → slice_index (told ++ word ∷ []) k ≡ slice_index told k
told_old told word k within = get_or_append_left told (word ∷ []) 0 k within

pub told_last : (told : List ℕ) (word k : ℕ) → k ≡ length told → slice_index (told ++ word ∷ []) k ≡ word
told_last told word k e = ap (λ i. get_or (told ++ word ∷ []) i 0) e ∙ get_or-append_seam told word [] 0

-- ---- headers

-- the header that a word says
pub told_header : (memory : Telling) (at : ℕ) (kind : ObjectKind) (high count : ℕ) → high < 2 ^ 16 → count < 2 ^ 32
    → memory at ≡ Some (packed (header kind high count)) → header_at memory at ≡ Some (header kind high count)
told_header memory at kind high count low few e =
    ap (option_and_then unpacked) e
    ∙ (unpacks (header kind high count) (small_number kind) low few).1
    (subst IsSome (sym (number_of_kind kind)) is_there)
  where
    is_there : IsSome (Some kind)
    is_there = refl

-- the kind of the object whose header is told
pub told_kind : (memory : Telling) (at : ℕ) (kind : ObjectKind) (high count : ℕ)
    → header_at memory at ≡ Some (header kind high count) → kind_at memory at ≡ Some kind
told_kind memory at kind high count e =
    ap (option_and_then (λ h. kind_of h.kind)) e ∙ number_of_kind kind

-- ---- objects of types

one_more : (parts : List ℕ) (last : ℕ) → length (parts ++ last ∷ []) ≡ suc (length parts)
one_more [] last = refl
one_more (part ∷ parts) last = ap suc (one_more parts last)

pub few_parts : (row : TypeRow) → HasWidth row → length (parts_of row) ≤ 8
few_parts IntRow wide = omega arith
few_parts BoolRow wide = omega arith
few_parts UnitRow wide = omega arith
few_parts DynRow wide = omega arith
few_parts (FunRow parameters answer) wide = let e = one_more parameters answer in omega (arith, e, wide)
few_parts (TupleRow parts) wide = wide.1
few_parts (RefRow content) wide = omega arith
few_parts (VectRow content) wide = omega arith

pub within_both : (least most n : ℕ) → least ≤ n → n ≤ most → (nat_le least n && nat_le n most) ≡ true
within_both least most n low high = grind arith

type_count : (row : TypeRow) → HasWidth row → allows_count (type_kind row) (length (parts_of row)) ≡ true
type_count IntRow wide = refl
type_count BoolRow wide = refl
type_count UnitRow wide = refl
type_count DynRow wide = refl
type_count (FunRow parameters answer) wide =
    let e = one_more parameters answer in
    within_both 1 7 (length (parameters ++ answer ∷ [])) (omega (arith, e)) (omega (arith, e, wide))
type_count (TupleRow parts) wide = within_both 1 8 (length parts) wide.0 wide.1
type_count (RefRow content) wide = refl
type_count (VectRow content) wide = refl

type_words : (memory : Telling) (own at count : ℕ) (row : TypeRow)
    → AreWanted memory own at (wanted_words (type_kind row) count)
type_words memory own at count IntRow = tt
type_words memory own at count _ = tt

type_high : (row : TypeRow) (high parts : ℕ) → HasHeight (type_kind row) high parts
type_high IntRow high parts = tt
type_high _ high parts = tt

-- the object of a type is whole
pub whole_type : (memory : Telling) (end at high : ℕ) (row : TypeRow) → HasWidth row
    → header_at memory at ≡ Some (header (type_kind row) high (length (parts_of row)))
    → at + (8 + 8 * length (parts_of row)) ≤ end
    → IsWhole memory InStatics end at (header (type_kind row) high (length (parts_of row)))
whole_type memory end at high row wide e fits = record {
  header = e;
  kind = type_kind row;
  kind_is = number_of_kind (type_kind row);
  count = type_count row wide;
  fits = fits;
  words = type_words memory at (at + 8) (length (parts_of row)) row;
  height = type_high row high _;
  stands = tt;
}

-- ---- where objects begin

pub nth_kept : (from : ℕ) (headers more : List Header) (place at : ℕ) (h : Header) → IsNth from headers place at h
    → IsNth from (headers ++ more) place at h
nth_kept from [] more place at h n = absurd n
nth_kept from (k ∷ rest) more zero at h n = n
nth_kept from (k ∷ rest) more (suc place) at h n = nth_kept (from + (8 + 8 * k.count)) rest more place at h n

-- behind a row begins the next object
pub nth_last : (memory : Telling) (area : Area) (end from to : ℕ) (headers : List Header) (h : Header)
    → Fills memory area end from headers to → IsNth from (headers ++ h ∷ []) (length headers) to h
nth_last memory area end from to [] h f = (sym f, refl)
nth_last memory area end from to (k ∷ rest) h f =
    nth_last memory area end (from + (8 + 8 * k.count)) to rest h f.1

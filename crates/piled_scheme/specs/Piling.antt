-- A scheme in which casts pile up: each cast of a box makes an object of three words over what it wraps. It knows casts
-- between Int, Bool, Unit and boxes of these; of such types each part is kept as it is or blamed.
use Rattle.std.specs.Prelude.{◌≡◌, ℕ, suc, ◌+◌, ◌*◌, ◌<◌, ◌^◌, true, false, Bool, if◌then◌else◌}
use Rattle.std.specs.Prelude.{◌⊎◌, List, [], ◌∷◌, ◌++◌, Some, slice_get, map, Option}
use Rattle.grift_base.specs.Types.{TypeRow, TypeRows, RefRow}
use Rattle.grift_base.specs.Types.{row_at, same_head, is_base}
use Rattle.grift_base.specs.declared.words.Statics.{Statics}
use Rattle.object_layout.specs.declared.kinds.Kind.TheVariants.{Boxed}
use Rattle.object_layout.specs.Kinds.{kind_number}
use Rattle.cast_modes.specs.Modes.{TypeCast, type_cast, piling}
use Rattle.coercion_norm.specs.Objects.{Object, Fixed, Cell}
use Rattle.coercion_norm.specs.Held.{Layout, There}
use Rattle.coercion_norm.specs.Nodes.{Node}
use Rattle.coercion_norm.specs.ObjectsOfRows.{header}
use Rattle.coercion_norm.specs.Statics.{layout_of}
use Rattle.coer_core.specs.TurnPrices.{piled_prices}
use Rattle.lower.specs.Meanings.{Meaning, IsOwn}
use Rattle.lower.specs.MergedMeaning.{width_of}

-- ---- types and the words of casts

-- Int, Bool and Unit, and boxes of these
pub data IsKnown (types : TypeRows) : TypeRow → Type 0 where
  PlainType : (row : TypeRow) → is_base row ≡ true → IsKnown types row
  BoxType : (content : ℕ) (inner : TypeRow) → row_at types content ≡ Some inner → is_base inner ≡ true
      → IsKnown types (RefRow content)

-- what is done with a value: 0 where it is kept, and one more than the label where that is blamed
abbrev pub fate_by : Bool → ℕ → ℕ
fate_by kept label = if kept then 0 else suc label

abbrev pub fate : TypeRow → TypeRow → ℕ → ℕ
fate row other label = fate_by (same_head row other) label

-- both rows are there, and have the same head
abbrev pub are_alike : Option TypeRow → Option TypeRow → Bool
are_alike (Some row) (Some other) = same_head row other
are_alike _ _ = false

-- what is handed on for a cast: twice what is done with the value, or, where it is wrapped, one more than twice what is
-- done with what is read and written
abbrev pub word_between : TypeRows → TypeRow → TypeRow → ℕ → ℕ
word_between types (RefRow content) (RefRow wanted) label =
    1 + 2 * fate_by (are_alike (row_at types content) (row_at types wanted)) label
word_between types row other label = 2 * fate row other label

-- the same by rows that may be there
abbrev pub word_by : TypeRows → Option TypeRow → Option TypeRow → ℕ → ℕ
word_by types (Some row) (Some other) label = word_between types row other label
word_by types _ _ label = 0

abbrev pub word_of : TypeRows → TypeCast → ℕ
word_of types cast = word_by types (row_at types cast.from) (row_at types cast.to) cast.label

-- every label is below
abbrev pub most_labels : ℕ
most_labels = 2 ^ 32

-- the cast is one of those that are known, between these rows
pub record IsPiled (types : TypeRows) (cast : TypeCast) : Type 0 where
  pub row : TypeRow
  pub other : TypeRow
  pub from_is : row_at types cast.from ≡ Some row
  pub to_is : row_at types cast.to ≡ Some other
  pub known : IsKnown types row
  pub known_other : IsKnown types other
  pub small : cast.label < most_labels

-- all are known
abbrev pub AreKnown : TypeRows → List TypeCast → Type 0
AreKnown types casts = (number : ℕ) (cast : TypeCast) → slice_get casts number ≡ Some cast → IsPiled types cast

-- and these words are handed on for them
abbrev pub ArePiled : Layout → List TypeCast → List ℕ → Type 0
ArePiled l casts words = AreKnown l.types casts × (words ≡ map (word_of l.types) casts)

-- ---- wrappers

-- no other object has this kind
abbrev pub wrapper_kind : ℕ
wrapper_kind = 25

abbrev pub wrapper_header : ℕ
wrapper_header = header wrapper_kind 0 2

-- over what stands at an address, with what is done with what is read and written
abbrev pub wrapper_object : ℕ → ℕ → Object
wrapper_object inner part = Fixed wrapper_header (inner ∷ part ∷ [])

-- a cast between known types without parts, and what it does
pub record IsPlain (types : TypeRows) (cast : TypeCast) (part : ℕ) : Type 0 where
  pub inner : TypeRow
  pub outer : TypeRow
  pub from_is : row_at types cast.from ≡ Some inner
  pub to_is : row_at types cast.to ≡ Some outer
  pub plain : is_base inner ≡ true
  pub plain_outer : is_base outer ≡ true
  pub part_is : part ≡ fate inner outer cast.label
  pub small : cast.label < most_labels

-- a cast between boxes, and what is done with what is read and written
pub record IsBoxCast (types : TypeRows) (cast : TypeCast) (part : ℕ) : Type 0 where
  pub content : ℕ
  pub wanted : ℕ
  pub from_is : row_at types cast.from ≡ Some (RefRow content)
  pub to_is : row_at types cast.to ≡ Some (RefRow wanted)
  pub reading : IsPlain types (type_cast content cast.label wanted) part

-- one wrapper, over what stands at the first address
pub record IsWrapped (l : Layout) (objects : List Object) (cast : TypeCast) (inner w : ℕ) : Type 0 where
  pub part : ℕ
  pub there : There l objects w (wrapper_object inner part)
  pub is : IsBoxCast l.types cast part

-- wrappers one over another, the innermost first
abbrev pub Pile : Layout → List Object → List TypeCast → ℕ → ℕ → Type 0
Pile l objects [] target w = target ≡ w
Pile l objects (cast ∷ casts) target w =
    (over : ℕ) × IsWrapped l objects cast target over × Pile l objects casts over w

-- a box
abbrev pub IsBox : Layout → List Object → ℕ → Type 0
IsBox l objects w = There l objects w (Cell (header (kind_number Boxed) 0 1) 1)

-- one at least, over a box
abbrev pub piled_wraps : Layout → List Object → List TypeCast → ℕ → ℕ → Type 0
piled_wraps l objects [] target w = ⊥
piled_wraps l objects (cast ∷ casts) target w = IsBox l objects target × Pile l objects (cast ∷ casts) target w

-- objects behind others, of which so many are wrappers, each over an object before it; the others are closures, tuples,
-- boxes and vectors
abbrev pub AreStacked : Layout → List Object → List Object → ℕ → Type 0
AreStacked l before [] number = number ≡ 0
AreStacked l before (o ∷ objects) number =
    (IsOwn o × AreStacked l (before ++ o ∷ []) objects number)
    ⊎ ((inner part : ℕ) × (under : Object) × (fewer : ℕ) × (o ≡ wrapper_object inner part)
    × There l before inner under × (number ≡ suc fewer) × AreStacked l (before ++ o ∷ []) objects fewer)

-- what runs are told: types and coercions stand in front of the region, and there are no proxies
abbrev pub piled_layout : TypeRows → List Node → ℕ → Statics → ℕ → Layout
piled_layout types nodes start statics region = layout_of types nodes start statics [] region 0 (width_of types)

-- Casts are made one by one. There are as many wrappers as wrap steps were made. No value is in Dyn, and no function is
-- wrapped, so nothing waits for what one gives.
abbrev pub piled_meaning : Meaning
piled_meaning = record {
  Cast = TypeCast;
  mode = λ types casts. piling types casts;
  prices = λ types casts m. piled_prices (piling types casts) m;
  Wraps = λ l objects casts target w. piled_wraps l objects casts target w;
  MayKeep = λ l kept. ⊥;
  CastWords = λ l casts words. ArePiled l casts words;
  Keeps = λ l objects number. AreStacked l [] objects number;
  Resumes = λ setting l objects waiting casts. ⊥;
  serving = λ l. 1;
}

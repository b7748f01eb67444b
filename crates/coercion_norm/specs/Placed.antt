-- Objects that are placed one after the other: those of types, and what holds of those of coercions so far.
use Rattle.std.specs.Prelude.{◌≡◌, ℕ, zero, suc, ◌+◌, ◌*◌, ◌<◌, ◌≤◌, false, List, ◌++◌, length, Some, slice_index}
use Rattle.grift_base.specs.Types.{TypeRows, parts_of}
use Rattle.type_graph.specs.Trees.{height}
use Rattle.object_layout.specs.declared.wholes.Area.TheVariants.{Statics as InStatics}
use Rattle.object_layout.specs.Wholes.{Telling, IsNth, IsRow, StartsAt}
use Rattle.coercion_norm.specs.Coercions.{is_id, rows_of}
use Rattle.coercion_norm.specs.Heights.{coercion_height}
use Rattle.coercion_norm.specs.Nodes.{Node, tree_of}
use Rattle.coercion_norm.specs.StaticObjects.{HoldsCoercion, HoldsType, Tells, coercion_headers, type_header}
use Rattle.coercion_norm.specs.StaticObjects.{type_headers, up_to}
use Rattle.coercion_norm.specs.Objects.{Object, object_at, words_of_all}
use Rattle.coercion_norm.specs.ObjectsOfRows.{object_of_type, type_objects}
use Rattle.coercion_norm.specs.Held.{Held}
use Rattle.coercion_norm.specs.Statics.{layout_over, told_objects}

-- how many words the objects of the types before this one have
abbrev pub words_before : TypeRows → ℕ → ℕ
words_before types zero = 0
words_before types (suc type) = words_before types type + suc (length (parts_of (rows_of types type)))

-- The addresses of the first types, as many as are told: the object of each begins behind those of the types before it.
pub record AreTypeAddresses (types : TypeRows) (start many : ℕ) (type_at : List ℕ) : Type 0 where
  pub as_many : length type_at ≡ many
  pub each : (type : ℕ) → type < many → slice_index type_at type ≡ start + 8 * words_before types type

-- The words from `start` on are the objects of all types, and each type's address is told.
pub record ArePlacedTypes (types : TypeRows) (start : ℕ) (words type_at : List ℕ) : Type 0 where
  pub as_many : length type_at ≡ length types
  pub few : length words ≤ 9 * length types
  pub row : (memory : Telling) → Tells memory start words
      → IsRow memory InStatics start (up_to (type_headers types) (length types)) (start + 8 * length words)
  pub each : (memory : Telling) → Tells memory start words → (type : ℕ) → type < length types
      → HoldsType memory types (slice_index type_at type) type
  pub starts : (memory : Telling) → Tells memory start words → (type : ℕ) → type < length types
      → IsNth start (up_to (type_headers types) (length types)) type (slice_index type_at type)
      (type_header types type)
  pub below : (type : ℕ) → type < length types → slice_index type_at type < start + 8 * length words

-- The words from `start` on are the objects of all types, whose addresses are told, and behind them those of the first
-- coercions, as many as words are told for them.
pub record ArePlaced (types : TypeRows) (nodes : List Node) (start : ℕ) (words type_at coercion_at : List ℕ) (many : ℕ)
    : Type 0 where
  pub as_many_types : length type_at ≡ length types
  pub each_type : (memory : Telling) → Tells memory start words → (type : ℕ) → type < length types
      → HoldsType memory types (slice_index type_at type) type
  pub type_starts : (memory : Telling) → Tells memory start words → (type : ℕ) → type < length types
      → IsNth start
      (up_to (type_headers types) (length types) ++ up_to (λ c. coercion_headers types (tree_of nodes c)) many)
      type (slice_index type_at type) (type_header types type)
  pub types_below : (type : ℕ) → type < length types → slice_index type_at type < start + 8 * length words
  pub as_many : length coercion_at ≡ many
  pub few : length words ≤ 9 * length types + 9 * many
  pub row : (memory : Telling) → Tells memory start words
      → IsRow memory InStatics start
      (up_to (type_headers types) (length types) ++ up_to (λ c. coercion_headers types (tree_of nodes c)) many)
      (start + 8 * length words)
  pub each : (memory : Telling) → Tells memory start words → (c : ℕ) → c < many
      → HoldsCoercion memory types (tree_of nodes c) (slice_index coercion_at c)
  pub starts : (memory : Telling) → Tells memory start words → (c : ℕ) → c < many → is_id (tree_of nodes c) ≡ false
      → StartsAt start
      (up_to (type_headers types) (length types) ++ up_to (λ c. coercion_headers types (tree_of nodes c)) many)
      (slice_index coercion_at c)
  pub below : (c : ℕ) → c < many → is_id (tree_of nodes c) ≡ false
      → slice_index coercion_at c < start + 8 * length words
  pub above : (c : ℕ) → c < many → is_id (tree_of nodes c) ≡ false → start ≤ slice_index coercion_at c
  pub zero_low : (c : ℕ) → c < many → slice_index coercion_at c ≡ 0
      → coercion_height (height types) (tree_of nodes c) ≡ 0

-- ---- the objects themselves

-- The words are those of the objects of all types: each stands at the address that is told for it, and its parts at
-- those that are told for them.
pub record SayTypes (types : TypeRows) (start : ℕ) (words type_at : List ℕ) : Type 0 where
  pub as_many : length type_at ≡ length types
  pub says : words ≡ words_of_all (type_objects types (λ type. slice_index type_at type) (length types))
  pub stand : (type : ℕ) → type < length types
      → object_at (type_objects types (λ t. slice_index type_at t) (length types)) start (slice_index type_at type)
      ≡ Some (object_of_type types (λ t. slice_index type_at t) type)
  pub rising : (type other : ℕ) → type < other → other < length types
      → slice_index type_at type < slice_index type_at other

-- The words are those of the objects of all types and of the first coercions, as many as words are told for them, and
-- these words hold the coercions, whatever stands behind. A table's coercions have no more than eight parts.
pub record SayCoercions (types : TypeRows) (nodes : List Node) (start : ℕ) (words type_at coercion_at : List ℕ)
    (many : ℕ) : Type 0 where
  pub as_many : length coercion_at ≡ many
  pub says : words ≡ words_of_all (told_objects types nodes type_at coercion_at many)
  pub held : (more objects : List Object) (region tallest c : ℕ) → c < many
      → Held (layout_over types type_at start (told_objects types nodes type_at coercion_at many ++ more) region
      tallest 8) objects (tree_of nodes c) (slice_index coercion_at c)

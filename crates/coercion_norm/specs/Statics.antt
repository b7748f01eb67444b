-- The statics of tables of types and coercions and of casts.
use Rattle.std.specs.Prelude.{◌≡◌, ℕ, ◌+◌, ◌*◌, ◌<◌, false, List, ◌++◌, length, map, Some, slice_get, slice_index}
use Rattle.grift_base.specs.Types.{TypeRows}
use Rattle.grift_base.specs.declared.words.Statics.{Statics}
use Rattle.object_layout.specs.declared.wholes.Area.TheVariants.{Statics as InStatics}
use Rattle.object_layout.specs.Wholes.{Telling, IsNth, IsRow, StartsAt}
use Rattle.coercion_norm.specs.Coercions.{Id, is_id}
use Rattle.coercion_norm.specs.Nodes.{Node, tree_of}
use Rattle.coercion_norm.specs.Objects.{Object, words_of_all}
use Rattle.coercion_norm.specs.ObjectsOfRows.{static_objects}
use Rattle.coercion_norm.specs.Held.{Layout, Held, TypesStand}
use Rattle.coercion_norm.specs.StaticObjects.{HoldsCoercion, HoldsType, Tells, static_headers, type_header}
use Rattle.coercion_norm.specs.Widths.{CoercionNoWider, NoWider}
use Rattle.coercion_norm.specs.declared.cast_rows.CastRow.{CastRow}

-- what a run is told where types have these addresses and these objects stand before the region, of proxies that are no
-- higher and coercions that are no wider than this
abbrev pub layout_over : TypeRows → List ℕ → ℕ → List Object → ℕ → ℕ → ℕ → Layout
layout_over types type_at start statics region tallest width = record {
  types = types;
  type_at = λ type. slice_index type_at type;
  width = width;
  statics = statics;
  first = start;
  region = region;
  tallest = tallest;
}

-- the objects of all types and of the first coercions, where these words are told for types and coercions
abbrev pub told_objects : TypeRows → List Node → List ℕ → List ℕ → ℕ → List Object
told_objects types nodes type_at coercion_at =
    static_objects types (λ type. slice_index type_at type) nodes (λ c. slice_index coercion_at c)

-- what a function gives for each place of a list, where it has so many
abbrev pub HasWordEach : List ℕ → ℕ → (ℕ → ℕ → Type 0) → Type 0
HasWordEach words many Holds =
    (length words ≡ many) × ((place : ℕ) → place < many → Holds (slice_index words place) place)

-- the objects of all types and of all coercions but Id
abbrev pub objects_of : TypeRows → List Node → Statics → List Object
objects_of types nodes statics = told_objects types nodes statics.type_at statics.coercion_at (length nodes)

-- what a run is told where these objects stand, with others behind them, before the region
abbrev pub layout_of : TypeRows → List Node → ℕ → Statics → List Object → ℕ → ℕ → ℕ → Layout
layout_of types nodes start statics more region tallest width =
    layout_over types statics.type_at start (objects_of types nodes statics ++ more) region tallest width

-- The statics of these tables and casts from an address on: the words of the objects of all types and coercions. Where
-- these objects stand, with any others behind them, types stand at the addresses that are told for them, and the words
-- that are told for coercions and casts hold their coercions, with any width that no type and no coercion exceeds. In
-- each memory that has their words there, whole objects
-- fill them without gaps, one for each type and one for each coercion but Id, and the words that are told for types and
-- coercions hold these. The word of a type is the address at which its object begins, and so is that of a coercion but
-- Id. The word of a cast is that of its coercion. No coercion but Id has the word 0, unless the statics begin at 0.
pub record AreStatics (types : TypeRows) (nodes : List Node) (casts : List CastRow) (start : ℕ) (statics : Statics)
    : Type 0 where
  pub says : statics.words ≡ words_of_all (objects_of types nodes statics)
  pub types_stand : (more : List Object) (region tallest width : ℕ) → NoWider width types
      → TypesStand (layout_of types nodes start statics more region tallest width)
  pub held : (more objects : List Object) (region tallest width c : ℕ) → c < length nodes
      → CoercionNoWider width (tree_of nodes c)
      → Held (layout_of types nodes start statics more region tallest width) objects (tree_of nodes c)
      (slice_index statics.coercion_at c)
  pub casts_held : (more objects : List Object) (region tallest width place : ℕ) (cast : CastRow)
      → slice_get casts place ≡ Some cast → CoercionNoWider width (tree_of nodes cast.coercion.0)
      → Held (layout_of types nodes start statics more region tallest width) objects (tree_of nodes cast.coercion.0)
      (slice_index statics.cast_at place)
  pub whole : (memory : Telling) → Tells memory start statics.words
      → IsRow memory InStatics start (static_headers types nodes) (start + 8 * length statics.words)
  pub type_words : (memory : Telling) → Tells memory start statics.words
      → HasWordEach statics.type_at (length types) (HoldsType memory types)
  pub coercion_words : (memory : Telling) → Tells memory start statics.words
      → HasWordEach statics.coercion_at (length nodes) (λ word c. HoldsCoercion memory types (tree_of nodes c) word)
  pub type_starts : (memory : Telling) → Tells memory start statics.words → (type : ℕ) → type < length types
      → IsNth start (static_headers types nodes) type (slice_index statics.type_at type) (type_header types type)
  pub coercion_starts : (memory : Telling) → Tells memory start statics.words → (c : ℕ) → c < length nodes
      → is_id (tree_of nodes c) ≡ false
      → StartsAt start (static_headers types nodes) (slice_index statics.coercion_at c)
  pub cast_words : statics.cast_at ≡ map (λ cast. slice_index statics.coercion_at cast.coercion.0) casts
  pub only_id : 0 < start → (c : ℕ) → c < length nodes → slice_index statics.coercion_at c ≡ 0
      → tree_of nodes c ≡ Id

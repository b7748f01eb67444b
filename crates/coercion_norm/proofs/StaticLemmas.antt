-- The statics that are placed are those of the tables and casts.
use Rattle.std.proofs.Common.{◌≡◌, ℕ, zero, suc, ◌<◌, Bool, true, false, refl, sym, ap, ◌∙◌, subst, arith}
use Rattle.std.proofs.Common.{List, [], ◌∷◌, length, map, Some, All}
use Rattle.std.specs.Prelude.{slice_index, slice_get}
use Rattle.std.proofs.lemmas.List.Elements.{All-head, All-tail}
use Rattle.grift_base.specs.Types.{TypeRows}
use Rattle.grift_base.specs.declared.words.Statics.{Statics}
use Rattle.type_graph.specs.TypeTables.{IsOrderedTable}
use Rattle.type_graph.proofs.Public.{same_some}
use Rattle.coercion_norm.specs.Coercions.{Id, is_id}
use Rattle.coercion_norm.specs.Nodes.{Node, tree_of}
use Rattle.coercion_norm.specs.Held.{Held}
use Rattle.coercion_norm.specs.ObjectsOfRows.{coercion_objects}
use Rattle.coercion_norm.specs.Objects.{Object}
use Rattle.coercion_norm.specs.Placed.{ArePlaced, SayCoercions, SayTypes}
use Rattle.coercion_norm.specs.Statics.{AreStatics, layout_of}
use Rattle.coercion_norm.specs.Widths.{CoercionNoWider}
use Rattle.coercion_norm.specs.declared.cast_rows.CastRow.{CastRow}
use Rattle.coercion_norm.proofs.OneDepth.{id_is}
use Rattle.coercion_norm.proofs.TypeObjects.{types_stand}
use Rattle.coercion_norm.proofs.WidthLemmas.{held_so_wide, types_so_wide}

-- the word of a cast is that of its coercion
cast_word : (told : List ℕ) (casts : List CastRow) (place : ℕ) (cast : CastRow) → slice_get casts place ≡ Some cast
    → slice_index (map (λ (other : CastRow). slice_index told other.coercion.0) casts) place
    ≡ slice_index told cast.coercion.0
cast_word told [] place cast e = absurd (cc e)
cast_word told (first ∷ casts) zero cast e =
    ap (λ (other : CastRow). slice_index told other.coercion.0) (same_some first cast e)
cast_word told (first ∷ casts) (suc place) cast e = cast_word told casts place cast e

-- its coercion is there
cast_there : (many : ℕ) (casts : List CastRow) (place : ℕ) (cast : CastRow)
    → All (λ (other : CastRow). other.coercion.0 < many) casts → slice_get casts place ≡ Some cast
    → cast.coercion.0 < many
cast_there many [] place cast all e = absurd (cc e)
cast_there many (first ∷ casts) zero cast all e =
    subst (λ (other : CastRow). other.coercion.0 < many) (same_some first cast e)
    (All-head (λ (other : CastRow). other.coercion.0 < many) first casts all)
cast_there many (first ∷ casts) (suc place) cast all e =
    cast_there many casts place cast (All-tail (λ (other : CastRow). other.coercion.0 < many) first casts all) e

pub are_statics : (types : TypeRows) (table : IsOrderedTable types) (nodes : List Node) (casts : List CastRow)
    (start : ℕ) (statics : Statics) (first : List ℕ) → SayTypes types start first statics.type_at
    → ArePlaced types nodes start statics.words statics.type_at statics.coercion_at (length nodes)
    → SayCoercions types nodes start statics.words statics.type_at statics.coercion_at (length nodes)
    → All (λ (cast : CastRow). cast.coercion.0 < length nodes) casts
    → statics.cast_at ≡ map (λ (cast : CastRow). slice_index statics.coercion_at cast.coercion.0) casts
    → AreStatics types nodes casts start statics
are_statics types table nodes casts start statics first types_said placed said there cast_at = record {
  says = said.says;
  types_stand = λ more region tallest width wide.
      types_so_wide (layout_of types nodes start statics more region tallest 8) width wide
      (types_stand types table start first statics.type_at types_said
      (coercion_objects types (λ type. slice_index statics.type_at type) nodes
      (λ c. slice_index statics.coercion_at c) (length nodes)) more region tallest);
  held = so_wide;
  casts_held = λ more objects region tallest width place cast e few.
      subst
      (Held (layout_of types nodes start statics more region tallest width) objects (tree_of nodes cast.coercion.0))
      (sym (ap (λ (ws : List ℕ). slice_index ws place) cast_at ∙ cast_word statics.coercion_at casts place cast e))
      (so_wide more objects region tallest width cast.coercion.0
      (cast_there (length nodes) casts place cast there e) few);
  whole = placed.row;
  type_words = λ memory t. (placed.as_many_types, placed.each_type memory t);
  coercion_words = λ memory t. (placed.as_many, placed.each memory t);
  type_starts = placed.type_starts;
  coercion_starts = placed.starts;
  cast_words = cast_at;
  only_id = λ above c within none. by_test above c within none (is_id (tree_of nodes c)) refl;
}
  where
    so_wide : (more objects : List Object) (region tallest width c : ℕ) → c < length nodes
        → CoercionNoWider width (tree_of nodes c)
        → Held (layout_of types nodes start statics more region tallest width) objects (tree_of nodes c)
        (slice_index statics.coercion_at c)
    so_wide more objects region tallest width c within few =
        held_so_wide (layout_of types nodes start statics more region tallest 8) width objects (tree_of nodes c)
        (slice_index statics.coercion_at c) few (said.held more objects region tallest c within)

    by_test : 0 < start → (c : ℕ) → c < length nodes → slice_index statics.coercion_at c ≡ 0
        → (b : Bool) → is_id (tree_of nodes c) ≡ b → tree_of nodes c ≡ Id
    by_test above c within none true e = id_is (tree_of nodes c) e
    by_test above c within none false e =
        let low = placed.above c within e in absurd (omega (arith, above, none, low))

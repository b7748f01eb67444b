-- The words that are handed on for casts hold their coercions.
use Rattle.std.proofs.Common.{◌≡◌, ℕ, zero, suc, ◌<◌, ◌≤◌, ◌^◌, max, List, [], ◌∷◌, length, Some}
use Rattle.std.proofs.Common.{refl}
use Rattle.std.proofs.Common.{sym, ap, ◌∙◌, subst, slice_get, append-nil, arith}
use Rattle.std.specs.Prelude.{All, slice_index}
use Rattle.std.proofs.lemmas.Option.{slice_get_within}
use Rattle.std.proofs.lemmas.List.{length-map}
use Rattle.std.proofs.lemmas.List.Elements.{All-head, All-tail}
use Rattle.grift_base.specs.Types.{TypeRows}
use Rattle.grift_base.specs.declared.words.Statics.{Statics}
use Rattle.type_graph.specs.Trees.{height}
use Rattle.coercion_norm.specs.Coercions.{rows_of}
use Rattle.coercion_norm.specs.CoercionTables.{cast_of}
use Rattle.coercion_norm.specs.Heights.{AreHeights}
use Rattle.coercion_norm.specs.Held.{Layout, Held}
use Rattle.cast_modes.specs.Modes.{TypeCast}
use Rattle.coercion_norm.specs.CastRows.{row_cast, row_casts}
use Rattle.coercion_norm.specs.Nodes.{Node, IsTree, tree_of}
use Rattle.coercion_norm.specs.Objects.{words_of_all}
use Rattle.coercion_norm.specs.Statics.{AreStatics, objects_of}
use Rattle.coercion_norm.specs.Widths.{CoercionNoWider}
use Rattle.coercion_norm.specs.declared.cast_rows.CastRow.{CastRow}
use Rattle.coercion_norm.proofs.Public.{cast_no_wider, coerce_no_higher, coerce_normal}
use Rattle.coer_core.proofs.Public.{no_wider}
use Rattle.coer_core.specs.Programs.{HaveCoercions, cast_height, tallest_of}
use Rattle.lowered_code.specs.Emit.{cast_word}
use Rattle.lower.specs.MadePrograms.{StaticsServe}
use Rattle.lower.specs.MergedMeaning.{MergedCasts, merged_layout, merged_meaning, width_of}

-- what holds of each element holds of the one at a place
at : {X : Type 0} (P : X → Type 0) (xs : List X) → All P xs → (k : ℕ) (x : X) → slice_get xs k ≡ Some x → P x
at P [] h k x e = absurd (let f : ⊥ = cc in f)
at P (y ∷ ys) h zero x e = subst P (let same : y ≡ x = cc in same) (All-head P y ys h)
at P (y ∷ ys) h (suc k) x e = at P ys (All-tail P y ys h) k x e

word_at : (words : List ℕ) (k : ℕ) → k < length words → cast_word (slice_get words k) ≡ slice_index words k
word_at [] k h = omega (arith, h)
word_at (w ∷ words) zero h = refl
word_at (w ∷ words) (suc k) h = word_at words k (omega (arith, h))

word_there : (words : List ℕ) (k : ℕ) → k < length words → slice_get words k ≡ Some (slice_index words k)
word_there [] k h = absurd (omega (arith, h))
word_there (w ∷ words) zero h = refl
word_there (w ∷ words) (suc k) h = word_there words k (omega (arith, h))

-- the row of a cast
row_of_cast : (rows : List CastRow) (k : ℕ) (cast : TypeCast) → slice_get (row_casts rows) k ≡ Some cast
    → (row : CastRow) × (slice_get rows k ≡ Some row) × (row_cast row ≡ cast)
row_of_cast [] k cast e = cc
row_of_cast (row ∷ rows) zero cast e = (row, refl, cc)
row_of_cast (row ∷ rows) (suc k) cast e = row_of_cast rows k cast e

-- no cast is higher than the tallest
as_tall : (types : TypeRows) (casts : List TypeCast) (k : ℕ) (cast : TypeCast) → slice_get casts k ≡ Some cast
    → cast_height types cast ≤ tallest_of types casts
as_tall types [] k cast e = cc
as_tall types (other ∷ casts) zero cast e =
    let same : other ≡ cast = cc in
    subst (λ c. cast_height types c ≤ max (cast_height types other) (tallest_of types casts)) same (omega arith)
as_tall types (other ∷ casts) (suc k) cast e =
    let rest = as_tall types casts k cast e in omega (arith, rest)

-- the tallest is no higher than types may be
pub tallest_low : (types : TypeRows) → AreHeights (rows_of types) (height types)
    → ((type : ℕ) → height types type < 65535) → (casts : List TypeCast) → tallest_of types casts ≤ 65534
tallest_low types heights low [] = omega arith
tallest_low types heights low (cast ∷ casts) =
    let rest = tallest_low types heights low casts in
    let one = coerce_no_higher (rows_of types) (height types) heights
    (max (height types cast.from) (height types cast.to)) cast.from cast.to cast.label in
    let a = low cast.from in
    let b = low cast.to in omega (arith, rest, one, a, b)

module _ {types : TypeRows} {nodes : List Node} {rows : List CastRow} {start : ℕ} {statics : Statics}
    (placed : AreStatics types nodes rows start statics) (made : HaveCoercions types nodes rows)
    (words : All (λ w. w < 2 ^ 64) statics.cast_at) (region : ℕ)
    (low : tallest_of types (row_casts rows) ≤ 65534) where
  abbrev layout : Layout
  layout = merged_layout types nodes rows start statics region

  as_many : length statics.cast_at ≡ length rows
  as_many =
      ap length placed.cast_words ∙ length-map rows
      (λ (cast : CastRow). slice_index statics.coercion_at cast.coercion.0)

  pub casts_held : MergedCasts layout (row_casts rows) statics.cast_at
  casts_held = record {
    tallest = low;
    hold = λ number cast e.
        let row = row_of_cast rows number cast e in
        let less : number < length statics.cast_at =
        subst (λ n. number < n) (sym as_many) (slice_get_within rows number row.0 row.1) in
        let tree = at (λ (r : CastRow). IsTree nodes r.coercion.0 (cast_of types r.from.0 r.to.0 r.label.0)) rows made
        number row.0 row.1 in
        let word = word_at statics.cast_at number less in
        let narrow : CoercionNoWider (width_of types) (tree_of nodes row.0.coercion.0) =
        subst (CoercionNoWider (width_of types)) (sym tree.is)
        (cast_no_wider (width_of types) types (no_wider types) row.0.from.0 row.0.to.0 row.0.label.0) in
        let held = placed.casts_held [] [] region (tallest_of types (row_casts rows)) (width_of types) number row.0
        row.1 narrow in (
          subst (λ c. Held layout [] (cast_of types c.from c.to c.label) (cast_word (slice_get statics.cast_at number)))
              row.2 (subst (λ w. Held layout [] (cast_of types row.0.from.0 row.0.to.0 row.0.label.0) w) (sym word)
              (subst (λ c. Held layout [] c (slice_index statics.cast_at number)) tree.is held)),
          record {
            normal = coerce_normal (rows_of types) (max (height types cast.from) (height types cast.to)) cast.from
                cast.to cast.label;
            low = as_tall types (row_casts rows) number cast e;
          },
          subst (λ w. w < 2 ^ 64) (sym word)
              (at (λ w. w < 2 ^ 64) statics.cast_at words number (slice_index statics.cast_at number)
              (word_there statics.cast_at number less)),
        );
  }

-- so they serve the scheme, where the casts have their coercions in the table
pub merged_statics_serve : (types : TypeRows) (nodes : List Node) (rows : List CastRow) (start : ℕ) (statics : Statics)
    → AreStatics types nodes rows start statics → All (λ w. w < 2 ^ 64) statics.cast_at
    → HaveCoercions types nodes rows → (region : ℕ)
    → StaticsServe merged_meaning types (row_casts rows) start statics region
    (merged_layout types nodes rows start statics region)
merged_statics_serve types nodes rows start statics placed words made region =
    let tallest = tallest_of types (row_casts rows) in
    let stand = placed.types_stand [] region tallest (width_of types) (no_wider types) in
    record {
      types_are = refl;
      first_is = refl;
      region_is = refl;
      says = placed.says ∙ ap words_of_all (sym (append-nil (objects_of types nodes statics)));
      types_stand = stand;
      cast_words = casts_held placed made words region (tallest_low types stand.heights stand.low (row_casts rows));
    }

-- Lines of entries, and what is known of an entry directly inside.
use Rattle.std.proofs.Common.{◌≡◌, ℕ, ◌+◌, ◌<◌, List, [], ◌∷◌, ◌++◌, length, take, get_or, refl, sym, ap, ◌∙◌}
use Rattle.std.proofs.Common.{append_assoc, append-nil, Option, Some, None, subst}
use Rattle.std.specs.Prelude.{slice_get, codes, max, OnOk, Result, Ok, Err}
use Rattle.std.proofs.lemmas.List.{map_more}
use Rattle.grift_base.specs.Types.{TypeRows}
use Rattle.grift_base.specs.declared.places.Pos.{Pos}
use Rattle.cast_rules.specs.Making.{Entry, CastFrom, PartOf}
use Rattle.insert_steps.specs.Views.{entries_of, entry_of}
use Rattle.insert_steps.specs.declared.casts.CastEntry.{CastEntry}
use Rattle.type_graph.specs.Trees.{height}
use Rattle.coercion_norm.specs.Coercions.{Coercion, rows_of}
use Rattle.coercion_norm.specs.CoercionTables.{cast_of, composition_of}
use Rattle.coercion_norm.specs.Heights.{coercion_height}
use Rattle.coercion_norm.specs.Nodes.{Node, AreOrdered, Grows, IsTree, tree_of}
use Rattle.coercion_norm.specs.Texts.{HasLabels}
use Rattle.coercion_norm.proofs.Public.{coerce_labels, compose_labels, tree_kept}
use Rattle.coercion_norm.specs.declared.casts.Cast.{Cast}
use Rattle.listing.specs.CastLines.{CastFits, EntriesFit, IsNoCast, IsThisCast, entry_line, entry_lines, inner_entry}
use Rattle.listing.specs.CastLines.{merged_if, shown}

module _ (types : TypeRows) (labels : List Pos) where
  -- ---- lines

  entry_lines-push : (entries before : List Entry) (entry : Entry)
      → entry_lines types labels entries (before ++ entry ∷ [])
      ≡ entry_lines types labels entries before ++ entry_line types labels entries entry
  entry_lines-push entries [] entry = append-nil (entry_line types labels entries entry)
  entry_lines-push entries (first ∷ before) entry =
      ap (λ lines. entry_line types labels entries first ++ lines) (entry_lines-push entries before entry)
      ∙ sym (append_assoc (entry_line types labels entries first) (entry_lines types labels entries before)
      (entry_line types labels entries entry))

  -- one line more
  pub one_entry_more : (entries : List Entry) (casts : List CastEntry) (k : ℕ) (d : CastEntry) → k < length casts
      → entry_lines types labels entries (entries_of (take (k + 1) casts))
      ≡ entry_lines types labels entries (entries_of (take k casts))
      ++ entry_line types labels entries (entry_of (get_or casts k d))
  one_entry_more entries casts k d within =
      ap (entry_lines types labels entries) (map_more entry_of casts k d within)
      ∙ entry_lines-push entries (entries_of (take k casts)) (entry_of (get_or casts k d))

  -- ---- the entry directly inside

  -- where it is no cast nothing is merged
  pub nothing_merged : (entry : Option Entry) (outer : Coercion) → IsNoCast entry
      → merged_if types labels entry outer ≡ []
  nothing_merged (Some (CastFrom label from to inside)) outer h = absurd h
  nothing_merged (Some (PartOf label k)) outer h = refl
  nothing_merged None outer h = refl

  -- where it is this cast, that and the outer coercion are merged
  pub cast_merged : (cast : Cast) (entry : Option Entry) (outer : Coercion) → IsThisCast cast entry
      → merged_if types labels entry outer
      ≡ codes " merged "
      ++ shown types labels (composition_of types (cast_of types cast.from.0 cast.to.0 cast.label.0) outer)
  cast_merged cast (Some (CastFrom label from to inside)) outer h =
      ap (λ c. codes " merged " ++ shown types labels (composition_of types c outer))
      (ap (λ n. cast_of types n to label) h.1
      ∙ ap (λ n. cast_of types cast.from.0 n label) h.2
      ∙ ap (λ n. cast_of types cast.from.0 cast.to.0 n) h.0)
  cast_merged cast (Some (PartOf label k)) outer h = absurd h
  cast_merged cast None outer h = absurd h

  -- and it names a label and types that there are
  pub inner_fits : (cast : Cast) (entries : List Entry) (inside : Option ℕ) → EntriesFit types labels entries
      → IsThisCast cast (inner_entry entries inside) → CastFits types labels cast
  inner_fits cast entries None fit h = absurd h
  inner_fits cast entries (Some place) fit h = go (slice_get entries place) refl h
    where
      go : (entry : Option Entry) → slice_get entries place ≡ entry → IsThisCast cast entry → CastFits types labels cast
      go (Some (CastFrom label from to inside)) at h =
          let fits = fit place (CastFrom label from to inside) at in record {
            label = subst (λ (n : ℕ). n < length labels) h.0 fits.0;
            from = subst (λ (n : ℕ). n < length types) h.1 fits.1;
            to = subst (λ (n : ℕ). n < length types) h.2 fits.2;
          }
      go (Some (PartOf label k)) at h = absurd h
      go None at h = absurd h

-- ---- coercions in the table

of_cast : (types : TypeRows) (many : ℕ) (from to label : ℕ) → label < many
    → HasLabels many (cast_of types from to label)
of_cast types many from to label below =
    coerce_labels many (rows_of types) (max (height types from) (height types to)) from to label below

-- the labels of a cast's coercion
pub cast_labels : (types : TypeRows) (many : ℕ) (nodes : List Node) (place from to label : ℕ) → label < many
    → IsTree nodes place (cast_of types from to label) → HasLabels many (tree_of nodes place)
cast_labels types many nodes place from to label below is =
    subst (HasLabels many) (sym is.is) (of_cast types many from to label below)

-- the composition of a cast's coercion, which was made last, and one that stood there before
pub record AreComposed (types : TypeRows) (old mid new : List Node) (cast : Cast) (first outer both : ℕ) : Type 0 where
  pub ordered : AreOrdered old
  pub outer_there : outer < length old
  pub grows : Grows old mid
  pub first_is : IsTree mid first (cast_of types cast.from.0 cast.to.0 cast.label.0)
  pub both_is : IsTree new both (composition_of types (tree_of mid first) (tree_of mid outer))

pub composed : (types : TypeRows) (old mid new : List Node) (cast : Cast) (first outer both : ℕ)
    → AreComposed types old mid new cast first outer both
    → tree_of new both ≡ composition_of types (cast_of types cast.from.0 cast.to.0 cast.label.0) (tree_of old outer)
composed types old mid new cast first outer both are =
    are.both_is.is
    ∙ ap (λ c. composition_of types c (tree_of mid outer)) are.first_is.is
    ∙ ap (composition_of types (cast_of types cast.from.0 cast.to.0 cast.label.0))
    (tree_kept old mid are.ordered.before are.grows outer are.outer_there)

pub composed_labels : (types : TypeRows) (many : ℕ) (old mid new : List Node) (cast : Cast) (first outer both : ℕ)
    → AreComposed types old mid new cast first outer both → cast.label.0 < many → HasLabels many (tree_of old outer)
    → HasLabels many (tree_of new both)
composed_labels types many old mid new cast first outer both are below labels =
    let c : Coercion = cast_of types cast.from.0 cast.to.0 cast.label.0 in
    let d : Coercion = tree_of old outer in
    subst (HasLabels many) (sym (composed types old mid new cast first outer both are))
    (compose_labels many (rows_of types) (max (coercion_height (height types) c) (coercion_height (height types) d)) c d
    (of_cast types many cast.from.0 cast.to.0 cast.label.0 below) labels)

-- ---- answers

-- what an answer that is Ok says
pub where_ok : {A E P Q : Type 0} (answer : Result A E) → OnOk answer P → (P → Q) → OnOk answer Q
where_ok (Ok done) said then_too = then_too said
where_ok (Err fault) said then_too = tt

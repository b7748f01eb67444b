use Rattle.std.proofs.Common.{◌≡◌, ℕ, List, ◌++◌, length, sym, ap, subst, ◌∙◌, append_assoc}
use Rattle.std.specs.Prelude.{codes}
use Rattle.insert_steps.specs.Views.{entries_of}
use Rattle.coercion_norm.specs.Coercions.{Coercion}
use Rattle.coercion_norm.specs.CoercionTables.{NodeTable, cast_of}
use Rattle.coercion_norm.specs.Nodes.{tree_of}
use Rattle.coercion_norm.specs.Texts.{HasLabels}
use Rattle.listing.specs.CastLines.{inner_entry, merged_if, shown, types_part}
use Rattle.listing.proofs.CastLemmas.{cast_labels, where_ok}
use Rattle.listing.proofs.casts.write_cast.Goals as goal

pub write_coercion-requires-clause-labels : goal.write_coercion-requires-clause-labels
write_coercion-requires-clause-labels c =
    cast_labels c.args.types.now (length c.args.elab.now.labels) c.coerce.new.table.nodes c.in_ok-outer.outer.0
    c.args.cast.from.0 c.args.cast.to.0 c.args.cast.label.0 c.requires.cast.label c.in_ok-outer.ensures.made

pub write_merged-requires-clause-labels : goal.write_merged-requires-clause-labels
write_merged-requires-clause-labels c =
    subst (λ (t : NodeTable). HasLabels (length c.args.elab.now.labels) (tree_of t.nodes c.in_ok-outer.outer.0))
    (sym c.in_ok-write_coercion.ensures.table)
    (cast_labels c.args.types.now (length c.args.elab.now.labels) c.coerce.new.table.nodes c.in_ok-outer.outer.0
    c.args.cast.from.0 c.args.cast.to.0 c.args.cast.label.0 c.requires.cast.label c.in_ok-outer.ensures.made)

-- the pieces of the line, one behind the other
pieces : (old types coercion merged end : List ℕ)
    → (((old ++ types) ++ coercion) ++ merged) ++ end ≡ old ++ (((types ++ coercion) ++ merged) ++ end)
pieces old types coercion merged end = simp append_assoc

pub returns-clause-line : goal.returns-clause-line
returns-clause-line c =
    let types = c.args.types.now in
    let labels = c.args.elab.now.labels in
    let cast : Coercion = cast_of types c.args.cast.from.0 c.args.cast.to.0 c.args.cast.label.0 in
    let inner = inner_entry (entries_of c.args.elab.now.casts) c.args.inside in
    let first : List ℕ = types_part types labels c.args.cast.label.0 c.args.cast.from.0 c.args.cast.to.0 in
    let made : tree_of c.coerce.new.table.nodes c.in_ok-outer.outer.0 ≡ cast = c.in_ok-outer.ensures.made.is in
    let kept : tree_of c.write_coercion.new.listing.table.nodes c.in_ok-outer.outer.0 ≡ cast =
    ap (λ (t : NodeTable). tree_of t.nodes c.in_ok-outer.outer.0) c.in_ok-write_coercion.ensures.table ∙ made in
    where_ok c.extend.result c.extend.ensures.ok (λ last.
    last
    ∙ ap (λ (l : List ℕ). l ++ codes "\n") (c.in_ok-write_merged.ensures.text
    ∙ ap (λ (d : Coercion). c.write_coercion.new.listing.text ++ merged_if types labels inner d) kept
    ∙ ap (λ (l : List ℕ). l ++ merged_if types labels inner cast) (c.in_ok-write_coercion.ensures.text
    ∙ ap (λ (d : Coercion). c.write_types.new.text ++ shown types labels d) made
    ∙ ap (λ (l : List ℕ). l ++ shown types labels cast) c.in_ok-write_types.ensures))
    ∙ pieces c.args.listing.now.text first (shown types labels cast) (merged_if types labels inner cast) (codes "\n"))

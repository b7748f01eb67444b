use Rattle.std.proofs.Common.{ℕ, List, ◌++◌, length, ap, ◌∙◌, append_assoc, sym}
use Rattle.std.specs.Prelude.{codes}
use Rattle.insert_steps.specs.Views.{entries_of}
use Rattle.coercion_norm.specs.CoercionTables.{cast_of, composition_of}
use Rattle.coercion_norm.specs.Nodes.{tree_of}
use Rattle.listing.specs.CastLines.{inner_entry, shown}
use Rattle.listing.proofs.CastLemmas.{cast_merged, composed, composed_labels, inner_fits, where_ok}
use Rattle.listing.proofs.casts.write_merged.Goals as goal

pub coerce-requires-clause-a : goal.coerce-requires-clause-a
coerce-requires-clause-a c =
    (inner_fits c.args.types.now c.args.elab.now.labels c.in-Some.inner (entries_of c.args.elab.now.casts) c.args.inside
    c.requires.entries c.in-Some.ensures).from

pub coerce-requires-clause-b : goal.coerce-requires-clause-b
coerce-requires-clause-b c =
    (inner_fits c.args.types.now c.args.elab.now.labels c.in-Some.inner (entries_of c.args.elab.now.casts) c.args.inside
    c.requires.entries c.in-Some.ensures).to

pub write_coercion-requires-clause-labels : goal.write_coercion-requires-clause-labels
write_coercion-requires-clause-labels c =
    composed_labels c.args.types.now (length c.args.elab.now.labels) c.args.listing.now.table.nodes
    c.coerce.new.table.nodes c.compose.new.table.nodes c.in-Some.inner c.in_ok-first.first.0 c.args.outer.0
    c.in_ok-both.both.0 (record {
      ordered = c.len.ensures.nodes.ordered;
      outer_there = c.requires.there;
      grows = c.in_ok-first.ensures.grows;
      first_is = c.in_ok-first.ensures.made;
      both_is = c.in_ok-both.ensures.made;
    })
    (inner_fits c.args.types.now c.args.elab.now.labels c.in-Some.inner (entries_of c.args.elab.now.casts) c.args.inside
    c.requires.entries c.in-Some.ensures).label c.requires.labels

pub returns-clause-text : goal.returns-clause-text
returns-clause-text c =
    let both = composed c.args.types.now c.args.listing.now.table.nodes c.coerce.new.table.nodes
    c.compose.new.table.nodes c.in-Some.inner c.in_ok-first.first.0 c.args.outer.0 c.in_ok-both.both.0 (record {
      ordered = c.len.ensures.nodes.ordered;
      outer_there = c.requires.there;
      grows = c.in_ok-first.ensures.grows;
      first_is = c.in_ok-first.ensures.made;
      both_is = c.in_ok-both.ensures.made;
    }) in
    let merged = cast_merged c.args.types.now c.args.elab.now.labels c.in-Some.inner
    (inner_entry (entries_of c.args.elab.now.casts) c.args.inside)
    (tree_of c.args.listing.now.table.nodes c.args.outer.0) c.in-Some.ensures in
    let before : List ℕ = c.args.listing.now.text in
    where_ok c.write_coercion.result c.write_coercion.ensures.text (λ last.
    last
    ∙ ap (λ d. c.extend.new.self ++ shown c.args.types.now c.args.elab.now.labels d) both
    ∙ ap (λ (l : List ℕ). l ++ shown c.args.types.now c.args.elab.now.labels (composition_of c.args.types.now
    (cast_of c.args.types.now c.in-Some.inner.from.0 c.in-Some.inner.to.0 c.in-Some.inner.label.0)
    (tree_of c.args.listing.now.table.nodes c.args.outer.0))) c.in_ok-extend.ensures.ok
    ∙ append_assoc before (codes " merged ") _
    ∙ ap (λ (l : List ℕ). before ++ l) (sym merged))

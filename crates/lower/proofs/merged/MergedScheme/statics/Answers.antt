use Rattle.std.proofs.Common.{◌<◌, ◌^◌, length, ap, ◌∙◌, subst}
use Rattle.std.proofs.lemmas.List.{length-map}
use Rattle.std.specs.Prelude.{All, slice_index}
use Rattle.coercion_norm.specs.declared.cast_rows.CastRow.{CastRow}
use Rattle.lower.proofs.merging.HeldCasts.{merged_statics_serve}
use Rattle.lower.proofs.merged.MergedScheme.statics.Goals as goal

pub returns-clause-many : goal.returns-clause-many
returns-clause-many c =
    let placed = c.in_ok-placed.placed in
    ap length c.in_ok-placed.ensures.cast_words
    ∙ length-map c.args.casts.now (λ (cast : CastRow). slice_index placed.coercion_at cast.coercion.0)

pub returns-clause-serves : goal.returns-clause-serves
returns-clause-serves c = λ covers region.
    let placed = c.in_ok-placed.placed in
    merged_statics_serve c.args.types.now c.args.table.now.nodes c.args.casts.now c.args.start placed
    c.in_ok-placed.ensures (subst (λ ws. All (λ w. w < 2 ^ 64) ws) c.as_slice.ensures c.are_words.ensures) covers region

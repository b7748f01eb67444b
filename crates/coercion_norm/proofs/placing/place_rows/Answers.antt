use Rattle.std.proofs.Common.{List, ℕ, length, map, ap, ◌∙◌, subst}
use Rattle.std.specs.Prelude.{slice_index}
use Rattle.coercion_norm.specs.Placed.{ArePlaced, SayCoercions}
use Rattle.coercion_norm.specs.declared.cast_rows.CastRow.{CastRow}
use Rattle.coercion_norm.proofs.StaticLemmas.{are_statics}
use Rattle.coercion_norm.proofs.placing.place_rows.Goals as goal

pub returns : goal.returns
returns c =
    are_statics c.args.types.now c.len.ensures.table c.args.table.now.nodes c.args.casts.now c.args.start (record {
      words = c.place_coercions.new.words;
      type_at = c.in_ok-type_at.type_at;
      coercion_at = c.in_ok-coercion_at.coercion_at;
      cast_at = c.in_ok-cast_at.cast_at;
    }) c.place_types.new.words c.in_ok-type_at.ensures.said
    (subst (λ (told : List ℕ). ArePlaced c.args.types.now c.args.table.now.nodes c.args.start
    c.place_coercions.new.words told c.in_ok-coercion_at.coercion_at (length c.args.table.now.nodes))
    c.as_slice.ensures c.in_ok-coercion_at.ensures.placed)
    (subst (λ (told : List ℕ). SayCoercions c.args.types.now c.args.table.now.nodes c.args.start
    c.place_coercions.new.words told c.in_ok-coercion_at.coercion_at (length c.args.table.now.nodes))
    c.as_slice.ensures c.in_ok-coercion_at.ensures.said)
    c.requires.casts
    (c.in_ok-cast_at.ensures
    ∙ ap (λ (told : List ℕ). map (λ (cast : CastRow). slice_index told cast.coercion.0) c.as_slice-3.result.now)
    c.as_slice-2.ensures
    ∙ ap (λ (casts : List CastRow). map (λ (cast : CastRow). slice_index c.in_ok-coercion_at.coercion_at
    cast.coercion.0) casts) c.as_slice-3.ensures)

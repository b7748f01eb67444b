use Rattle.std.proofs.Common.{◌≡◌, map, take}
use Rattle.std.specs.Prelude.{slice_index}
use Rattle.coercion_norm.specs.declared.cast_rows.CastRow.{CastRow}
use Rattle.coercion_norm.proofs.placing.words_of_casts.Given as goal

abbrev pub invariant-loop-cast : goal.invariant-loop-cast
invariant-loop-cast l =
    l.words ≡ map (λ (cast : CastRow). slice_index l.coercion_at cast.coercion.0) (take l.cast-index l.casts)

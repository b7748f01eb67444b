use Rattle.std.proofs.Common.{ℕ, ◌<◌, get_or, length}
use Rattle.coercion_norm.specs.declared.cast_rows.CastRow.{CastRow}
use Rattle.type_tests.proofs.tests.coercions.place.Given as goal

abbrev pub invariant-loop-cast : goal.invariant-loop-cast
invariant-loop-cast l =
    (k : ℕ) (d : CastRow) → k < l.cast-index → (get_or l.casts k d).coercion.0 < length l.table.nodes

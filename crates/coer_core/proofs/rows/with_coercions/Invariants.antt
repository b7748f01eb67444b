use Rattle.std.proofs.Common.{◌≡◌, take}
use Rattle.coercion_norm.specs.CoercionTables.{FitsTypes}
use Rattle.coercion_norm.specs.CastRows.{row_casts}
use Rattle.coer_core.specs.Conversion.{cast_views}
use Rattle.coer_core.specs.Programs.{HaveCoercions, tallest_of}
use Rattle.coer_core.proofs.rows.with_coercions.Given as goal

-- the casts so far have their rows and their coercions
abbrev pub invariant-loop-cast : goal.invariant-loop-cast
invariant-loop-cast l = record {
  fits : FitsTypes l.types l.coercions;
  rows_are : row_casts l.rows ≡ cast_views (take l.cast-index l.casts);
  made : HaveCoercions l.types l.coercions.nodes l.rows;
  highest : l.tallest ≡ tallest_of l.types (cast_views (take l.cast-index l.casts));
}

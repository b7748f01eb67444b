-- The casts of rows, as the piled mode has them.
use Rattle.std.specs.Prelude.{List, map}
use Rattle.cast_modes.specs.Modes.{TypeCast, type_cast}
use Rattle.coercion_norm.specs.declared.cast_rows.CastRow.{CastRow}

-- the cast of a row
abbrev pub row_cast : CastRow → TypeCast
row_cast row = type_cast row.from.0 row.label.0 row.to.0

-- the casts of rows
abbrev pub row_casts : List CastRow → List TypeCast
row_casts rows = map row_cast rows

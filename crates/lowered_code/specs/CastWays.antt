-- How casts are made: in place where Dyn is joined with a type whose words stand behind a tag in Dyn and the word that
-- is cast allows it, and else by the procedure for casts.
use Rattle.std.specs.Prelude.{ℕ, ◌%◌, ◌==◌, if◌then◌else◌, List, map, Option, Some, None}
use Rattle.grift_base.specs.Types.{TypeRow, TypeRows, IntRow, BoolRow, UnitRow}
use Rattle.grift_base.specs.Types.{is_dyn}
use Rattle.object_layout.specs.DynWords.{int_tag, bool_tag, unit_tag, is_narrow, tagged}
use Rattle.low_ir.specs.declared.code.WordOp.TheVariants.{Sra}
use Rattle.low_ir.specs.Operations.{compute}
use Rattle.coercion_norm.specs.Coercions.{rows_of}
use Rattle.cast_modes.specs.Modes.{TypeCast}
use Rattle.lowered_code.specs.declared.served.Tag.{Tag}
use Rattle.lowered_code.specs.declared.served.Tag.TheVariants.{Int, Bool, Unit}
use Rattle.lowered_code.specs.declared.served.CastWay.{CastWay}
use Rattle.lowered_code.specs.declared.served.CastWay.TheVariants.{Called, IntoDyn, OutOfDyn}

abbrev pub tag_number : Tag → ℕ
tag_number Int = int_tag
tag_number Bool = bool_tag
tag_number Unit = unit_tag

-- the tag of a type, if it has one
abbrev pub tag_of : TypeRow → Option Tag
tag_of IntRow = Some Int
tag_of BoolRow = Some Bool
tag_of UnitRow = Some Unit
tag_of _ = None

-- ---- which way a cast goes

-- into Dyn from a type with this tag, or with none
abbrev pub into_dyn : Option Tag → CastWay
into_dyn (Some tag) = IntoDyn tag
into_dyn None = Called

-- out of Dyn to such a type
abbrev pub out_of_dyn : Option Tag → CastWay
out_of_dyn (Some tag) = OutOfDyn tag
out_of_dyn None = Called

-- from a type to another, by their rows
abbrev pub way_between : TypeRow → TypeRow → CastWay
way_between row other =
    if is_dyn row then out_of_dyn (tag_of other) else if is_dyn other then into_dyn (tag_of row) else Called

-- by the types of the cast alone
abbrev pub cast_way : TypeRows → TypeCast → CastWay
cast_way types cast = way_between (rows_of types cast.from) (rows_of types cast.to)

-- in the order of their numbers
abbrev pub cast_ways : TypeRows → List TypeCast → List CastWay
cast_ways types casts = map (cast_way types) casts

-- that of a cast; a cast that isn't there is left to the procedure
abbrev pub way_at : Option CastWay → CastWay
way_at (Some way) = way
way_at None = Called

-- ---- what code makes of a word in place; none where it calls the procedure

abbrev pub in_place : CastWay → ℕ → Option ℕ
in_place Called word = None
in_place (IntoDyn tag) word = if is_narrow word then Some (tagged (tag_number tag) word) else None
in_place (OutOfDyn tag) word = if word % 8 == tag_number tag then Some (compute Sra word 3) else None

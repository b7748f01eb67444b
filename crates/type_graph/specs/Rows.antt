-- Rows as plain data.
use Rattle.std.specs.Prelude.{ℕ, List, map}
use Rattle.grift_base.specs.declared.places.TypeId.{TypeId}
use Rattle.grift_base.specs.Types.{TypeRow, IntRow, BoolRow, UnitRow, DynRow, FunRow, TupleRow, RefRow, VectRow}
use Rattle.type_graph.specs.declared.rows.Row.{Row}
use Rattle.type_graph.specs.declared.rows.Row.TheVariants.{Int, Bool, Unit as UnitType, Dyn, Fun, Tuple, Ref, Vect}

-- the places that these are
abbrev pub places_of : List TypeId → List ℕ
places_of ids = map (λ id. id.0) ids

-- the row that this is
abbrev pub row_of : Row → TypeRow
row_of Int = IntRow
row_of Bool = BoolRow
row_of UnitType = UnitRow
row_of Dyn = DynRow
row_of (Fun parameters result) = FunRow (places_of parameters) result.0
row_of (Tuple parts) = TupleRow (places_of parts)
row_of (Ref content) = RefRow content.0
row_of (Vect content) = VectRow content.0

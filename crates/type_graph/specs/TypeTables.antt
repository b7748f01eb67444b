-- Tables of types: what each keeps, and which rows may be put into it.
use Rattle.std.specs.Prelude.{◌≡◌, ◌++◌, ℕ, ◌<◌, ◌≤◌, All, suc, min, List, length, Some, slice_get}
use Rattle.grift_base.specs.Tables.{HasNoRepeats}
use Rattle.grift_base.specs.Types.{TypeRow, TypeRows, IntRow, BoolRow, UnitRow, DynRow, FunRow, TupleRow, RefRow}
use Rattle.grift_base.specs.Types.{VectRow, row_at, parts_of}
use Rattle.type_graph.specs.Trees.{AreFinite, height, size, above_all, sum_of}
use Rattle.type_graph.specs.declared.tables.Measure.{Measure}
use Rattle.type_graph.specs.declared.tables.TheConstants.{MOST_HEIGHT, SIZE_SHOWN}
use Rattle.grift_base.specs.declared.places.TheConstants.{MOST_ENTRIES}

-- a function has at most 6 parameters, and a tuple 1 to 8 parts
abbrev pub HasWidth : TypeRow → Type 0
HasWidth IntRow = Unit {0}
HasWidth BoolRow = Unit {0}
HasWidth UnitRow = Unit {0}
HasWidth DynRow = Unit {0}
HasWidth (FunRow parameters answer) = length parameters ≤ 6
HasWidth (TupleRow parts) = (1 ≤ length parts) × (length parts ≤ 8)
HasWidth (RefRow content) = Unit {0}
HasWidth (VectRow content) = Unit {0}

abbrev pub HaveWidths : TypeRows → Type 0
HaveWidths types = (type : ℕ) (row : TypeRow) → row_at types type ≡ Some row → HasWidth row

-- no type is higher than a table's types may be
abbrev pub AreLow : TypeRows → Type 0
AreLow types = (type : ℕ) → type < length types → height types type ≤ MOST_HEIGHT

-- a table of types: no row stands in it twice, its types are trees, and rows aren't too wide or high; they may stand in
-- any order
pub record IsOrderedTable (types : TypeRows) : Type 0 where
  pub distinct : HasNoRepeats types
  pub finite : AreFinite types
  pub widths : HaveWidths types
  pub low : AreLow types

-- the second table begins with the first
abbrev pub HasMoreRows : TypeRows → TypeRows → Type 0
HasMoreRows old new = (more : TypeRows) × (new ≡ old ++ more)

-- a type of the table that may be a part of another
pub record MayBePart (types : TypeRows) (part : ℕ) : Type 0 where
  pub there : part < length types
  pub low : height types part < MOST_HEIGHT

-- what a row needs to go into the table: its parts are there, and it is neither too wide nor too high
pub record FitsTable (types : TypeRows) (row : TypeRow) : Type 0 where
  pub parts : All (MayBePart types) (parts_of row)
  pub width : HasWidth row

-- ---- what is kept beside a row

-- a type's height, and its size up to a bound
pub record IsMeasure (types : TypeRows) (type : ℕ) (m : Measure) : Type 0 where
  pub height_is : m.height ≡ height types type
  pub size_is : m.size ≡ min SIZE_SHOWN (size types type)

-- height and size of a type with these parts
pub record IsMeasureOfParts (types : TypeRows) (parts : List ℕ) (m : Measure) : Type 0 where
  pub height_is : m.height ≡ above_all (height types) parts
  pub size_is : m.size ≡ min SIZE_SHOWN (suc (sum_of (size types) parts))

-- what a table keeps beside that its rows are distinct
pub record IsKept (types : TypeRows) (measures : List Measure) : Type 0 where
  pub most : length types ≤ MOST_ENTRIES
  pub finite : AreFinite types
  pub widths : HaveWidths types
  pub low : AreLow types
  pub measured : (type : ℕ) (m : Measure) → slice_get measures type ≡ Some m → IsMeasure types type m

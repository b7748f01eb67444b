-- What is known of types as they are formed, so that the table of types has room for each row.
use Rattle.std.specs.Prelude.{◌≡◌, ℕ, ◌<◌, ◌≤◌, All, List, length, Option, Some, None}
use Rattle.grift_base.specs.Types.{TypeRows}
use Rattle.type_graph.specs.Trees.{height, above_all}
use Rattle.type_graph.specs.TypeTables.{MayBePart}

-- the types of the first table are in the second, with their heights
pub record Grows (old new : TypeRows) : Type 0 where
  pub kept : (type : ℕ) → type < length old → (type < length new) × (height new type ≡ height old type)

-- each of these may be a part of a type
pub record AreParts (types : TypeRows) (parts : List ℕ) : Type 0 where
  pub each : All (MayBePart types) parts

-- a type that may be there may then be a part of another
abbrev pub MayPart : TypeRows → Option ℕ → Type 0
MayPart types (Some type) = MayBePart types type
MayPart types None = Unit {0}

-- a type that is no higher than this
pub record IsWithin (types : TypeRows) (most type : ℕ) : Type 0 where
  pub there : type < length types
  pub low : height types type ≤ most

pub record AreWithin (types : TypeRows) (most : ℕ) (parts : List ℕ) : Type 0 where
  pub each : All (IsWithin types most) parts

-- the type of a row with these parts of an older table
pub record StandsOn (old : TypeRows) (parts : List ℕ) (new : TypeRows) (type : ℕ) : Type 0 where
  pub there : type < length new
  pub height_is : height new type ≡ above_all (height old) parts

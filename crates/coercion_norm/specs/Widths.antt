-- How many parts types and coercions have at most.
use Rattle.std.specs.Prelude.{ℕ, ◌<◌, ◌≤◌, length}
use Rattle.grift_base.specs.Types.{TypeRows, parts_of}
use Rattle.coercion_norm.specs.Coercions.{Coercion, Coercions, Id, Fail, Middle, Inject, Project, NoCoercions}
use Rattle.coercion_norm.specs.Coercions.{CoercionThen, rows_of}
use Rattle.coercion_norm.specs.StaticObjects.{count_of}

-- No type of the table has more parts than the number, a function's answer counted; and the number is at least 2, since
-- a middle of references or vectors has two.
pub record NoWider (width : ℕ) (types : TypeRows) : Type 0 where
  pub two : 2 ≤ width
  pub rows : (type : ℕ) → type < length types → length (parts_of (rows_of types type)) ≤ width

module _ (width : ℕ) where
  -- no middle in the coercion has more parts than the number
  abbrev mutual
    pub CoercionNoWider : Coercion → Type 0
    CoercionNoWider Id = Unit {0}
    CoercionNoWider (Fail label) = Unit {0}
    CoercionNoWider (Middle kind parts) = (count_of parts ≤ width) × AllNoWider parts
    CoercionNoWider (Inject g kept) = CoercionNoWider g
    CoercionNoWider (Project wanted label i) = CoercionNoWider i

    pub AllNoWider : Coercions → Type 0
    AllNoWider NoCoercions = Unit {0}
    AllNoWider (CoercionThen c rest) = CoercionNoWider c × AllNoWider rest

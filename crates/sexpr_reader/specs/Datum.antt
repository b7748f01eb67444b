-- S-expressions as plain data.
use Rattle.std.specs.Prelude.{ℕ, ℤ, ◌+◌, max, Bool, List}
use Rattle.grift_base.specs.declared.places.Pos.{Pos}

-- an s-expression without parts
pub data Leaf : Type 0 where
  integer : ℤ → Leaf
  truth : Bool → Leaf
  symbol : List ℕ → Leaf

-- an s-expression with its place, and s-expressions in a row
mutual
  pub data Datum : Type 0 where
    leaf_datum : Pos → Leaf → Datum
    list_datum : Pos → Datums → Datum

  pub data Datums : Type 0 where
    no_datums : Datums
    datum_then : Datum → Datums → Datums

-- how deep lists nest: a leaf 0, a list one more than its deepest part
abbrev mutual
  pub depth : Datum → ℕ
  depth (leaf_datum p l) = 0
  depth (list_datum p ds) = 1 + depth_of ds

  pub depth_of : Datums → ℕ
  depth_of no_datums = 0
  depth_of (datum_then d ds) = max (depth d) (depth_of ds)

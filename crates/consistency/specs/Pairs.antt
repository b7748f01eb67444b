-- Pairs of types, and the types of their sides.
use Rattle.std.specs.Prelude.{ℕ, ◌<◌, List, length, map}
use Rattle.grift_base.specs.Types.{TypeRows}
use Rattle.consistency.specs.declared.pairs.Pair.{Pair}

-- both types are in the table
pub record AreThere (types : TypeRows) (pair : Pair) : Type 0 where
  pub first : pair.first.0 < length types
  pub second : pair.second.0 < length types

abbrev pub firsts : List Pair → List ℕ
firsts pairs = map (λ pair. pair.first.0) pairs

abbrev pub seconds : List Pair → List ℕ
seconds pairs = map (λ pair. pair.second.0) pairs

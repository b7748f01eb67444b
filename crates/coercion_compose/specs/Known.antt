-- What is remembered while coercions are composed.
use Rattle.std.specs.Prelude.{◌≡◌, ◌<◌, Bool, true, false, List, length, Some}
use Rattle.std.specs.HashMap.{HashMap, get}
use Rattle.std.specs.declared.hash.FoldHasher.{FoldHasher}
use Rattle.std.specs.declared.hash.BuildHasherDefault.{BuildHasherDefault}
use Rattle.grift_base.specs.Types.{TypeRows}
use Rattle.coercion_norm.specs.declared.nodes.CoercionId.{CoercionId}
use Rattle.coercion_norm.specs.Nodes.{Node, IsTree, tree_of}
use Rattle.coercion_norm.specs.CoercionTables.{AreCasts, composition_of}
use Rattle.coercion_compose.specs.declared.compositions.Pair.{Pair}
use Rattle.coercion_compose.specs.declared.compositions.Known.{Known}
use Rattle.coercion_compose.specs.contracts.compositions.PairPartialEq.TheImpl.{ghosts}

-- both coercions of a pair are there
pub record IsPair (nodes : List Node) (pair : Pair) : Type 0 where
  pub first_there : pair.first.0 < length nodes
  pub second_there : pair.second.0 < length nodes

-- the pair is there, and its composition stands at the place
pub record IsComposed (types : TypeRows) (nodes : List Node) (pair : Pair) (e : CoercionId) : Type 0 where
  pub there : IsPair nodes pair
  pub made : IsTree nodes e.0 (composition_of types (tree_of nodes pair.first.0) (tree_of nodes pair.second.0))

abbrev pub Pairs : Type 0
Pairs = HashMap Pair CoercionId (BuildHasherDefault FoldHasher)

-- each pair of the map has its composition there
abbrev pub ArePairs : TypeRows → List Node → Pairs → Type 0
ArePairs types nodes pairs =
    (pair : Pair) (e : CoercionId) → get ghosts.eq pairs pair ≡ Some e → IsComposed types nodes pair e

-- the casts and pairs that are known have what they come to in the table
pub record IsKnown (types : TypeRows) (nodes : List Node) (known : Known) : Type 0 where
  pub casts : AreCasts types nodes known.casts
  pub pairs : ArePairs types nodes known.pairs

-- the pair of two parts, by whether they run backwards
abbrev pub part_pair : Bool → CoercionId → CoercionId → Pair
part_pair true c d = record { first = d; second = c }
part_pair false c d = record { first = c; second = d }

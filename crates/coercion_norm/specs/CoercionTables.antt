-- Tables of coercions: what each keeps, and when it fits a table of types.
use Rattle.std.specs.Prelude.{◌≡◌, ℕ, ◌<◌, ◌≤◌, max, All, Bool, true, false, List, length, Some, slice_get, slice_index}
use Rattle.std.specs.HashMap.{HashMap, get}
use Rattle.std.specs.declared.hash.FoldHasher.{FoldHasher}
use Rattle.std.specs.declared.hash.BuildHasherDefault.{BuildHasherDefault}
use Rattle.grift_base.specs.Types.{TypeRows}
use Rattle.grift_base.specs.declared.places.TheConstants.{MOST_ENTRIES}
use Rattle.grift_base.specs.declared.places.TypeId.{TypeId}
use Rattle.grift_base.specs.declared.places.LabelId.{LabelId}
use Rattle.type_graph.specs.Trees.{height}
use Rattle.type_graph.specs.declared.tables.TheConstants.{MOST_HEIGHT}
use Rattle.coercion_norm.specs.Coercions.{Coercion, rows_of}
use Rattle.coercion_norm.specs.Composition.{coerce_to, compose_to}
use Rattle.coercion_norm.specs.Heights.{coercion_height}
use Rattle.coercion_norm.specs.Normal.{IsNormal}
use Rattle.coercion_norm.specs.Nodes.{Node, AreOrdered, IsTree, NodeHasWidth, grown, node_parts, node_types}
use Rattle.coercion_norm.specs.Nodes.{coercion_places, tree_of}
use Rattle.coercion_norm.specs.declared.nodes.CoercionId.{CoercionId}
use Rattle.coercion_norm.specs.declared.casts.Cast.{Cast}
use Rattle.coercion_norm.specs.contracts.casts.CastPartialEq.TheImpl.{ghosts}

-- nodes, and the height of each
pub record NodeTable : Type 0 where
  pub nodes : List Node
  pub heights : List ℕ

-- what a table keeps beside that its nodes are distinct
pub record IsKept (table : NodeTable) : Type 0 where
  pub ordered : AreOrdered table.nodes
  pub most : length table.nodes ≤ MOST_ENTRIES

-- in normal form, and not too high
pub record IsSound (types : TypeRows) (c : Coercion) : Type 0 where
  pub normal : IsNormal (rows_of types) c
  pub low : coercion_height (height types) c ≤ MOST_HEIGHT

-- The table fits the types: it names only types that are there, its coercions are in normal form and not too high, and
-- its heights are those of its coercions over these types.
pub record FitsTypes (types : TypeRows) (table : NodeTable) : Type 0 where
  pub types_there : (place : ℕ) (node : Node) → slice_get table.nodes place ≡ Some node
      → All (λ type. type < length types) (node_types node)
  pub sound : (place : ℕ) → place < length table.nodes → IsSound types (tree_of table.nodes place)
  pub heights_are : (place high : ℕ) → place < length table.nodes → slice_get table.heights place ≡ Some high
      → high ≡ coercion_height (height types) (tree_of table.nodes place)

-- what a node needs to go into the table: its parts and types are there, it is not too wide, and its coercion is in
-- normal form and not too high
pub record MayBeNode (types : TypeRows) (nodes : List Node) (node : Node) : Type 0 where
  pub parts : All (λ part. part < length nodes) (node_parts node)
  pub types_there : All (λ type. type < length types) (node_types node)
  pub width : NodeHasWidth node
  pub sound : IsSound types (grown (tree_of nodes) (Some node))

-- ---- casts

-- the coercion of a cast between two types of the table
abbrev pub cast_of : TypeRows → ℕ → ℕ → ℕ → Coercion
cast_of types from to label = coerce_to (rows_of types) (max (height types from) (height types to)) from to label

-- the composition of two coercions over the types of the table
abbrev pub composition_of : TypeRows → Coercion → Coercion → Coercion
composition_of types c d =
    compose_to (rows_of types) (max (coercion_height (height types) c) (coercion_height (height types) d)) c d

-- the types of a cast are there
pub record IsCast (types : TypeRows) (cast : Cast) : Type 0 where
  pub from_there : cast.from.0 < length types
  pub to_there : cast.to.0 < length types

-- the coercion of a cast stands at the place
abbrev pub IsCastAt : TypeRows → List Node → Cast → CoercionId → Type 0
IsCastAt types nodes cast c = IsTree nodes c.0 (cast_of types cast.from.0 cast.to.0 cast.label.0)

abbrev pub Casts : Type 0
Casts = HashMap Cast CoercionId (BuildHasherDefault FoldHasher)

-- each cast of the map has its coercion there
abbrev pub AreCasts : TypeRows → List Node → Casts → Type 0
AreCasts types nodes casts =
    (cast : Cast) (c : CoercionId) → get ghosts.eq casts cast ≡ Some c → IsCastAt types nodes cast c

-- the cast of a part, by whether the part runs backwards
abbrev pub part_cast : Bool → TypeId → TypeId → LabelId → Cast
part_cast true here there label = record { from = there; to = here; label = label }
part_cast false here there label = record { from = here; to = there; label = label }

-- so many coercions, and what each is
pub record AreMade (nodes : List Node) (cs : List CoercionId) (many : ℕ) (tree : ℕ → Coercion) : Type 0 where
  pub as_many : length cs ≡ many
  pub each : (k : ℕ) → k < many → IsTree nodes (slice_index (coercion_places cs) k) (tree k)

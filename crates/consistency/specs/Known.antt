-- What is remembered of pairs of types.
use Rattle.std.specs.Prelude.{◌≡◌, ℕ, ◌<◌, ◌≤◌, ◌++◌, max, true, List, [], ◌∷◌, length, Some}
use Rattle.std.specs.HashSet.{HashSet, contains}
use Rattle.std.specs.HashMap.{HashMap, get}
use Rattle.std.specs.declared.hash.FoldHasher.{FoldHasher}
use Rattle.std.specs.declared.hash.BuildHasherDefault.{BuildHasherDefault}
use Rattle.grift_base.specs.declared.places.TypeId.{TypeId}
use Rattle.grift_base.specs.Types.{TypeRows}
use Rattle.type_graph.specs.Trees.{EndsWithin, height}
use Rattle.type_graph.specs.TypeTables.{HasMoreRows, IsOrderedTable}
use Rattle.consistency.specs.declared.pairs.Pair.{Pair}
use Rattle.consistency.specs.contracts.pairs.PairPartialEq.TheImpl.{ghosts}
use Rattle.consistency.specs.Consistency.{consistent}
use Rattle.consistency.specs.Blending.{blend_to, IsBlend}

abbrev pub Pairs : Type 0
Pairs = HashSet Pair (BuildHasherDefault FoldHasher)

-- each pair of the set is consistent
abbrev pub AreConsistent : TypeRows → Pairs → Type 0
AreConsistent types pairs =
    (pair : Pair) → contains ghosts.eq pairs pair ≡ true → consistent types pair.first.0 pair.second.0 ≡ true

abbrev pub Blends : Type 0
Blends = HashMap Pair TypeId (BuildHasherDefault FoldHasher)

-- a pair of types that has a blend
pub record MayBlend (types : TypeRows) (pair : Pair) : Type 0 where
  pub first_there : pair.first.0 < length types
  pub second_there : pair.second.0 < length types
  pub consistent_pair : consistent types pair.first.0 pair.second.0 ≡ true

-- forming the blend of two types, to each depth within which the first of them ends, gives this type, and turns the
-- first table into the second
abbrev pub GivesBlend : TypeRows → ℕ → ℕ → ℕ → TypeRows → Type 0
GivesBlend old a b c new = (depth : ℕ) → EndsWithin depth old a → blend_to depth a b old ≡ (c, new)

-- The blend of two types is there: forming it once more, also in a table with more rows, gives it and adds none.
pub record IsFormed (types : TypeRows) (a b c : ℕ) : Type 0 where
  pub there : c < length types
  pub again : (more : TypeRows) → GivesBlend (types ++ more) a b c (types ++ more)
  pub blends : IsBlend types a b c
  pub low : height types c ≤ max (height types a) (height types b)

-- each pair of the map has its blend there
abbrev pub AreFormed : TypeRows → Blends → Type 0
AreFormed types blends =
    (pair : Pair) (c : TypeId) → get ghosts.eq blends pair ≡ Some c → IsFormed types pair.first.0 pair.second.0 c.0

-- these pairs have these blends
abbrev pub EachFormed : TypeRows → List Pair → List TypeId → Type 0
EachFormed types [] [] = Unit {0}
EachFormed types [] (c ∷ cs) = ⊥
EachFormed types (pair ∷ pairs) [] = ⊥
EachFormed types (pair ∷ pairs) (c ∷ cs) =
    IsFormed types pair.first.0 pair.second.0 c.0 × EachFormed types pairs cs

-- the blend and the table that are formed from this table are as they should be: the table is one and has the rows that
-- were there, and the blend is there
pub record FormsBlend (types : TypeRows) (a b : ℕ) (outcome : ℕ × TypeRows) : Type 0 where
  pub table : IsOrderedTable outcome.1
  pub grown : HasMoreRows types outcome.1
  pub formed : IsFormed outcome.1 a b outcome.0

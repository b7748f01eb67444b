-- What is remembered of pairs stays right where nodes are added, and where one more is remembered.
use Rattle.std.proofs.Common.{◌≡◌, ℕ, ◌<◌, true, cond, Some, sym, ap₂, subst, List}
use Rattle.std.proofs.Common.{length}
use Rattle.std.proofs.Common.{rules, arith}
use Rattle.std.specs.HashMap.{get}
use Rattle.grift_base.specs.Types.{TypeRows}
use Rattle.type_graph.proofs.Public.{each_entry-insert}
use Rattle.coercion_norm.specs.declared.nodes.CoercionId.{CoercionId}
use Rattle.coercion_norm.specs.Nodes.{Node, Grows, IsTree, PartsBefore, tree_of}
use Rattle.coercion_norm.specs.CoercionTables.{composition_of}
use Rattle.coercion_norm.proofs.Public.{AreCasts-kept, IsTree-kept, more_places, tree_kept}
use Rattle.coercion_compose.specs.declared.compositions.Pair.{Pair}
use Rattle.coercion_compose.specs.declared.compositions.Known.{Known}
use Rattle.coercion_compose.specs.contracts.compositions.PairPartialEq.TheImpl.{ghosts}
use Rattle.coercion_compose.specs.Known.{ArePairs, IsComposed, IsKnown, IsPair, Pairs}

eq_pair : (x y : Pair) → ghosts.eq x y ≡ true → x ≡ y
eq_pair = search rules

IsPair-kept : (old new : List Node) (pair : Pair) → Grows old new → IsPair old pair → IsPair new pair
IsPair-kept old new pair grows there =
    let more = more_places old new grows in
    let first = there.first_there in
    let second = there.second_there in
    record { first_there = omega (arith, more, first); second_there = omega (arith, more, second) }

-- a composition made over the table as it was, seen over the table as it is
pub composed_now : (types : TypeRows) (old now : List Node) (c d place : ℕ) → PartsBefore old → Grows old now
    → c < length old → d < length old
    → IsTree now place (composition_of types (tree_of old c) (tree_of old d))
    → IsTree now place (composition_of types (tree_of now c) (tree_of now d))
composed_now types old now c d place before grows lc ld is =
    subst (IsTree now place)
    (ap₂ (composition_of types) (sym (tree_kept old now before grows c lc)) (sym (tree_kept old now before grows d ld)))
    is

pub composed_then : (types : TypeRows) (old now new : List Node) (c d place : ℕ) → PartsBefore old → Grows old now
    → c < length old → d < length old
    → IsTree new place (composition_of types (tree_of now c) (tree_of now d))
    → IsTree new place (composition_of types (tree_of old c) (tree_of old d))
composed_then types old now new c d place before grows lc ld is =
    subst (IsTree new place)
    (ap₂ (composition_of types) (tree_kept old now before grows c lc) (tree_kept old now before grows d ld)) is

IsComposed-kept : (types : TypeRows) (old new : List Node) (pair : Pair) (e : CoercionId) → PartsBefore old
    → Grows old new → IsComposed types old pair e → IsComposed types new pair e
IsComposed-kept types old new pair e before grows is = record {
  there = IsPair-kept old new pair grows is.there;
  made = composed_now types old new pair.first.0 pair.second.0 e.0 before grows is.there.first_there
      is.there.second_there
      (IsTree-kept old new e.0 (composition_of types (tree_of old pair.first.0) (tree_of old pair.second.0)) before
      grows is.made);
}

pub IsKnown-kept : (types : TypeRows) (old new : List Node) (known : Known) → PartsBefore old → Grows old new
    → IsKnown types old known → IsKnown types new known
IsKnown-kept types old new known before grows is = record {
  casts = AreCasts-kept types old new known.casts before grows is.casts;
  pairs = λ pair e f. IsComposed-kept types old new pair e before grows (is.pairs pair e f);
}

pub ArePairs-insert : (types : TypeRows) (nodes : List Node) (old new : Pairs) (key : Pair) (e : CoercionId)
    → ArePairs types nodes old → IsComposed types nodes key e
    → ((pair : Pair) → get ghosts.eq new pair ≡ cond (ghosts.eq key pair) (Some e) (get ghosts.eq old pair))
    → ArePairs types nodes new
ArePairs-insert types nodes old new key e known one updates =
    each_entry-insert eq_pair (IsComposed types nodes) (get ghosts.eq old) (get ghosts.eq new) key e known one updates

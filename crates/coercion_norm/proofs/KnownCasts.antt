-- What is remembered of casts stays right where nodes are added, and where one more is remembered.
use Rattle.std.proofs.Common.{◌≡◌, true, cond, Some, List, rules}
use Rattle.std.specs.HashMap.{get}
use Rattle.grift_base.specs.Types.{TypeRows}
use Rattle.type_graph.proofs.Public.{each_entry-insert}
use Rattle.coercion_norm.specs.declared.nodes.CoercionId.{CoercionId}
use Rattle.coercion_norm.specs.declared.casts.Cast.{Cast}
use Rattle.coercion_norm.specs.contracts.casts.CastPartialEq.TheImpl.{ghosts}
use Rattle.coercion_norm.specs.Nodes.{Node, PartsBefore, Grows}
use Rattle.coercion_norm.specs.CoercionTables.{IsCastAt, Casts, AreCasts, cast_of}
use Rattle.coercion_norm.proofs.NodeLemmas.{IsTree-kept}

eq_cast : (x y : Cast) → ghosts.eq x y ≡ true → x ≡ y
eq_cast = search rules

pub AreCasts-kept : (types : TypeRows) (old new : List Node) (casts : Casts) → PartsBefore old → Grows old new
    → AreCasts types old casts → AreCasts types new casts
AreCasts-kept types old new casts before grows known = λ cast c e.
    IsTree-kept old new c.0 (cast_of types cast.from.0 cast.to.0 cast.label.0) before grows (known cast c e)

pub AreCasts-insert : (types : TypeRows) (nodes : List Node) (old new : Casts) (key : Cast) (c : CoercionId)
    → AreCasts types nodes old → IsCastAt types nodes key c
    → ((cast : Cast) → get ghosts.eq new cast ≡ cond (ghosts.eq key cast) (Some c) (get ghosts.eq old cast))
    → AreCasts types nodes new
AreCasts-insert types nodes old new key c known one updates =
    each_entry-insert eq_cast (IsCastAt types nodes) (get ghosts.eq old) (get ghosts.eq new) key c known one updates

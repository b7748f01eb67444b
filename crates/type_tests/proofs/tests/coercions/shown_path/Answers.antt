use Rattle.std.proofs.Common.{ℕ, ◌<◌, ◌≤◌, max, List, length, sym, subst, arith}
use Rattle.grift_base.specs.Types.{TypeRows}
use Rattle.type_graph.specs.Trees.{height}
use Rattle.coercion_norm.specs.Coercions.{Coercion, rows_of}
use Rattle.coercion_norm.specs.CoercionTables.{cast_of, composition_of}
use Rattle.coercion_norm.specs.Heights.{coercion_height}
use Rattle.coercion_norm.specs.Nodes.{Node, Grows, IsTree, PartsBefore, tree_of}
use Rattle.coercion_norm.specs.Texts.{HasLabels}
use Rattle.coercion_norm.proofs.Public.{coerce_labels, compose_labels, tree_kept}
use Rattle.type_tests.proofs.tests.coercions.shown_path.Goals as goal

of_cast : (types : TypeRows) (many : ℕ) (nodes : List Node) (place from to label : ℕ)
    → IsTree nodes place (cast_of types from to label) → label < many → HasLabels many (tree_of nodes place)
of_cast types many nodes place from to label is below =
    subst (HasLabels many) (sym is.is)
    (coerce_labels many (rows_of types) (max (height types from) (height types to)) from to label below)

of_composition : (types : TypeRows) (many : ℕ) (nodes : List Node) (place : ℕ) (c d : Coercion)
    → IsTree nodes place (composition_of types c d) → HasLabels many c → HasLabels many d
    → HasLabels many (tree_of nodes place)
of_composition types many nodes place c d is first second =
    subst (HasLabels many) (sym is.is)
    (compose_labels many (rows_of types)
    (max (coercion_height (height types) c) (coercion_height (height types) d)) c d first second)

of_later : (many : ℕ) (old new : List Node) (place : ℕ) → PartsBefore old → Grows old new → place < length old
    → HasLabels many (tree_of old place) → HasLabels many (tree_of new place)
of_later many old new place before grows within labels =
    subst (HasLabels many) (sym (tree_kept old new before grows place within)) labels

pub show-requires-clause-labels : goal.show-requires-clause-labels
show-requires-clause-labels c =
    let many : ℕ = length c.args.labels.now in
    of_composition c.args.types.now (length c.args.labels.now) c.compose-2.new.table.nodes c.in_ok-all.all.0
    (tree_of c.coerce-3.new.table.nodes c.in_ok-both.both.0) (tree_of c.coerce-3.new.table.nodes c.in_ok-third.third.0)
    c.in_ok-all.ensures.made
    (of_later (length c.args.labels.now) c.compose.new.table.nodes c.coerce-3.new.table.nodes c.in_ok-both.both.0
    c.len-4.ensures.nodes.ordered.before c.in_ok-third.ensures.grows c.in_ok-both.ensures.made.within
    (of_composition c.args.types.now (length c.args.labels.now) c.compose.new.table.nodes c.in_ok-both.both.0
    (tree_of c.coerce-2.new.table.nodes c.in_ok-first.first.0) (tree_of c.coerce-2.new.table.nodes
    c.in_ok-second.second.0)
    c.in_ok-both.ensures.made
    (of_later (length c.args.labels.now) c.coerce.new.table.nodes c.coerce-2.new.table.nodes c.in_ok-first.first.0
    c.len-2.ensures.nodes.ordered.before c.in_ok-second.ensures.grows c.in_ok-first.ensures.made.within
    (of_cast c.args.types.now (length c.args.labels.now) c.coerce.new.table.nodes c.in_ok-first.first.0 _ _ 0
    c.in_ok-first.ensures.made (omega arith)))
    (of_cast c.args.types.now (length c.args.labels.now) c.coerce-2.new.table.nodes c.in_ok-second.second.0 _ _ 0
    c.in_ok-second.ensures.made (omega arith))))
    (of_cast c.args.types.now (length c.args.labels.now) c.coerce-3.new.table.nodes c.in_ok-third.third.0 _ _ 1
    c.in_ok-third.ensures.made (omega arith))

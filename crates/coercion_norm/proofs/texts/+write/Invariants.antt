use Rattle.std.proofs.Common.{◌≡◌, ◌+◌, ◌*◌, ◌++◌}
use Rattle.type_graph.specs.Texts.{type_text}
use Rattle.coercion_norm.specs.Nodes.{tree_of, trees, coercion_places}
use Rattle.coercion_norm.specs.Texts.{kind_text, label_text, parts_text}
use Rattle.coercion_norm.proofs.TextLemmas.{left_text}
use Rattle.coercion_norm.proofs.texts.+write.Given as goal

abbrev pub decreases-write_coercion : goal.decreases-write_coercion
decreases-write_coercion l = 2 * l.c.0 + 1

abbrev pub decreases-write_middle : goal.decreases-write_middle
decreases-write_middle l = 2 * l.c.0

abbrev pub invariant-write_middle-loop-j : goal.invariant-write_middle-loop-j
invariant-write_middle-loop-j l =
    l.text ++ left_text (type_text l.types) (label_text l.labels) l.table.nodes l.kind l.parts.items l.j
    ≡ (l.fn.text ++ kind_text l.kind)
    ++ parts_text (type_text l.types) (label_text l.labels) l.kind
    (trees (tree_of l.table.nodes) (coercion_places l.parts.items))

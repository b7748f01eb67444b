use Rattle.std.proofs.Common.{◌<◌, Some, ap, arith, ◌∙◌}
use Rattle.coercion_norm.specs.Nodes.{InjectNode, ProjectNode, node_of}
use Rattle.coercion_norm.proofs.NodePlacing.{few_node}
use Rattle.coercion_norm.proofs.placing.object_of_coercion.Goals as goal

pub object_of_middle-requires-clause-few : goal.object_of_middle-requires-clause-few
object_of_middle-requires-clause-few c =
    few_node (node_of c.node-node.result.now)
    (c.len-high.ensures.nodes.ordered.widths c.args.c.0 (node_of c.node-node.result.now) c.node-node.ensures)

pub object_of_middle-requires-in-Tup-clause-few : goal.object_of_middle-requires-in-Tup-clause-few
object_of_middle-requires-in-Tup-clause-few c =
    few_node (node_of c.node-node.result.now)
    (c.len-high.ensures.nodes.ordered.widths c.args.c.0 (node_of c.node-node.result.now) c.node-node.ensures)

pub bounds-coercion_at-g : goal.bounds-coercion_at-g
bounds-coercion_at-g c =
    let below : c.in-Inject.g.0 < c.args.c.0 = c.len-high.ensures.nodes.ordered.before c.args.c.0
    (InjectNode c.in-Inject.g.0 c.in-Inject.kept.0) (c.node-node.ensures ∙ ap (λ n. Some (node_of n)) c.in-Inject.is)
    0 0 (omega arith) in
    let told = c.requires.told in
    omega (arith, below, told)

pub bounds-type_at-kept : goal.bounds-type_at-kept
bounds-type_at-kept c =
    let there = c.requires.fits.types_there c.args.c.0 (InjectNode c.in-Inject.g.0 c.in-Inject.kept.0)
    (c.node-node.ensures ∙ ap (λ n. Some (node_of n)) c.in-Inject.is) 0 0 (omega arith) in
    let told = c.requires.types in
    omega (arith, there, told)

pub bounds-type_at-wanted : goal.bounds-type_at-wanted
bounds-type_at-wanted c =
    let there = c.requires.fits.types_there c.args.c.0
    (ProjectNode c.in-Project.wanted.0 c.in-Project.label.0 c.in-Project.i.0)
    (c.node-node.ensures ∙ ap (λ n. Some (node_of n)) c.in-Project.is) 0 0 (omega arith) in
    let told = c.requires.types in
    omega (arith, there, told)

pub bounds-coercion_at-i : goal.bounds-coercion_at-i
bounds-coercion_at-i c =
    let below : c.in-Project.i.0 < c.args.c.0 = c.len-high.ensures.nodes.ordered.before c.args.c.0
    (ProjectNode c.in-Project.wanted.0 c.in-Project.label.0 c.in-Project.i.0)
    (c.node-node.ensures ∙ ap (λ n. Some (node_of n)) c.in-Project.is) 0 0 (omega arith) in
    let told = c.requires.told in
    omega (arith, below, told)

use Rattle.std.proofs.Common.{ap, sym, ◌∙◌}
use Rattle.std.specs.Prelude.{is_some}
use Rattle.type_graph.proofs.Public.{found_key, absent_key}
use Rattle.coercion_norm.specs.Nodes.{node_of}
use Rattle.coercion_norm.proofs.NodeViews.{same_node, node_of-injective}
use Rattle.coercion_norm.proofs.tables.CoercionTable.place_of.Goals as goal

pub returns-in_err-place-clause-absent : goal.returns-in_err-place-clause-absent
returns-in_err-place-clause-absent c =
    rw (c.from_residual.ensures, ← c.self.view_is) (absent_key same_node node_of node_of-injective
    c.self.inside.nodes.entries c.args.node.now
    (sym c.get_index_of.ensures.found ∙ ap is_some c.in_err-place.was))

pub returns-clause-found : goal.returns-clause-found
returns-clause-found c =
    rw (← c.self.view_is) (found_key same_node node_of node_of-injective c.self.inside.nodes.entries c.args.node.now
    c.in_ok-place.place
    (sym c.in_ok-place.was ∙ c.get_index_of.ensures.index))

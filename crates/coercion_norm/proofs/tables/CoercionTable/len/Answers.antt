use Rattle.type_graph.proofs.Public.{seen_keys_have_no_repeats}
use Rattle.coercion_norm.specs.Nodes.{node_of}
use Rattle.coercion_norm.proofs.NodeViews.{same_node, node_of-injective}
use Rattle.coercion_norm.proofs.tables.CoercionTable.len.Goals as goal

pub returns-clause-nodes : goal.returns-clause-nodes
returns-clause-nodes c =
    rw (← c.self.view_is) (record {
      ordered = c.self.invariant.ordered;
      distinct = seen_keys_have_no_repeats same_node node_of node_of-injective c.self.inside.nodes.entries
          c.len.ensures.unique;
    })

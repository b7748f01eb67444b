use Rattle.std.proofs.Common.{sym, ap, ◌∙◌}
use Rattle.std.specs.Prelude.{option_map}
use Rattle.std.specs.Map.Iter.{deref_pair}
use Rattle.type_graph.proofs.Public.{key_of_entry}
use Rattle.coercion_norm.specs.Nodes.{node_of}
use Rattle.coercion_norm.proofs.tables.CoercionTable.node.Goals as goal

pub returns : goal.returns
returns c =
    rw (← c.self.view_is) (key_of_entry node_of c.self.inside.nodes.entries c.args.c.0 (deref_pair c.unwrap.result)
    (sym c.get_index.ensures.entry ∙ ap (option_map deref_pair) c.unwrap.ensures))

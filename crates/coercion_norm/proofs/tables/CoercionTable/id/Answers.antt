use Rattle.coercion_norm.proofs.NodeLemmas.{id_there}
use Rattle.coercion_norm.proofs.tables.CoercionTable.id.Goals as goal

pub returns : goal.returns
returns c = id_there c.args.self.now.nodes c.len.ensures.nodes.ordered

use Rattle.std.proofs.Common.{sym, ap, ◌∙◌, Some}
use Rattle.coercion_norm.specs.Nodes.{IdNode, node_of, tree_of}
use Rattle.coercion_norm.proofs.PartLemmas.{is_id_at, is_other}
use Rattle.coercion_norm.proofs.tables.CoercionTable.is_id.Goals as goal

pub returns-in-Id : goal.returns-in-Id
returns-in-Id c =
    sym (is_id_at c.args.self.now.nodes c.args.c.0 IdNode c.len.ensures.nodes.ordered
    (c.node.ensures ∙ ap (λ x. Some (node_of x)) c.in-Id.is))

pub returns-in_default : goal.returns-in_default
returns-in_default c =
    sym (is_id_at c.args.self.now.nodes c.args.c.0 (node_of c.node.result.now) c.len.ensures.nodes.ordered
    c.node.ensures
    ∙ is_other (tree_of c.args.self.now.nodes) c.node.result.now c.in_default.not-Id)

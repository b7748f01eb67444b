use Rattle.std.proofs.Common.{◌<◌, inr, length, ap, sym, subst, ◌∙◌, ◌++◌, ◌∷◌, [], slice_get, arith}
use Rattle.coercion_norm.specs.Nodes.{node_of}
use Rattle.coercion_norm.specs.CoercionTables.{NodeTable, IsKept, FitsTypes}
use Rattle.type_graph.proofs.Public.{get_last}
use Rattle.coercion_norm.proofs.NodeLemmas.{IsTree-node, same_nodes}
use Rattle.coercion_norm.proofs.FittingLemmas.{FitsTypes-push, IsKept-push, same_lengths, table_then}
use Rattle.coercion_norm.proofs.tables.CoercionTable.intern_node.Goals as goal

pub returns-in-Some-clause-tree : goal.returns-in-Some-clause-tree
returns-in-Some-clause-tree c =
    IsTree-node c.args.self.now.nodes c.args.self.now.nodes c.in-Some.there.0 (node_of c.args.node)
    c.len-place.ensures.nodes.ordered.before c.len-place.ensures.nodes.ordered.before (same_nodes c.args.self.now.nodes)
    c.requires.node.parts c.in-Some.ensures.found

pub invariant_of-self-2 : goal.invariant_of-self-2
invariant_of-self-2 c =
    let kept : IsKept c.args.self.now = subst IsKept c.self.view_is c.self.invariant in
    let room : length c.args.self.now.nodes < 4294967294 = omega arith in
    subst IsKept
    (sym (table_then c.self.inside.nodes.entries c.insert.new.self.entries c.args.node c.height_of_node-height.result
    c.args.self.now c.self.view_is c.in_default.ensures.absent c.in_ok-insert.ensures.entries))
    (IsKept-push c.args.self.now (node_of c.args.node) c.height_of_node-height.result c.args.types.now kept
    c.requires.node room)

pub returns-clause-interned : goal.returns-clause-interned
returns-clause-interned c =
    inr (
      c.in_default.ensures.absent,
      ap (λ (t : NodeTable). t.nodes)
          (table_then c.self.inside.nodes.entries c.insert.new.self.entries c.args.node c.height_of_node-height.result
          c.args.self.now c.self.view_is c.in_default.ensures.absent c.in_ok-insert.ensures.entries),
    )

pub returns-clause-place : goal.returns-clause-place
returns-clause-place c =
    ap (λ (t : NodeTable). slice_get t.nodes c.len-place.result)
    (table_then c.self.inside.nodes.entries c.insert.new.self.entries c.args.node c.height_of_node-height.result
    c.args.self.now c.self.view_is c.in_default.ensures.absent c.in_ok-insert.ensures.entries)
    ∙ ap (λ k. slice_get (c.args.self.now.nodes ++ node_of c.args.node ∷ []) k) c.len-place.ensures.len
    ∙ get_last c.args.self.now.nodes (node_of c.args.node)

pub returns-clause-grows : goal.returns-clause-grows
returns-clause-grows c = (
  node_of c.args.node ∷ [],
  ap (λ (t : NodeTable). t.nodes)
      (table_then c.self.inside.nodes.entries c.insert.new.self.entries c.args.node c.height_of_node-height.result
      c.args.self.now c.self.view_is c.in_default.ensures.absent c.in_ok-insert.ensures.entries),
)

pub returns-clause-fits : goal.returns-clause-fits
returns-clause-fits c =
    subst (FitsTypes c.args.types.now)
    (sym (table_then c.self.inside.nodes.entries c.insert.new.self.entries c.args.node c.height_of_node-height.result
    c.args.self.now c.self.view_is c.in_default.ensures.absent c.in_ok-insert.ensures.entries))
    (FitsTypes-push c.args.types.now c.args.self.now (node_of c.args.node) c.height_of_node-height.result
    c.len-place.ensures.nodes.ordered (same_lengths c.self.inside.nodes.entries c.args.self.now c.self.view_is)
    c.requires.node c.height_of_node-height.ensures c.requires.fits)

pub returns-clause-tree : goal.returns-clause-tree
returns-clause-tree c =
    IsTree-node c.args.self.now.nodes _ c.len-place.result (node_of c.args.node)
    c.len-place.ensures.nodes.ordered.before (invariant_of-self-2 c).ordered.before (returns-clause-grows c)
    c.requires.node.parts (returns-clause-place c)

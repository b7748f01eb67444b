use Rattle.std.proofs.Common.{◌<◌, length, sym, ◌∙◌}
use Rattle.coercion_norm.specs.Nodes.{tree_of}
use Rattle.coercion_norm.proofs.PartLemmas.{part_at, all_id_more, all_id_not}
use Rattle.coercion_norm.proofs.tables.CoercionTable.all_id.Goals as goal

pub is_id-requires : goal.is_id-requires
is_id-requires c =
    part_at (λ part. part < length c.args.self.now.nodes) c.args.parts.now c.loop-part.part-index _
    c.loop-part-test.true c.requires

pub returns-then-not-is_id : goal.returns-then-not-is_id
returns-then-not-is_id c =
    sym (all_id_not (tree_of c.args.self.now.nodes) c.args.parts.now c.loop-part.part-index _ c.loop-part-test.true
    (sym c.is_id.ensures ∙ c.if-not-is_id.true))

pub loop-part-preserved : goal.loop-part-preserved
loop-part-preserved c =
    all_id_more (tree_of c.args.self.now.nodes) c.args.parts.now c.loop-part.part-index _ c.loop-part-test.true
    c.loop-part.invariant (sym c.is_id.ensures ∙ c.if-not-is_id.false)

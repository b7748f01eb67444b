use Rattle.std.proofs.Common.{◌≡◌, ◌<◌, length, sym, ap₂, ◌∙◌, max}
use Rattle.type_graph.specs.Trees.{height}
use Rattle.coercion_norm.specs.Nodes.{tree_of}
use Rattle.coercion_norm.proofs.PartLemmas.{part_at, highest_more}
use Rattle.coercion_norm.proofs.tables.CoercionTable.highest.Goals as goal

pub height-requires : goal.height-requires
height-requires c =
    part_at (λ part. part < length c.args.self.now.nodes) c.args.parts.now c.loop-part.part-index _
    c.loop-part-test.true c.requires.there

pub loop-part-preserved : goal.loop-part-preserved
loop-part-preserved c =
    let more : c.max-highest.result ≡ max c.loop-part.highest c.height.result = c.max-highest.ensures in
    more ∙ ap₂ max c.loop-part.invariant (c.height.ensures.height c.args.types.now c.requires.fits)
    ∙ sym (highest_more (tree_of c.args.self.now.nodes)
    (height c.args.types.now) c.args.parts.now c.loop-part.part-index
    _ c.loop-part-test.true)

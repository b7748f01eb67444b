use Rattle.std.proofs.Common.{◌<◌, length}
use Rattle.type_graph.proofs.Public.{part_at}
use Rattle.coercion_norm.proofs.placing.words_of_types.Goals as goal

pub bounds-type_at-part : goal.bounds-type_at-part
bounds-type_at-part c =
    part_at (λ part. part < length c.args.type_at.now) c.args.parts.now c.loop-part.part-index _ c.loop-part-test.true
    c.requires

use Rattle.std.proofs.Common.{◌<◌, length}
use Rattle.coercion_norm.proofs.PartLemmas.{part_at}
use Rattle.coercion_norm.proofs.placing.words_of_coercions.Goals as goal

pub bounds-coercion_at-part : goal.bounds-coercion_at-part
bounds-coercion_at-part c =
    part_at (λ part. part < length c.args.coercion_at.now) c.args.parts.now c.loop-part.part-index _
    c.loop-part-test.true c.requires

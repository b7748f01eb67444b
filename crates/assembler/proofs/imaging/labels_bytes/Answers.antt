use Rattle.std.proofs.Common.{arith}
use Rattle.assembler.proofs.Images.{labels_more}
use Rattle.assembler.proofs.imaging.labels_bytes.Goals as goal

pub loop-label-preserved : goal.loop-label-preserved
loop-label-preserved c =
    labels_more c.args.labels.now c.loop-label.label-index (record { line = 0; col = 0 }) c.loop-label.bytes
    c.extend_by_label.new.bytes (omega arith) c.in_ok-extend_by_label.ensures.bytes
    c.in_ok-extend_by_label.ensures.small c.loop-label.invariant.0 c.loop-label.invariant.1

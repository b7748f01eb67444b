use Rattle.std.proofs.Common.{◌≡◌, take, flat_map}
use Rattle.assembler.specs.Imaging.{label_bytes}
use Rattle.assembler.specs.Tables.{AreLabels}
use Rattle.assembler.proofs.imaging.labels_bytes.Given as goal

-- the bytes of the labels before this one
abbrev pub invariant-loop-label : goal.invariant-loop-label
invariant-loop-label l =
    (l.bytes ≡ flat_map label_bytes (take l.label-index l.labels)) × AreLabels (take l.label-index l.labels)

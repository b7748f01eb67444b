use Rattle.std.proofs.Common.{◌≡◌}
use Rattle.rv_machine.specs.Image.{labels_from}
use Rattle.assembler.proofs.image.Image.labels.Given as goal

abbrev pub invariant-loop-i : goal.invariant-loop-i
invariant-loop-i l = l.labels ≡ labels_from l.bytes l.start l.i

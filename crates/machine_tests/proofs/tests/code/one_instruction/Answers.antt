use Rattle.machine_tests.proofs.Samples.{one_item}
use Rattle.machine_tests.proofs.tests.code.one_instruction.Goals as goal

pub placed-image-requires : goal.placed-image-requires
placed-image-requires t c = rw c.set.ensures one_item

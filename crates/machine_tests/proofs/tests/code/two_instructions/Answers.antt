use Rattle.machine_tests.proofs.Samples.{two_items}
use Rattle.machine_tests.proofs.tests.code.two_instructions.Goals as goal

pub placed-image-requires : goal.placed-image-requires
placed-image-requires t c = rw c.set.ensures two_items

use Rattle.std.proofs.Common.{◌≡◌}
use Rattle.machine_tests.proofs.Samples.{loop_items}
use Rattle.machine_tests.proofs.tests.code.endless.Goals as goal

pub placed-image-requires : goal.placed-image-requires
placed-image-requires t c =
    let zero : c.new.result ≡ 0 = cc in
    rw (c.set.ensures, zero) loop_items

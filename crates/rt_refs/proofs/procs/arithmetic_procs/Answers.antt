use Rattle.std.proofs.Common.{ap}
use Rattle.low_ir.specs.Views.{procs_of}
use Rattle.rt_refs.proofs.procs.arithmetic_procs.Goals as goal

pub returns : goal.returns
returns c = c.with_arithmetic.ensures _ (ap procs_of c.new.ensures)

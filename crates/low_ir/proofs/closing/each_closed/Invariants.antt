use Rattle.std.proofs.Common.{◌≡◌, true, take}
use Rattle.low_ir.specs.Views.{procs_of}
use Rattle.low_ir.specs.Closed.{each_closed}
use Rattle.low_ir.proofs.closing.each_closed.Given as goal

abbrev pub invariant-loop-proc : goal.invariant-loop-proc
invariant-loop-proc l = each_closed (procs_of l.procs) (procs_of (take l.proc-index l.procs)) ≡ true

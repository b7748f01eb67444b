use Rattle.std.proofs.Common.{◌≡◌, length}
use Rattle.flat_ir.specs.Closed.{each_closed}
use Rattle.flat_ir.specs.Views.{procs_of}
use Rattle.flat_ir.proofs.closing.each_closed.Given as goal

-- the procedures that are left are closed where all are
abbrev pub invariant-loop-left : goal.invariant-loop-left
invariant-loop-left l =
    each_closed (procs_of l.fn.procs) (procs_of l.left) ≡ each_closed (procs_of l.fn.procs) (procs_of l.fn.procs)

abbrev pub decreases-loop-left : goal.decreases-loop-left
decreases-loop-left l = length l.left

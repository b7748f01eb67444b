use Rattle.std.proofs.Common.{◌≡◌, length}
use Rattle.flat_ir.specs.Views.{procs_of}
use Rattle.lowered_code.specs.Serving.{all_narrow}
use Rattle.lower.proofs.schemes.are_narrow.Given as goal

-- those that are left are narrow where all are
abbrev pub invariant-loop-left : goal.invariant-loop-left
invariant-loop-left l = all_narrow (procs_of l.left) ≡ all_narrow (procs_of l.procs)

abbrev pub decreases-loop-left : goal.decreases-loop-left
decreases-loop-left l = length l.left

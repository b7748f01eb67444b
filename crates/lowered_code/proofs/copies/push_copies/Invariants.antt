use Rattle.std.proofs.Common.{◌≡◌, ◌++◌, length}
use Rattle.low_ir.specs.Views.{procs_of}
use Rattle.lowered_code.proofs.copies.push_copies.Given as goal

-- the procedures so far, and behind them those that are left, are those before and all that were to be added
abbrev pub invariant-loop-left : goal.invariant-loop-left
invariant-loop-left l = procs_of l.procs ++ procs_of l.left ≡ procs_of l.fn.procs ++ procs_of l.more

abbrev pub decreases-loop-left : goal.decreases-loop-left
decreases-loop-left l = length l.left

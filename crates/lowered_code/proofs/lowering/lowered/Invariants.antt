use Rattle.std.proofs.Common.{◌≡◌, ◌++◌, length}
use Rattle.std.specs.Prelude.{map}
use Rattle.flat_ir.specs.Views.{procs_of as flat_procs_of}
use Rattle.low_ir.specs.Views.{procs_of}
use Rattle.lowered_code.specs.Lowered.{low_proc}
use Rattle.lowered_code.proofs.lowering.lowered.Given as goal

-- the procedures so far, and those of what is left, are those of all
abbrev pub invariant-loop-left : goal.invariant-loop-left
invariant-loop-left l =
    procs_of l.procs ++ map (low_proc l.run) (flat_procs_of l.left)
    ≡ map (low_proc l.run) (flat_procs_of l.flat.procs)

abbrev pub decreases-loop-left : goal.decreases-loop-left
decreases-loop-left l = length l.left

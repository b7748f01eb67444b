use Rattle.std.proofs.Common.{◌≡◌, ◌≤◌}
use Rattle.low_ir.specs.declared.code.LowCode.{size-LowCode}
use Rattle.low_ir.specs.Views.{procs_of, code_of}
use Rattle.low_ir.specs.Closed.{behind}
use Rattle.low_ir.specs.Windows.{windows}
use Rattle.low_ir.proofs.closing.+behind.Given as goal

-- what the rest comes to is what the whole comes to
abbrev pub invariant-loop-left : goal.invariant-loop-left
invariant-loop-left l =
    (behind windows (procs_of l.procs) l.words l.known (code_of l.left)
    ≡ behind windows (procs_of l.fn.procs) l.fn.words l.fn.window (code_of l.fn.code))
    × (size-LowCode l.left ≤ size-LowCode l.fn.code)

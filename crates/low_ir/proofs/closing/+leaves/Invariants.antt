use Rattle.std.proofs.Common.{◌≡◌, ◌≤◌}
use Rattle.low_ir.specs.declared.code.LowCode.{size-LowCode}
use Rattle.low_ir.specs.Views.{code_of}
use Rattle.low_ir.specs.Closed.{leaves}
use Rattle.low_ir.proofs.closing.+leaves.Given as goal

-- the rest leaves where the whole does
abbrev pub invariant-loop-left : goal.invariant-loop-left
invariant-loop-left l =
    (leaves (code_of l.left) ≡ leaves (code_of l.fn.code)) × (size-LowCode l.left ≤ size-LowCode l.fn.code)

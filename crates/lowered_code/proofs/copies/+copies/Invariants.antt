use Rattle.std.proofs.Common.{◌≡◌, ◌≤◌}
use Rattle.low_ir.specs.declared.code.LowCode.{size-LowCode}
use Rattle.low_ir.specs.Views.{code_of}
use Rattle.lowered_code.specs.Steps.{ahead}
use Rattle.lowered_code.proofs.copies.+copies.Given as goal

-- the steps so far, and behind them what is left, come to the whole
abbrev pub invariant-loop-steps : goal.invariant-loop-steps
invariant-loop-steps l = record {
  code : ahead l.steps.steps.items (code_of l.left) ≡ code_of l.code;
  smaller : size-LowCode l.left ≤ size-LowCode l.fn.code;
}

abbrev pub decreases-loop-steps : goal.decreases-loop-steps
decreases-loop-steps l = size-LowCode l.left

use Rattle.std.proofs.Common.{◌≡◌}
use Rattle.low_ir.specs.Procedures.{Code}
use Rattle.lowered_code.specs.Emit.{store_others}
use Rattle.lowered_code.specs.Steps.{ahead}
use Rattle.lowered_code.proofs.operations.Emitter.store_others.Given as goal

-- what is left, behind what was stored, comes to the whole
abbrev pub invariant-loop-left : goal.invariant-loop-left
invariant-loop-left l = (k : Code)
    → ahead l.steps.steps.items (store_others l.self.shape l.d l.captured l.group.first l.place l.left k)
    ≡ ahead l.fn.steps.steps.items (store_others l.self.shape l.d l.captured l.group.first 1 l.group.others k)

abbrev pub decreases-loop-left : goal.decreases-loop-left
decreases-loop-left l = l.left

use Rattle.std.proofs.Common.{◌≡◌, ◌++◌, length}
use Rattle.low_ir.specs.Procedures.{Code}
use Rattle.lowered_code.specs.Emit.{fetch_all, found_all}
use Rattle.lowered_code.specs.Steps.{ahead}
use Rattle.lowered_code.proofs.operands.fetch_all.Given as goal

-- what is left, behind what was fetched, comes to the whole
abbrev pub invariant-loop-left : goal.invariant-loop-left
invariant-loop-left l = record {
  steps : (k : Code) → ahead l.steps.steps.items (fetch_all l.shape l.place l.left k)
      ≡ ahead l.fn.steps.steps.items (fetch_all l.shape l.first l.operands k);
  sources : l.sources ++ found_all l.shape l.place l.left ≡ found_all l.shape l.first l.operands;
}

abbrev pub decreases-loop-left : goal.decreases-loop-left
decreases-loop-left l = length l.left

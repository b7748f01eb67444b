use Rattle.std.proofs.Common.{◌≡◌, ◌≤◌}
use Rattle.flat_ir.specs.declared.code.FlatBody.{size-FlatBody}
use Rattle.flat_ir.specs.Views.{body_of}
use Rattle.low_ir.specs.Procedures.{Code}
use Rattle.lowered_code.specs.Emit.{emit, Into}
use Rattle.lowered_code.specs.Steps.{ahead}
use Rattle.lowered_code.proofs.operations.Emitter.+emission.Given as goal

-- what is left, behind what was added, comes to the whole
abbrev pub invariant-emit_into-loop-left : goal.invariant-emit_into-loop-left
invariant-emit_into-loop-left l = record {
  code : (k : Code) → ahead l.steps.steps.items (emit l.self.run.now l.self.shape (body_of l.left) (Into l.d k))
      ≡ ahead l.fn.steps.steps.items (emit l.self.run.now l.self.shape (body_of l.body) (Into l.d k));
  smaller : size-FlatBody l.left ≤ size-FlatBody l.fn.body;
}

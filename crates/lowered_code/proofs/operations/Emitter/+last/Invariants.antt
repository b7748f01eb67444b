use Rattle.std.proofs.Common.{◌≡◌, ◌≤◌}
use Rattle.flat_ir.specs.declared.code.FlatBody.{size-FlatBody}
use Rattle.flat_ir.specs.Views.{body_of}
use Rattle.lowered_code.specs.Emit.{emit, ToCaller}
use Rattle.lowered_code.specs.Steps.{ahead}
use Rattle.lowered_code.proofs.operations.Emitter.+last.Given as goal

-- what is left, behind what was added, comes to the whole
abbrev pub invariant-loop-left : goal.invariant-loop-left
invariant-loop-left l = record {
  code : ahead l.steps.steps.items (emit l.self.run.now l.self.shape (body_of l.left) ToCaller)
      ≡ emit l.self.run.now l.self.shape (body_of l.body) ToCaller;
  smaller : size-FlatBody l.left ≤ size-FlatBody l.fn.body;
}

use Rattle.std.proofs.Common.{◌≡◌, ◌≤◌, max}
use Rattle.flat_ir.specs.declared.code.FlatBody.{size-FlatBody}
use Rattle.flat_ir.specs.Views.{body_of}
use Rattle.flat_ir.specs.Levels.{levels}
use Rattle.lowered_code.proofs.lowering.+levels.Given as goal

-- the levels so far and those of what is left come to those of the whole
abbrev pub invariant-loop-left : goal.invariant-loop-left
invariant-loop-left l = record {
  most : max l.most (levels l.depth (body_of l.left)) ≡ levels l.fn.first_free (body_of l.body);
  smaller : size-FlatBody l.left ≤ size-FlatBody l.fn.body;
}

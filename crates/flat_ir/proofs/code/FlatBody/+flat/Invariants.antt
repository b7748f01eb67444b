use Rattle.std.proofs.Common.{◌≤◌}
use Rattle.flat_ir.specs.declared.code.FlatBody.{size-FlatBody}
use Rattle.flat_ir.proofs.code.FlatBody.+flat.Given as goal

abbrev pub invariant-loop-self : goal.invariant-loop-self
invariant-loop-self l = size-FlatBody l.self ≤ size-FlatBody l.fn.self

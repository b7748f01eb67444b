use Rattle.std.proofs.Common.{◌≤◌}
use Rattle.low_ir.specs.declared.code.LowCode.{size-LowCode}
use Rattle.low_ir.proofs.code.LowCode.+low.Given as goal

abbrev pub invariant-loop-self : goal.invariant-loop-self
invariant-loop-self l = size-LowCode l.self ≤ size-LowCode l.fn.self

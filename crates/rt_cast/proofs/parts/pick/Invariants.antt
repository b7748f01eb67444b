use Rattle.std.proofs.Common.{◌≡◌, ◌+◌}
use Rattle.std.specs.Prelude.{IfOk}
use Rattle.low_ir.specs.Views.{code_of}
use Rattle.rt_cast.specs.PartCodes.{pick}
use Rattle.rt_cast.proofs.parts.pick.Given as goal

abbrev pub invariant-loop-r : goal.invariant-loop-r
invariant-loop-r l = IfOk l.code (λ code. code_of code.value ≡ pick l.word l.r (λ r. l.base + r + l.first) l.words)

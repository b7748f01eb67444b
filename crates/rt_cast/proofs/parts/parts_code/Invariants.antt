use Rattle.std.proofs.Common.{◌≡◌, ◌-◌}
use Rattle.std.specs.Prelude.{IfOk}
use Rattle.low_ir.specs.Views.{code_of}
use Rattle.rt_cast.specs.PartCodes.{parts_code, apart}
use Rattle.rt_cast.proofs.parts.parts_code.Given as goal

abbrev pub invariant-loop-j : goal.invariant-loop-j
invariant-loop-j l =
    IfOk l.code (λ code. code_of code.value
    ≡ parts_code l.making.raise l.making.part (apart l.making.step) l.total l.j (l.total - l.j))

use Rattle.std.proofs.Common.{refl}
use Rattle.low_ir.proofs.Priced.{step_pays}
use Rattle.low_ir.proofs.laws.steps_are_paid.Goals as goal

pub returns : goal.returns
returns g c = λ reading setting s. step_pays reading setting s s.active.code refl

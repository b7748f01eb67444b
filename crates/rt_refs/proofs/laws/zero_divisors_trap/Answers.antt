use Rattle.rt_refs.proofs.Dividends.{zero_divisors_trap}
use Rattle.rt_refs.proofs.laws.zero_divisors_trap.Goals as goal

pub returns : goal.returns
returns g c = λ reading setting s loop n which. zero_divisors_trap reading setting s loop n which

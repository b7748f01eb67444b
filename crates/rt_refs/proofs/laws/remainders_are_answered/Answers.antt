use Rattle.rt_refs.proofs.Dividends.{remainders_are_answered}
use Rattle.rt_refs.proofs.laws.remainders_are_answered.Goals as goal

pub returns : goal.returns
returns g c = λ reading setting s loop n d here small fits some.
    remainders_are_answered reading setting s loop n d here small fits some

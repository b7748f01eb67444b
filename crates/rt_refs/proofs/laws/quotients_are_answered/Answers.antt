use Rattle.rt_refs.proofs.Dividends.{quotients_are_answered}
use Rattle.rt_refs.proofs.laws.quotients_are_answered.Goals as goal

pub returns : goal.returns
returns g c = λ reading setting s loop n d here small fits some.
    quotients_are_answered reading setting s loop n d here small fits some

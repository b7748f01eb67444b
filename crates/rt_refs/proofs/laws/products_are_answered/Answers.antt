use Rattle.rt_refs.proofs.Doubling.{products_are_answered}
use Rattle.rt_refs.proofs.laws.products_are_answered.Goals as goal

pub returns : goal.returns
returns g c = λ reading setting s first a b here small few.
    products_are_answered reading setting s first a b here small few

use Rattle.rt_cast.proofs.Reaching.{coercions_of_casts_are_held}
use Rattle.rt_cast.proofs.laws.coercions_of_casts_are_held.Goals as goal

pub returns : goal.returns
returns g c = λ reading setting l first s exhausts ready objects filled from to label wf wt hf ht small.
    coercions_of_casts_are_held reading setting l first s exhausts ready objects filled from to label wf wt hf ht small

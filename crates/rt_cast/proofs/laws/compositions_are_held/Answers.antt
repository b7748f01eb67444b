use Rattle.rt_cast.proofs.Reaching.{compositions_are_held}
use Rattle.rt_cast.proofs.laws.compositions_are_held.Goals as goal

pub returns : goal.returns
returns g c = λ reading setting l first s exhausts ready objects filled c d wc wd sc sd hc hd.
    compositions_are_held reading setting l first s exhausts ready objects filled c d wc wd sc sd hc hd

use Rattle.rt_cast.proofs.CastReaching.{light_casts_are_cheap}
use Rattle.rt_cast.proofs.laws.light_casts_are_cheap.Goals as goal

pub returns : goal.returns
returns g c = λ reading setting l first s exhausts ready tallest objects filled head c lc u r e some light wv wc hv hc.
    light_casts_are_cheap reading setting l first s exhausts ready tallest objects filled head c lc u r e some light wv
    wc hv hc

use Rattle.rt_cast.proofs.CastReaching.{casts_are_made}
use Rattle.rt_cast.proofs.laws.casts_are_made.Goals as goal

pub returns : goal.returns
returns g c = λ reading setting l first s exhausts ready low objects filled head c lc u r e some wv wc hv hc.
    casts_are_made reading setting l first s exhausts ready low objects filled head c lc u r e some wv wc hv hc

use Rattle.rv_select.proofs.Spared.{calls_spare_what_is_known_behind_them}
use Rattle.rv_select.proofs.laws.calls_spare_what_is_known_behind_them.Goals as goal

pub returns : goal.returns
returns g c = λ reading setting t behind r e ten readable.
    calls_spare_what_is_known_behind_them reading setting t behind r e ten readable

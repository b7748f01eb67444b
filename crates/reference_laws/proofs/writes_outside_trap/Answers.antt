use Rattle.reference_laws.proofs.OverObjects.{writes_outside_trap}
use Rattle.reference_laws.proofs.writes_outside_trap.Goals as goal

pub returns : goal.returns
returns g c = λ reading setting l first s exhausts ready low objects filled u wv hv a stands ws cell which i word
    other outside.
    writes_outside_trap reading setting l first s exhausts ready low objects filled u wv hv a stands ws cell which i
    word other outside

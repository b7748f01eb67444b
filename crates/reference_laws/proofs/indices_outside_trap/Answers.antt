use Rattle.reference_laws.proofs.OverObjects.{indices_outside_trap}
use Rattle.reference_laws.proofs.indices_outside_trap.Goals as goal

pub returns : goal.returns
returns g c = λ reading setting l first s exhausts ready low objects filled u wv hv a stands ws cell which i other
    outside.
    indices_outside_trap reading setting l first s exhausts ready low objects filled u wv hv a stands ws cell which i
    other outside

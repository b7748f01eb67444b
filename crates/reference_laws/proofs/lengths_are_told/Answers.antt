use Rattle.reference_laws.proofs.OverObjects.{lengths_are_told}
use Rattle.reference_laws.proofs.lengths_are_told.Goals as goal

pub returns : goal.returns
returns g c = λ reading setting l first s exhausts ready objects filled u wv hv a stands ws cell i.
    lengths_are_told reading setting l first s exhausts ready objects filled u wv hv a stands ws cell i

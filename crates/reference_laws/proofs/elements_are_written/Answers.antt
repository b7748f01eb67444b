use Rattle.reference_laws.proofs.OverObjects.{elements_are_written}
use Rattle.reference_laws.proofs.elements_are_written.Goals as goal

pub returns : goal.returns
returns g c = λ reading setting l first s exhausts ready low objects filled begins head u wv hv a d behind ws cell
    which i word old got x hx r e some.
    elements_are_written reading setting l first s exhausts ready low objects filled begins head u wv hv a d behind ws
    cell which i word old got x hx r e some

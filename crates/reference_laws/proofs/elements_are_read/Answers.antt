use Rattle.reference_laws.proofs.OverObjects.{elements_are_read}
use Rattle.reference_laws.proofs.elements_are_read.Goals as goal

pub returns : goal.returns
returns g c = λ reading setting l first s exhausts ready low objects filled head u wv hv a d behind ws cell which i
    word other got x hx r e some.
    elements_are_read reading setting l first s exhausts ready low objects filled head u wv hv a d behind ws cell
    which i word other got x hx r e some

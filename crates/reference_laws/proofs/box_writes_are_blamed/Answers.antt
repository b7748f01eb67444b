use Rattle.reference_laws.proofs.OverObjects.{box_writes_are_blamed}
use Rattle.reference_laws.proofs.box_writes_are_blamed.Goals as goal

pub returns : goal.returns
returns g c = λ reading setting l first s exhausts ready low objects filled begins head u wv hv a d behind ws cell i
    word x hx label e.
    box_writes_are_blamed reading setting l first s exhausts ready low objects filled begins head u wv hv a d behind ws
    cell i word x hx label e

use Rattle.reference_laws.proofs.OverObjects.{calls_are_made}
use Rattle.reference_laws.proofs.calls_are_made.Goals as goal

pub returns : goal.returns
returns g c = λ reading setting l first s exhausts ready low objects filled heads f c ds e split us wv ws hv hu few
    many head address rest there.
    calls_are_made reading setting l first s exhausts ready low objects filled heads f c ds e split us wv ws hv hu few
    many head address rest there

use Rattle.reference_laws.proofs.Filling.{vectors_are_made}
use Rattle.reference_laws.proofs.vectors_are_made.Goals as goal

pub returns : goal.returns
returns g c = λ reading setting l s exhausts placed begins narrow own there objects filled n w small positive.
    vectors_are_made reading setting l s exhausts placed begins narrow own there objects filled n w small positive

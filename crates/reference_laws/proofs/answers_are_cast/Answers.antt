use Rattle.reference_laws.proofs.OverObjects.{answers_are_cast}
use Rattle.reference_laws.proofs.answers_are_cast.Goals as goal

pub returns : goal.returns
returns g c = λ reading setting l first s exhausts ready low objects filled head w c resumes u wv hv r e some.
    answers_are_cast reading setting l first s exhausts ready low objects filled head w c resumes u wv hv r e some

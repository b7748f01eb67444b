use Rattle.core_calc.proofs.Endings as proofs
use Rattle.core_calc.proofs.laws.answers_are_values.Goals as goal

pub returns : goal.returns
returns c = λ program input n shown. proofs.answers_are_values program input n shown

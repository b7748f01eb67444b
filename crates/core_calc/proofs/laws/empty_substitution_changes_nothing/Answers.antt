use Rattle.core_calc.proofs.Substituting.{nothing_put_in}
use Rattle.core_calc.proofs.laws.empty_substitution_changes_nothing.Goals as goal

pub returns : goal.returns
returns c = λ term. nothing_put_in term

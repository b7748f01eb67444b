use Rattle.run_laws.proofs.Public.{what_has_ended_stays-reductions}
use Rattle.core_calc.specs.Calculus.{start, calculus}
use Rattle.core_calc.proofs.laws.what_has_ended_stays.Goals as goal

pub returns : goal.returns
returns c =
    λ program input. what_has_ended_stays-reductions (calculus program.types program.labels) (start program.term input)

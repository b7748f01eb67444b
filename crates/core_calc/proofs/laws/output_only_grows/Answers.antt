use Rattle.run_laws.proofs.Public.{output_only_grows-reductions}
use Rattle.core_calc.specs.Calculus.{start, calculus}
use Rattle.core_calc.proofs.Output.{calculus_adds_output}
use Rattle.core_calc.proofs.laws.output_only_grows.Goals as goal

pub returns-clause-steps : goal.returns-clause-steps
returns-clause-steps c = λ types labels. calculus_adds_output types labels

pub returns-clause-runs : goal.returns-clause-runs
returns-clause-runs c = λ program input.
    output_only_grows-reductions (calculus program.types program.labels)
    (calculus_adds_output program.types program.labels)
    (start program.term input)

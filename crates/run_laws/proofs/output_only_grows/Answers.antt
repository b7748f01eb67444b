use Rattle.run_laws.proofs.Running.{output_only_grows-machines}
use Rattle.run_laws.proofs.Reducing.{output_only_grows-reductions}
use Rattle.run_laws.proofs.output_only_grows.Goals as goal

pub returns-clause-machines : goal.returns-clause-machines
returns-clause-machines g c = λ m s adds. output_only_grows-machines m adds s

pub returns-clause-reductions : goal.returns-clause-reductions
returns-clause-reductions g c = λ m s adds. output_only_grows-reductions m adds s

use Rattle.run_laws.proofs.Running.{later_steps_go_on_from_earlier_ones-machines}
use Rattle.run_laws.proofs.Reducing.{later_steps_go_on_from_earlier_ones-reductions}
use Rattle.run_laws.proofs.later_steps_go_on_from_earlier_ones.Goals as goal

pub returns-clause-machines : goal.returns-clause-machines
returns-clause-machines g c = λ m s n k. later_steps_go_on_from_earlier_ones-machines m n k s

pub returns-clause-reductions : goal.returns-clause-reductions
returns-clause-reductions g c = λ m s n k. later_steps_go_on_from_earlier_ones-reductions m n k s

use Rattle.run_laws.proofs.Running.{what_has_ended_stays-machines}
use Rattle.run_laws.proofs.Reducing.{what_has_ended_stays-reductions}
use Rattle.run_laws.proofs.what_has_ended_stays.Goals as goal

pub returns-clause-machines : goal.returns-clause-machines
returns-clause-machines g c = λ m s. what_has_ended_stays-machines m s

pub returns-clause-reductions : goal.returns-clause-reductions
returns-clause-reductions g c = λ m s. what_has_ended_stays-reductions m s

use Rattle.run_laws.proofs.Metering.{meter_changes_nothing_else-machines, meter_changes_nothing_else-reductions}
use Rattle.run_laws.proofs.meter_changes_nothing_else.Goals as goal

pub returns-clause-machines : goal.returns-clause-machines
returns-clause-machines g c = λ m work s n. meter_changes_nothing_else-machines m work n s

pub returns-clause-reductions : goal.returns-clause-reductions
returns-clause-reductions g c = λ m work s n. meter_changes_nothing_else-reductions m work n s

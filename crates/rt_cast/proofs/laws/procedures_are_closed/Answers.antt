use Rattle.rt_cast.proofs.Closing.{procedures_are_closed-closed}
use Rattle.rt_cast.proofs.laws.procedures_are_closed.Goals as goal

pub returns-clause-closed : goal.returns-clause-closed
returns-clause-closed c = λ procs first s. procedures_are_closed-closed procs first s

use Rattle.rt_refs.proofs.Closing.{procedures_are_closed-closed}
use Rattle.rt_refs.proofs.laws.procedures_are_closed.Goals as goal

pub returns-clause-closed : goal.returns-clause-closed
returns-clause-closed c = λ procs first cast s p there takes.
    procedures_are_closed-closed procs first cast s p there takes

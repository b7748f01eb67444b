use Rattle.rv_machine.proofs.Runs.{what_has_stopped_stays-stays, what_has_stopped_stays-stops_again}
use Rattle.rv_machine.proofs.what_has_stopped_stays.Goals as goal

pub returns-clause-stays : goal.returns-clause-stays
returns-clause-stays c = what_has_stopped_stays-stays

pub returns-clause-stops_again : goal.returns-clause-stops_again
returns-clause-stops_again c = what_has_stopped_stays-stops_again

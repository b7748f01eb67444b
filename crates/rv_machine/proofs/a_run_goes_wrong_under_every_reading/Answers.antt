use Rattle.rv_machine.proofs.Wrongs.{a_run_goes_wrong_under_every_reading}
use Rattle.rv_machine.proofs.a_run_goes_wrong_under_every_reading.Goals as goal

pub returns : goal.returns
returns g c first second code setting s f h nw = a_run_goes_wrong_under_every_reading first second f h code setting s nw

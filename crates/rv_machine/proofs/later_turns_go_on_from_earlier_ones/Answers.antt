use Rattle.rv_machine.proofs.Runs.{later_turns_go_on_from_earlier_ones}
use Rattle.rv_machine.proofs.later_turns_go_on_from_earlier_ones.Goals as goal

pub returns : goal.returns
returns c = later_turns_go_on_from_earlier_ones

use Rattle.front_end.proofs.Places.{elaborated_programs_are_placed}
use Rattle.front_end.proofs.elaborated_programs_are_placed.Goals as goal

pub returns : goal.returns
returns c = elaborated_programs_are_placed

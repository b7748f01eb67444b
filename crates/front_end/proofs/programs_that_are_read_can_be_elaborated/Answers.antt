use Rattle.front_end.proofs.Sources.{read_programs_are_sources}
use Rattle.front_end.proofs.programs_that_are_read_can_be_elaborated.Goals as goal

pub returns : goal.returns
returns c = read_programs_are_sources

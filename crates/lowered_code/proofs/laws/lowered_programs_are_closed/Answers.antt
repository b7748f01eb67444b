use Rattle.lowered_code.proofs.closing.Programs.{lowered_programs_are_closed}
use Rattle.lowered_code.proofs.laws.lowered_programs_are_closed.Goals as goal

pub returns : goal.returns
returns c = λ run flat entry answer serving h serve last.
    lowered_programs_are_closed run flat entry answer serving h serve last

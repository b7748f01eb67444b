use Rattle.rv_machine.proofs.Tabled.{turn_goes_by_the_table-instruction, turn_goes_by_the_table-undefined}
use Rattle.rv_machine.proofs.turn_goes_by_the_table.Goals as goal

pub returns-clause-instruction : goal.returns-clause-instruction
returns-clause-instruction c = turn_goes_by_the_table-instruction

pub returns-clause-undefined : goal.returns-clause-undefined
returns-clause-undefined c = turn_goes_by_the_table-undefined

use Rattle.std.proofs.Common.{rules}
use Rattle.reg_assign.proofs.slots.put_item.Goals as goal

-- (an edit turns this function: with the answer here its refusal takes one run of the prover, and not two)

pub returns-in-TailCall-clause-items : goal.returns-in-TailCall-clause-items
returns-in-TailCall-clause-items c = search rules

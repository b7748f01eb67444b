use Rattle.std.proofs.Common.{rules}
use Rattle.rv_isa.proofs.decoder.immediate_inst.Goals as goal

-- (an edit turns this function: with the answer here its refusal takes one run of the prover, and not two)

pub returns-in-5-2 : goal.returns-in-5-2
returns-in-5-2 c = search rules

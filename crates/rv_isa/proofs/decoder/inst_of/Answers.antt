use Rattle.std.proofs.Common.{rules}
use Rattle.rv_isa.proofs.decoder.inst_of.Goals as goal

-- (an edit turns this function: with the answer here its refusal takes one run of the prover, and not two)

pub returns-in_default : goal.returns-in_default
returns-in_default c = search rules

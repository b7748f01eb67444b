use Rattle.std.proofs.Common.{rules}
use Rattle.assembler.proofs.image.read_image.Goals as goal

-- (an edit turns this function: with the answer here its refusal takes one run of the prover, and not two)

pub returns-then-not-has_whole_len-clause-fault : goal.returns-then-not-has_whole_len-clause-fault
returns-then-not-has_whole_len-clause-fault c = search rules

use Rattle.std.proofs.Common.{rules}
use Rattle.lowered_code.proofs.operations.Emitter.make_group.Goals as goal

-- (an edit turns this function: with the answer here its refusal takes one run of the prover, and not two)
pub returns : goal.returns
returns c = search rules

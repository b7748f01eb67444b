use Rattle.std.proofs.Common.{arith}
use Rattle.std.proofs.lemmas.Grind.{common_steps}
use Rattle.consistency.proofs.checks.same_head.Goals as goal

-- (an edit turns this function: with the answer here its refusal takes one run of the prover, and not two)

pub returns-in-Fun-Fun : goal.returns-in-Fun-Fun
returns-in-Fun-Fun c = grind (arith, common_steps)

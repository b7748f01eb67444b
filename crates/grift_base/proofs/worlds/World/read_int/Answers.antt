use Rattle.std.proofs.Common.{arith}
use Rattle.std.proofs.lemmas.Grind.{common_steps}
use Rattle.grift_base.proofs.worlds.World.read_int.Goals as goal

-- (an edit turns this function: with the answer here its refusal takes one run of the prover, and not two)

pub returns-clause-number : goal.returns-clause-number
returns-clause-number c = grind (arith, common_steps)

pub returns-clause-world : goal.returns-clause-world
returns-clause-world c = grind (arith, common_steps)

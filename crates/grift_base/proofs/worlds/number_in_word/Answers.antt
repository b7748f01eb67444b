use Rattle.std.proofs.Common.{rules}
use Rattle.grift_base.proofs.worlds.number_in_word.Goals as goal

-- (an edit turns this function: with the answer here its refusal takes one run of the prover, and not two)

pub returns-else-is_integer : goal.returns-else-is_integer
returns-else-is_integer c = search rules

use Rattle.std.proofs.Common.{rules}
use Rattle.coercion_compose.proofs.compositions.part_pair.Goals as goal

-- (an edit turns this function: with the answer here its refusal takes one run of the prover, and not two)

pub returns-then-back : goal.returns-then-back
returns-then-back c = search rules

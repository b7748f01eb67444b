use Rattle.std.proofs.Common.{rules}
use Rattle.core_calc.proofs.forms.cast_type.Goals as goal

-- (an edit turns this function: with the answer here its refusal takes one run of the prover, and not two)

pub returns-then-is_some : goal.returns-then-is_some
returns-then-is_some c = search rules

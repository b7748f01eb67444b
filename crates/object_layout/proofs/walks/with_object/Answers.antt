use Rattle.std.proofs.Common.{rules}
use Rattle.object_layout.proofs.walks.with_object.Goals as goal

-- (an edit turns this function: with the answer here its refusal takes one run of the prover, and not two)

pub returns-then-header-number-clause-stacked : goal.returns-then-header-number-clause-stacked
returns-then-header-number-clause-stacked g c = search rules

use Rattle.std.proofs.Common.{rules}
use Rattle.rv_isa.proofs.encoder.branch_form.Goals as goal

-- (an edit turns this function: with the answer here its refusal takes one run of the prover, and not two)

pub returns-clause-value : goal.returns-clause-value
returns-clause-value c = search rules

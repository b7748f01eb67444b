use Rattle.std.proofs.Common.{rules}
use Rattle.grift_cli.proofs.models.model_of.Goals as goal

-- (an edit turns this function: with the answers here its refusal takes one run of the prover, and not two)

pub returns-clause-verdict : goal.returns-clause-verdict
returns-clause-verdict c = search rules

pub returns-clause-printed : goal.returns-clause-printed
returns-clause-printed c = search rules

use Rattle.std.proofs.Common.{rules}
use Rattle.coercion_norm.proofs.middles.MiddleKind.runs_back.Goals as goal

-- (an edit turns this function: with the answer here its refusal takes one run of the prover, and not two)

pub returns-in-Ref : goal.returns-in-Ref
returns-in-Ref c = search rules

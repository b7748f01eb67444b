use Rattle.std.proofs.Common.{rules}
use Rattle.type_graph.proofs.tables.Measure.with_part.Goals as goal

-- (an edit turns this function: with the answer here its refusal takes one run of the prover, and not two)

pub returns-clause-height : goal.returns-clause-height
returns-clause-height c = search rules

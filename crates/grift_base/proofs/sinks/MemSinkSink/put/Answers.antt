use Rattle.std.proofs.Common.{rules}
use Rattle.grift_base.proofs.sinks.MemSinkSink.put.Goals as goal

-- (an edit turns this function: with the answer here its refusal takes one run of the prover, and not two)

pub returns-then-contains-clause-sink : goal.returns-then-contains-clause-sink
returns-then-contains-clause-sink c = search rules

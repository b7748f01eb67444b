use Rattle.sexpr_reader.proofs.Public.{what_reads_is_not_refused}
use Rattle.sexpr_reader.proofs.what_reads_is_not_refused.Goals as goal

pub returns : goal.returns
returns c = λ text ds r. what_reads_is_not_refused text ds r

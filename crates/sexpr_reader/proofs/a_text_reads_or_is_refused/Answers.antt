use Rattle.sexpr_reader.proofs.Public.{a_text_reads_or_is_refused}
use Rattle.sexpr_reader.proofs.a_text_reads_or_is_refused.Goals as goal

pub returns : goal.returns
returns c = λ text. a_text_reads_or_is_refused text

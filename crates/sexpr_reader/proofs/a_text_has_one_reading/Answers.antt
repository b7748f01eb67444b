use Rattle.sexpr_reader.proofs.Public.{a_text_has_one_reading}
use Rattle.sexpr_reader.proofs.a_text_has_one_reading.Goals as goal

pub returns : goal.returns
returns c = λ text first second. a_text_has_one_reading text first second

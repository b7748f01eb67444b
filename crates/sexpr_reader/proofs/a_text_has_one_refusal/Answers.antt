use Rattle.sexpr_reader.proofs.Public.{a_text_has_one_refusal}
use Rattle.sexpr_reader.proofs.a_text_has_one_refusal.Goals as goal

pub returns : goal.returns
returns c = λ text first second. a_text_has_one_refusal text first second

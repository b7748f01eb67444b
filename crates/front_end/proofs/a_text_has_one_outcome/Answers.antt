use Rattle.front_end.proofs.Outcomes.{a_text_has_one_outcome-some, a_text_has_one_outcome-one}
use Rattle.front_end.proofs.a_text_has_one_outcome.Goals as goal

pub returns-clause-some : goal.returns-clause-some
returns-clause-some c = a_text_has_one_outcome-some

pub returns-clause-one : goal.returns-clause-one
returns-clause-one c = a_text_has_one_outcome-one

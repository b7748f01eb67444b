use Rattle.closure_convert.proofs.Freeness.{free_is}
use Rattle.closure_convert.proofs.laws.free_names_are_free.Goals as goal

pub returns : goal.returns
returns c = λ term name. free_is name term

use Rattle.placed_code.proofs.Keeps.{is_applied}
use Rattle.placed_code.proofs.code_with_places_follows.Goals as goal

pub returns : goal.returns
returns c = λ items place live code hold few e. is_applied place items live code hold few e

use Rattle.coercion_norm.proofs.laws.composition_is_associative.Goals as goal
use Rattle.coercion_norm.proofs.StandingLemmas.{compose_three_right}
use Rattle.coercion_norm.proofs.OneNormalForm.{compose_associative}

pub returns : goal.returns
returns c = record { one = compose_associative; stands = compose_three_right }

use Rattle.coercion_norm.proofs.laws.normal_forms_are_unique.Goals as goal
use Rattle.coercion_norm.proofs.OneNormalForm.{stands_alone}

pub returns : goal.returns
returns c = stands_alone

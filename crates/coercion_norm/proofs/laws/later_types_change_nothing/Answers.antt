use Rattle.coercion_norm.proofs.laws.later_types_change_nothing.Goals as goal
use Rattle.coercion_norm.proofs.LaterTypes.{FitsTypes-later}

pub returns : goal.returns
returns c = FitsTypes-later

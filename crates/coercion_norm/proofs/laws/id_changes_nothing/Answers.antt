use Rattle.std.proofs.Common.{refl}
use Rattle.coercion_norm.proofs.IdAndDyn.{id_behind}
use Rattle.coercion_norm.proofs.laws.id_changes_nothing.Goals as goal

pub returns : goal.returns
returns c = record { before = λ rows made d. refl; behind = id_behind }

use Rattle.coercion_norm.proofs.IdAndDyn.{a_dyn_inside}
use Rattle.coercion_norm.proofs.laws.a_dyn_inside_changes_nothing.Goals as goal

pub returns : goal.returns
returns c = λ rows depth x t p d q u l m dyn. a_dyn_inside rows t p d q u l m dyn depth x

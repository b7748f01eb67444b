use Rattle.coercion_norm.proofs.LabelLemmas.{coerce_labels, compose_labels}
use Rattle.coercion_norm.proofs.laws.no_labels_are_added.Goals as goal

pub returns : goal.returns
returns c = record {
  casts = λ rows made many from to label l. coerce_labels many rows made from to label l;
  compositions = λ rows made many x y hx hy. compose_labels many rows made x y hx hy;
}

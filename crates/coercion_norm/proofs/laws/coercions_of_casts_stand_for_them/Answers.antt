use Rattle.coercion_norm.proofs.laws.coercions_of_casts_stand_for_them.Goals as goal
use Rattle.coercion_norm.proofs.AgreementLemmas.{coerce_stands}
use Rattle.coercion_norm.proofs.HeightLemmas.{coerce_height}
use Rattle.coercion_norm.proofs.NormalLemmas.{coerce_normal}
use Rattle.coercion_norm.proofs.EnoughDepth.{coerce_enough, coerce_by_table}
use Rattle.coercion_norm.proofs.StandingLemmas.{coerce_stands_for}

pub returns : goal.returns
returns c = record {
  agrees = coerce_stands;
  stands = coerce_stands_for;
  height = coerce_height;
  normal = coerce_normal;
  more_depth = λ rows n made from to label le hf ht. coerce_enough rows n made le from to label hf ht;
  table = coerce_by_table;
}

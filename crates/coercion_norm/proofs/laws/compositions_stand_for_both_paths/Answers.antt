use Rattle.coercion_norm.proofs.laws.compositions_stand_for_both_paths.Goals as goal
use Rattle.coercion_norm.proofs.AgreementLemmas.{compose_joins}
use Rattle.coercion_norm.proofs.HeightLemmas.{compose_height}
use Rattle.coercion_norm.proofs.NormalLemmas.{compose_normal}
use Rattle.coercion_norm.proofs.EnoughDepth.{compose_enough}
use Rattle.coercion_norm.proofs.StandingLemmas.{compose_stands_for, compose_by_table}

pub returns : goal.returns
returns c = record {
  agrees = λ rows depth made le x y t u l m e hx hy. compose_joins rows depth made le x y t u l m e hx hy;
  stands = compose_stands_for;
  height = compose_height;
  normal = compose_normal;
  more_depth = λ rows n made x y le hx hy. compose_enough rows n made le x y hx hy;
  table = compose_by_table;
}

use Rattle.std.proofs.Common.{refl, inl}
use Rattle.coercion_norm.specs.Coercions.{Fail}
use Rattle.coercion_norm.specs.Samples.{two}
use Rattle.coercion_norm.proofs.laws.casts_are_as_worked_by_hand.Goals as goal

pub returns : goal.returns
returns c = record {
  clash = λ p. refl;
  functions = λ p. refl;
  references = λ p. refl;
  into_and_out_of_dyn = λ p q. refl;
  arguments_and_results = λ p q. refl;
  reads_and_writes = λ p q. refl;
  agreement = λ p q. (two (Fail q) (Fail p), (refl, (refl, tt)), inl refl);
  first_fails = λ p q. refl;
}

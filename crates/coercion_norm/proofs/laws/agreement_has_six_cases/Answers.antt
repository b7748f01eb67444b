use Rattle.coercion_norm.proofs.laws.agreement_has_six_cases.Goals as goal
use Rattle.coercion_norm.proofs.SixCases.{only_dyn, first_dyn, clash, last_dyn, base, middle_case}

pub returns : goal.returns
returns c = record {
  only_dyn = only_dyn;
  first_dyn = first_dyn;
  clash = clash;
  last_dyn = last_dyn;
  base = base;
  middle = middle_case;
}

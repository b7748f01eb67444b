use Rattle.core_calc.proofs.OneType.{a_term_has_one_type-terms, a_term_has_one_type-values}
use Rattle.core_calc.proofs.laws.a_term_has_one_type.Goals as goal

pub returns-clause-terms : goal.returns-clause-terms
returns-clause-terms c = λ types labels cells context term a b table h k.
    a_term_has_one_type-terms types table labels cells term context a b h k

pub returns-clause-values : goal.returns-clause-values
returns-clause-values c = λ types labels cells v a b table h k.
    a_term_has_one_type-values types table labels cells v a b h k

use Rattle.core_calc.proofs.Redexes.{the_step_is_that_of_the_redex-in_place, the_step_is_that_of_the_redex-steps}
use Rattle.core_calc.proofs.Redexes.{the_step_is_that_of_the_redex-is_whole}
use Rattle.core_calc.proofs.Redexes.{the_step_is_that_of_the_redex-through_parts}
use Rattle.core_calc.proofs.laws.the_step_is_that_of_the_redex.Goals as goal

pub returns-clause-in_place : goal.returns-clause-in_place
returns-clause-in_place c = λ term. the_step_is_that_of_the_redex-in_place term

pub returns-clause-steps : goal.returns-clause-steps
returns-clause-steps c = λ types store world term. the_step_is_that_of_the_redex-steps types store world term

pub returns-clause-is_whole : goal.returns-clause-is_whole
returns-clause-is_whole c = λ term. the_step_is_that_of_the_redex-is_whole term

pub returns-clause-through_parts : goal.returns-clause-through_parts
returns-clause-through_parts c = λ term. the_step_is_that_of_the_redex-through_parts term

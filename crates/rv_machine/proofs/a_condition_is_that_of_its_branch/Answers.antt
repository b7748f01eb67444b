use Rattle.rv_machine.proofs.Conditions.{a_condition_is_that_of_its_branch}
use Rattle.rv_machine.proofs.a_condition_is_that_of_its_branch.Goals as goal

pub returns : goal.returns
returns c cond a b offset s = a_condition_is_that_of_its_branch cond a b offset s

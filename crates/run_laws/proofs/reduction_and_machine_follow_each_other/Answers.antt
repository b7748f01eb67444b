use Rattle.run_laws.proofs.Reducing.{reduction_and_machine_follow_each_other-before_end}
use Rattle.run_laws.proofs.Reducing.{reduction_and_machine_follow_each_other-after_end}
use Rattle.run_laws.proofs.Reducing.{reduction_and_machine_follow_each_other-machine}
use Rattle.run_laws.proofs.Reducing.{reduction_and_machine_follow_each_other-reduction}
use Rattle.run_laws.proofs.reduction_and_machine_follow_each_other.Goals as goal

pub returns-clause-before_end : goal.returns-clause-before_end
returns-clause-before_end g c = λ m s n e. reduction_and_machine_follow_each_other-before_end m n s e

pub returns-clause-after_end : goal.returns-clause-after_end
returns-clause-after_end g c = λ m s n e h. reduction_and_machine_follow_each_other-after_end m n s e h

pub returns-clause-reduction : goal.returns-clause-reduction
returns-clause-reduction g c = λ m s nw. reduction_and_machine_follow_each_other-reduction m s nw

pub returns-clause-machine : goal.returns-clause-machine
returns-clause-machine g c = λ m s nw. reduction_and_machine_follow_each_other-machine m s nw

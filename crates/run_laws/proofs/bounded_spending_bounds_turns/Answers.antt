use Rattle.run_laws.proofs.Turns.{bounded_spending_bounds_turns-ends, bounded_spending_bounds_turns-comes}
use Rattle.run_laws.proofs.bounded_spending_bounds_turns.Goals as goal

pub returns-clause-ends : goal.returns-clause-ends
returns-clause-ends g c = λ m t n y f. bounded_spending_bounds_turns-ends m t n f

pub returns-clause-comes : goal.returns-clause-comes
returns-clause-comes g c = λ m t n y adds f. bounded_spending_bounds_turns-comes m t n adds f

use Rattle.run_laws.proofs.Turns.{an_account_bounds_turns}
use Rattle.run_laws.proofs.an_account_bounds_turns.Goals as goal

pub returns : goal.returns
returns g c = λ m t budget y adds f. an_account_bounds_turns m t budget adds f

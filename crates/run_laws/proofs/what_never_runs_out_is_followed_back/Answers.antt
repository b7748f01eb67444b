use Rattle.run_laws.proofs.Following.{what_never_runs_out_is_followed_back}
use Rattle.run_laws.proofs.what_never_runs_out_is_followed_back.Goals as goal

pub returns : goal.returns
returns g c = λ x y never f. what_never_runs_out_is_followed_back never f

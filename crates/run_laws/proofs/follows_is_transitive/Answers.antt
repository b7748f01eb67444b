use Rattle.run_laws.proofs.Following.{follows_is_transitive}
use Rattle.run_laws.proofs.follows_is_transitive.Goals as goal

pub returns : goal.returns
returns g c = λ x y z f h. follows_is_transitive f h

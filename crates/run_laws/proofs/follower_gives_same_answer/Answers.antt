use Rattle.run_laws.proofs.Following.{follower_gives_same_answer}
use Rattle.run_laws.proofs.follower_gives_same_answer.Goals as goal

pub returns : goal.returns
returns g c = λ x y f stays. follower_gives_same_answer f stays

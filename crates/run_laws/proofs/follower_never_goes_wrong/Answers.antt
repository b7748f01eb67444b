use Rattle.run_laws.proofs.Following.{follower_never_goes_wrong}
use Rattle.run_laws.proofs.follower_never_goes_wrong.Goals as goal

pub returns : goal.returns
returns g c = λ x y f. follower_never_goes_wrong f

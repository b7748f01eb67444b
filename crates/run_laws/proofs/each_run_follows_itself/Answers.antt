use Rattle.run_laws.proofs.Following.{each_run_follows_itself}
use Rattle.run_laws.proofs.each_run_follows_itself.Goals as goal

pub returns : goal.returns
returns g c = λ x nw. each_run_follows_itself x nw

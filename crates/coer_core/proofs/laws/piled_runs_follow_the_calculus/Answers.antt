use Rattle.coer_core.proofs.PiledRuns.{piled_runs_follow_the_calculus-wraps}
use Rattle.coer_core.proofs.PiledRuns.{piled_runs_follow_the_calculus-follows}
use Rattle.coer_core.proofs.PiledRuns.{piled_runs_follow_the_calculus-never_wrong}
use Rattle.coer_core.proofs.laws.piled_runs_follow_the_calculus.Goals as goal

pub returns : goal.returns
returns c = record {
  wraps = piled_runs_follow_the_calculus-wraps;
  follows = piled_runs_follow_the_calculus-follows;
  never_wrong = piled_runs_follow_the_calculus-never_wrong;
}

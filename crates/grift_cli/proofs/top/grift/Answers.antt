use Rattle.std.proofs.Common.{rules}
use Rattle.grift_cli.proofs.top.grift.Goals as goal

-- (seven edits turn this function: with the answer here the refusal of each takes one run of the prover, and not two)

pub returns : goal.returns
returns g c = search rules

use Rattle.coer_core.proofs.TreeRuns.{merged_runs_keep_the_account}
use Rattle.coer_core.proofs.laws.merged_runs_keep_the_account.Goals as goal

pub returns : goal.returns
returns c = λ casts program term input type e h table.
    merged_runs_keep_the_account casts program term input type e h table

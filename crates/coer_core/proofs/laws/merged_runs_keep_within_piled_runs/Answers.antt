use Rattle.coer_core.proofs.TreeRuns.{merged_keeps_within_piled}
use Rattle.coer_core.proofs.laws.merged_runs_keep_within_piled_runs.Goals as goal

pub returns : goal.returns
returns c = λ casts measures told term input table nw.
    merged_keeps_within_piled told.types table casts told measures term input nw

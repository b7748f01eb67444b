use Rattle.lower.proofs.merging.MergedSet.{merged_serves_anywhere}
use Rattle.lower.proofs.merged.MergedScheme.procs.Goals as goal

pub returns-clause-serves : goal.returns-clause-serves
returns-clause-serves c = merged_serves_anywhere c.args.first

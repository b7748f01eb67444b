use Rattle.lower.proofs.merging.MeaningLaws.{merged_laws}
use Rattle.lower.proofs.merging.Serving.{merged_procedures_serve}
use Rattle.lower.proofs.merged.MergedScheme.serves.Goals as goal

pub returns-clause-lawful : goal.returns-clause-lawful
returns-clause-lawful c = merged_laws

pub returns-clause-everywhere : goal.returns-clause-everywhere
returns-clause-everywhere c = merged_procedures_serve

use Rattle.closure_convert.proofs.TallyKept.{piled_procedures_keep_account, merged_procedures_keep_account}
use Rattle.closure_convert.proofs.laws.procedures_keep_the_account.Goals as goal

pub returns-clause-piled : goal.returns-clause-piled
returns-clause-piled c =
    λ casts program term input type reads typed. piled_procedures_keep_account casts program term input type reads typed

pub returns-clause-merged : goal.returns-clause-merged
returns-clause-merged c =
    λ casts program term input type reads typed table.
    merged_procedures_keep_account casts program term input type reads typed table

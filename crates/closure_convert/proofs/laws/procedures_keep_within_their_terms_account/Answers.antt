use Rattle.closure_convert.proofs.TallyKept.{piled_procedures_keep, merged_procedures_keep}
use Rattle.closure_convert.proofs.laws.procedures_keep_within_their_terms_account.Goals as goal

pub returns-clause-piled : goal.returns-clause-piled
returns-clause-piled c =
    λ casts m told term input closed never. piled_procedures_keep casts m told term input closed never

pub returns-clause-merged : goal.returns-clause-merged
returns-clause-merged c =
    λ casts m told term input closed never. merged_procedures_keep casts m told term input closed never

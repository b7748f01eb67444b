use Rattle.cast_modes.specs.Modes.{piling}
use Rattle.coercion_norm.specs.MergedMode.{merging}
use Rattle.closure_convert.proofs.Standing.{converted_follows}
use Rattle.closure_convert.proofs.laws.procedures_follow_their_term.Goals as goal

pub returns-clause-piled : goal.returns-clause-piled
returns-clause-piled c =
    λ casts told term input closed never. converted_follows (piling told.types casts) told term input closed never

pub returns-clause-merged : goal.returns-clause-merged
returns-clause-merged c =
    λ casts told term input closed never. converted_follows (merging told.types casts) told term input closed never

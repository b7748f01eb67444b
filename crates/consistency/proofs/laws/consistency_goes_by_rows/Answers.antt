use Rattle.std.proofs.Common.{◌++◌, refl}
use Rattle.consistency.proofs.ConsistentLemmas.{consistent_by_rows, consistent_kept}
use Rattle.consistency.proofs.laws.consistency_goes_by_rows.Goals as goal

pub returns-clause-rows : goal.returns-clause-rows
returns-clause-rows c = λ types a b finite within. consistent_by_rows types finite a b within

pub returns-clause-kept : goal.returns-clause-kept
returns-clause-kept c = λ types more a b finite one two.
    consistent_kept types (types ++ more) finite (more, refl) a b one two

use Rattle.std.proofs.Common.{suc, length}
use Rattle.lower.specs.MergedProcs.{merged_numbers, merged_procs}
use Rattle.lower.proofs.merging.MergedSet.{merged_serves_anywhere}
use Rattle.lower.proofs.Sets.{programs_with_sets_are_closed}
use Rattle.lower.proofs.laws.merged_programs_are_closed.Goals as goal

pub returns : goal.returns
returns c = λ words ways flat entry answer h.
    let first = suc (length flat) in
    programs_with_sets_are_closed (merged_procs first) (merged_numbers first) words ways flat entry answer
    (merged_serves_anywhere first) h

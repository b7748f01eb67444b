use Rattle.std.proofs.Common.{◌≡◌, length}
use Rattle.core_calc.specs.Substitution.{entry_of}
use Rattle.core_terms.specs.Entries.{entries_of}
use Rattle.core_terms.proofs.substitution.entry_of.Given as goal

abbrev pub invariant-loop-left : goal.invariant-loop-left
invariant-loop-left l = entry_of l.name.0 (entries_of l.left) ≡ entry_of l.name.0 (entries_of l.entries)

abbrev pub decreases-loop-left : goal.decreases-loop-left
decreases-loop-left l = length l.left

use Rattle.std.proofs.Common.{◌≡◌, ◌++◌, length}
use Rattle.core_calc.specs.Substitution.{without}
use Rattle.core_calc.specs.Views.{names_of}
use Rattle.core_terms.specs.Entries.{entries_of}
use Rattle.core_terms.proofs.substitution.others.Given as goal

abbrev pub invariant-loop-left : goal.invariant-loop-left
invariant-loop-left l =
    entries_of l.done.items ++ without (names_of l.names) (entries_of l.left)
    ≡ without (names_of l.names) (entries_of l.entries)

abbrev pub decreases-loop-left : goal.decreases-loop-left
decreases-loop-left l = length l.left

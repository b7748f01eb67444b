use Rattle.std.proofs.Common.{◌≡◌, length}
use Rattle.core_calc.specs.Substitution.{without}
use Rattle.core_calc.specs.Views.{names_of}
use Rattle.core_terms.specs.Entries.{entries_of}
use Rattle.core_terms.proofs.substitution.clashes.Given as goal

-- where nothing is left out of what is left, nothing is left out of the whole
abbrev pub invariant-loop-left : goal.invariant-loop-left
invariant-loop-left l =
    without (names_of l.names) (entries_of l.left) ≡ entries_of l.left →
    without (names_of l.names) (entries_of l.entries) ≡ entries_of l.entries

abbrev pub decreases-loop-left : goal.decreases-loop-left
decreases-loop-left l = length l.left

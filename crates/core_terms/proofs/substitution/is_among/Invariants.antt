use Rattle.std.proofs.Common.{◌≡◌, length}
use Rattle.core_calc.specs.Substitution.{is_among}
use Rattle.core_calc.specs.Views.{names_of}
use Rattle.core_terms.proofs.substitution.is_among.Given as goal

abbrev pub invariant-loop-left : goal.invariant-loop-left
invariant-loop-left l = is_among l.name.0 (names_of l.left) ≡ is_among l.name.0 (names_of l.names)

abbrev pub decreases-loop-left : goal.decreases-loop-left
decreases-loop-left l = length l.left

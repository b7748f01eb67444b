use Rattle.std.proofs.Common.{◌≡◌, is_some}
use Rattle.core_calc.specs.Terms.{all_values}
use Rattle.core_calc.specs.Views.{terms_of}
use Rattle.core_redexes.proofs.forms.are_values.Given as goal

abbrev pub invariant-loop-left : goal.invariant-loop-left
invariant-loop-left l = is_some (all_values (terms_of l.left)) ≡ is_some (all_values (terms_of l.terms))

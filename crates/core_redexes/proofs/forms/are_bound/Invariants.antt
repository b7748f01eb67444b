use Rattle.std.proofs.Common.{◌≡◌, is_some}
use Rattle.core_calc.specs.Terms.{bound_values}
use Rattle.core_calc.specs.Views.{bindings_of}
use Rattle.core_redexes.proofs.forms.are_bound.Given as goal

abbrev pub invariant-loop-left : goal.invariant-loop-left
invariant-loop-left l =
    is_some (bound_values (bindings_of l.left)) ≡ is_some (bound_values (bindings_of l.bindings))

use Rattle.std.proofs.Common.{◌≡◌, ◌++◌}
use Rattle.core_calc.specs.Terms.{binding_names}
use Rattle.core_calc.specs.Views.{names_of, bindings_of}
use Rattle.core_terms.proofs.substitution.names_of_bindings.Given as goal

abbrev pub invariant-loop-left : goal.invariant-loop-left
invariant-loop-left l = names_of l.names ++ binding_names (bindings_of l.left) ≡ binding_names (bindings_of l.bindings)

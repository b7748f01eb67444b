use Rattle.std.proofs.Common.{◌≡◌, ◌++◌, reverse}
use Rattle.core_calc.specs.Terms.{binding_list}
use Rattle.core_calc.specs.Views.{bindings_of}
use Rattle.core_calc.proofs.terms.CoreBindings.reversed.Given as goal

abbrev pub invariant-loop-self : goal.invariant-loop-self
invariant-loop-self l =
    reverse (binding_list (bindings_of l.self)) ++ binding_list (bindings_of l.turned) ≡
    reverse (binding_list (bindings_of l.fn.self))

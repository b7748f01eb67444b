use Rattle.std.proofs.Common.{◌≡◌}
use Rattle.core_calc.specs.declared.terms.CoreBindings.{size-CoreBindings}
use Rattle.core_calc.specs.Views.{bindings_of}
use Rattle.core_terms.specs.Lists.{bindings_onto}
use Rattle.core_terms.proofs.lists.bindings_onto.Given as goal

abbrev pub invariant-loop-done : goal.invariant-loop-done
invariant-loop-done l =
    bindings_onto (bindings_of l.done) (bindings_of l.made) ≡ bindings_onto (bindings_of l.fn.done)
    (bindings_of l.fn.rest)

abbrev pub decreases-loop-done : goal.decreases-loop-done
decreases-loop-done l = size-CoreBindings l.done

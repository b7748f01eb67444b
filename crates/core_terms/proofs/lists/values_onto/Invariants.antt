use Rattle.std.proofs.Common.{◌≡◌}
use Rattle.core_calc.specs.declared.terms.Values.{size-Values}
use Rattle.core_calc.specs.Views.{values_of}
use Rattle.core_terms.specs.Lists.{values_onto}
use Rattle.core_terms.proofs.lists.values_onto.Given as goal

abbrev pub invariant-loop-done : goal.invariant-loop-done
invariant-loop-done l =
    values_onto (values_of l.done) (values_of l.made) ≡ values_onto (values_of l.fn.done) (values_of l.fn.rest)

abbrev pub decreases-loop-done : goal.decreases-loop-done
decreases-loop-done l = size-Values l.done

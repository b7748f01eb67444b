use Rattle.std.proofs.Common.{◌≡◌}
use Rattle.core_calc.specs.Views.{terms_of, values_of}
use Rattle.core_terms.specs.Lists.{values_onto}
use Rattle.core_redexes.specs.Taken.{taken_values}
use Rattle.calc_stepper.proofs.steps.taken_values.Given as goal

abbrev pub invariant-loop-left : goal.invariant-loop-left
invariant-loop-left l =
    values_onto (values_of l.done) (taken_values (terms_of l.left)) ≡ taken_values (terms_of l.terms)

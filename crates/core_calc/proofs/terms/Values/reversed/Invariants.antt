use Rattle.std.proofs.Common.{◌≡◌, ◌++◌, reverse}
use Rattle.core_calc.specs.Terms.{value_list}
use Rattle.core_calc.specs.Views.{values_of}
use Rattle.core_calc.proofs.terms.Values.reversed.Given as goal

abbrev pub invariant-loop-self : goal.invariant-loop-self
invariant-loop-self l =
    reverse (value_list (values_of l.self)) ++ value_list (values_of l.turned) ≡
    reverse (value_list (values_of l.fn.self))

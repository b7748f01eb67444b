use Rattle.std.proofs.Common.{◌≡◌, slice_get}
use Rattle.core_calc.specs.Terms.{value_list}
use Rattle.core_calc.specs.Views.{values_of}
use Rattle.core_calc.proofs.terms.Values.get.Given as goal

abbrev pub invariant-loop-left : goal.invariant-loop-left
invariant-loop-left l =
    slice_get (value_list (values_of l.left)) l.place ≡ slice_get (value_list (values_of l.fn.self)) l.fn.i

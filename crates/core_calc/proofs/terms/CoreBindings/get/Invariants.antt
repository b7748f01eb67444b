use Rattle.std.proofs.Common.{◌≡◌, slice_get}
use Rattle.core_calc.specs.Terms.{binding_list}
use Rattle.core_calc.specs.Views.{bindings_of}
use Rattle.core_calc.proofs.terms.CoreBindings.get.Given as goal

abbrev pub invariant-loop-left : goal.invariant-loop-left
invariant-loop-left l =
    slice_get (binding_list (bindings_of l.left)) l.place ≡ slice_get (binding_list (bindings_of l.fn.self)) l.fn.i

use Rattle.std.proofs.Common.{◌≡◌, slice_get}
use Rattle.core_calc.specs.Terms.{term_list}
use Rattle.core_calc.specs.Views.{terms_of}
use Rattle.core_calc.proofs.terms.CoreList.get.Given as goal

abbrev pub invariant-loop-left : goal.invariant-loop-left
invariant-loop-left l =
    slice_get (term_list (terms_of l.left)) l.place ≡ slice_get (term_list (terms_of l.fn.self)) l.fn.i

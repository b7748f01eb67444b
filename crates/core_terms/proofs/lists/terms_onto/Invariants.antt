use Rattle.std.proofs.Common.{◌≡◌}
use Rattle.core_calc.specs.declared.terms.CoreList.{size-CoreList}
use Rattle.core_calc.specs.Views.{terms_of}
use Rattle.core_terms.specs.Lists.{terms_onto}
use Rattle.core_terms.proofs.lists.terms_onto.Given as goal

abbrev pub invariant-loop-done : goal.invariant-loop-done
invariant-loop-done l =
    terms_onto (terms_of l.done) (terms_of l.made) ≡ terms_onto (terms_of l.fn.done) (terms_of l.fn.rest)

abbrev pub decreases-loop-done : goal.decreases-loop-done
decreases-loop-done l = size-CoreList l.done

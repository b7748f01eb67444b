use Rattle.std.proofs.Common.{◌≡◌}
use Rattle.core_calc.specs.Views.{terms_of}
use Rattle.core_redexes.specs.Taken.{as_many}
use Rattle.core_redexes.proofs.calls.as_many.Given as goal

abbrev pub invariant-loop-left : goal.invariant-loop-left
invariant-loop-left g l = as_many l.items (terms_of l.left) ≡ as_many l.fn.items (terms_of l.terms)

use Rattle.std.proofs.Common.{ap₂}
use Rattle.core_calc.specs.Terms.{ValueThen}
use Rattle.core_calc.specs.Views.{value_of, values_of}
use Rattle.core_terms.proofs.lists.value_then.Goals as goal

pub returns : goal.returns
returns c =
    ap₂ (λ x y. ValueThen (value_of x) (values_of y))
    c.in_ok-first.ensures.first c.in_ok-first.ensures.second

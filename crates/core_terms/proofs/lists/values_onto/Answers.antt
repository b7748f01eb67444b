use Rattle.std.proofs.Common.{◌∙◌, ap, sym}
use Rattle.core_calc.specs.Views.{values_of}
use Rattle.core_terms.specs.Lists.{values_onto}
use Rattle.core_terms.proofs.lists.values_onto.Goals as goal

pub returns : goal.returns
returns c =
    ap (λ x. values_onto (values_of x) (values_of c.loop-done.made)) (sym c.in_default.is) ∙ c.loop-done.invariant

use Rattle.std.proofs.Common.{◌∙◌, ap, sym}
use Rattle.core_calc.specs.Views.{terms_of}
use Rattle.core_terms.specs.Lists.{terms_onto}
use Rattle.core_terms.proofs.lists.terms_onto.Goals as goal

pub returns : goal.returns
returns c =
    ap (λ x. terms_onto (terms_of x) (terms_of c.loop-done.made)) (sym c.in_default.is) ∙ c.loop-done.invariant

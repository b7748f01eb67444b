use Rattle.std.proofs.Common.{◌∙◌, ap, sym}
use Rattle.core_calc.specs.Views.{bindings_of}
use Rattle.core_terms.specs.Lists.{bindings_onto}
use Rattle.core_terms.proofs.lists.bindings_onto.Goals as goal

pub returns : goal.returns
returns c =
    ap (λ x. bindings_onto (bindings_of x) (bindings_of c.loop-done.made)) (sym c.in_default.is) ∙ c.loop-done.invariant

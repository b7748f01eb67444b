use Rattle.std.proofs.Common.{◌∙◌, ap, sym}
use Rattle.core_calc.specs.Views.{members_of}
use Rattle.core_terms.specs.Lists.{members_onto}
use Rattle.core_terms.proofs.lists.members_onto.Goals as goal

pub returns : goal.returns
returns c =
    ap (λ x. members_onto (members_of x) (members_of c.loop-done.made)) (sym c.in_default.is) ∙ c.loop-done.invariant

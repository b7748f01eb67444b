use Rattle.std.proofs.Common.{ap₂}
use Rattle.core_calc.specs.Terms.{TermThen}
use Rattle.core_calc.specs.Views.{term_of, terms_of}
use Rattle.core_terms.proofs.lists.term_then.Goals as goal

pub returns : goal.returns
returns c =
    ap₂ (λ x y. TermThen (term_of x) (terms_of y))
    c.in_ok-first.ensures.first c.in_ok-first.ensures.second

use Rattle.std.proofs.Common.{ap}
use Rattle.core_calc.specs.Terms.{Cast}
use Rattle.core_terms.proofs.Public.{term_boxed}
use Rattle.core_redexes.proofs.calls.copy_in_cast.Goals as goal

pub returns : goal.returns
returns c =
    term_boxed _ _ _ c.boxed.ensures
    (ap (λ x. Cast x c.args.from.0 c.args.to.0 c.args.label.0) c.in_ok-below.ensures)

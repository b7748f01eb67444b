use Rattle.std.proofs.Common.{◌∙◌, Some, ap, ap₂}
use Rattle.core_calc.specs.Terms.{Cast, NoTerms, TermThen}
use Rattle.core_calc.specs.Views.{term_of, value_of}
use Rattle.core_redexes.specs.Turns.{cast_where}
use Rattle.core_redexes.proofs.operators.cast_written.Goals as goal

pub returns : goal.returns
returns c =
    ap Some (c.in_ok-last.ensures
    ∙ ap (λ x. TermThen (Cast (term_of x) c.in-Some-content_of.outer.0 c.in-Some.inner.0 c.args.label.0) NoTerms)
    c.in_ok-written.ensures)
    ∙ ap₂ (λ o p. cast_where o p (value_of c.args.written) c.args.label.0) c.in-Some.ensures
    c.in-Some-content_of.ensures

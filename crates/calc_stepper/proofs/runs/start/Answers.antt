use Rattle.std.proofs.Common.{◌∙◌, ap}
use Rattle.std.specs.Prelude.{option_map}
use Rattle.core_calc.specs.Calculus.{Answered, shown_value}
use Rattle.core_calc.specs.Terms.{as_value}
use Rattle.core_calc.specs.Views.{term_of}
use Rattle.calc_stepper.proofs.runs.start.Goals as goal

pub returns : goal.returns
returns c = λ i. record {
  term = (ap term_of c.into_inner.ensures ∙ c.in_ok-term.ensures) i;
  store = c.new.ensures i;
  world = c.new-2.ensures i;
  ended = (c.answered-ended.ensures
      ∙ ap (λ term. option_map (λ v. Answered (shown_value v)) (as_value term))
      (ap term_of c.deref.ensures ∙ c.in_ok-term.ensures)) i;
}

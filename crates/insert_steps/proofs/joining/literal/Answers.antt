use Rattle.std.proofs.Common.{None, ap, sym}
use Rattle.core_calc.specs.Views.{term_of}
use Rattle.core_calc.specs.declared.terms.Core.{Core}
use Rattle.cast_rules.specs.Making.{Makes}
use Rattle.insert_steps.specs.Views.{work_of}
use Rattle.insert_steps.proofs.Made.{made_then}
use Rattle.insert_steps.proofs.joining.literal.Goals as goal

pub returns-clause-answer : goal.returns-clause-answer
returns-clause-answer c =
    made_then _ _ _ _ _ c.in_ok-ty.ensures.made
    (ap (λ (core : Core). Makes (record { term = term_of core; type = c.in_ok-ty.ty.0; entry = None })
    (work_of c.form.new.self)) (sym c.in_ok-core.ensures))

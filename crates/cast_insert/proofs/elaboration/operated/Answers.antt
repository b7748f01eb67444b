use Rattle.std.proofs.Common.{ap, sym}
use Rattle.cast_rules.specs.Making.{Makes, Typed}
use Rattle.insert_steps.specs.Views.{work_of}
use Rattle.insert_steps.proofs.Public.{made_then}
use Rattle.cast_insert.proofs.elaboration.operated.Goals as goal

pub returns-clause-answer : goal.returns-clause-answer
returns-clause-answer c =
    made_then _ _ _ _ _ c.in_ok-ty.ensures.made
    (ap (λ (e : Typed). Makes e (work_of c.answer_type.new.progress)) (sym c.in_ok-plain.ensures))

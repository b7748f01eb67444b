use Rattle.insert_steps.specs.Views.{typed_of}
use Rattle.cast_rules.proofs.Public.{grows_last}
use Rattle.insert_steps.proofs.Made.{made_first}
use Rattle.insert_steps.proofs.progress.Progress.cast_to_row.Goals as goal

pub returns-clause-answer : goal.returns-clause-answer
returns-clause-answer c =
    made_first typed_of _ _ _ _ _ _ c.in_ok-ty.ensures.made c.cast_to.ensures.answer

pub returns-clause-grows : goal.returns-clause-grows
returns-clause-grows c = grows_last c.cast_to.result _ _ _ c.in_ok-ty.ensures.grows c.cast_to.ensures.grows

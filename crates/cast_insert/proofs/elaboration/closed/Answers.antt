use Rattle.std.proofs.Common.{ap, sym, ◌∙◌}
use Rattle.cast_rules.specs.Making.{Typed, cast_if}
use Rattle.insert_steps.specs.Views.{place_if, work_of}
use Rattle.cast_rules.proofs.Public.{grows_on, parts_later}
use Rattle.insert_steps.proofs.Public.{made_then}
use Rattle.cast_insert.proofs.elaboration.closed.Goals as goal

pub function-requires-clause-types : goal.function-requires-clause-types
function-requires-clause-types c = parts_later _ _ _ c.in_ok-e.ensures.grows c.requires.types

pub returns-clause-answer : goal.returns-clause-answer
returns-clause-answer c =
    made_then _ _ _ _ _
    (ap (λ (e : Typed). cast_if c.args.pos (place_if c.args.wanted) e (work_of c.args.progress.now))
    (sym c.in_ok-inner.ensures) ∙ c.in_ok-e.ensures.answer) c.in_ok-function.ensures.made

pub returns-clause-grows : goal.returns-clause-grows
returns-clause-grows c = grows_on _ _ _ c.in_ok-e.ensures.grows c.in_ok-function.ensures.grows

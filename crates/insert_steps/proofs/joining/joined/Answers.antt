use Rattle.std.proofs.Common.{rules, ap, sym}
use Rattle.grift_base.specs.declared.places.TypeId.{TypeId}
use Rattle.cast_rules.specs.Making.{Makes, Typed}
use Rattle.insert_steps.specs.Views.{typed_of, work_of}
use Rattle.cast_rules.proofs.Public.{grows_on}
use Rattle.insert_steps.proofs.Made.{failed_first, made_first, made_then}
use Rattle.insert_steps.proofs.joining.joined.Goals as goal

pub returns-in_err-ty-clause-answer : goal.returns-in_err-ty-clause-answer
returns-in_err-ty-clause-answer c =
    failed_first c.in_err-ty.field-0.0 (λ (ty : TypeId). ty.0) typed_of _ _ _ _ (search rules)
    c.in_err-ty.ensures.answer

pub returns-in_err-one-clause-answer : goal.returns-in_err-one-clause-answer
returns-in_err-one-clause-answer c =
    made_first typed_of _ _ _ _ _ _ c.in_ok-ty.ensures.answer
    (failed_first c.in_err-one.field-0.0 typed_of typed_of _ _ _ _ (search rules) c.in_err-one.ensures.answer)

pub returns-in_err-other-clause-answer : goal.returns-in_err-other-clause-answer
returns-in_err-other-clause-answer c =
    made_first typed_of _ _ _ _ _ _ c.in_ok-ty.ensures.answer
    (made_first typed_of _ _ _ _ _ _ c.in_ok-one.ensures.answer
    (failed_first c.in_err-other.field-0.0 typed_of typed_of _ _ _ _ (search rules) c.in_err-other.ensures.answer))

pub returns-clause-answer : goal.returns-clause-answer
returns-clause-answer c =
    made_then _ _ _ _ _ c.in_ok-ty.ensures.answer (made_then _ _ _ _ _ c.in_ok-one.ensures.answer
    (made_then _ _ _ _ _ c.in_ok-other.ensures.answer
    (ap (λ (e : Typed). Makes e (work_of c.cast_to-2.new.self)) (sym c.in_ok-plain.ensures))))

pub returns-clause-grows : goal.returns-clause-grows
returns-clause-grows c =
    grows_on _ _ _ c.in_ok-ty.ensures.grows (grows_on _ _ _ c.in_ok-one.ensures.grows c.in_ok-other.ensures.grows)

use Rattle.std.proofs.Common.{Err, List, ap, rules, subst, sym, ◌∙◌, ℕ}
use Rattle.core_calc.specs.Views.{term_of}
use Rattle.cast_insert.specs.Bodies.{body_of}
use Rattle.cast_rules.specs.Elaboration.{MemberBody}
use Rattle.cast_rules.specs.Making.{Makes, Typed, cast_to}
use Rattle.insert_steps.specs.Views.{Answers, typed_of, work_of}
use Rattle.insert_steps.proofs.Public.{failed_first, made_then}
use Rattle.cast_insert.proofs.elaboration.member_body.Goals as goal

pub returns-clause-answer : goal.returns-clause-answer
returns-clause-answer c =
    let bound : List ℕ → MemberBody = λ names. record { variables = names; body = term_of c.in_ok-e.e.core.value } in
    made_then _ _ _ _ _
    (ap (λ (e : Typed). cast_to c.args.pos c.args.answer.0 e (work_of c.args.progress.now)) (sym c.in_ok-inner.ensures)
    ∙ c.in_ok-e.ensures.answer)
    (ap (λ names. Makes (bound names) (work_of c.cast_to.new.self)) (sym c.in_ok-variables.ensures))

pub returns-in_err-e-clause-answer : goal.returns-in_err-e-clause-answer
returns-in_err-e-clause-answer c =
    failed_first c.in_err-e.field-0.0 typed_of body_of _ _ _ _ (search rules)
    (subst (λ (e : Typed). Answers (Err c.in_err-e.field-0.0) typed_of (work_of c.cast_to.new.self)
    (cast_to c.args.pos c.args.answer.0 e (work_of c.args.progress.now))) c.in_ok-inner.ensures
    c.in_err-e.ensures.answer)

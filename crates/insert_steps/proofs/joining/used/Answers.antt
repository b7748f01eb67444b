use Rattle.std.proofs.Common.{ap, sym, ◌∙◌}
use Rattle.std.proofs.lemmas.Bool.{eq-eqb, ne_eqb}
use Rattle.cast_rules.specs.Making.{Makes, Typed, cast_at}
use Rattle.insert_steps.specs.Views.{work_of}
use Rattle.insert_steps.proofs.joining.used.Goals as goal

pub returns-in-None-clause-answer : goal.returns-in-None-clause-answer
returns-in-None-clause-answer c =
    rw (c.in-Some.is, c.in-None.is)
    (ap (λ (e : Typed). Makes e (work_of c.args.progress.now)) (sym c.in_ok-e.ensures))

pub returns-then-meaning-ty-clause-answer : goal.returns-then-meaning-ty-clause-answer
returns-then-meaning-ty-clause-answer c =
    rw (c.in-Some.is, c.in-Some-written.is, eq-eqb c.in-Some.meaning.ty.0 c.in-Some-written.ty.0 c.if-meaning-ty.true)
    (ap (λ (e : Typed). Makes e (work_of c.args.progress.now)) (sym c.in_ok-e.ensures))

pub returns-in_ok-cast_at-in-Some-written-clause-answer : goal.returns-in_ok-cast_at-in-Some-written-clause-answer
returns-in_ok-cast_at-in-Some-written-clause-answer c =
    rw (c.in-Some.is, c.in-Some-written.is, ne_eqb c.in-Some.meaning.ty.0 c.in-Some-written.ty.0 c.if-meaning-ty.false)
    (ap (λ (e : Typed). cast_at c.in-Some.meaning.pos e c.in-Some-written.ty.0 (work_of c.args.progress.now))
    (sym c.in_ok-e.ensures) ∙ c.in_ok-cast_at-in-Some-written.ensures.made)

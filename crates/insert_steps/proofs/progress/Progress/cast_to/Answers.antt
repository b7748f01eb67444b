use Rattle.std.proofs.Common.{refl}
use Rattle.std.proofs.lemmas.Bool.{eq-eqb, ne_eqb}
use Rattle.insert_steps.proofs.Made.{made_then}
use Rattle.insert_steps.proofs.progress.Progress.cast_to.Goals as goal

pub returns-then-e-ty-clause-answer : goal.returns-then-e-ty-clause-answer
returns-then-e-ty-clause-answer c = rw (eq-eqb c.args.e.ty.0 c.args.ty.0 c.if-e-ty.true) refl

pub returns-clause-answer : goal.returns-clause-answer
returns-clause-answer c =
    rw (ne_eqb c.args.e.ty.0 c.args.ty.0 c.if-e-ty.false)
    (made_then _ _ _ _ _ c.in_ok-are_consistent.ensures c.in_ok-cast_at.ensures.made)

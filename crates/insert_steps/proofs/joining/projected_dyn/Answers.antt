use Rattle.std.proofs.Common.{ap, sym}
use Rattle.std.specs.Int.{w64}
use Rattle.std.proofs.lemmas.Int.{to_z-of_z}
use Rattle.cast_rules.specs.Making.{Makes, Typed}
use Rattle.insert_steps.specs.Views.{work_of}
use Rattle.cast_rules.proofs.Public.{grows_on}
use Rattle.insert_steps.proofs.Made.{made_then}
use Rattle.insert_steps.proofs.joining.projected_dyn.Goals as goal

pub returns-clause-answer : goal.returns-clause-answer
returns-clause-answer c =
    let back = to_z-of_z w64 c.args.part c.ranges.part in
    made_then _ _ _ _ _ c.in_ok-label.ensures.made (made_then _ _ _ _ _ (rw back at c.in_ok-list.ensures.made)
    (ap (λ (e : Typed). Makes e (work_of c.list.new.self)) (sym (rw back at c.in_ok-plain.ensures))))

pub returns-clause-grows : goal.returns-clause-grows
returns-clause-grows c = grows_on _ _ _ c.in_ok-label.ensures.grows c.in_ok-list.ensures.grows

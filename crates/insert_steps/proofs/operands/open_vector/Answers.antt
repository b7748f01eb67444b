use Rattle.std.proofs.Common.{refl}
use Rattle.cast_rules.proofs.Public.{content_of_vect, grows_on, part_later}
use Rattle.insert_steps.proofs.Made.{made_then}
use Rattle.insert_steps.proofs.operands.open_vector.Goals as goal

pub returns-in-Vect-clause-content : goal.returns-in-Vect-clause-content
returns-in-Vect-clause-content c =
    content_of_vect c.args.progress.now.types c.args.e.ty.0 c.in-Vect.content.0 c.row.ensures.table
    (rw c.in-Vect.is at c.in_ok-content.ensures.row) c.requires

pub returns-in-Vect-clause-answer : goal.returns-in-Vect-clause-answer
returns-in-Vect-clause-answer c = rw (c.in_ok-content.ensures.row, c.in-Vect.is) refl

pub returns-in_ok-held-in-Dyn-clause-answer : goal.returns-in_ok-held-in-Dyn-clause-answer
returns-in_ok-held-in-Dyn-clause-answer c =
    rw (c.in_ok-content.ensures.row, c.in-Dyn.is) (made_then _ _ _ _ _ c.in_ok-opened-in-Dyn.ensures.made
    (made_then _ _ _ _ _ c.in_ok-held-in-Dyn.ensures.made refl))

pub returns-in_ok-held-in-Dyn-clause-grows : goal.returns-in_ok-held-in-Dyn-clause-grows
returns-in_ok-held-in-Dyn-clause-grows c =
    grows_on _ _ _ c.in_ok-opened-in-Dyn.ensures.grows c.in_ok-held-in-Dyn.ensures.grows

pub returns-in_ok-held-in-Dyn-clause-content : goal.returns-in_ok-held-in-Dyn-clause-content
returns-in_ok-held-in-Dyn-clause-content c =
    part_later _ _ _ (grows_on _ _ _ c.in_ok-opened-in-Dyn.ensures.grows c.in_ok-held-in-Dyn.ensures.grows)
    c.requires

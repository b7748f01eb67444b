use Rattle.std.proofs.Common.{refl}
use Rattle.cast_rules.proofs.Public.{content_of_ref, grows_on, part_later}
use Rattle.insert_steps.proofs.Made.{made_then}
use Rattle.insert_steps.proofs.operands.open_box.Goals as goal

pub returns-in-Ref-clause-content : goal.returns-in-Ref-clause-content
returns-in-Ref-clause-content c =
    content_of_ref c.args.progress.now.types c.args.e.ty.0 c.in-Ref.content.0 c.row.ensures.table
    (rw c.in-Ref.is at c.in_ok-content.ensures.row) c.requires

pub returns-in-Ref-clause-answer : goal.returns-in-Ref-clause-answer
returns-in-Ref-clause-answer c = rw (c.in_ok-content.ensures.row, c.in-Ref.is) refl

pub returns-in_ok-held-in-Dyn-clause-answer : goal.returns-in_ok-held-in-Dyn-clause-answer
returns-in_ok-held-in-Dyn-clause-answer c =
    rw (c.in_ok-content.ensures.row, c.in-Dyn.is) (made_then _ _ _ _ _ c.in_ok-opened-in-Dyn.ensures.made
    (made_then _ _ _ _ _ c.in_ok-held-in-Dyn.ensures.made refl))

pub returns-in_ok-held-in-Dyn-clause-grows : goal.returns-in_ok-held-in-Dyn-clause-grows
returns-in_ok-held-in-Dyn-clause-grows c =
    grows_on _ _ _ c.in_ok-opened-in-Dyn.ensures.grows c.in_ok-held-in-Dyn.ensures.grows

pub returns-in_ok-held-in-Dyn-clause-content : goal.returns-in_ok-held-in-Dyn-clause-content
returns-in_ok-held-in-Dyn-clause-content c =
    part_later _ _ _ (grows_on _ _ _ c.in_ok-opened-in-Dyn.ensures.grows c.in_ok-held-in-Dyn.ensures.grows)
    c.requires

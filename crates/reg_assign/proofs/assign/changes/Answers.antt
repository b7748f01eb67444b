use Rattle.std.proofs.Common.{sym, subst}
use Rattle.rv_select.specs.declared.code.Place.TheVariants.{InReg}
use Rattle.rv_select.specs.Holding.{SparedBy, SparedByCall, NoneAt, writes}
use Rattle.placed_code.specs.Places.{place_in}
use Rattle.reg_assign.specs.Room.{Tells}
use Rattle.reg_assign.proofs.Masks.{tells_same, tells_never, call_takes, unless_call}
use Rattle.reg_assign.proofs.assign.changes.Goals as goal

pub returns-in-Call : goal.returns-in-Call
returns-in-Call c =
    subst (λ x. Tells (λ r. SparedBy (place_in c.args.places.now) x (InReg r)) 4294967295) (sym c.in-Call.is)
    (tells_never (λ r. SparedByCall (InReg r)) call_takes)

pub returns-in-CallAt : goal.returns-in-CallAt
returns-in-CallAt c =
    subst (λ x. Tells (λ r. SparedBy (place_in c.args.places.now) x (InReg r)) 4294967295) (sym c.in-CallAt.is)
    (tells_never (λ r. SparedByCall (InReg r)) call_takes)

pub returns-in_default : goal.returns-in_default
returns-in_default c =
    let place = place_in c.args.places.now in
    let item = c.args.item.now in
    tells_same (λ r. NoneAt place (InReg r) (writes item)) (λ r. SparedBy place item (InReg r)) c.written_bits.result
    (λ r h. subst (λ P. P) (sym (unless_call place (InReg r) item c.in_default.not-Call c.in_default.not-CallAt)) h)
    (λ r h. subst (λ P. P) (unless_call place (InReg r) item c.in_default.not-Call c.in_default.not-CallAt) h)
    c.written_bits.ensures

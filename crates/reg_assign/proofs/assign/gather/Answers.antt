use Rattle.std.proofs.Common.{inl, sym, ◌∙◌, subst, arith}
use Rattle.placed_code.specs.Places.{place_in}
use Rattle.reg_assign.specs.Walks.{Steps}
use Rattle.reg_assign.specs.Room.{IsLeft}
use Rattle.reg_assign.proofs.Assigned.{now_taken, now_free, now_spared}
use Rattle.reg_assign.proofs.assign.gather.Goals as goal

pub loop-place-init : goal.loop-place-init
loop-place-init c = (
  c.in_ok-begin.ensures.number,
  c.in_ok-begin.ensures.walk,
  c.in_ok-begin.ensures.closed,
  λ r h e. inl e,
  λ r h e. e,
  λ r h e j l. let n = c.in_ok-begin.ensures.none in absurd (omega (arith, l, n)),
)

pub loop-place-preserved : goal.loop-place-preserved
loop-place-preserved c =
    let w = c.loop-place.walk in
    let v = c.next.new.walk in
    let inv = c.loop-place.invariant in
    let step = subst (Steps w v) c.in-Some.is c.in_ok-place.ensures.step in
    let items = c.args.items.now in
    let place = place_in c.args.places.now in (
      step.0 ∙ inv.0,
      c.in_ok-place.ensures.walk,
      c.in_ok-place.ensures.closed,
      now_taken items place c.args.number c.args.taken c.loop-place.all c.changes_at-all.result w v c.in-Some.place
          inv.0 inv.1
          step c.changes_at-all.ensures inv.3 inv.4 inv.5,
      now_free items place c.args.number c.args.taken c.loop-place.all c.changes_at-all.result w v c.in-Some.place
          inv.0 inv.1
          step c.changes_at-all.ensures inv.3 inv.4 inv.5,
      now_spared items place c.args.number c.args.taken c.loop-place.all c.changes_at-all.result w v c.in-Some.place
          inv.0 inv.1
          step c.changes_at-all.ensures inv.3 inv.4 inv.5,
    )

pub returns-clause-left : goal.returns-clause-left
returns-clause-left c r h e =
    let w = c.loop-place.walk in
    let inv = c.loop-place.invariant in
    let step = subst (Steps w c.next.new.walk) c.in_default.is c.in_ok-place.ensures.step in
    subst (IsLeft c.args.items.now (place_in c.args.places.now) c.args.number c.args.taken r) (sym step.0) (record {
      free = inv.4 r h e;
      same = inv.0;
      walk = inv.1;
      closed = inv.2;
      all = step.1;
      spared = inv.5 r h e;
    })

pub returns-then-is_full-clause-taken : goal.returns-then-is_full-clause-taken
returns-then-is_full-clause-taken c =
    let w = c.loop-place.walk in
    let v = c.next.new.walk in
    let inv = c.loop-place.invariant in
    let step = subst (Steps w v) c.in-Some.is c.in_ok-place.ensures.step in
    now_taken c.args.items.now (place_in c.args.places.now) c.args.number c.args.taken c.loop-place.all
    c.changes_at-all.result w v c.in-Some.place inv.0 inv.1 step c.changes_at-all.ensures inv.3 inv.4 inv.5

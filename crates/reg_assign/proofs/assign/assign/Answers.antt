use Rattle.std.proofs.Common.{◌≡◌, ◌+◌, ◌∷◌, [], suc, length, sym, ◌∙◌, ap, subst, length-append, arith}
use Rattle.rv_select.specs.declared.code.Place.TheVariants.{Slot}
use Rattle.placed_code.specs.Places.{place_in}
use Rattle.placed_code.specs.Check.{with_place}
use Rattle.reg_assign.specs.Room.{IsRoom, IsChosen}
use Rattle.reg_assign.proofs.Assigned.{AreTurns, no_turns, turns_more, placed_more, best_of}
use Rattle.reg_assign.proofs.assign.assign.Goals as goal

pub loop-v-preserved : goal.loop-v-preserved
loop-v-preserved c =
    let items = c.args.code.now.items in
    let places = c.loop-v.places in
    let p = c.in_ok-place.place in
    let v = c.loop-v.v in
    let inv = c.loop-v.invariant in
    let more = c.in_ok-push.ensures.ok in
    let long = ap length more ∙ length-append places (p ∷ []) in
    let next : suc (33 + v) ≡ 33 + (v + 1) = omega arith in
    let same = placed_more places p in
    let whole = c.as_slice-items.ensures in
    let list = c.as_slice.ensures in
    let given : IsRoom items (with_place (place_in places) v p) (suc (33 + v)) c.place_for.new.room =
    subst (λ xs. IsRoom xs (with_place (place_in places) v p) (suc (33 + v)) c.place_for.new.room) whole
    (subst (λ ys. IsRoom c.as_slice-items.result.now (with_place (place_in ys) v p) (suc (33 + v))
    c.place_for.new.room)
    list c.in_ok-place.ensures.room) in
    let chosen : IsChosen items (place_in places) v p =
    subst (λ xs. IsChosen xs (place_in places) v p) whole
    (subst (λ ys. IsChosen c.as_slice-items.result.now (place_in ys) v p) list c.in_ok-place.ensures.chosen) in
    let room = subst (λ n. IsRoom items (with_place (place_in places) n p) (suc (33 + v)) c.place_for.new.room) (sym
    inv.0)
    given in (
      (let n = inv.0 in omega (arith, long, n)),
      subst (λ n. IsRoom items (place_in c.push.new.self) n c.place_for.new.room) next
          (subst (λ f. IsRoom items f (suc (33 + v)) c.place_for.new.room) (sym (ap place_in more ∙ same)) room),
      subst (AreTurns items) (sym more)
          (turns_more items places p inv.2
          (subst (λ n. IsChosen items (place_in places) n p) (sym inv.0) chosen)),
    )

pub loop-v-init : goal.loop-v-init
loop-v-init c =
    let none = c.new-places.ensures in (
      ap length none,
      subst (λ xs. IsRoom c.args.code.now.items (place_in xs) 33 c.in_ok-room.room) (sym none)
          (subst (λ ys. IsRoom ys (λ v. Slot v) 33 c.in_ok-room.room) c.as_slice-items.ensures c.in_ok-room.ensures),
      subst (AreTurns c.args.code.now.items) (sym none) (no_turns c.args.code.now.items),
    )

pub returns : goal.returns
returns c =
    let inv = c.loop-v.invariant in
    best_of c.args.code.now.items c.loop-v.places c.args.code.now.registers
    (let n = inv.0 in omega (arith, n, c.loop-v-test.false, c.loop-v.auto.v-end)) inv.2 inv.1.holds

pub place_for-requires-clause-room : goal.place_for-requires-clause-room
place_for-requires-clause-room c = rw (c.as_slice-items.ensures, c.as_slice.ensures) c.loop-v.invariant.1

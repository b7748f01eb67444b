use Rattle.std.proofs.Common.{ℕ, List, ◌<◌, ◌+◌, ◌≡◌, length, refl, sym, ◌∙◌, ap, subst}
use Rattle.std.proofs.lemmas.Option.{slice_get_within}
use Rattle.std.specs.Int.{bit_at}
use Rattle.std.specs.Prelude.{slice_index, Contains}
use Rattle.rv_select.specs.declared.code.Place.TheVariants.{InReg}
use Rattle.rv_select.specs.declared.code.VReg.TheVariants.{Virtual}
use Rattle.placed_code.specs.Places.{place_in}
use Rattle.placed_code.specs.Check.{HasHolding, with_place}
use Rattle.reg_assign.specs.Numbers.{register_at}
use Rattle.reg_assign.specs.Flow.{under}
use Rattle.reg_assign.specs.Room.{Tells}
use Rattle.reg_assign.proofs.Rooms.{room_with, room_same, known_by}
use Rattle.reg_assign.proofs.Assigned.{own_slot, no_room, has_room, register_v}
use Rattle.reg_assign.proofs.assign.place_for.Goals.{After-in_use-written, In-Some}
use Rattle.reg_assign.proofs.assign.place_for.Goals as goal

-- these bits tell which registers are in use where the register is written
abbrev TellInUse : (ℕ → List ℕ) → List ℕ → ℕ → ℕ → Type 0
TellInUse writes busy v bits =
    Tells (λ r. (j : ℕ) → j < length (writes (33 + v))
    → bit_at (slice_index busy (slice_index (writes (33 + v)) j)) r ≡ 0) bits

registers_in_use : (c : After-in_use-written)
    → TellInUse (under c.args.flow.now.writes) c.args.room.now.busy.items c.args.v c.in_use-written.result
registers_in_use c =
    let bits = c.in_use-written.result in
    subst (λ xs. Tells (λ r. (j : ℕ) → j < length xs
    → bit_at (slice_index c.args.room.now.busy.items (slice_index xs j)) r ≡ 0) bits) c.under.ensures
    (subst (λ ys. Tells (λ r. (j : ℕ) → j < length c.under.result.now
    → bit_at (slice_index ys (slice_index c.under.result.now j)) r ≡ 0) bits) c.as_slice.ensures.value
    c.in_use-written.ensures)

-- the register that is chosen can hold this one
chosen_holds : (c : In-Some)
    → TellInUse (under c.args.flow.now.writes) c.args.room.now.busy.items c.args.v c.in_use-written.result
    → HasHolding c.args.items.now (with_place (place_in c.args.places.now) c.args.v (InReg c.in-Some.r))
chosen_holds c told =
    let ok = c.in-Some.ensures.some.0 in
    has_room c.args.items.now (place_in c.args.places.now) c.args.v
    (own_slot c.args.places.now c.args.v c.requires.last) c.args.room.now c.requires.room
    (under c.args.flow.now.writes) c.requires.writes c.in_use-written.result told
    c.in-Some.r ok c.gather.new.walk (under c.args.flow.now.reads) c.requires.reads
    (c.in_ok-taken.ensures.left c.in-Some.r ok c.in-Some.ensures.some.1)

pub returns-in-Some-clause-chosen : goal.returns-in-Some-clause-chosen
returns-in-Some-clause-chosen c = (
  c.in-Some.ensures.some.0,
  chosen_holds (goal.at.returns-in-Some-clause-chosen c).In-Some
      (registers_in_use (goal.at.returns-in-Some-clause-chosen c).After-in_use-written),
)

pub returns-in-Some-clause-room : goal.returns-in-Some-clause-room
returns-in-Some-clause-room c =
    let items = c.args.items.now in
    let place = place_in c.args.places.now in
    let v = c.args.v in
    let r = c.in-Some.r in
    let walk = c.gather.new.walk in
    let left = c.in_ok-taken.ensures.left r c.in-Some.ensures.some.0 c.in-Some.ensures.some.1 in
    let mine =
    known_by items walk (Virtual v) (under c.args.flow.now.reads) c.requires.reads
    (ap register_at left.same ∙ register_v v) left.walk left.closed left.all in
    let found = c.as_slice-in-Some.ensures.value in
    room_with items place v r (own_slot c.args.places.now v c.requires.last) (33 + v) c.args.room.now
    (record { walk = walk; busy = c.note_busy.new.busy }) c.requires.room mine c.in_ok-taken.ensures.idle
    c.note_busy.ensures.size c.note_busy.ensures.other
    (λ p m. c.note_busy.ensures.found p (subst (λ xs. Contains xs p) (sym found) m))
    (λ p away. c.note_busy.ensures.still p (λ m. away (subst (λ xs. Contains xs p) found m)))
    (chosen_holds (goal.at.returns-in-Some-clause-room c).In-Some
    (registers_in_use (goal.at.returns-in-Some-clause-room c).After-in_use-written))

pub returns-in-None-clause-chosen : goal.returns-in-None-clause-chosen
returns-in-None-clause-chosen c =
    let items = c.args.items.now in
    let place = place_in c.args.places.now in
    let v = c.args.v in
    let own = own_slot c.args.places.now v c.requires.last in
    let lists = under c.args.flow.now.writes in
    let bits = c.in_use-written.result in
    let told = registers_in_use (goal.at.returns-in-None-clause-chosen c).After-in_use-written in (
      refl,
      λ r ok h.
          no_room items place v own c.args.room.now c.requires.room lists c.requires.writes bits told r ok
          (c.in_ok-taken.ensures.taken r ok (c.in-None.ensures.none refl r ok)) h,
    )

pub returns-in-None-clause-room : goal.returns-in-None-clause-room
returns-in-None-clause-room c =
    room_same c.args.items.now (place_in c.args.places.now) c.args.v (33 + c.args.v) c.args.room.now
    (record { walk = c.gather.new.walk; busy = c.args.room.now.busy })
    (own_slot c.args.places.now c.args.v c.requires.last) c.requires.room refl c.in_ok-taken.ensures.idle

pub note_busy-requires : goal.note_busy-requires
note_busy-requires c k d h =
    let left = c.in_ok-taken.ensures.left c.in-Some.r c.in-Some.ensures.some.0 c.in-Some.ensures.some.1 in
    let found = c.as_slice-in-Some.ensures.value in
    let b = left.walk.sound k d (rw found at h) in
    rw (found, c.requires.room.size) (slice_get_within c.args.items.now _ b.item b.there)

use Rattle.std.proofs.Common.{sym, ◌∙◌, ap}
use Rattle.placed_code.specs.Places.{place_in}
use Rattle.placed_code.proofs.Public.{kept_other, kept_slot}
use Rattle.reg_assign.proofs.apply.slots_kept.Goals as goal
use Rattle.reg_assign.proofs.apply.slots_kept.Goals.{in-Slot+in_ok-insert, in_default}

pub loop-i-preserved : goal.loop-i-preserved
loop-i-preserved c =
    elim c.match-place_at.branch [
      | in-Slot+in_ok-insert w ↦
          ap (λ s. s.keys) w.slots-is
          ∙ (w.in_ok-insert.ensures.keys
          ∙ kept_slot (place_in c.args.places.now) c.args.first c.loop-i.i w.in-Slot.slot c.loop-i.slots.keys
          c.loop-i.invariant
          (ap (place_in c.args.places.now) (sym c.in_ok-number.ensures) ∙ sym w.in-Slot.ensures))
      | in_default w ↦
          ap (λ s. s.keys) w.slots-is
          ∙ kept_other (place_in c.args.places.now) c.args.first c.loop-i.i w.in_default.field-0 c.loop-i.slots.keys
          c.loop-i.invariant
          (ap (place_in c.args.places.now) (sym c.in_ok-number.ensures) ∙ sym w.in_default.ensures)
    ]

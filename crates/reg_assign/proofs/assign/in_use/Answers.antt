use Rattle.std.proofs.Common.{ℕ, ◌<◌, ◌+◌, ◌≡◌, sym, subst}
use Rattle.std.specs.Int.{bit_at}
use Rattle.std.specs.Prelude.{slice_index, bit_or}
use Rattle.reg_assign.specs.Room.{Tells}
use Rattle.reg_assign.proofs.Masks.{tells_more}
use Rattle.reg_assign.proofs.assign.in_use.Goals as goal

pub loop-place-preserved : goal.loop-place-preserved
loop-place-preserved c =
    let f : ℕ → ℕ = λ j. slice_index c.args.busy.now (slice_index c.args.at.now j) in
    subst (λ x. Tells (λ r. (j : ℕ) → j < c.loop-place.place-index + 1 → bit_at (f j) r ≡ 0) (bit_or
    c.loop-place.taken x))
    (sym c.bits_at-taken.ensures) (tells_more f c.loop-place.place-index c.loop-place.taken c.loop-place.invariant)

use Rattle.std.proofs.Common.{◌≡◌}
use Rattle.placed_code.specs.Places.{place_in}
use Rattle.placed_code.specs.Rename.{kept_in}
use Rattle.reg_assign.proofs.apply.slots_kept.Given as goal

-- the slots of the registers so far
abbrev pub invariant-loop-i : goal.invariant-loop-i
invariant-loop-i l = l.slots.keys ≡ kept_in (place_in l.places) l.first l.i

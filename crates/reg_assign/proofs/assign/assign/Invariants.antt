use Rattle.std.proofs.Common.{◌≡◌, ◌+◌, length}
use Rattle.placed_code.specs.Places.{place_in}
use Rattle.reg_assign.specs.Room.{IsRoom}
use Rattle.reg_assign.proofs.Assigned.{AreTurns}
use Rattle.reg_assign.proofs.assign.assign.Given as goal

-- the registers so far have had their turns
abbrev pub invariant-loop-v : goal.invariant-loop-v
invariant-loop-v l =
    (length l.places ≡ l.v) × IsRoom l.code.items (place_in l.places) (33 + l.v) l.room × AreTurns l.code.items l.places

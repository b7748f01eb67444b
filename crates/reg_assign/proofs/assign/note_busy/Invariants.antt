use Rattle.reg_assign.proofs.Masks.{AreNoted}
use Rattle.reg_assign.proofs.assign.note_busy.Given as goal

-- the bit is set at the places so far, and nothing else has changed
abbrev pub invariant-loop-place : goal.invariant-loop-place
invariant-loop-place l = AreNoted l.fn.busy.items l.busy.items l.found l.r l.place-index

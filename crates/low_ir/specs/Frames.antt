-- The bytes and the room of frames: each has eight bytes for the link, and eight for each word of its procedure.
use Rattle.std.specs.Prelude.{ℕ, ◌+◌, ◌*◌, max, List, [], ◌∷◌}
use Rattle.low_ir.specs.Procedures.{Proc}
use Rattle.low_ir.specs.Run.{Waiting, LowState}

abbrev pub frame_bytes : Proc → ℕ
frame_bytes p = 8 * (1 + p.words)

-- the bytes of the largest frame of these procedures
abbrev pub largest_frame : List Proc → ℕ
largest_frame [] = 0
largest_frame (p ∷ ps) = max (frame_bytes p) (largest_frame ps)

-- ---- the room of frames, in words: each has a link, and counts as one of 24 words at least, so that those of the
-- procedures that serve, which have 24 at most, take the same

abbrev pub frame_room : ℕ → ℕ
frame_room count = 1 + max 24 count

-- of the procedures that wait
abbrev pub waiting_room : List Waiting → ℕ
waiting_room [] = 0
waiting_room (w ∷ ws) = frame_room w.rest.count + waiting_room ws

-- of these and the active one
abbrev pub stack_room : LowState → ℕ
stack_room t = frame_room t.active.count + waiting_room t.waiting

-- How many words the procedures of a lowered program have at most.
use Rattle.std.proofs.Common.{◌≡◌, ℕ, ◌+◌, ◌*◌, ◌≤◌, List, [], ◌∷◌, map, arith, refl, le_refl}
use Rattle.std.proofs.Math.Nat.{max-le, le-max_left, le-max_right}
use Rattle.std.specs.Prelude.{max}
use Rattle.std.proofs.lemmas.List.Elements.{All-nil, All-cons, All-append}
use Rattle.grift_base.specs.Types.{TypeRow}
use Rattle.flat_ir.specs.Bodies.{Proc as FlatProc}
use Rattle.flat_ir.specs.Levels.{HaveLevels}
use Rattle.low_ir.specs.Procedures.{Proc}
use Rattle.low_ir.specs.Frames.{frame_bytes, frame_room, largest_frame}
use Rattle.rt_cast.specs.Procs.{cast_procs}
use Rattle.rt_refs.specs.RefProcs.{ref_procs}
use Rattle.lowered_code.specs.declared.served.Served.{Served}
use Rattle.lowered_code.specs.Lowered.{entry_proc, low_proc, lowered}
use Rattle.lower.specs.MergedProcs.{merged_procs}
use Rattle.lower.proofs.Public.{AreSized}

-- where the largest frame has room for no more
within_largest : (most : ℕ) (procs : List Proc) → largest_frame procs ≤ 8 * (1 + most) → AreSized most procs
within_largest most [] le = All-nil (λ (p : Proc). p.words ≤ most)
within_largest most (p ∷ procs) le =
    let one = le-max_left (frame_bytes p) (largest_frame procs) in
    let rest = le-max_right (frame_bytes p) (largest_frame procs) in
    All-cons (λ (q : Proc). q.words ≤ most) p procs (omega (arith, one, le))
    (within_largest most procs (omega (arith, rest, le)))

-- those that serve have 24, and 13
serving_words : (most first : ℕ) → 24 ≤ most → AreSized most (merged_procs first)
serving_words most first le =
    let casts : largest_frame (cast_procs first) ≡ 200 = refl in
    let refs : largest_frame (ref_procs (27 + first) (2 + first)) ≡ 112 = refl in
    All-append (λ (p : Proc). p.words ≤ most) (cast_procs first) (ref_procs (27 + first) (2 + first))
    (within_largest most (cast_procs first) (omega (arith, casts, le)))
    (within_largest most (ref_procs (27 + first) (2 + first)) (omega (arith, refs, le)))

-- those of a program have a word for each level, and 10
own_words : (most size : ℕ) (run : Served) (procs : List FlatProc) → size + 10 ≤ most → HaveLevels size procs
    → AreSized most (map (low_proc run) procs)
own_words most size run [] le few = All-nil (λ (p : Proc). p.words ≤ most)
own_words most size run (p ∷ procs) le few =
    All-cons (λ (q : Proc). q.words ≤ most) (low_proc run p) (map (low_proc run) procs) (omega (arith, few.0, le))
    (own_words most size run procs le few.1)

-- where no procedure has more levels than a number, none has more words than that and 24
pub procedures_have_few_words : (size : ℕ) (run : Served) (procs : List FlatProc) (entry : ℕ) (row : TypeRow)
    (first : ℕ) → HaveLevels size procs → AreSized (size + 24) (lowered run procs entry row (merged_procs first))
procedures_have_few_words size run procs entry row first few =
    All-append (λ (p : Proc). p.words ≤ size + 24) (map (low_proc run) procs) _
    (own_words (size + 24) size run procs (omega arith) few)
    (All-cons (λ (p : Proc). p.words ≤ size + 24) (entry_proc entry row) (merged_procs first) (omega arith)
    (serving_words (size + 24) first (omega arith)))

-- more levels may be had
pub levels_within : (least most : ℕ) (procs : List FlatProc) → least ≤ most → HaveLevels least procs
    → HaveLevels most procs
levels_within least most [] le few = tt
levels_within least most (p ∷ procs) le few = (omega (arith, few.0, le), levels_within least most procs le few.1)

-- the room of such a frame, in words
pub room_of_frame : (size : ℕ) → frame_room (size + 24) ≤ size + 25
room_of_frame size =
    let most : max 24 (size + 24) ≤ size + 24 = max-le (omega arith) (le_refl (size + 24)) in omega (arith, most)

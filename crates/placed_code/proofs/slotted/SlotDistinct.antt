-- The marks of the code with slots: those of the virtual code, and the one behind which the stack lacks room.
use Rattle.std.proofs.Common.{ℕ, zero, suc, ◌≤◌, ◌≡◌, ◌≢◌, Bool, true, false, List, [], ◌∷◌}
use Rattle.std.proofs.Common.{◌++◌, Some, refl, sym, ◌∙◌, ap, subst, arith}
use Rattle.std.specs.Prelude.{◌==◌, ◌%◌, ◌^◌, nat_lt, if◌then◌else◌, slice_get, pos, max}
use Rattle.rv_isa.specs.declared.inst.Inst.TheVariants.{Ld, Sd, Addi, Lui, Addiw, Add as AddInst}
use Rattle.rv_machine.specs.declared.real.RealItem.{RealItem}
use Rattle.rv_machine.specs.declared.real.RealItem.TheVariants.{Op, Mark as RealMark}
use Rattle.rv_machine.specs.Real.{MarksStandOnce}
use Rattle.rv_select.specs.declared.code.VReg.{VReg}
use Rattle.rv_select.specs.declared.code.VReg.TheVariants.{Real, Virtual}
use Rattle.rv_select.specs.declared.code.VirtualItem.{VirtualItem}
use Rattle.rv_select.specs.declared.code.VirtualItem.TheVariants.{Constant, Move, Compute, ComputeWith, Load, Store}
use Rattle.rv_select.specs.declared.code.VirtualItem.TheVariants.{CodeOf, Mark, Procedure, Jump, Branch, Call, CallAt}
use Rattle.rv_select.specs.declared.code.VirtualItem.TheVariants.{TailCall, TailCallAt, Return, Environment}
use Rattle.rv_select.specs.Marks.{marks, NotIn, Distinct}
use Rattle.placed_code.specs.Slots.{slot_offset, fetch_items, save_items, word_items}
use Rattle.rv_select.specs.Stacks.{frame_size}
use Rattle.placed_code.specs.Slots.{slot_save_of, constant_items, move_items, chunk_items, long_items, is_half}
use Rattle.placed_code.specs.Slots.{upper_of}
use Rattle.placed_code.specs.Slots.{lower_of}
use Rattle.placed_code.specs.Slots.{chunk_of, slot_fetch, slot_save, raise_items, leave_items, expand, expand_all}
use Rattle.placed_code.specs.Slots.{final_items}
use Rattle.placed_code.specs.Slots.{slots_items}
use Rattle.placed_code.specs.Slotted.{above, free_mark}

-- the marks of real items in their order
abbrev pub real_marks : List RealItem → List ℕ
real_marks [] = []
real_marks (RealMark mark ∷ items) = mark ∷ real_marks items
real_marks (item ∷ items) = real_marks items

pub real_append : (xs ys : List RealItem) → real_marks (xs ++ ys) ≡ real_marks xs ++ real_marks ys
real_append [] ys = refl
real_append (RealMark m ∷ xs) ys = ap (λ z. m ∷ z) (real_append xs ys)
real_append (x ∷ xs) ys = real_append xs ys

real_after : (xs ys : List RealItem) → real_marks xs ≡ [] → real_marks (xs ++ ys) ≡ real_marks ys
real_after xs ys e = real_append xs ys ∙ ap (λ z. z ++ real_marks ys) e

-- ---- what has no mark

chunks_none : (rd word k : ℕ) → real_marks (chunk_items rd word k) ≡ []
chunks_none rd word zero = refl
chunks_none rd word (suc k) = chunks_none rd word k

word_none : (rd word : ℕ) → real_marks (word_items rd word) ≡ []
word_none rd word = pick (nat_lt word 2048)
  where
    long : (c : Bool) → real_marks (if c then Op (Lui rd (upper_of word)) ∷ Op (Addiw rd rd (lower_of word)) ∷ []
        else Op (Addi rd 0 (pos (chunk_of word 5))) ∷ chunk_items rd word 5) ≡ []
    long true = refl
    long false = chunks_none rd word 5

    pick : (c : Bool) → real_marks (if c then Op (Addi rd 0 (pos word)) ∷ [] else long_items rd word) ≡ []
    pick true = refl
    pick false = long (is_half word)

fetch_slot_none : (scratch offset : ℕ) → real_marks (slot_fetch scratch offset) ≡ []
fetch_slot_none scratch offset = pick (nat_lt offset 2048)
  where
    pick : (c : Bool) → real_marks (if c then Op (Ld scratch 2 (pos offset)) ∷ []
        else word_items scratch offset ++ (Op (AddInst scratch scratch 2) ∷ Op (Ld scratch scratch (pos 0)) ∷ [])) ≡ []
    pick true = refl
    pick false = real_after (word_items scratch offset) _ (word_none scratch offset)

save_slot_none : (r offset : ℕ) → real_marks (slot_save_of r offset) ≡ []
save_slot_none r offset = pick (nat_lt offset 2048)
  where
    pick : (c : Bool) → real_marks (if c then Op (Sd r 2 (pos offset)) ∷ []
        else word_items 29 offset ++ (Op (AddInst 29 29 2) ∷ Op (Sd r 29 (pos 0)) ∷ [])) ≡ []
    pick true = refl
    pick false = real_after (word_items 29 offset) _ (word_none 29 offset)

fetch_none : (first scratch : ℕ) (a : VReg) → real_marks (fetch_items first scratch a) ≡ []
fetch_none first scratch (Real r) = refl
fetch_none first scratch (Virtual v) = fetch_slot_none scratch (slot_offset first v)

save_none : (first : ℕ) (a : VReg) → real_marks (save_items first a) ≡ []
save_none first (Real r) = refl
save_none first (Virtual v) = save_slot_none 28 (slot_offset first v)

constant_none : (first : ℕ) (rd : VReg) (word : ℕ) → real_marks (constant_items first rd word) ≡ []
constant_none first (Real r) word = pick (r == 26)
  where
    pick : (c : Bool) → real_marks (if c then word_items 28 word ++ (Op (Addi r 28 (pos 0)) ∷ []) else word_items r
        word)
        ≡ []
    pick true = real_after (word_items 28 word) (Op (Addi r 28 (pos 0)) ∷ []) (word_none 28 word)
    pick false = word_none r word
constant_none first (Virtual v) word =
    real_after (word_items 28 word) (slot_save (slot_offset first v)) (word_none 28 word)
    ∙ save_slot_none 28 (slot_offset first v)

move_none : (first : ℕ) (rd a : VReg) → real_marks (move_items first rd a) ≡ []
move_none first (Real r) (Real a) = pick (r == a)
  where
    pick : (c : Bool) → real_marks (if c then [] else Op (Addi r a (pos 0)) ∷ []) ≡ []
    pick true = refl
    pick false = refl
move_none first (Real r) (Virtual v) = pick (r == 26)
  where
    pick : (c : Bool) → real_marks (if c then slot_fetch 28 (slot_offset first v) ++ (Op (Addi r 28 (pos 0)) ∷ [])
        else slot_fetch r (slot_offset first v)) ≡ []
    pick true =
        real_after (slot_fetch 28 (slot_offset first v)) (Op (Addi r 28 (pos 0)) ∷ [])
        (fetch_slot_none 28 (slot_offset first v))
    pick false = fetch_slot_none r (slot_offset first v)
move_none first (Virtual v) (Real a) = save_slot_none a (slot_offset first v)
move_none first (Virtual v) (Virtual u) =
    real_after (slot_fetch 28 (slot_offset first u)) (slot_save (slot_offset first v))
    (fetch_slot_none 28 (slot_offset first u)) ∙ save_slot_none 28 (slot_offset first v)

raise_none : (size : ℕ) → real_marks (raise_items size) ≡ []
raise_none size = pick (nat_lt size 2048)
  where
    pick : (c : Bool) → real_marks (if c then Op (Addi 2 2 (pos size)) ∷ []
        else word_items 28 size ++ (Op (AddInst 2 2 28) ∷ [])) ≡ []
    pick true = refl
    pick false = real_after (word_items 28 size) (Op (AddInst 2 2 28) ∷ []) (word_none 28 size)

leave_none : (count : ℕ) (xs : List RealItem) → real_marks (leave_items count ++ xs) ≡ real_marks xs
leave_none count xs = real_after (raise_items (frame_size count)) xs (raise_none (frame_size count))

-- ---- the marks of the code

module _ (out first count : ℕ) where
  fetched : (scratch : ℕ) (a : VReg) (xs : List RealItem)
      → real_marks (fetch_items first scratch a ++ xs) ≡ real_marks xs
  fetched scratch a xs = real_after (fetch_items first scratch a) xs (fetch_none first scratch a)

  -- an item's code has its mark, if it has one
  expand_marks : (x : VirtualItem) → real_marks (expand out first count x) ≡ marks (x ∷ [])
  expand_marks (Constant rd word) = constant_none first rd (word % 2 ^ 64)
  expand_marks (Move rd a) = move_none first rd a
  expand_marks (Compute o rd a b) = fetched 28 a _ ∙ (fetched 29 b _ ∙ save_none first rd)
  expand_marks (ComputeWith o rd a n) = fetched 28 a _ ∙ save_none first rd
  expand_marks (Load rd a offset) = fetched 28 a _ ∙ save_none first rd
  expand_marks (Store b a offset) = fetched 28 a _ ∙ fetched 29 b _
  expand_marks (CodeOf rd k) = save_none first rd
  expand_marks (Mark mark) = refl
  expand_marks (Procedure k f c) =
      ap (λ z. k ∷ z) (real_after (word_items 28 (frame_size c)) _ (word_none 28 (frame_size c)))
  expand_marks (Jump mark) = refl
  expand_marks (Branch cond a b mark) = fetched 28 a _ ∙ fetched 29 b _
  expand_marks (Call k n) = refl
  expand_marks (CallAt f n) = fetched 28 f _
  expand_marks (TailCall k n) = leave_none count _
  expand_marks (TailCallAt f n) = fetched 29 f _ ∙ leave_none count _
  expand_marks Return = leave_none count _
  expand_marks Environment = refl

split_marks : (x : VirtualItem) (xs : List VirtualItem) → marks (x ∷ xs) ≡ marks (x ∷ []) ++ marks xs
split_marks (Mark m) xs = refl
split_marks (Procedure k first count) xs = refl
split_marks x xs = refl

all_marks : (out first count : ℕ) (xs : List VirtualItem) → real_marks (expand_all out first count xs) ≡ marks xs
all_marks out first count [] = refl
all_marks out first count (Procedure k f c ∷ xs) =
    real_append (expand out first count (Procedure k f c)) (expand_all out f c xs)
    ∙ (ap (λ z. z ++ real_marks (expand_all out f c xs)) (expand_marks out first count (Procedure k f c))
    ∙ ap (λ z. k ∷ z) (all_marks out f c xs))
all_marks out first count (x ∷ xs) =
    real_append (expand out first count x) (expand_all out first count xs)
    ∙ (ap (λ z. z ++ real_marks (expand_all out first count xs)) (expand_marks out first count x)
    ∙ (ap (λ z. marks (x ∷ []) ++ z) (all_marks out first count xs) ∙ sym (split_marks x xs)))

pub slots_marks : (out : ℕ) (items : List VirtualItem) → real_marks (slots_items out items) ≡ marks items ++ (out ∷ [])
slots_marks out items =
    real_append (expand_all out 0 0 items) (final_items out) ∙ ap (λ z. z ++ (out ∷ [])) (all_marks out 0 0 items)

-- ---- distinct marks stand once

absent : (xs : List RealItem) (i m : ℕ) → NotIn m (real_marks xs) → slice_get xs i ≡ Some (RealMark m) → ⊥
absent [] zero m h e = cc
absent [] (suc i) m h e = cc
absent (RealMark q ∷ xs) zero m h e = h.0 (let same : q ≡ m = cc in sym same)
absent (RealMark q ∷ xs) (suc i) m h e = absent xs i m h.1 e
absent (x ∷ xs) zero m h e = cc
absent (x ∷ xs) (suc i) m h e = absent xs i m h e

once : (xs : List RealItem) (i j m : ℕ) → Distinct (real_marks xs) → slice_get xs i ≡ Some (RealMark m)
    → slice_get xs j ≡ Some (RealMark m) → i ≡ j
once [] zero j m h e f = absurd (let z : ⊥ = cc in z)
once [] (suc i) j m h e f = absurd (let z : ⊥ = cc in z)
once (x ∷ xs) zero zero m h e f = refl
once (RealMark q ∷ xs) zero (suc j) m h e f =
    absurd (absent xs j m (let same : q ≡ m = cc in subst (λ z. NotIn z (real_marks xs)) same h.0) f)
once (RealMark q ∷ xs) (suc i) zero m h e f =
    absurd (absent xs i m (let same : q ≡ m = cc in subst (λ z. NotIn z (real_marks xs)) same h.0) e)
once (RealMark q ∷ xs) (suc i) (suc j) m h e f = ap suc (once xs i j m h.1 e f)
once (x ∷ xs) zero (suc j) m h e f = absurd (let z : ⊥ = cc in z)
once (x ∷ xs) (suc i) zero m h e f = absurd (let z : ⊥ = cc in z)
once (x ∷ xs) (suc i) (suc j) m h e f = ap suc (once xs i j m h e f)

-- a mark above others is none of them
above_least : (ms : List ℕ) (n : ℕ) → n ≤ above n ms
above_least [] n = omega arith
above_least (m ∷ ms) n = let h = above_least ms (max n (suc m)) in grind (arith, h)

above_all : (ms : List ℕ) (n : ℕ) → NotIn (above n ms) ms
above_all [] n = tt
above_all (m ∷ ms) n =
    let h = above_least ms (max n (suc m)) in
    let apart : above (max n (suc m)) ms ≢ m = (λ e. let z : ⊥ = grind (arith, h, e) in z) in
    (apart, above_all ms (max n (suc m)))

not_in_push : (m n : ℕ) (xs : List ℕ) → NotIn m xs → m ≢ n → NotIn m (xs ++ (n ∷ []))
not_in_push m n [] h k = (k, tt)
not_in_push m n (x ∷ xs) h k = (h.0, not_in_push m n xs h.1 k)

distinct_push : (n : ℕ) (xs : List ℕ) → Distinct xs → NotIn n xs → Distinct (xs ++ (n ∷ []))
distinct_push n [] h k = (tt, tt)
distinct_push n (x ∷ xs) h k = (not_in_push x n xs h.0 (λ e. k.0 (sym e)), distinct_push n xs h.1 k.1)

pub slots_distinct : (items : List VirtualItem) → Distinct (marks items)
    → Distinct (real_marks (slots_items (free_mark items) items))
slots_distinct items h =
    subst Distinct (sym (slots_marks (free_mark items) items))
    (distinct_push (free_mark items) (marks items) h (above_all (marks items) 0))

pub slots_once : (items : List VirtualItem) → Distinct (marks items)
    → MarksStandOnce (slots_items (free_mark items) items)
slots_once items h i j m e f = once (slots_items (free_mark items) items) i j m (slots_distinct items h) e f

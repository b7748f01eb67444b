-- The code with slots of a well-formed code can be assembled, names neither x30 nor x31, and has an item that isn't a
-- mark right behind the mark of each procedure.
use Rattle.std.proofs.Common.{ℕ, zero, suc, ◌+◌, ◌<◌, ◌≡◌, ◌≢◌, ◌⊎◌, inl, inr, Bool, true, false, List, []}
use Rattle.std.proofs.Common.{append_assoc, ◌∷◌, ◌++◌, Some, drop, refl, sym, ◌∙◌, ap, subst, ⊎_elim, arith}
use Rattle.std.specs.Prelude.{◌%◌, ◌^◌, ◌==◌, nat_lt, if◌then◌else◌, length, slice_get, pos, All, Any, Contains}
use Rattle.std.specs.Prelude.{slice_index_or}
use Rattle.std.proofs.lemmas.List.Elements.{All-nil, All-cons, All-head, All-tail}
use Rattle.rv_isa.specs.declared.inst.Inst.{Inst}
use Rattle.rv_isa.specs.declared.inst.Inst.TheVariants.{Ld, Sd, Addi, Lui, Addiw, Add as AddInst}
use Rattle.rv_isa.specs.declared.inst.Inst.TheVariants.{Sub as SubInst}
use Rattle.machine_words.specs.declared.conditions.Cond.TheVariants.{Ltu}
use Rattle.rv_machine.specs.declared.real.RealItem.{RealItem}
use Rattle.rv_machine.specs.declared.real.RealItem.TheVariants.{Op, Mark as RealMark, Jump as RealJump}
use Rattle.rv_machine.specs.declared.real.RealItem.TheVariants.{Branch as RealBranch, Address}
use Rattle.rv_machine.specs.Real.{is_mark}
use Rattle.rv_machine.proofs.Public.{drop_next}
use Rattle.assembler.specs.Conditions.{registers_named, IsPlaced, times, NamesOne}
use Rattle.assembler.specs.Conditions.{CanBeAssembled}
use Rattle.low_ir.specs.declared.code.WordOp.{WordOp}
use Rattle.low_ir.specs.declared.code.WordOp.TheVariants.{Add, Sub, And, Or, Xor, Sll, Srl, Sra, Slt, Sltu}
use Rattle.rv_select.specs.declared.code.VReg.{VReg}
use Rattle.rv_select.specs.declared.code.VReg.TheVariants.{Real, Virtual}
use Rattle.rv_select.specs.declared.code.VirtualItem.{VirtualItem}
use Rattle.rv_select.specs.declared.code.VirtualItem.TheVariants.{Constant, Move, Compute, ComputeWith, Load, Store}
use Rattle.rv_select.specs.declared.code.VirtualItem.TheVariants.{CodeOf, Mark, Procedure, Jump, Branch, Call, CallAt}
use Rattle.rv_select.specs.declared.code.VirtualItem.TheVariants.{TailCall, TailCallAt, Return, Environment}
use Rattle.rv_select.specs.Run.{may_read}
use Rattle.rv_select.specs.Marks.{marks, NotIn, Distinct}
use Rattle.rv_select.specs.Holding.{reads, writes}
use Rattle.placed_code.specs.Slots.{op_inst, op_with, slot_offset, register_for, fetch_items, save_items}
use Rattle.rv_select.specs.Stacks.{frame_size}
use Rattle.placed_code.specs.Slots.{slot_fetch, slot_save_of, constant_items, move_items, word_items, chunk_items}
use Rattle.placed_code.specs.Slots.{chunk_of, slot_save, raise_items, leave_items}
use Rattle.placed_code.specs.Slots.{long_items, is_half, upper_of, lower_of}
use Rattle.placed_code.specs.Slots.{expand, expand_all, final_items, slots_items}
use Rattle.rv_select.specs.WellFormed.{marks_named, IsReadable, IsWellFormed}
use Rattle.placed_code.specs.Slotted.{free_mark, SparesLast, ProceduresBegin}
use Rattle.placed_code.proofs.slotted.SlotDistinct.{real_marks, slots_marks, slots_distinct, slots_once}

-- ---- a fact of each element, by recursion

abbrev Every : {X : Type 0} → (X → Type 0) → List X → Type 0
Every P [] = Unit {0}
Every P (x ∷ xs) = P x × Every P xs

every_append : {X : Type 0} (P : X → Type 0) (xs ys : List X) → Every P xs → Every P ys → Every P (xs ++ ys)
every_append P [] ys h k = k
every_append P (x ∷ xs) ys h k = (h.0, every_append P xs ys h.1 k)

all_of_every : {X : Type 0} (P Q : X → Type 0) → ((x : X) → P x → Q x) → (xs : List X) → Every P xs → All Q xs
all_of_every P Q f [] h = All-nil Q
all_of_every P Q f (x ∷ xs) h = All-cons Q x xs (f x h.0) (all_of_every P Q f xs h.1)

every_of_all : {X : Type 0} (P Q : X → Type 0) → ((x : X) → P x → Q x) → (xs : List X) → All P xs → Every Q xs
every_of_all P Q f [] h = tt
every_of_all P Q f (x ∷ xs) h = (f x (All-head P x xs h), every_of_all P Q f xs (All-tail P x xs h))

-- an element that has no such number isn't one of these
not_contained : (n : ℕ) (xs : List ℕ) → Every (λ x. x ≢ n) xs → ¬ Contains xs n
not_contained n xs h c = none (all_of_every (λ x. x ≢ n) (λ x. x ≢ n) (λ x k. k) xs h) c
  where
    none : All (λ x. x ≢ n) xs → Contains xs n → ⊥
    none all at = all at.0 n at.1 at.2

-- a number is one of these
abbrev In : ℕ → List ℕ → Type 0
In m [] = ⊥
In m (x ∷ xs) = (m ≡ x) ⊎ In m xs

in_cons : (x m : ℕ) (xs : List ℕ) (k : ℕ) → k < length (x ∷ xs) → slice_index_or (x ∷ xs) k m ≡ m
    → (x ≡ m) ⊎ Contains xs m
in_cons x m xs zero h e = inl e
in_cons x m xs (suc k) h e = inr (k, omega arith, e)

in_of_contains : (m : ℕ) (xs : List ℕ) → Contains xs m → In m xs
in_of_contains m [] c = absurd (let h = c.1 in let z : ⊥ = omega (arith, h) in z)
in_of_contains m (x ∷ xs) c =
    ⊎_elim (λ e. inl (sym e)) (λ d. inr (in_of_contains m xs d)) (in_cons x m xs c.0 c.1 c.2)

in_push : (m n : ℕ) (xs : List ℕ) → In m xs → In m (xs ++ (n ∷ []))
in_push m n [] h = absurd h
in_push m n (x ∷ xs) h = ⊎_elim (λ e. inl e) (λ k. inr (in_push m n xs k)) h

in_last : (m : ℕ) (xs : List ℕ) → In m (xs ++ (m ∷ []))
in_last m [] = inl refl
in_last m (x ∷ xs) = inr (in_last m xs)

-- ---- a mark that is there stands once where no mark stands twice

not_in_apart : (m x : ℕ) (xs : List ℕ) → NotIn m xs → In x xs → m ≢ x
not_in_apart m x [] h k = absurd k
not_in_apart m x (y ∷ ys) h k =
    ⊎_elim (λ e. λ q. h.0 (q ∙ e)) (λ j. not_in_apart m x ys h.1 j) k

times_none : (m : ℕ) (xs : List RealItem) → NotIn m (real_marks xs) → times m xs ≡ 0
times_none m [] h = refl
times_none m (RealMark q ∷ xs) h =
    let ih = times_none m xs h.1 in
    let e : (q == m) ≡ false = (let apart = h.0 in grind (arith, apart)) in
    ap (λ c. (if c then 1 else 0) + times m xs) e ∙ ap (λ n. 0 + n) ih
times_none m (Op i ∷ xs) h = times_none m xs h
times_none m (RealJump rd q ∷ xs) h = times_none m xs h
times_none m (RealBranch cond a b q ∷ xs) h = times_none m xs h
times_none m (Address rd q ∷ xs) h = times_none m xs h

times_one : (m : ℕ) (xs : List RealItem) → Distinct (real_marks xs) → In m (real_marks xs) → times m xs ≡ 1
times_one m [] d h = absurd h
times_one m (RealMark q ∷ xs) d h =
    ⊎_elim (λ e. here e) (λ k. later (not_in_apart q m (real_marks xs) d.0 k) (times_one m xs d.1 k)) h
  where
    here : m ≡ q → times m (RealMark q ∷ xs) ≡ 1
    here e =
        let same : (q == m) ≡ true = grind (arith, e) in
        let none : times m xs ≡ 0 = times_none m xs (subst (λ z. NotIn z (real_marks xs)) (sym e) d.0) in
        ap (λ c. (if c then 1 else 0) + times m xs) same ∙ ap (λ n. 1 + n) none

    later : q ≢ m → times m xs ≡ 1 → times m (RealMark q ∷ xs) ≡ 1
    later apart ih =
        let e : (q == m) ≡ false = grind (arith, apart) in
        ap (λ c. (if c then 1 else 0) + times m xs) e ∙ ap (λ n. 0 + n) ih
times_one m (Op i ∷ xs) d h = times_one m xs d h
times_one m (RealJump rd q ∷ xs) d h = times_one m xs d h
times_one m (RealBranch cond a b q ∷ xs) d h = times_one m xs d h
times_one m (Address rd q ∷ xs) d h = times_one m xs d h

-- ---- what is asked of a real item: no x30 or x31, marks among these, and no instruction by its own address

Spared : ℕ → Type 0
Spared r = (r ≢ 30) × (r ≢ 31)

low_spared : (r : ℕ) → r < 30 → Spared r
unfolding Spared
low_spared r h = (λ e. omega (arith, h, e), λ e. omega (arith, h, e))

readable_spared : (r : ℕ) → may_read r ≡ true → Spared r
readable_spared r h = let z : r < 28 = grind arith in low_spared r (omega arith)

abbrev SparesVirtual : VReg → Type 0
SparesVirtual (Real r) = Spared r
SparesVirtual (Virtual v) = Unit {0}

spares_virtual : (a : VReg) → IsReadable a → SparesVirtual a
spares_virtual (Real r) h = readable_spared r h
spares_virtual (Virtual v) h = tt

abbrev NamesIn : List ℕ → RealItem → Type 0
NamesIn ms (RealJump rd m) = In m ms
NamesIn ms (RealBranch cond a b m) = In m ms
NamesIn ms (Address rd m) = In m ms
NamesIn ms item = Unit {0}

abbrev Good : List ℕ → RealItem → Type 0
Good ms item = Every Spared (registers_named item) × NamesIn ms item × IsPlaced item

two_spared : (a b : ℕ) → Spared a → Spared b → Every Spared (a ∷ b ∷ [])
two_spared a b h k = (h, (k, tt))

three_spared : (a b c : ℕ) → Spared a → Spared b → Spared c → Every Spared (a ∷ b ∷ c ∷ [])
three_spared a b c h k l = (h, (k, (l, tt)))

module _ (ms : List ℕ) where
  abbrev Goods : List RealItem → Type 0
  Goods xs = Every (Good ms) xs

  joined : (xs ys : List RealItem) → Goods xs → Goods ys → Goods (xs ++ ys)
  joined xs ys h k = every_append (Good ms) xs ys h k

  op_good : (o : WordOp) (rd a b : ℕ) → Spared rd → Spared a → Spared b → Good ms (Op (op_inst o rd a b))
  op_good Add rd a b h k l = (three_spared rd a b h k l, tt, refl)
  op_good Sub rd a b h k l = (three_spared rd a b h k l, tt, refl)
  op_good And rd a b h k l = (three_spared rd a b h k l, tt, refl)
  op_good Or rd a b h k l = (three_spared rd a b h k l, tt, refl)
  op_good Xor rd a b h k l = (three_spared rd a b h k l, tt, refl)
  op_good Sll rd a b h k l = (three_spared rd a b h k l, tt, refl)
  op_good Srl rd a b h k l = (three_spared rd a b h k l, tt, refl)
  op_good Sra rd a b h k l = (three_spared rd a b h k l, tt, refl)
  op_good Slt rd a b h k l = (three_spared rd a b h k l, tt, refl)
  op_good Sltu rd a b h k l = (three_spared rd a b h k l, tt, refl)

  with_good : (o : WordOp) (rd a n : ℕ) → Spared rd → Spared a → Good ms (Op (op_with o rd a n))
  with_good Add rd a n h k = (two_spared rd a h k, tt, refl)
  with_good Sub rd a n h k = (two_spared rd a h k, tt, refl)
  with_good And rd a n h k = (two_spared rd a h k, tt, refl)
  with_good Or rd a n h k = (two_spared rd a h k, tt, refl)
  with_good Xor rd a n h k = (two_spared rd a h k, tt, refl)
  with_good Sll rd a n h k = (two_spared rd a h k, tt, refl)
  with_good Srl rd a n h k = (two_spared rd a h k, tt, refl)
  with_good Sra rd a n h k = (two_spared rd a h k, tt, refl)
  with_good Slt rd a n h k = (two_spared rd a h k, tt, refl)
  with_good Sltu rd a n h k = (two_spared rd a h k, tt, refl)

  chunks_good : (rd word k : ℕ) → Spared rd → Goods (chunk_items rd word k)
  chunks_good rd word zero h = tt
  chunks_good rd word (suc k) h =
      ((two_spared rd rd h h, tt, refl), ((two_spared rd rd h h, tt, refl), chunks_good rd word k h))

  zero_spared : Spared 0
  zero_spared = low_spared 0 (omega arith)

  word_good : (rd word : ℕ) → Spared rd → Goods (word_items rd word)
  word_good rd word h = pick (nat_lt word 2048)
    where
      long : (c : Bool) → Goods (if c then Op (Lui rd (upper_of word)) ∷ Op (Addiw rd rd (lower_of word)) ∷ []
          else Op (Addi rd 0 (pos (chunk_of word 5))) ∷ chunk_items rd word 5)
      long true = (((h, tt), tt, refl), ((two_spared rd rd h h, tt, refl), tt))
      long false = ((two_spared rd 0 h zero_spared, tt, refl), chunks_good rd word 5 h)

      pick : (c : Bool) → Goods (if c then Op (Addi rd 0 (pos word)) ∷ [] else long_items rd word)
      pick true = ((two_spared rd 0 h zero_spared, tt, refl), tt)
      pick false = long (is_half word)

  stack_spared : Spared 2
  stack_spared = low_spared 2 (omega arith)

  first_spared : Spared 28
  first_spared = low_spared 28 (omega arith)

  second_spared : Spared 29
  second_spared = low_spared 29 (omega arith)

  link_spared : Spared 1
  link_spared = low_spared 1 (omega arith)

  fetch_good : (first scratch : ℕ) (a : VReg) → Spared scratch → Goods (fetch_items first scratch a)
  fetch_good first scratch (Real r) h = tt
  fetch_good first scratch (Virtual v) h = pick (nat_lt (slot_offset first v) 2048)
    where
      pick : (c : Bool) → Goods (if c then Op (Ld scratch 2 (pos (slot_offset first v))) ∷ []
          else word_items scratch (slot_offset first v)
          ++ (Op (AddInst scratch scratch 2) ∷ Op (Ld scratch scratch (pos 0)) ∷ []))
      pick true = ((two_spared scratch 2 h stack_spared, tt, refl), tt)
      pick false = joined (word_items scratch (slot_offset first v)) _ (word_good scratch (slot_offset first v) h) (
        (three_spared scratch scratch 2 h h stack_spared, tt, refl),
        ((two_spared scratch scratch h h, tt, refl), tt),
      )

  slot_save_good : (r offset : ℕ) → Spared r → Goods (slot_save_of r offset)
  slot_save_good r offset h = pick (nat_lt offset 2048)
    where
      pick : (c : Bool) → Goods (if c then Op (Sd r 2 (pos offset)) ∷ []
          else word_items 29 offset ++ (Op (AddInst 29 29 2) ∷ Op (Sd r 29 (pos 0)) ∷ []))
      pick true = ((two_spared r 2 h stack_spared, tt, refl), tt)
      pick false = joined (word_items 29 offset) _ (word_good 29 offset second_spared) (
        (three_spared 29 29 2 second_spared second_spared stack_spared, tt, refl),
        ((two_spared r 29 h second_spared, tt, refl), tt),
      )

  save_good : (first : ℕ) (a : VReg) → Goods (save_items first a)
  save_good first (Real r) = tt
  save_good first (Virtual v) = slot_save_good 28 (slot_offset first v) first_spared

  slot_fetch_good : (scratch offset : ℕ) → Spared scratch → Goods (slot_fetch scratch offset)
  slot_fetch_good scratch offset h = pick (nat_lt offset 2048)
    where
      pick : (c : Bool) → Goods (if c then Op (Ld scratch 2 (pos offset)) ∷ []
          else word_items scratch offset ++ (Op (AddInst scratch scratch 2) ∷ Op (Ld scratch scratch (pos 0)) ∷ []))
      pick true = ((two_spared scratch 2 h stack_spared, tt, refl), tt)
      pick false = joined (word_items scratch offset) _ (word_good scratch offset h) (
        (three_spared scratch scratch 2 h h stack_spared, tt, refl),
        ((two_spared scratch scratch h h, tt, refl), tt),
      )

  constant_good : (first : ℕ) (rd : VReg) (word : ℕ) → SparesVirtual rd → Goods (constant_items first rd word)
  constant_good first (Real r) word h = pick (r == 26)
    where
      pick : (c : Bool) → Goods (if c then word_items 28 word ++ (Op (Addi r 28 (pos 0)) ∷ []) else word_items r word)
      pick true =
          joined (word_items 28 word) (Op (Addi r 28 (pos 0)) ∷ []) (word_good 28 word first_spared)
          ((two_spared r 28 h first_spared, tt, refl), tt)
      pick false = word_good r word h
  constant_good first (Virtual v) word h =
      joined (word_items 28 word) (slot_save (slot_offset first v)) (word_good 28 word first_spared)
      (slot_save_good 28 (slot_offset first v) first_spared)

  move_good : (first : ℕ) (rd a : VReg) → SparesVirtual rd → SparesVirtual a → Goods (move_items first rd a)
  move_good first (Real r) (Real a) h k = pick (r == a)
    where
      pick : (c : Bool) → Goods (if c then [] else Op (Addi r a (pos 0)) ∷ [])
      pick true = tt
      pick false = ((two_spared r a h k, tt, refl), tt)
  move_good first (Real r) (Virtual v) h k = pick (r == 26)
    where
      pick : (c : Bool) → Goods (if c then slot_fetch 28 (slot_offset first v) ++ (Op (Addi r 28 (pos 0)) ∷ [])
          else slot_fetch r (slot_offset first v))
      pick true =
          joined (slot_fetch 28 (slot_offset first v)) (Op (Addi r 28 (pos 0)) ∷ [])
          (slot_fetch_good 28 (slot_offset first v) first_spared) ((two_spared r 28 h first_spared, tt, refl), tt)
      pick false = slot_fetch_good r (slot_offset first v) h
  move_good first (Virtual v) (Real a) h k = slot_save_good a (slot_offset first v) k
  move_good first (Virtual v) (Virtual u) h k =
      joined (slot_fetch 28 (slot_offset first u)) (slot_save (slot_offset first v))
      (slot_fetch_good 28 (slot_offset first u) first_spared) (slot_save_good 28 (slot_offset first v) first_spared)

  raise_good : (size : ℕ) → Goods (raise_items size)
  raise_good size = pick (nat_lt size 2048)
    where
      pick : (c : Bool) → Goods (if c then Op (Addi 2 2 (pos size)) ∷ []
          else word_items 28 size ++ (Op (AddInst 2 2 28) ∷ []))
      pick true = ((two_spared 2 2 stack_spared stack_spared, tt, refl), tt)
      pick false = joined (word_items 28 size) _ (word_good 28 size first_spared)
          ((three_spared 2 2 28 stack_spared stack_spared first_spared, tt, refl), tt)

  leave_good : (count : ℕ) (xs : List RealItem) → Goods xs → Goods (leave_items count ++ xs)
  leave_good count xs h = (
    (two_spared 1 2 link_spared stack_spared, tt, refl),
    joined (raise_items (frame_size count)) xs (raise_good (frame_size count)) h,
  )

  for_spared : (scratch : ℕ) (a : VReg) → Spared scratch → SparesVirtual a → Spared (register_for scratch a)
  for_spared scratch (Real r) h k = k
  for_spared scratch (Virtual v) h k = h

  -- ---- the code of an item

  module _ (out first count : ℕ) (out_in : In out ms) where
    fetched : (scratch : ℕ) (a : VReg) (xs : List RealItem) → Spared scratch → Goods xs
        → Goods (fetch_items first scratch a ++ xs)
    fetched scratch a xs h k = joined (fetch_items first scratch a) xs (fetch_good first scratch a h) k

    expand_good : (x : VirtualItem) → Every (λ m. In m ms) (marks_named x) → Every SparesVirtual (writes x ++ reads x)
        → Goods (expand out first count x)
    expand_good (Constant rd word) h k = constant_good first rd (word % 2 ^ 64) k.0
    expand_good (Move rd a) h k = move_good first rd a k.0 k.1.0
    expand_good (Compute o rd a b) h k =
        fetched 28 a _ first_spared (fetched 29 b _ second_spared ((
          (op_good o _ _ _
              (for_spared 28 rd first_spared k.0) (for_spared 28 a first_spared k.1.0)
              (for_spared 29 b second_spared k.1.1.0)),
          save_good first rd,
        )))
    expand_good (ComputeWith o rd a n) h k =
        fetched 28 a _ first_spared ((
          (with_good o _ _ n (for_spared 28 rd first_spared k.0)
              (for_spared 28 a first_spared k.1.0)),
          save_good first rd,
        ))
    expand_good (Load rd a offset) h k =
        fetched 28 a _ first_spared ((
          (
            two_spared _ _ (for_spared 28 rd first_spared k.0)
                (for_spared 28 a first_spared k.1.0),
            tt,
            refl,
          ),
          save_good first rd,
        ))
    expand_good (Store b a offset) h k =
        fetched 28 a _ first_spared (fetched 29 b _ second_spared ((
          (
            two_spared _ _
                (for_spared 29 b second_spared k.1.0) (for_spared 28 a first_spared k.0),
            tt,
            refl,
          ),
          tt,
        )))
    expand_good (CodeOf rd m) h k = (((for_spared 28 rd first_spared k.0, tt), h.0, tt), save_good first rd)
    expand_good (Mark mark) h k = ((tt, tt, tt), tt)
    expand_good (Procedure m f c) h k = (
      (tt, tt, tt),
      joined (word_items 28 (frame_size c)) _ (word_good 28 (frame_size c) first_spared) (
        (three_spared 29 2 25 second_spared stack_spared (low_spared 25 (omega arith)), tt, refl),
        (
          (two_spared 29 28 second_spared first_spared, out_in, tt),
          (
            (three_spared 2 2 28 stack_spared stack_spared first_spared, tt, refl),
            ((two_spared 1 2 link_spared stack_spared, tt, refl), tt),
          ),
        ),
      ),
    )
    expand_good (Jump mark) h k = (((zero_spared, tt), h.0, tt), tt)
    expand_good (Branch cond a b mark) h k =
        fetched 28 a _ first_spared (fetched 29 b _ second_spared ((
          (
            two_spared _ _
                (for_spared 28 a first_spared k.0) (for_spared 29 b second_spared k.1.0),
            h.0,
            tt,
          ),
          tt,
        )))
    expand_good (Call m n) h k = (((link_spared, tt), h.0, tt), tt)
    expand_good (CallAt f n) h k =
        fetched 28 f _ first_spared ((
          (
            two_spared _ _ link_spared (for_spared 28 f first_spared k.1.0),
            tt,
            refl,
          ),
          tt,
        ))
    expand_good (TailCall m n) h k = leave_good count _ (((zero_spared, tt), h.0, tt), tt)
    expand_good (TailCallAt f n) h k =
        fetched 29 f _ second_spared (leave_good count _ ((
          (
            two_spared _ _ zero_spared
                (for_spared 29 f second_spared k.0),
            tt,
            refl,
          ),
          tt,
        )))
    expand_good Return h k = leave_good count _ (((two_spared _ _ zero_spared link_spared, tt, refl), tt))
    expand_good Environment h k = ((tt, tt, refl), tt)

  all_good : (out first count : ℕ) (xs : List VirtualItem) → In out ms
      → Every (λ x. Every (λ m. In m ms) (marks_named x)) xs → Every (λ x. Every SparesVirtual (writes x ++ reads x)) xs
      → Goods (expand_all out first count xs)
  all_good out first count [] o h k = tt
  all_good out first count (Procedure m f c ∷ xs) o h k =
      joined (expand out first count (Procedure m f c)) (expand_all out f c xs)
      (expand_good out first count o (Procedure m f c) h.0 k.0) (all_good out f c xs o h.1 k.1)
  all_good out first count (x ∷ xs) o h k =
      joined (expand out first count x) (expand_all out first count xs) (expand_good out first count o x h.0 k.0)
      (all_good out first count xs o h.1 k.1)

  final_good : (out : ℕ) → Goods (final_items out)
  final_good out = (
    (tt, tt, tt),
    (
      (two_spared 17 0 (low_spared 17 (omega arith)) zero_spared, tt, refl),
      (
        (tt, tt, refl),
        ((tt, tt, refl), tt),
      ),
    ),
  )

-- ---- the conditions

module _ (items : List VirtualItem) (well : IsWellFormed items) where
  abbrev code : List RealItem
  code = slots_items (free_mark items) items

  abbrev ms : List ℕ
  ms = marks items ++ (free_mark items ∷ [])

  code_good : Every (Good ms) code
  code_good =
      joined ms (expand_all (free_mark items) 0 0 items) (final_items (free_mark items))
      (all_good ms (free_mark items) 0 0 items (in_last (free_mark items) (marks items))
      (every_of_all (λ x. All (λ m. Contains (marks items) m) (marks_named x)) _
      (λ x h. every_of_all (λ m. Contains (marks items) m) _ (λ m c. in_push m (free_mark items) (marks items)
      (in_of_contains m (marks items) c)) (marks_named x) h) items well.named)
      (every_of_all (λ x. All IsReadable (writes x ++ reads x)) _
      (λ x h. every_of_all IsReadable _ (λ a k. spares_virtual a k) (writes x ++ reads x) h) items well.registers))
      (final_good ms (free_mark items))

  stands_once : (m : ℕ) → In m ms → times m code ≡ 1
  stands_once m h =
      times_one m code (slots_distinct items well.distinct)
      (subst (λ xs. In m xs) (sym (slots_marks (free_mark items) items)) h)

  -- a mark that is named stands once
  names_one : (x : RealItem) → Good ms x → NamesOne code x
  names_one (Op i) h = tt
  names_one (RealMark m) h = tt
  names_one (RealJump rd m) h = stands_once m h.1
  names_one (RealBranch cond a b m) h = stands_once m h.1
  names_one (Address rd m) h = stands_once m h.1

  no_last : (x : RealItem) → Good ms x → SparesLast x
  unfolding Spared
  no_last x h = (
    not_contained 30 (registers_named x) (first_of_each (registers_named x) h.0),
    not_contained 31 (registers_named x) (second_of_each (registers_named x) h.0),
  )
    where
      first_of_each : (rs : List ℕ) → Every Spared rs → Every (λ r. r ≢ 30) rs
      first_of_each [] k = tt
      first_of_each (r ∷ rs) k = (k.0.0, first_of_each rs k.1)

      second_of_each : (rs : List ℕ) → Every Spared rs → Every (λ r. r ≢ 31) rs
      second_of_each [] k = tt
      second_of_each (r ∷ rs) k = (k.0.1, second_of_each rs k.1)

  any_behind : (xs ys : List RealItem) → Any (λ x. is_mark x ≡ false) ys → Any (λ x. is_mark x ≡ false) (xs ++ ys)
  any_behind [] ys h = h
  any_behind (x ∷ xs) ys h =
      let k = any_behind xs ys h in
      let inside = k.2 in (suc k.0, k.1, omega arith, k.3, k.4)

  pub slots_assemble : CanBeAssembled code
  slots_assemble = record {
    some = any_behind (expand_all (free_mark items) 0 0 items) (final_items (free_mark items))
        (1, Op (Addi 17 0 (pos 6)), omega arith, refl, refl);
    marks = all_of_every (Good ms) (NamesOne code) names_one code code_good;
    scratch = all_of_every (Good ms) _ (λ x h. (no_last x h).1) code code_good;
    placed = all_of_every (Good ms) IsPlaced (λ x h. h.2) code code_good;
  }

  pub slots_spare : All SparesLast code
  slots_spare = all_of_every (Good ms) SparesLast no_last code code_good

-- ---- procedures begin with an item that isn't a mark

-- a procedure's mark stands there, and an instruction behind it
abbrev BeginsIn : List RealItem → ℕ → Type 0
BeginsIn code k = (at : ℕ) × (i : Inst) × (rest : List RealItem) × (drop at code ≡ RealMark k ∷ Op i ∷ rest)

begins_behind : (xs ys : List RealItem) (k : ℕ) → BeginsIn ys k → BeginsIn (xs ++ ys) k
begins_behind [] ys k h = h
begins_behind (x ∷ xs) ys k h = let b = begins_behind xs ys k h in (suc b.0, b.1, b.2, b.3)

-- a word's first item is an instruction
word_first : (rd word : ℕ) (rest : List RealItem)
    → (i : Inst) × (xs : List RealItem) × (word_items rd word ++ rest ≡ Op i ∷ xs)
word_first rd word rest = pick (nat_lt word 2048)
  where
    long : (c : Bool) → (i : Inst) × (xs : List RealItem)
        × ((if c then Op (Lui rd (upper_of word)) ∷ Op (Addiw rd rd (lower_of word)) ∷ []
        else Op (Addi rd 0 (pos (chunk_of word 5))) ∷ chunk_items rd word 5) ++ rest ≡ Op i ∷ xs)
    long true = (Lui rd (upper_of word), Op (Addiw rd rd (lower_of word)) ∷ rest, refl)
    long false = (Addi rd 0 (pos (chunk_of word 5)), chunk_items rd word 5 ++ rest, refl)

    pick : (c : Bool) → (i : Inst) × (xs : List RealItem)
        × ((if c then Op (Addi rd 0 (pos word)) ∷ [] else long_items rd word) ++ rest ≡ Op i ∷ xs)
    pick true = (Addi rd 0 (pos word), rest, refl)
    pick false = long (is_half word)

begins : (xs : List VirtualItem) (place k first count out f c : ℕ) (rest : List RealItem)
    → slice_get xs place ≡ Some (Procedure k first count) → BeginsIn (expand_all out f c xs ++ rest) k
begins [] place k first count out f c rest e = absurd (let z : ⊥ = cc in z)
begins (Procedure m f1 c1 ∷ xs) zero k first count out f c rest e =
    let same : m ≡ k = cc in
    let size : ℕ = frame_size c1 in
    let test : List RealItem = Op (SubInst 29 2 25) ∷ RealBranch Ltu 29 28 out ∷ Op (SubInst 2 2 28)
    ∷ Op (Sd 1 2 (pos 0)) ∷ [] in
    let behind : List RealItem = expand_all out f1 c1 xs in
    let w = word_first 28 size (test ++ (behind ++ rest)) in
    let split : ((word_items 28 size ++ test) ++ behind) ++ rest ≡ word_items 28 size ++ (test ++ (behind ++ rest)) =
    append_assoc (word_items 28 size ++ test) behind rest ∙ append_assoc (word_items 28 size) test (behind ++ rest) in (
      0,
      w.0,
      w.1,
      ap (λ z. z ∷ (((word_items 28 size ++ test) ++ behind) ++ rest)) (ap RealMark same)
          ∙ ap (λ z. RealMark k ∷ z) (split ∙ w.2),
    )
begins (Procedure m f1 c1 ∷ xs) (suc place) k first count out f c rest e =
    let ih = begins xs place k first count out f1 c1 rest e in
    subst (λ ys. BeginsIn ys k) (sym (append_assoc (expand out f c (Procedure m f1 c1)) (expand_all out f1 c1 xs) rest))
    (begins_behind (expand out f c (Procedure m f1 c1)) (expand_all out f1 c1 xs ++ rest) k ih)
begins (x ∷ xs) zero k first count out f c rest e = absurd (let z : ⊥ = cc in z)
begins (x ∷ xs) (suc place) k first count out f c rest e =
    let ih = begins xs place k first count out f c rest e in
    subst (λ ys. BeginsIn ys k) (sym (append_assoc (expand out f c x) (expand_all out f c xs) rest))
    (begins_behind (expand out f c x) (expand_all out f c xs ++ rest) k ih)

pub slots_begin : (items : List VirtualItem) → IsWellFormed items
    → ProceduresBegin items (slots_items (free_mark items) items)
slots_begin items well place k first count at e m =
    let code : List RealItem = slots_items (free_mark items) items in
    let b = begins items place k first count (free_mark items) 0 0 (final_items (free_mark items)) e in
    let here = drop_next code b.0 (RealMark k) (Op b.1 ∷ b.2) b.3 in
    let next = drop_next code (suc b.0) (Op b.1) b.2 here.1 in
    let same : b.0 ≡ at = slots_once items well.distinct b.0 at k here.0 m in
    (Op b.1, subst (λ p. slice_get code (suc p) ≡ Some (Op b.1)) same next.0, refl)

-- Items that compute, load and store: what their code with slots comes to.
use Rattle.std.proofs.Common.{append_assoc, ℕ, zero, suc, ◌+◌, ◌-◌, ◌%◌, ◌^◌, ◌<◌, ◌≤◌, ◌≡◌, ◌⊎◌, inl, inr}
use Rattle.std.proofs.Common.{Bool, true, false, List, [], ◌∷◌, ◌++◌, Option, Some, None, drop, refl, sym, ◌∙◌, ap}
use Rattle.std.proofs.Common.{subst, arith}
use Rattle.std.specs.Prelude.{◌==◌, nat_lt, nat_le, if◌then◌else◌, length, slice_get, ℤ, pos, negsuc, int_lt}
use Rattle.std.specs.Int.{w64, cast_signed, cast_unsigned, int_shr}
use Rattle.std.proofs.lemmas.Int.{of_z-to_z}
use Rattle.std.proofs.lemmas.Nat.{and_le_l, or_lt, xor_lt}
use Rattle.std.proofs.lemmas.Option.{slice_get_within}
use Rattle.run_laws.specs.Runs.{Ending}
use Rattle.run_laws.specs.Machines.{Next as Step, Go, Stop, Reaches, Alike, UnlessWrong}
use Rattle.run_laws.specs.Meters.{Metered, metered, unspent, OnBudget}
use Rattle.run_laws.proofs.Public.{reaches_weaken}
use Rattle.rv_isa.specs.declared.inst.Inst.TheVariants.{Ld, Sd, Addi}
use Rattle.rv_machine.specs.declared.real.RealItem.{RealItem}
use Rattle.rv_machine.specs.declared.real.RealItem.TheVariants.{Op}
use Rattle.machine_words.specs.Memory.{Memory, load_bytes, store_bytes, first_address}
use Rattle.rv_machine.specs.Registers.{Registers, get_reg, set_reg}
use Rattle.rv_machine.specs.State.{State, Turn, Next, reg}
use Rattle.machine_words.specs.Halts.{Lacks, Stack}
use Rattle.machine_words.specs.Arithmetic.{add, plus, subtract, flag, signed_less, shift_left, shift_right}
use Rattle.rv_machine.specs.Turn.{put}
use Rattle.machine_words.specs.Arithmetic.{shift_right_signed}
use Rattle.rv_machine.specs.Turn.{act_with}
use Rattle.machine_words.proofs.Public.{load_below, load_same, stored_outside}
use Rattle.rv_machine.proofs.Public.{has_item-append}
use Rattle.rv_select.proofs.Public.{with_few}
use Rattle.low_ir.specs.declared.code.WordOp.{WordOp}
use Rattle.low_ir.specs.declared.code.WordOp.TheVariants.{Add, Sub, And, Or, Xor, Sll, Srl, Sra, Slt, Sltu}
use Rattle.low_ir.specs.Operations.{compute}
use Rattle.low_ir.specs.Steps.{given, only_if, may_load, may_store}
use Rattle.rv_select.specs.declared.code.VReg.{VReg}
use Rattle.rv_select.specs.declared.code.VReg.TheVariants.{Real, Virtual}
use Rattle.rv_select.specs.declared.code.VirtualItem.{VirtualItem}
use Rattle.rv_select.specs.declared.code.VirtualItem.TheVariants.{Constant, Move, Compute, ComputeWith, Load, Store}
use Rattle.rv_select.specs.declared.code.VirtualItem.TheVariants.{Procedure}
use Rattle.rv_select.specs.Run.{Found, VirtualState, may_read, may_write, fits_item, is_own, value, puts}
use Rattle.rv_select.specs.Run.{item_step}
use Rattle.placed_code.specs.Slots.{op_inst, op_with, negated, slot_offset, register_for, fetch_items, save_items}
use Rattle.placed_code.specs.Slots.{word_items, slot_fetch, slot_save, constant_items, move_items, expand, expand_all}
use Rattle.placed_code.specs.Slots.{final_items}
use Rattle.rv_select.specs.Stacks.{frame_size, stack_of, if_room}
use Rattle.low_ir.specs.Prices.{slot_price}
use Rattle.rv_select.specs.Prices.{register_price, number_price, item_price}
use Rattle.placed_code.proofs.slotted.Paying.{cost, comes_there, is_there, comes_on_later}
use Rattle.placed_code.proofs.slotted.PutWords.{OnlyIn, quotient_fits}
use Rattle.placed_code.proofs.slotted.Items.{ThenOn, regrouped, does, words}
use Rattle.placed_code.proofs.slotted.Frames.{Slotting, equal_of, readable_low, low_reg, get_only, fits_only}
use Rattle.placed_code.proofs.slotted.Frames.{stored_fits, stored_same, program, virtual_setting, M, N, Stand, rest_of}
use Rattle.placed_code.proofs.slotted.Frames.{has_rest}
use Rattle.placed_code.proofs.slotted.Frames.{stack_same, Body, On, has_room, Same, seen_of, seen_still, Way}
use Rattle.placed_code.proofs.slotted.Frames.{way_first, body_scratch}
use Rattle.placed_code.proofs.slotted.SlotWords.{wrote, Permits, when_readable, loads, stores, Fetched, fetch}
use Rattle.placed_code.proofs.slotted.SlotWords.{saved_slot, saved_from, saved, slot_into, real_put}
use Rattle.placed_code.proofs.Items.{drop_here, IsBody}

-- ---- words of operations

pub op_does : (o : WordOp) (rd a b : ℕ) (s : State) (ecall ebreak : State → Turn)
    → act_with ecall ebreak (op_inst o rd a b) s ≡ put rd (compute o (reg s a) (reg s b)) s
op_does Add rd a b s ecall ebreak = refl
op_does Sub rd a b s ecall ebreak = refl
op_does And rd a b s ecall ebreak = refl
op_does Or rd a b s ecall ebreak = refl
op_does Xor rd a b s ecall ebreak = refl
op_does Sll rd a b s ecall ebreak = refl
op_does Srl rd a b s ecall ebreak = refl
op_does Sra rd a b s ecall ebreak = refl
op_does Slt rd a b s ecall ebreak = refl
op_does Sltu rd a b s ecall ebreak = refl

flag_fits : (b : Bool) → flag b < 2 ^ 64
flag_fits true = omega arith
flag_fits false = omega arith

shifted_fits : (z : ℤ) (k : ℕ) → cast_unsigned w64 z < 2 ^ 64 → cast_unsigned w64 (int_shr z k) < 2 ^ 64
shifted_fits (pos n) k h = quotient_fits n (2 ^ k) h
shifted_fits (negsuc n) k h = omega arith

pub compute_fits : (o : WordOp) (a b : ℕ) → a < 2 ^ 64 → b < 2 ^ 64 → compute o a b < 2 ^ 64
compute_fits Add a b h k = omega arith
compute_fits Sub a b h k = omega arith
compute_fits And a b h k = let x = and_le_l a b in omega arith
compute_fits Or a b h k = or_lt 64 a b h k
compute_fits Xor a b h k = xor_lt 64 a b h k
compute_fits Sll a b h k = grind arith
compute_fits Srl a b h k = quotient_fits a (2 ^ (b % 64)) h
compute_fits Sra a b h k =
    shifted_fits (cast_signed w64 a) (b % 64) (subst (λ x. x < 2 ^ 64) (sym (of_z-to_z w64 a h)) h)
compute_fits Slt a b h k = flag_fits (signed_less a b)
compute_fits Sltu a b h k = flag_fits (nat_lt a b)

-- a difference is a sum with the negative
less_by : (x n : ℕ) → n < 2048 → plus x (negated n) ≡ subtract x n
less_by x zero h = omega arith
less_by x (suc n) h = omega arith

-- a small number is itself where words are taken as signed
signed_small : (n : ℕ) → n < 2048 → cast_signed w64 n ≡ pos n
signed_small n h = grind arith

with_does : (o : WordOp) (rd a n : ℕ) (s : State) (ecall ebreak : State → Turn) → fits_item o n ≡ true
    → act_with ecall ebreak (op_with o rd a n) s ≡ put rd (compute o (reg s a) n) s
with_does Add rd a n s ecall ebreak h = refl
with_does Sub rd a n s ecall ebreak h =
    let few : n < 2048 = grind arith in ap (λ x. put rd x s) (less_by (reg s a) n few)
with_does And rd a n s ecall ebreak h = refl
with_does Or rd a n s ecall ebreak h = refl
with_does Xor rd a n s ecall ebreak h = refl
with_does Sll rd a n s ecall ebreak h =
    let e : n ≡ n % 64 = grind arith in ap (λ k. put rd (shift_left (reg s a) k) s) e
with_does Srl rd a n s ecall ebreak h =
    let e : n ≡ n % 64 = grind arith in ap (λ k. put rd (shift_right (reg s a) k) s) e
with_does Sra rd a n s ecall ebreak h =
    let e : n ≡ n % 64 = grind arith in ap (λ k. put rd (shift_right_signed (reg s a) k) s) e
with_does Slt rd a n s ecall ebreak h =
    let few : n < 2048 = grind arith in
    ap (λ z. put rd (flag (int_lt (cast_signed w64 (reg s a)) z)) s) (sym (signed_small n few))
with_does Sltu rd a n s ecall ebreak h = refl

get_fits : (r : ℕ) (regs : Registers) → ((q : ℕ) → regs q < 2 ^ 64) → get_reg regs r < 2 ^ 64
get_fits r regs h = pick (r == 0)
  where
    pick : (c : Bool) → (if c then 0 else regs r) < 2 ^ 64
    pick true = omega arith
    pick false = h r

-- not one real register twice
abbrev NotBoth : VReg → VReg → Type 0
NotBoth (Real r) (Real q) = (r == q) ≡ false
NotBoth rd a = Unit {0}

pub expand_cons : (out first count : ℕ) (item : VirtualItem) (rest : List VirtualItem) → IsBody item
    → expand_all out first count (item ∷ rest) ≡ expand out first count item ++ expand_all out first count rest
expand_cons out first count (Procedure k f c) rest h = absurd h
expand_cons out first count item rest h = refl

module _ {V : Type 0} (w : Slotting V) where
  pub fetched_fits : (t : VirtualState) (s s1 : State) (scratch : ℕ) (a : VReg) (word : ℕ)
      → Fetched w t scratch a word s s1 → word < 2 ^ 64
  fetched_fits t s s1 scratch a word f =
      subst (λ x. x < 2 ^ 64) f.there (get_fits (register_for scratch a) s1.regs f.body.fits)

  -- a word that was fetched into x28 is still there when another is in x29
  pub kept : (t : VirtualState) (a : VReg) (word : ℕ) → value t a ≡ Some word → (register_for 28 a == 29) ≡ false
  kept t (Real r) word e = apart_of r (when_readable t r word e).0
    where
      apart_of : (q : ℕ) → may_read q ≡ true → (q == 29) ≡ false
      apart_of q h = grind arith
  kept t (Virtual v) word e = refl

  -- the code of the item that is next
  pub code_of : (t : VirtualState) (s : State) → On w t s → (item : VirtualItem) → slice_get w.items t.pc ≡ Some item
      → IsBody item
      → Stand w s.pc (expand w.out t.active.found.first t.active.found.count item
      ++ rest_of w t.active.found (suc t.pc))
  code_of t s on item here body =
      let f : Found = t.active.found in
      let rest : List VirtualItem = drop (suc t.pc) w.items in
      subst (Stand w s.pc)
      (ap (λ xs. expand_all w.out f.first f.count xs ++ final_items w.out) (drop_here w.items t.pc item here)
      ∙ (ap (λ xs. xs ++ final_items w.out) (expand_cons w.out f.first f.count item rest body)
      ∙ append_assoc (expand w.out f.first f.count item) (expand_all w.out f.first f.count rest) (final_items w.out)))
      on.code

  -- ---- what is to be shown of a step

  -- a measure of a state, which falls at marks
  abbrev pub size : VirtualState → ℕ
  size t = length w.items - t.pc

  -- the bytes of the stack
  abbrev pub room : ℕ
  room = w.layout.end - w.top

  -- where the machine stops as the next frame doesn't fit, fewer bytes are left than that has; told what the next item
  -- comes to where the stack has no bound
  pub record IsShort (s : State) (t : VirtualState) : Type 0 where
    pub left : s.regs 2 < s.regs 25 + frame_size t.active.found.count
    pub world : s.world ≡ t.world
    pub place : ℕ
    pub number : ℕ
    pub there : slice_get w.items place ≡ Some (Procedure number t.active.found.first t.active.found.count)

  abbrev pub Lacking : State → Step VirtualState V → Type 0
  Lacking s (Go t) = IsShort s t
  Lacking s (Stop e t) = Unit {0}

  -- the machine's step stops, with at most b spent when it has
  pub record Stops (b : ℕ) (t t1 : VirtualState) (e : Ending V) (y : Step VirtualState V) (m : Metered State) : Type 0
    where
      pub alike : Alike (Same w) (M w) (N w) t m.rest
      pub last : State
      pub step : (N w).step m.rest ≡ Stop e last
      pub same : Alike (Same w) (M w) (N w) t1 last
      pub few : m.spent + cost (program w) m.rest ≤ b
      pub lacking : Lacking last y

  abbrev pub Paid : (b k : ℕ) → (P Q : Metered State → Type 0) → State → Type 0
  Paid b k P Q s = Reaches (metered (cost (program w)) (N w)) P Q k (unspent s)

  -- for at most b the code does what an item comes to in the stack, told what it comes to where that has no bound
  abbrev pub DoesFor : ℕ → VirtualState → State → Step VirtualState V → Step VirtualState V → Type 0
  DoesFor b t s y (Go t1) =
      (k : ℕ) × (0 < k ⊎ size t1 < size t) × Paid b k (OnBudget (Same w) (M w) (N w) t t1 b)
      (λ m. On w t1 m.rest × (m.spent ≤ b)) s
  DoesFor b t s y (Stop e t1) =
      UnlessWrong e ((k : ℕ) × Paid b k (λ m. Alike (Same w) (M w) (N w) t m.rest × (m.spent ≤ b)) (Stops b t t1 e y) s)

  -- for at most b the code does what the step of the virtual run does
  abbrev pub Sim : ℕ → VirtualState → State → Step VirtualState V → Type 0
  Sim b t s y = DoesFor b t s y (if_room w.reading room t y)

  pub sim_given : {A : Type 0} (b : ℕ) (t t0 : VirtualState) (s : State) (o : Option A) (f : A → Step VirtualState V)
      → ((x : A) → o ≡ Some x → Sim b t s (f x)) → Sim b t s (given t0 o f)
  sim_given b t t0 s None f h = tt
  sim_given b t t0 s (Some x) f h = h x refl

  pub sim_if : (b : ℕ) (t t0 : VirtualState) (s : State) (c : Bool) (y : Step VirtualState V)
      → (c ≡ true → Sim b t s y) → Sim b t s (only_if t0 c y)
  sim_if b t t0 s true y h = h refl
  sim_if b t t0 s false y h = tt

  -- the frames of a state fit into the stack
  abbrev pub Fits : VirtualState → Type 0
  Fits t = nat_le (stack_of t.active.found t.frames) room ≡ true

  -- the machine comes to where the code goes on in a state
  abbrev pub Reached : ℕ → VirtualState → VirtualState → State → Type 0
  Reached most t t1 s = ThenOn (program w) (Way w t t1) (On w t1) most s

  pub reached_for : (b most : ℕ) (t t1 : VirtualState) (s : State) → most ≤ b → Reached most t t1 s
      → DoesFor b t s (Go t1) (Go t1)
  reached_for b most t t1 s few r = (
    suc r.later,
    inl (omega arith),
    reaches_weaken (metered (cost (program w)) (N w)) _ _ _ _ (λ m p. (p.0.0, p.1)) (λ m q. q) (suc r.later)
        (unspent s) (r.pays 0 b (omega (arith, few))),
  )

  pub sim_go : {b most : ℕ} (t t1 : VirtualState) (s : State) → most ≤ b → Fits t1 → Reached most t t1 s
      → Sim b t s (Go t1)
  sim_go {b} {most} t t1 s few fits r =
      subst (λ (c : Bool). DoesFor b t s (Go t1) (if c then Go t1 else Stop (w.reading (Lacks Stack)) t)) (sym fits)
      (reached_for b most t t1 s few r)

  -- the machine is there already
  pub sim_stay : (b : ℕ) (t t1 : VirtualState) (s : State) → Fits t1 → size t1 < size t → On w t1 s → Sim b t s (Go t1)
  sim_stay b t t1 s fits less on =
      subst (λ (c : Bool). DoesFor b t s (Go t1) (if c then Go t1 else Stop (w.reading (Lacks Stack)) t)) (sym fits)
      (0, inr less, (on, omega arith))

  pub sim_puts : {b most : ℕ} (t : VirtualState) (s : State) (rd : VReg) (word : ℕ) → Body w t s → most ≤ b
      → (Permits t rd → Reached most t (wrote rd word t) s)
      → Sim b t s (puts w.reading (virtual_setting w) rd word t)
  sim_puts t s (Real r) word b few f =
      sim_if _ t t s (may_write r) _ (λ h. sim_go t (wrote (Real r) word t) s few (has_room w t s b) (f h))
  sim_puts t s (Virtual v) word b few f =
      sim_if _ t t s (is_own t.active.found v) _ (λ h.
      sim_go t (wrote (Virtual v) word t) s few (has_room w t s b) (f h))

  -- for the price of the item
  abbrev pub SimItem : VirtualState → State → VirtualItem → Type 0
  SimItem t s item =
      Sim (item_price (virtual_setting w) t.active.found item) t s (item_step w.reading (virtual_setting w) item t)

  -- ---- items that write a register

  pub do_compute : (t : VirtualState) (s : State) (on : On w t s) (o : WordOp) (rd a b : VReg)
      → slice_get w.items t.pc ≡ Some (Compute o rd a b)
      → SimItem t s (Compute o rd a b)
  do_compute t s on o rd a b here =
      sim_given _ t t s (value t a) _ (λ x xe. sim_given _ t t s (value t b) _ (λ y ye.
      sim_puts t s rd (compute o x y) on.body (omega arith) (λ permit. computed x y xe ye permit)))
    where
      f : Found
      f = t.active.found

      rest : List RealItem
      rest = rest_of w f (suc t.pc)

      last : List RealItem
      last = Op (op_inst o (register_for 28 rd) (register_for 28 a) (register_for 29 b)) ∷ save_items f.first rd

      computed : (x y : ℕ) → value t a ≡ Some x → value t b ≡ Some y → Permits t rd
          → Reached (register_price f.first a + (register_price f.first b + suc (register_price f.first rd))) t
          (wrote rd (compute o x y) t) s
      computed x y xe ye permit =
          let word : ℕ = compute o x y in
          let t1 : VirtualState = wrote rd word t in
          let c0 = code_of t s on (Compute o rd a b) here tt in
          let r1 : ℕ = register_for 28 a in
          let r2 : ℕ = register_for 29 b in
          let rd1 : ℕ = register_for 28 rd in
          fetch w t t1 (On w t1) (register_price f.first b + suc (register_price f.first rd)) s on.body 28 a x
          ((fetch_items f.first 29 b ++ last) ++ rest) (omega arith) xe
          (has_item-append (fetch_items f.first 29 b ++ last) rest (has_rest w f (suc t.pc)))
          (regrouped (program w) (fetch_items f.first 28 a) (fetch_items f.first 29 b ++ last) rest c0) (λ s1 f1 c1.
          fetch w t t1 (On w t1) (suc (register_price f.first rd)) s1 f1.body 29 b y (last ++ rest) (omega arith) ye
          (has_item-append last rest (has_rest w f (suc t.pc)))
          (regrouped (program w) (fetch_items f.first 29 b) last rest c1) (λ s2 f2 c2.
          let xr : get_reg s2.regs r1 ≡ x = f2.others r1 (kept t a x xe) ∙ f1.there in
          does (program w) (Way w t t1) (On w t1) s2 (set_reg rd1 word s2.regs) s2.memory c2
          (has_item-append (save_items f.first rd) rest (has_rest w f (suc t.pc)))
          (λ ecall ebreak pc. op_does o rd1 r1 r2 (record s2 { pc = pc }) ecall ebreak
          ∙ (ap (λ z. put rd1 (compute o z (get_reg s2.regs r2)) (record s2 { pc = pc })) xr
          ∙ ap (λ z. put rd1 (compute o x z) (record s2 { pc = pc })) f2.there))
          (way_first w t t1 s2 (seen_of w t s2 f2.body)) (λ n c3.
          saved w t s2 rd word n f2.body on.home permit
          (compute_fits o x y (fetched_fits t s s1 28 a x f1) (fetched_fits t s1 s2 29 b y f2)) c3)))

  pub do_compute_with : (t : VirtualState) (s : State) (on : On w t s) (o : WordOp) (rd a : VReg) (n : ℕ)
      → slice_get w.items t.pc ≡ Some (ComputeWith o rd a n)
      → SimItem t s (ComputeWith o rd a n)
  do_compute_with t s on o rd a n here =
      sim_given _ t t s (value t a) _ (λ x xe. sim_if _ t t s (fits_item o n) _ (λ h.
      sim_puts t s rd (compute o x n) on.body (omega arith) (λ permit. computed x xe h permit)))
    where
      f : Found
      f = t.active.found

      rest : List RealItem
      rest = rest_of w f (suc t.pc)

      last : List RealItem
      last = Op (op_with o (register_for 28 rd) (register_for 28 a) n) ∷ save_items f.first rd

      computed : (x : ℕ) → value t a ≡ Some x → fits_item o n ≡ true → Permits t rd
          → Reached (register_price f.first a + suc (register_price f.first rd)) t (wrote rd (compute o x n) t) s
      computed x xe h permit =
          let word : ℕ = compute o x n in
          let t1 : VirtualState = wrote rd word t in
          let r1 : ℕ = register_for 28 a in
          let rd1 : ℕ = register_for 28 rd in
          fetch w t t1 (On w t1) (suc (register_price f.first rd)) s on.body 28 a x (last ++ rest) (omega arith) xe
          (has_item-append last rest (has_rest w f (suc t.pc)))
          (regrouped (program w) (fetch_items f.first 28 a) last rest
          (code_of t s on (ComputeWith o rd a n) here tt)) (λ s1 f1 c1.
          does (program w) (Way w t t1) (On w t1) s1 (set_reg rd1 word s1.regs) s1.memory c1
          (has_item-append (save_items f.first rd) rest (has_rest w f (suc t.pc)))
          (λ ecall ebreak pc. with_does o rd1 r1 n (record s1 { pc = pc }) ecall ebreak h
          ∙ ap (λ z. put rd1 (compute o z n) (record s1 { pc = pc })) f1.there)
          (way_first w t t1 s1 (seen_of w t s1 f1.body)) (λ m c2.
          saved w t s1 rd word m f1.body on.home permit
          (compute_fits o x n (fetched_fits t s s1 28 a x f1) (with_few o n h)) c2))

  -- a register that may be written, and isn't the allocation word
  apart_from : (q r : ℕ) → may_write r ≡ true → (r == 26) ≡ false → (q == 2) ≡ true ⊎ ((q == 25) ≡ true
      ⊎ ((q == 26) ≡ true ⊎ ((q == 27) ≡ true))) → (q == r) ≡ false
  apart_from q r h k (inl e) = grind arith
  apart_from q r h k (inr (inl e)) = grind arith
  apart_from q r h k (inr (inr (inl e))) = grind arith
  apart_from q r h k (inr (inr (inr e))) = grind arith

  not_zero_put : (r : ℕ) → may_write r ≡ true → (r == 0) ≡ false
  not_zero_put r h = grind arith

  whole : (x : ℕ) → x < 2 ^ 64 → (x + 0) % 2 ^ 64 ≡ x
  whole x h = omega arith

  pub do_move : (t : VirtualState) (s : State) (on : On w t s) (rd a : VReg)
      → slice_get w.items t.pc ≡ Some (Move rd a)
      → SimItem t s (Move rd a)
  do_move t s on rd a here = by_places rd a here
    where
      fewer : (p n : ℕ) → p < n → n - suc p < n - p
      fewer p n h = omega arith

      f : Found
      f = t.active.found

      rest : List RealItem
      rest = rest_of w f (suc t.pc)

      -- from a real register to another
      across : (r q x : ℕ) → value t (Real q) ≡ Some x → Permits t (Real r)
          → Stand w s.pc (Op (Addi r q (pos 0)) ∷ rest) → Reached 1 t (wrote (Real r) x t) s
      across r q x xe permit c =
          let t1 : VirtualState = wrote (Real r) x t in
          let z = when_readable t q x xe in
          let is : get_reg s.regs q ≡ x = on.body.regs q z.0 ∙ z.1 in
          let small : x < 2 ^ 64 = subst (λ y. y < 2 ^ 64) is (get_fits q s.regs on.body.fits) in
          does (program w) (Way w t t1) (On w t1) s (set_reg r x s.regs) s.memory c (has_rest w f (suc t.pc))
          (λ ecall ebreak pc. ap (λ y. put r ((y + 0) % 2 ^ 64) (record s { pc = pc })) is
          ∙ ap (λ y. put r y (record s { pc = pc })) (whole x small))
          (way_first w t t1 s (seen_of w t s on.body)) (λ n c2.
          saved w t s (Real r) x n on.body on.home permit small c2)

      moved : (rd a : VReg) (x : ℕ) → NotBoth rd a → value t a ≡ Some x → Permits t rd
          → Stand w s.pc (move_items f.first rd a ++ rest)
          → Reached (register_price f.first a + 1 + register_price f.first rd) t (wrote rd x t) s
      moved (Real r) (Real q) x differ xe permit c =
          comes_on_later (program w) (Way w t (wrote (Real r) x t)) (On w (wrote (Real r) x t))
          (register_price f.first (Real q) + 1 + register_price f.first (Real r)) (omega arith)
          (across r q x xe permit (subst (λ (b : Bool).
          Stand w s.pc ((if b then [] else Op (Addi r q (pos 0)) ∷ []) ++ rest)) differ c))
      moved (Real r) (Virtual v) x differ xe permit c = pick (r == 26) refl c
        where
          pick : (b : Bool) → (r == 26) ≡ b
              → Stand w s.pc ((if b then slot_fetch 28 (slot_offset f.first v) ++ (Op (Addi r 28 (pos 0)) ∷ [])
              else slot_fetch r (slot_offset f.first v)) ++ rest)
              → Reached (slot_price (v - f.first) + 1 + 0) t (wrote (Real r) x t) s
          pick true k c1 =
              let t1 : VirtualState = wrote (Real r) x t in
              comes_on_later (program w) (Way w t t1) (On w t1) (slot_price (v - f.first) + 1 + 0) (omega arith) (
              fetch w t t1 (On w t1) 1 s on.body 28 (Virtual v) x (Op (Addi r 28 (pos 0)) ∷ rest) (omega arith) xe
              tt (regrouped (program w) (slot_fetch 28 (slot_offset f.first v)) (Op (Addi r 28 (pos 0)) ∷ []) rest c1)
              (λ s1 f1 c2.
              let small : x < 2 ^ 64 = fetched_fits t s s1 28 (Virtual v) x f1 in
              does (program w) (Way w t t1) (On w t1) s1 (set_reg r x s1.regs) s1.memory c2 (has_rest w f (suc t.pc))
              (λ ecall ebreak pc. ap (λ y. put r ((y + 0) % 2 ^ 64) (record s1 { pc = pc })) f1.there
              ∙ ap (λ y. put r y (record s1 { pc = pc })) (whole x small))
              (way_first w t t1 s1 (seen_of w t s1 f1.body)) (λ n c3.
              saved w t s1 (Real r) x n f1.body on.home permit small c3)))
          pick false k c1 =
              let t1 : VirtualState = wrote (Real r) x t in
              comes_on_later (program w) (Way w t t1) (On w t1) (slot_price (v - f.first) + 1 + 0) (omega arith) (
              slot_into w t t1 (On w t1) 0 s on.body r v x rest (not_zero_put r permit)
              (apart_from 2 r permit k (inl refl)) (apart_from 25 r permit k (inr (inl refl)))
              (apart_from 26 r permit k (inr (inr (inl refl)))) (apart_from 27 r permit k (inr (inr (inr refl)))) xe
              (has_rest w f (suc t.pc)) c1 (λ regs n e1 small only c2.
              is_there (program w) (Way w t t1) (On w t1)
              (real_put w t s r x regs n on.body on.home permit small e1 only c2)))
      moved (Virtual v) (Real q) x differ xe permit c =
          let z = when_readable t q x xe in
          let is : get_reg s.regs q ≡ x = on.body.regs q z.0 ∙ z.1 in
          let small : x < 2 ^ 64 = subst (λ y. y < 2 ^ 64) is (get_fits q s.regs on.body.fits) in
          comes_on_later (program w) (Way w t (wrote (Virtual v) x t)) (On w (wrote (Virtual v) x t))
          (0 + 1 + slot_price (v - f.first)) (omega arith)
          (saved_from w t s q v x on.body on.home permit small is (low_reg q 29 (readable_low q z.0) (omega arith)) c)
      moved (Virtual v) (Virtual u) x differ xe permit c =
          let t1 : VirtualState = wrote (Virtual v) x t in
          comes_on_later (program w) (Way w t t1) (On w t1) (slot_price (u - f.first) + 1 + slot_price (v - f.first))
          (omega arith) (
          fetch w t t1 (On w t1) (slot_price (v - f.first)) s on.body 28 (Virtual u) x
          (slot_save (slot_offset f.first v) ++ rest) (omega arith) xe
          (has_item-append (slot_save (slot_offset f.first v)) rest (has_rest w f (suc t.pc)))
          (regrouped (program w) (slot_fetch 28 (slot_offset f.first u)) (slot_save (slot_offset f.first v)) rest c)
          (λ s1 f1 c1.
          let small : x < 2 ^ 64 = fetched_fits t s s1 28 (Virtual u) x f1 in
          saved_from w t s1 28 v x f1.body on.home permit small f1.there refl c1))

      steps : (rd a : VReg) → NotBoth rd a → slice_get w.items t.pc ≡ Some (Move rd a) → SimItem t s (Move rd a)
      steps rd a differ here =
          sim_given _ t t s (value t a) _ (λ x xe.
          sim_puts t s rd x on.body (omega arith) (λ permit.
          moved rd a x differ xe permit (code_of t s on (Move rd a) here tt)))

      -- the word is there already
      stays : (r q : ℕ) → (r == q) ≡ true → slice_get w.items t.pc ≡ Some (Move (Real r) (Real q))
          → SimItem t s (Move (Real r) (Real q))
      stays r q k here =
          sim_given _ t t s (value t (Real q)) _ (λ x xe. sim_if _ t t s (may_write r) _ (λ permit.
          let z = when_readable t q x xe in
          let same : r ≡ q = equal_of r q k in
          let is : get_reg s.regs r ≡ x = ap (get_reg s.regs) same ∙ (on.body.regs q z.0 ∙ z.1) in
          let small : x < 2 ^ 64 = subst (λ y. y < 2 ^ 64) is (get_fits r s.regs on.body.fits) in
          let c : Stand w s.pc rest = subst (λ (b : Bool).
          Stand w s.pc ((if b then [] else Op (Addi r q (pos 0)) ∷ []) ++ rest)) k
          (code_of t s on (Move (Real r) (Real q)) here tt) in
          sim_stay _ t (wrote (Real r) x t) s (has_room w t s on.body)
          (fewer t.pc (length w.items) (slice_get_within w.items t.pc (Move (Real r) (Real q)) here))
          (real_put w t s r x s.regs s.pc on.body on.home permit small is (λ y m. refl) c)))

      by_places : (rd a : VReg) → slice_get w.items t.pc ≡ Some (Move rd a) → SimItem t s (Move rd a)
      by_places (Real r) (Real q) here = pick (r == q) refl
        where
          pick : (b : Bool) → (r == q) ≡ b → SimItem t s (Move (Real r) (Real q))
          pick true k = stays r q k here
          pick false k = steps (Real r) (Real q) k here
      by_places (Real r) (Virtual v) here = steps (Real r) (Virtual v) tt here
      by_places (Virtual v) (Real q) here = steps (Virtual v) (Real q) tt here
      by_places (Virtual v) (Virtual u) here = steps (Virtual v) (Virtual u) tt here

  -- a word was put into x28, and no other register was changed
  put_in : (t : VirtualState) (s : State) (word : ℕ) (regs : Registers) (n : ℕ) → Body w t s → word < 2 ^ 64
      → get_reg regs 28 ≡ word → OnlyIn 28 regs s.regs → Body w t (record s { regs = regs; pc = n })
  put_in t s word regs n b small e only =
      body_scratch w t s regs n b
      (λ q m. get_only 28 q regs s.regs only (low_reg q 28 (readable_low q m) (omega arith))) (only 2 refl)
      (fits_only 28 word regs s.regs only e (omega arith) small b.fits)

  pub do_constant : (t : VirtualState) (s : State) (on : On w t s) (rd : VReg) (number : ℕ)
      → slice_get w.items t.pc ≡ Some (Constant rd number)
      → SimItem t s (Constant rd number)
  do_constant t s on rd number here =
      sim_puts t s rd word on.body (omega arith) (λ permit.
      put_word rd permit (code_of t s on (Constant rd number) here tt))
    where
      word : ℕ
      word = number % 2 ^ 64

      f : Found
      f = t.active.found

      rest : List RealItem
      rest = rest_of w f (suc t.pc)

      small : word < 2 ^ 64
      small = omega arith

      seen_still_in : (t1 : VirtualState) (regs : Registers) (pc : ℕ) → OnlyIn 28 regs s.regs
          → Way w t t1 (record s { regs = regs; pc = pc })
      seen_still_in t1 regs pc only =
          way_first w t t1 (record s { regs = regs; pc = pc })
          (seen_still w t s regs pc 28 (seen_of w t s on.body) only refl refl refl refl)

      put_word : (rd : VReg) → Permits t rd → Stand w s.pc (constant_items f.first rd word ++ rest)
          → Reached (number_price word + 1 + register_price f.first rd) t (wrote rd word t) s
      put_word (Real r) permit c = pick (r == 26) refl c
        where
          t1 : VirtualState
          t1 = wrote (Real r) word t

          pick : (b : Bool) → (r == 26) ≡ b
              → Stand w s.pc ((if b then word_items 28 word ++ (Op (Addi r 28 (pos 0)) ∷ []) else word_items r word)
              ++ rest) → Reached (number_price word + 1 + 0) t t1 s
          pick true k c1 =
              comes_on_later (program w) (Way w t t1) (On w t1) (number_price word + 1 + 0) (omega arith) (
              words (program w) (Way w t t1) (On w t1) s 28 word (Op (Addi r 28 (pos 0)) ∷ rest) refl small tt
              (λ regs pc only. seen_still_in t1 regs pc only) (λ regs n e1 only c2.
              let s1 : State = record s { regs = regs; pc = n } in
              let b1 : Body w t s1 = put_in t s word regs n on.body small e1 only in
              comes_there (program w) (Way w t t1) (On w t1) (
              does (program w) (Way w t t1) (On w t1) s1 (set_reg r word regs) s.memory c2 (has_rest w f (suc t.pc))
              (λ ecall ebreak pc. ap (λ z. put r ((z + 0) % 2 ^ 64) (record s1 { pc = pc })) e1
              ∙ ap (λ z. put r z (record s1 { pc = pc })) (whole word small))
              (way_first w t t1 s1 (seen_of w t s1 b1)) (λ n1 c3.
              saved w t s1 (Real r) word n1 b1 on.home permit small c3)))
              (regrouped (program w) (word_items 28 word) (Op (Addi r 28 (pos 0)) ∷ []) rest c1))
          pick false k c1 =
              comes_on_later (program w) (Way w t t1) (On w t1) (number_price word + 1 + 0) (omega arith) (
              words (program w) (Way w t t1) (On w t1) s r word rest (not_zero_put r permit) small
              (has_rest w f (suc t.pc)) (λ regs pc only.
              way_first w t t1 (record s { regs = regs; pc = pc }) (seen_still w t s regs pc r (seen_of w t s on.body)
              only
              (apart_from 2 r permit k (inl refl)) (apart_from 25 r permit k (inr (inl refl)))
              (apart_from 26 r permit k (inr (inr (inl refl)))) (apart_from 27 r permit k (inr (inr (inr refl))))))
              (λ regs n e1 only c2. is_there (program w) (Way w t t1) (On w t1)
              (real_put w t s r word regs n on.body on.home permit small e1 only c2)) c1)
      put_word (Virtual v) permit c =
          let t1 : VirtualState = wrote (Virtual v) word t in
          comes_on_later (program w) (Way w t t1) (On w t1) (number_price word + 1 + slot_price (v - f.first))
          (omega arith) (
          words (program w) (Way w t t1) (On w t1) s 28 word (slot_save (slot_offset f.first v) ++ rest) refl small
          (has_item-append (slot_save (slot_offset f.first v)) rest (has_rest w f (suc t.pc)))
          (λ regs pc only. seen_still_in t1 regs pc only) (λ regs n e1 only c1.
          let s1 : State = record s { regs = regs; pc = n } in
          let b1 : Body w t s1 = put_in t s word regs n on.body small e1 only in
          saved_slot w t s1 v word b1 on.home permit small e1 c1)
          (regrouped (program w) (word_items 28 word) (slot_save (slot_offset f.first v)) rest c))

  pub do_load : (t : VirtualState) (s : State) (on : On w t s) (rd a : VReg) (offset : ℕ)
      → slice_get w.items t.pc ≡ Some (Load rd a offset)
      → SimItem t s (Load rd a offset)
  do_load t s on rd a offset here =
      sim_given _ t t s (value t a) _ (λ x xe.
      sim_if _ t t s (may_load w.top ((x + offset) % 2 ^ 64)) _ (λ m.
      sim_puts t s rd (load_bytes 8 t.memory ((x + offset) % 2 ^ 64)) on.body (omega arith) (λ permit.
      loaded x xe m permit)))
    where
      f : Found
      f = t.active.found

      rest : List RealItem
      rest = rest_of w f (suc t.pc)

      last : List RealItem
      last = Op (Ld (register_for 28 rd) (register_for 28 a) (pos offset)) ∷ save_items f.first rd

      parts : (at : ℕ) → may_load w.top at ≡ true → (at % 8 ≡ 0) × (first_address ≤ at) × (at + 8 ≤ w.top)
      parts at m = grind arith

      loaded : (x : ℕ) → value t a ≡ Some x → may_load w.top ((x + offset) % 2 ^ 64) ≡ true → Permits t rd
          → Reached (register_price f.first a + suc (register_price f.first rd)) t
          (wrote rd (load_bytes 8 t.memory ((x + offset) % 2 ^ 64)) t) s
      loaded x xe m permit =
          let at : ℕ = (x + offset) % 2 ^ 64 in
          let word : ℕ = load_bytes 8 t.memory at in
          let t1 : VirtualState = wrote rd word t in
          let rd1 : ℕ = register_for 28 rd in
          let p = parts at m in
          let q = p.2 in
          let r = w.lies.stack in
          fetch w t t1 (On w t1) (suc (register_price f.first rd)) s on.body 28 a x (last ++ rest) (omega arith) xe
          (has_item-append last rest (has_rest w f (suc t.pc)))
          (regrouped (program w) (fetch_items f.first 28 a) last rest
          (code_of t s on (Load rd a offset) here tt)) (λ s1 f1 c1.
          let same : load_bytes 8 s1.memory at ≡ word =
          load_same 8 s1.memory t.memory at at (λ i h. f1.body.memory (at + i) (omega arith)) in
          let small : word < 2 ^ 64 = subst (λ z. z < 2 ^ 64) same (load_below 8 s1.memory at f1.body.bytes) in
          let below : at + 8 ≤ w.layout.end = omega arith in
          does (program w) (Way w t t1) (On w t1) s1 (set_reg rd1 word s1.regs) s1.memory c1
          (has_item-append (save_items f.first rd) rest (has_rest w f (suc t.pc)))
          (λ ecall ebreak pc. loads w s1 rd1 (register_for 28 a) at offset pc ecall ebreak f1.body.layout
          (ap (λ z. (z + offset) % 2 ^ 64) f1.there) p.0 p.1 below
          ∙ ap (λ z. put rd1 z (record s1 { pc = pc })) same)
          (way_first w t t1 s1 (seen_of w t s1 f1.body)) (λ n c2.
          saved w t s1 rd word n f1.body on.home permit small c2))

  pub do_store : (t : VirtualState) (s : State) (on : On w t s) (b a : VReg) (offset : ℕ)
      → slice_get w.items t.pc ≡ Some (Store b a offset)
      → SimItem t s (Store b a offset)
  do_store t s on b a offset here =
      sim_given _ t t s (value t a) _ (λ x xe. sim_given _ t t s (value t b) _ (λ y ye.
      sim_if _ t t s (may_store w.layout.region w.top ((x + offset) % 2 ^ 64)) _ (λ m.
      sim_go t (after x y) s (omega arith) (has_room w t s on.body) (stored x y xe ye m))))
    where
      f : Found
      f = t.active.found

      rest : List RealItem
      rest = rest_of w f (suc t.pc)

      last : List RealItem
      last = Op (Sd (register_for 29 b) (register_for 28 a) (pos offset)) ∷ []

      after : ℕ → ℕ → VirtualState
      after x y = record t { memory = store_bytes 8 t.memory ((x + offset) % 2 ^ 64) y; pc = suc t.pc }

      parts : (at : ℕ) → may_store w.layout.region w.top at ≡ true
          → (at % 8 ≡ 0) × (w.layout.region ≤ at) × (at + 8 ≤ w.top)
      parts at m = grind arith

      stored : (x y : ℕ) → value t a ≡ Some x → value t b ≡ Some y
          → may_store w.layout.region w.top ((x + offset) % 2 ^ 64) ≡ true
          → Reached (register_price f.first a + (register_price f.first b + 1)) t (after x y) s
      stored x y xe ye m =
          let at : ℕ = (x + offset) % 2 ^ 64 in
          let t1 : VirtualState = after x y in
          let p = parts at m in
          let q = p.2 in
          let r = w.lies.stack in
          let c0 = code_of t s on (Store b a offset) here tt in
          fetch w t t1 (On w t1) (register_price f.first b + 1) s on.body 28 a x
          ((fetch_items f.first 29 b ++ last) ++ rest) (omega arith) xe
          (has_item-append (fetch_items f.first 29 b ++ last) rest (has_rest w f (suc t.pc)))
          (regrouped (program w) (fetch_items f.first 28 a) (fetch_items f.first 29 b ++ last) rest c0) (λ s1 f1 c1.
          fetch w t t1 (On w t1) 1 s1 f1.body 29 b y (last ++ rest) (omega arith) ye
          (has_item-append last rest (has_rest w f (suc t.pc)))
          (regrouped (program w) (fetch_items f.first 29 b) last rest c1) (λ s2 f2 c2.
          let r1 : ℕ = register_for 28 a in
          let r2 : ℕ = register_for 29 b in
          let xr : get_reg s2.regs r1 ≡ x = f2.others r1 (kept t a x xe) ∙ f1.there in
          let body : Body w t s2 = f2.body in
          let memory : Memory = store_bytes 8 s2.memory at y in
          let below : at + 8 ≤ w.layout.end = omega arith in
          does (program w) (Way w t t1) (On w t1) s2 s2.regs memory c2 (has_rest w f (suc t.pc))
          (λ ecall ebreak pc. stores w s2 r2 r1 at offset pc ecall ebreak body.layout
          (ap (λ z. (z + offset) % 2 ^ 64) xr) p.0 p.1 below
          ∙ ap (λ z. Next (record s2 { memory = store_bytes 8 s2.memory at z; pc = add pc 4 })) f2.there)
          (way_first w t t1 s2 (seen_of w t s2 body)) (λ n c3.
          is_there (program w) (Way w t t1) (On w t1) (record {
            body = record {
              regs = body.regs;
              limit = body.limit;
              memory = stored_same w.top s2.memory t.memory at y body.memory;
              world = body.world;
              layout = body.layout;
              fits = body.fits;
              bytes = stored_fits s2.memory at y body.bytes;
              above = body.above;
              stack = stack_same w s2.memory memory (s2.regs 2) t.active t.frames
                  (λ i h. sym (stored_outside 8 s2.memory at y i (inr (let z = body.above in omega (arith, h)))))
                  body.stack;
            };
            home = on.home;
            code = c3;
          }))))

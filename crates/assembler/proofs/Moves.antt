-- What each item does, its words do.
use Rattle.std.proofs.Common.{ℕ, zero, suc, ◌+◌, ◌-◌, ◌*◌, ◌/◌, ◌%◌, ◌^◌, ◌<◌, ◌≤◌, ◌≡◌, inl, Bool, true, false, List}
use Rattle.std.proofs.Common.{[], ◌∷◌, ◌++◌, length, drop, Option, Some, None, refl, sym, ◌∙◌, ap, subst, arith}
use Rattle.std.specs.Prelude.{ℤ, pos, negsuc, ◌==◌, ◌&&◌, not, nat_le, if◌then◌else◌, Contains, slice_index_or, All}
use Rattle.run_laws.specs.Runs.{Ending, Verdict, Exhausted, Wrong}
use Rattle.run_laws.specs.Machines.{Next as Step, Go, Machine, Reaches, Alike, UnlessWrong}
use Rattle.run_laws.specs.Meters.{metered, each_one, unspent, OnBudget, CostSimulation}
use Rattle.run_laws.proofs.Public.{by_step, reaches_weaken}
use Rattle.rv_isa.specs.declared.inst.Inst.{Inst}
use Rattle.rv_isa.specs.declared.inst.Inst.TheVariants.{Jal, Jalr, Addi, Lui, Ecall, Ebreak}
use Rattle.machine_words.specs.declared.conditions.Cond.{Cond}
use Rattle.machine_words.specs.declared.conditions.Cond.TheVariants.{Eq, Ne, Lt, Ge, Ltu, Geu}
use Rattle.rv_machine.specs.declared.real.RealItem.{RealItem}
use Rattle.rv_machine.specs.declared.real.RealItem.TheVariants.{Op, Mark, Jump, Branch, Address}
use Rattle.rv_machine.specs.Branches.{branch_when}
use Rattle.machine_words.specs.Memory.{Memory}
use Rattle.rv_machine.specs.Registers.{set_reg}
use Rattle.rv_machine.specs.State.{Layout, State, Turn, Next, Stops, reg}
use Rattle.machine_words.specs.Halts.{Halt}
use Rattle.rv_machine.specs.Turn.{act, act_with, put, branch_if, jump_and_link, next_pc}
use Rattle.machine_words.specs.Arithmetic.{plus, subtract, half}
use Rattle.rv_machine.specs.Mach.{step_by}
use Rattle.rv_machine.specs.Real.{Setting, Here, mark_address, item_at, turn_in, is_lost, needs_next}
use Rattle.rv_machine.specs.Real.{last_step, op_step, jump_step, branch_step, address_step, item_step, step_here}
use Rattle.machine_words.specs.Conditions.{holds}
use Rattle.rv_machine.proofs.Public.{drop_next, a_condition_is_that_of_its_branch}
use Rattle.assembler.specs.Layout.{longest_widths, is_near, mark_place, address_of, width}
use Rattle.assembler.specs.Expansion.{offset, opposite, far_insts, insts_of, target_of}
use Rattle.assembler.specs.Conditions.{registers_named, IsPlaced, is_mark}
use Rattle.assembler.specs.Prices.{real_price, price_here, state_price}
use Rattle.assembler.specs.Following.{IsLike, ComeToLike, LeavesCode}
use Rattle.assembler.proofs.Distances.{lies_below}
use Rattle.assembler.proofs.Finding.{width_at, Found, found, address_next, next_address, mark_lies}
use Rattle.assembler.proofs.Turns.{first, second, like_reg, like_set, like_act, leaves_act, plain_act}
use Rattle.assembler.proofs.Scratch.{near_word_is}
use Rattle.assembler.proofs.Standing.{calls, InCode, Stands, Intact, turn_of_call, turn_of_inst, Within, pc_next}
use Rattle.assembler.proofs.Standing.{turn_within, puts, far}
use Rattle.assembler.proofs.Counting.{counted}
use Rattle.assembler.proofs.Relation.{setting as setting_of, M as code_machine, N as image_machine}
use Rattle.assembler.proofs.Relation.{alike_of as are_alike}
use Rattle.assembler.proofs.Relation.{Prepared as IsPrepared, Related as AreRelated, Sim as DoesWithin}

-- ---- what the conditions say of the item at a place

stands_at : {X : Type 0} (place : ℕ) (xs : List X) (x : X) (rest : List X) → drop place xs ≡ x ∷ rest
    → (place < length xs) × (slice_index_or xs place x ≡ x)
stands_at zero [] x rest e = absurd (let f : ⊥ = cc in f)
stands_at (suc place) [] x rest e = absurd (let f : ⊥ = cc in f)
stands_at zero (y ∷ ys) x rest e = (omega arith, let f : y ≡ x = cc in f)
stands_at (suc place) (y ∷ ys) x rest e = let a = stands_at place ys x rest e in (let b = a.0 in omega arith, a.1)

pub all_at : {X : Type 0} (P : X → Type 0) (place : ℕ) (xs : List X) (x : X) (rest : List X) → All P xs
    → drop place xs ≡ x ∷ rest → P x
all_at P place xs x rest a e = let h = stands_at place xs x rest e in subst P h.1 (a place x h.0)

-- ---- offsets

plus_offset : (here target : ℕ) → here < 2 ^ 63 → target < 2 ^ 63 → plus here (offset here target) ≡ target
plus_offset here target h k = at (nat_le here target) refl
  where
    at : (b : Bool) → nat_le here target ≡ b
        → plus here (if b then pos (target - here) else negsuc (here - suc target)) ≡ target
    at true e = let a : here ≤ target = grind arith in omega arith
    at false e = let a : target < here = grind arith in omega arith

turned : (cond : Cond) (x y : ℕ) → holds (opposite cond) x y ≡ not (holds cond x y)
turned Eq x y = refl
turned Ne x y = twice (x == y)
  where
    twice : (b : Bool) → b ≡ not (not b)
    twice true = refl
    twice false = refl
turned Lt x y = refl
turned Ge x y = twice _
  where
    twice : (b : Bool) → b ≡ not (not b)
    twice true = refl
    twice false = refl
turned Ltu x y = refl
turned Geu x y = twice _
  where
    twice : (b : Bool) → b ≡ not (not b)
    twice true = refl
    twice false = refl

set_zero : (rd word : ℕ) (regs : ℕ → ℕ) (r : ℕ) → (rd == 0) ≡ true → set_reg rd word regs r ≡ regs r
set_zero rd word regs r h = at (r == rd)
  where
    at : (b : Bool) → (if b && not (rd == 0) then word else regs r) ≡ regs r
    at true = rw h refl
    at false = refl

unless : {V X : Type 0} (e : Ending V) → X → UnlessWrong e X
unless (Verdict v) x = x
unless Exhausted x = x
unless Wrong x = tt

module _ {V : Type 0} (reading : Halt → Ending V) (l : Layout) (m0 : Memory) (items : List RealItem)
    (ecall ebreak : ℕ → State → Turn) where
  abbrev address : ℕ → ℕ
  address = address_of items l.code

  abbrev setting : Setting
  setting = setting_of reading l m0 items ecall ebreak

  abbrev M : Machine State State V
  M = code_machine reading l m0 items ecall ebreak

  abbrev N : Machine State State V
  N = image_machine reading l m0 items ecall ebreak

  abbrev Prepared : Type 0
  Prepared = IsPrepared reading l m0 items ecall ebreak

  abbrev Related : State → State → Type 0
  Related = AreRelated reading l m0 items ecall ebreak

  abbrev Sim : ℕ → State → State → Step State V → Type 0
  Sim = DoesWithin reading l m0 items ecall ebreak

  abbrev alike_of : (s t : State) → IsLike t s → Alike IsLike M N s t
  alike_of = are_alike reading l m0 items ecall ebreak

  -- some turns, of which the last leads to where the item leads
  goes : (most k : ℕ) (s s1 t : State) → 0 < k → k ≤ most → Reaches N (λ u. IsLike u s) (Related s1) k t
      → Sim most s t (Go s1)
  goes most k s s1 t h b r = (
    k,
    inl h,
    reaches_weaken (metered each_one N) _ (λ u. Related s1 u.rest × (u.spent ≤ most))
        (OnBudget IsLike M N s s1 most) (λ u. Related s1 u.rest × (u.spent ≤ most))
        (λ u p. (inl (alike_of s u.rest p.0), p.1)) (λ u q. q) k (unspent t)
        (counted N (λ u. IsLike u s) (Related s1) most k 0 t (omega arith) r),
  )

  -- one turn that comes to the same
  does_turn : (x y : Turn) (s t : State) → ComeToLike x y → Related s t → turn_in items setting t ≡ x → LeavesCode t x
      → Sim 1 s t (step_by reading s y)
  does_turn (Next t1) (Next s1) s t c r e k =
      goes 1 1 s s1 t (omega arith) (omega arith)
      (by_step N (λ u. IsLike u s) (Related s1) 0 t (Go t1) (ap (step_by reading t) e) r.like (record {
        like = c.0;
        pc = c.1;
        layout = k.0 ∙ r.layout;
        intact = λ at a b. k.1 at (rw r.layout a) (rw r.layout b) ∙ r.intact at a b;
      }))
  does_turn (Stops halt) (Stops other) s t c r e k =
      unless (reading other) (
        0,
        (
          (inl (alike_of s t r.like), omega arith),
          (t, ap (step_by reading t) (e ∙ ap Stops c), alike_of s t r.like, omega arith),
        ),
      )
  does_turn (Next t1) (Stops other) s t c r e k = absurd c
  does_turn (Stops halt) (Next s1) s t c r e k = absurd c

  does_if : (lost : Bool) (x : Turn) (s s1 t : State) → ComeToLike x (Next s1) → Related s t
      → turn_in items setting t ≡ x → LeavesCode t x → Sim 1 s t (if lost then is_lost s else Go s1)
  does_if true x s s1 t c r e k = tt
  does_if false x s s1 t c r e k = does_turn x (Next s1) s t c r e k

  does_last : (i : Inst) (x y : Turn) (s t : State) → ComeToLike x y → Related s t → turn_in items setting t ≡ x
      → LeavesCode t x → Sim 1 s t (last_step reading i s y)
  does_last i x (Next s1) s t c r e k = does_if (needs_next i s s1) x s s1 t c r e k
  does_last i x (Stops other) s t c r e k = does_turn x (Stops other) s t c r e k

  module _ (p : Prepared) where
    -- ---- instructions

    op_turn : (place : ℕ) (i : Inst) (rest : List RealItem) (next : Option ℕ) → drop place items ≡ Op i ∷ rest
        → (t : State) → t.layout ≡ l → Intact l m0 t.memory → t.pc ≡ address place
        → item_at address items t.pc ≡ Some (record { place = place; item = Op i; next = next })
        → turn_in items setting t ≡ act_with (ecall place) (ebreak place) i t
    op_turn place Ecall rest next there t e h q k =
        turn_of_call l m0 items ecall ebreak t (record { place = place; item = Op Ecall; next = next })
        (ecall place) e (subst (InCode l m0) (sym q) (p.call place (Op Ecall) rest there refl)) k refl
    op_turn place Ebreak rest next there t e h q k =
        turn_of_call l m0 items ecall ebreak t (record { place = place; item = Op Ebreak; next = next })
        (ebreak place) e (subst (InCode l m0) (sym q) (p.call place (Op Ebreak) rest there refl)) k refl
    op_turn place i rest next there t e h q k =
        turn_of_inst l m0 items ecall ebreak place (Op i) rest there refl refl t i [] e h (omega (arith, q))
        (omega (arith, q)) (subst (λ a. Stands l m0 a (i ∷ [])) (sym q) (p.words place (Op i) rest there refl))
        ∙ plain_act (ecall place) (ebreak place) i refl t

    leaves_op : (place : ℕ) (i : Inst) (t : State) → LeavesCode t (act_with (ecall place) (ebreak place) i t)
    leaves_op place i t =
        leaves_act (ecall place) (ebreak place) (λ u. (p.can_ecall place).leaves u)
        (λ u. (p.can_ebreak place).leaves u) i t

    abbrev at_pc : State → ℕ → State
    at_pc s n = record s { pc = n }

    four_less : (a n : ℕ) → n ≡ a + 4 → a < 2 ^ 62 → subtract n 4 ≡ a
    four_less a n e h = omega arith

    below : (place : ℕ) → address place < 2 ^ 62
    below place = let a = p.inside place in let b = p.small in omega arith

    does_op : (place : ℕ) (i : Inst) (rest : List RealItem) (next : Option ℕ) → drop place items ≡ Op i ∷ rest
        → ((n : ℕ) → next ≡ Some n → n ≡ address (suc place)) → (s t : State) → Related s t → t.pc ≡ address place
        → item_at address items t.pc ≡ Some (record { place = place; item = Op i; next = next })
        → Sim 1 s t (op_step reading (ecall place) (ebreak place) i next s)
    does_op place i rest None there ok s t r q k =
        does_last i (act_with (ecall place) (ebreak place) i t) (act_with (ecall place) (ebreak place) i s) s t
        (like_act (ecall place) (ebreak place) (p.can_ecall place) (p.can_ebreak place) i
        (all_at IsPlaced place items (Op i) rest p.can.placed there)
        (all_at (λ item. ¬ Contains (registers_named item) 31) place items (Op i) rest p.can.scratch there) t s
        r.like r.pc)
        r (op_turn place i rest None there t r.layout r.intact q k) (leaves_op place i t)
    does_op place i rest (Some n) there ok s t r q k =
        let a : address (suc place) ≡ address place + 4 = address_next items l.code place (Op i) rest there in
        let m : subtract n 4 ≡ address place = four_less (address place) n (ok n refl ∙ a) (below place) in
        let s0 : State = at_pc s (subtract n 4) in
        does_turn (act_with (ecall place) (ebreak place) i t) (act_with (ecall place) (ebreak place) i s0) s t
        (like_act (ecall place) (ebreak place) (p.can_ecall place) (p.can_ebreak place) i
        (all_at IsPlaced place items (Op i) rest p.can.placed there)
        (all_at (λ item. ¬ Contains (registers_named item) 31) place items (Op i) rest p.can.scratch there) t s0
        (record { layout = r.like.layout; regs = r.like.regs; memory = r.like.memory; world = r.like.world })
        (q ∙ sym m))
        r (op_turn place i rest (Some n) there t r.layout r.intact q k) (leaves_op place i t)

    -- ---- the other items

    divides : (place : ℕ) → address place % 4 ≡ 0
    divides place = let a = p.whole in omega arith

    module _ (place : ℕ) (item : RealItem) (rest : List RealItem) (there : drop place items ≡ item ∷ rest)
        (mark : is_mark item ≡ false) (plain : calls item ≡ false) (s : State) where
      abbrev InItem : ℕ → List Inst → State → Type 0
      InItem n is t = Within l m0 items ecall ebreak place item rest there mark plain s n is t

      abbrev words_of : ℕ
      words_of = width_at items l.code place item

      abbrev Way : State → Type 0
      Way t = IsLike t s

      -- the target of the item, the address of the next, and where the item begins
      abbrev target : ℕ
      target = target_of items l.code item

      abbrev after : ℕ
      after = address (suc place)

      begins : (near : Bool) → is_near (longest_widths items) items l.code place item ≡ near → (t : State)
          → Related s t → t.pc ≡ address place → InItem 0 (insts_of near (address place) target item) t
      begins near e t r q = record {
        like = r.like;
        layout = r.layout;
        intact = r.intact;
        pc = omega (arith, q);
        code = subst (λ a. Stands l m0 a (insts_of near (address place) target item)) (sym q)
            (subst (λ b. Stands l m0 (address place) (insts_of b (address place) target item)) e
            (p.words place item rest there plain));
      }

      words_are : (near : Bool) → is_near (longest_widths items) items l.code place item ≡ near
          → words_of ≡ width near item
      words_are near e = ap (λ b. width b item) e

      after_is : after ≡ address place + 4 * words_of
      after_is = address_next items l.code place item rest there

      -- the turn that ends the item: a register is set, and the run goes on at an address
      ends : (rd word to n : ℕ) (t : State) (i : Inst) (is : List Inst) → InItem n (i ∷ is) t → n < words_of
          → act i t ≡ Next (record t { regs = set_reg rd word t.regs; pc = to })
          → Reaches N Way (Related (record s { regs = set_reg rd word s.regs; pc = to })) 1 t
      ends rd word to n t i is w h a =
          by_step N Way (Related (record s { regs = set_reg rd word s.regs; pc = to })) 0 t
          (Go (record t { regs = set_reg rd word t.regs; pc = to }))
          (ap (step_by reading t) (turn_within l m0 items ecall ebreak place item rest there mark plain p.small s
          n t i is w h ∙ a)) w.like (record {
            like = record {
              layout = w.like.layout;
              regs = like_set rd word t s w.like;
              memory = w.like.memory;
              world = w.like.world;
            };
            pc = refl;
            layout = w.layout;
            intact = w.intact;
          })

      -- the turn that ends a branch
      passes : (to n : ℕ) (t : State) (i : Inst) (is : List Inst) → InItem n (i ∷ is) t → n < words_of
          → act i t ≡ Next (record t { pc = to }) → Reaches N Way (Related (record s { pc = to })) 1 t
      passes to n t i is w h a =
          by_step N Way (Related (record s { pc = to })) 0 t (Go (record t { pc = to }))
          (ap (step_by reading t) (turn_within l m0 items ecall ebreak place item rest there mark plain p.small s
          n t i is w h ∙ a)) w.like (record {
            like = record { layout = w.like.layout; regs = w.like.regs; memory = w.like.memory; world = w.like.world };
            pc = refl;
            layout = w.layout;
            intact = w.intact;
          })

      next_is : (n : ℕ) (t : State) (i : Inst) (is : List Inst) → InItem n (i ∷ is) t
          → next_pc t ≡ address place + 4 * n + 4
      next_is n t i is w =
          pc_next l m0 items ecall ebreak place item rest there mark plain p.small s n t i is w ∙ ap (λ x. x + 4) w.pc

      jump_to : (rd at to link : ℕ) (t : State) → at ≡ to → to % 4 ≡ 0 → next_pc t ≡ link
          → jump_and_link rd at t ≡ Next (record t { regs = set_reg rd link t.regs; pc = to })
      jump_to rd at to link t e z k = rw (e, z, k) refl

    -- ---- jumps

    module _ (place : ℕ) (rd wanted : ℕ) (rest : List RealItem) (there : drop place items ≡ Jump rd wanted ∷ rest)
        (s : State) where
      abbrev jump : RealItem
      jump = Jump rd wanted

      abbrev jump_end : State
      jump_end = record s { regs = set_reg rd (address (suc place)) s.regs; pc = address (mark_place wanted items) }

      jumped : (near : Bool) → is_near (longest_widths items) items l.code place jump ≡ near → (t : State)
          → Related s t → t.pc ≡ address place → (k : ℕ) × (0 < k) × (k ≤ 10)
          × Reaches N (λ u. IsLike u s) (Related jump_end) k t
      jumped true e t r q =
          let w = begins place jump rest there refl refl s true e t r q in
          let wide : width_at items l.code place jump ≡ 1 = words_are place jump rest there refl refl s true e in
          let link : next_pc t ≡ address (suc place) = next_is place jump rest there refl refl s 0 t
          (Jal rd (offset (address place) (address (mark_place wanted items)))) [] w
          ∙ (let a = after_is place jump rest there refl refl s in omega arith) in
          let to : plus t.pc (offset (address place) (address (mark_place wanted items)))
          ≡ address (mark_place wanted items) =
          ap (λ x. plus x (offset (address place) (address (mark_place wanted items)))) q
          ∙ plus_offset (address place) (address (mark_place wanted items)) (let a = below place in
          omega arith) (let a = below (mark_place wanted items) in omega arith) in (
            1,
            omega arith,
            omega arith,
            ends place jump rest there refl refl s rd (address (suc place)) (address (mark_place wanted items)) 0 t
                (Jal rd (offset (address place) (address (mark_place wanted items)))) [] w (omega arith)
                (jump_to place jump rest there refl refl s rd _ (address (mark_place wanted items))
                (address (suc place)) t to (divides (mark_place wanted items)) link),
          )
      jumped false e t r q =
          let w = begins place jump rest there refl refl s false e t r q in
          let wide : width_at items l.code place jump ≡ 10 = words_are place jump rest there refl refl s false e in
          let small : address (mark_place wanted items) < 2 ^ 64 = let a = below (mark_place wanted items) in
          omega arith in (
            10,
            omega arith,
            omega arith,
            far l m0 items ecall ebreak place jump rest there refl refl p.small s reading (Related jump_end) 1 0
                (address (mark_place wanted items)) t (Jalr rd 31 (pos 0) ∷ []) small w (omega arith) (λ t1 w1 v.
                let link : next_pc t1 ≡ address (suc place) = next_is place jump rest there refl refl s 9 t1
                (Jalr rd 31 (pos 0)) [] w1 ∙ (let a = after_is place jump rest there refl refl s in omega arith) in
                let to : plus (reg t1 31) (pos 0) - plus (reg t1 31) (pos 0) % 2
                ≡ address (mark_place wanted items) =
                ap (λ x. plus x (pos 0) - plus x (pos 0) % 2) v ∙ (let d = divides (mark_place wanted items) in
                let c : plus (address (mark_place wanted items)) (pos 0) - plus
                (address (mark_place wanted items)) (pos 0) % 2 ≡ address (mark_place wanted items) =
                omega arith in c) in
                ends place jump rest there refl refl s rd (address (suc place))
                (address (mark_place wanted items)) 9 t1 (Jalr rd 31 (pos 0)) [] w1 (omega arith)
                (jump_to place jump rest there refl refl s rd _ (address (mark_place wanted items))
                (address (suc place)) t1 to (divides (mark_place wanted items)) link)),
          )

      unlinked : (rd == 0) ≡ true → (u : State) → Related jump_end u
          → Related (record s { pc = address (mark_place wanted items) }) u
      unlinked z u r = record {
        like = record {
          layout = r.like.layout;
          regs = λ n h. r.like.regs n h
              ∙ set_zero rd (address (suc place)) s.regs n z;
          memory = r.like.memory;
          world = r.like.world;
        };
        pc = r.pc;
        layout = r.layout;
        intact = r.intact;
      }

      without_link : (b : Bool) → (rd == 0) ≡ b → (t : State) → (k : ℕ) × (0 < k) × (k ≤ 10)
          × Reaches N (λ u. IsLike u s) (Related jump_end) k t
          → Sim 10 s t (if b then Go (record s { pc = address (mark_place wanted items) }) else is_lost s)
      without_link false z t g = tt
      without_link true z t g =
          goes 10 g.0 s (record s { pc = address (mark_place wanted items) }) t g.1 g.2
          (reaches_weaken N (λ u. IsLike u s) (Related jump_end) (λ u. IsLike u s)
          (Related (record s { pc = address (mark_place wanted items) })) (λ u h. h) (unlinked z) g.0 t g.3)

      does_jump : (mark next : Option ℕ) → ((n : ℕ) → mark ≡ Some n → n ≡ address (mark_place wanted items))
          → ((n : ℕ) → next ≡ Some n → n ≡ address (suc place)) → (t : State) → Related s t → t.pc ≡ address place
          → Sim 10 s t (jump_step rd mark next s)
      does_jump None next f g t r q = tt
      does_jump (Some to) (Some n) f g t r q =
          let j = jumped (is_near (longest_widths items) items l.code place jump) refl t r q in
          rw (f to refl, g n refl) (goes 10 j.0 s jump_end t j.1 j.2 j.3)
      does_jump (Some to) None f g t r q =
          let j = jumped (is_near (longest_widths items) items l.code place jump) refl t r q in
          rw (f to refl) (without_link (rd == 0) refl t j)

    -- ---- branches

    module _ (place : ℕ) (cond : Cond) (a b wanted : ℕ) (rest : List RealItem)
        (there : drop place items ≡ Branch cond a b wanted ∷ rest) (s : State) where
      abbrev branch : RealItem
      branch = Branch cond a b wanted

      abbrev goal : ℕ
      goal = address (mark_place wanted items)

      abbrev taken_end : State
      taken_end = record s { pc = goal }

      abbrev passed_end : State
      passed_end = record s { pc = address (suc place) }

      same_test : (c : Cond) (t : State) → IsLike t s → holds c (reg t a) (reg t b) ≡ holds c (reg s a) (reg s b)
      same_test c t k =
          let n = all_at (λ item. ¬ Contains (registers_named item) 31) place items branch rest p.can.scratch there in
          ap (λ x. holds c x (reg t b)) (like_reg a t s k (first a (b ∷ []) n))
          ∙ ap (λ x. holds c (reg s a) x) (like_reg b t s k (second a b [] n))

      -- the turn of a branch instruction
      test_turn : (c : Cond) (off : ℤ) (t : State) (v : Bool) → IsLike t s → holds c (reg s a) (reg s b) ≡ v
          → act (branch_when c a b off) t ≡ branch_if v off t
      test_turn c off t v k e =
          a_condition_is_that_of_its_branch c a b off t ∙ ap (λ x. branch_if x off t) (same_test c t k ∙ e)

      taken_turn : (off : ℤ) (to : ℕ) (t : State) → plus t.pc off ≡ to → to % 4 ≡ 0
          → branch_if true off t ≡ Next (record t { pc = to })
      taken_turn off to t e z = rw (e, z) refl

      passed_turn : (off : ℤ) (to : ℕ) (t : State) → next_pc t ≡ to
          → branch_if false off t ≡ Next (record t { pc = to })
      passed_turn off to t e = rw e refl

      -- the near form
      abbrev near_off : ℤ
      near_off = offset (address place) goal

      near_taken : is_near (longest_widths items) items l.code place branch ≡ true
          → holds cond (reg s a) (reg s b) ≡ true → (t : State) → Related s t → t.pc ≡ address place
          → Reaches N (λ u. IsLike u s) (Related taken_end) 1 t
      near_taken e h t r q =
          let w = begins place branch rest there refl refl s true e t r q in
          let wide : width_at items l.code place branch ≡ 1 = words_are place branch rest there refl refl s true e in
          let to : plus t.pc near_off ≡ goal = ap (λ x. plus x near_off) q
          ∙ plus_offset (address place) goal (let x = below place in
          omega arith) (let x = below (mark_place wanted items) in omega arith) in
          passes place branch rest there refl refl s goal 0 t (branch_when cond a b near_off) [] w (omega arith)
          (test_turn cond near_off t true r.like h
          ∙ taken_turn near_off goal t to (divides (mark_place wanted items)))

      near_passed : is_near (longest_widths items) items l.code place branch ≡ true
          → holds cond (reg s a) (reg s b) ≡ false → (t : State) → Related s t → t.pc ≡ address place
          → Reaches N (λ u. IsLike u s) (Related passed_end) 1 t
      near_passed e h t r q =
          let w = begins place branch rest there refl refl s true e t r q in
          let wide : width_at items l.code place branch ≡ 1 = words_are place branch rest there refl refl s true e in
          let to : next_pc t ≡ address (suc place) = next_is place branch rest there refl refl s 0 t
          (branch_when cond a b near_off) [] w ∙ (let x = after_is place branch rest there refl refl s in
          omega arith) in
          passes place branch rest there refl refl s (address (suc place)) 0 t (branch_when cond a b near_off) [] w
          (omega arith) (test_turn cond near_off t false r.like h ∙ passed_turn near_off (address (suc place)) t to)

      -- the far form
      opposite_is : (v : Bool) → holds cond (reg s a) (reg s b) ≡ v → holds (opposite cond) (reg s a) (reg s b) ≡ not v
      opposite_is v h = turned cond (reg s a) (reg s b) ∙ ap not h

      abbrev jump_insts : List Inst
      jump_insts = far_insts goal ++ Jalr 0 31 (pos 0) ∷ []

      far_passed : is_near (longest_widths items) items l.code place branch ≡ false
          → holds cond (reg s a) (reg s b) ≡ false → (t : State) → Related s t → t.pc ≡ address place
          → Reaches N (λ u. IsLike u s) (Related passed_end) 1 t
      far_passed e h t r q =
          let w = begins place branch rest there refl refl s false e t r q in
          let wide : width_at items l.code place branch ≡ 11 = words_are place branch rest there refl refl s false e in
          let to : plus t.pc (pos 44) ≡ address (suc place) = (let x = after_is place branch rest there refl refl s in
          let y = below place in omega arith) in
          passes place branch rest there refl refl s (address (suc place)) 0 t
          (branch_when (opposite cond) a b (pos 44)) jump_insts w (omega arith)
          (test_turn (opposite cond) (pos 44) t true r.like (opposite_is false h)
          ∙ taken_turn (pos 44) (address (suc place)) t to (divides (suc place)))

      no_link : (u : State) → Related (record s { regs = set_reg 0 (address (suc place)) s.regs; pc = goal }) u
          → Related taken_end u
      no_link u r = record {
        like = record {
          layout = r.like.layout;
          regs = λ n h. r.like.regs n h
              ∙ set_zero 0 (address (suc place)) s.regs n refl;
          memory = r.like.memory;
          world = r.like.world;
        };
        pc = r.pc;
        layout = r.layout;
        intact = r.intact;
      }

      far_taken : is_near (longest_widths items) items l.code place branch ≡ false
          → holds cond (reg s a) (reg s b) ≡ true → (t : State) → Related s t → t.pc ≡ address place
          → Reaches N (λ u. IsLike u s) (Related taken_end) 11 t
      far_taken e h t r q =
          let w = begins place branch rest there refl refl s false e t r q in
          let wide : width_at items l.code place branch ≡ 11 = words_are place branch rest there refl refl s false e in
          let small : goal < 2 ^ 64 = let x = below (mark_place wanted items) in omega arith in
          let next : next_pc t ≡ address place + 4 * 0 + 4 = next_is place branch rest there refl refl s 0 t
          (branch_when (opposite cond) a b (pos 44)) jump_insts w in
          let t1 : State = record t { pc = next_pc t } in
          by_step N (λ u. IsLike u s) (Related taken_end) 10 t (Go t1)
          (ap (step_by reading t) (turn_within l m0 items ecall ebreak place branch rest there refl refl p.small s
          0 t (branch_when (opposite cond) a b (pos 44)) jump_insts w (omega arith)
          ∙ (test_turn (opposite cond) (pos 44) t false r.like (opposite_is true h)
          ∙ passed_turn (pos 44) (next_pc t) t refl))) r.like
          (far l m0 items ecall ebreak place branch rest there refl refl p.small s reading
          (Related taken_end) 1 1 goal t1 (Jalr 0 31 (pos 0) ∷ []) small (record {
            like = record { layout = r.like.layout; regs = r.like.regs; memory = r.like.memory; world = r.like.world };
            layout = r.layout;
            intact = r.intact;
            pc = omega arith;
            code = subst (λ x. Stands l m0 x jump_insts) (let x = w.pc in
                let y : t.pc + 4 ≡ next_pc t = omega arith in y) w.code.2;
          }) (omega arith) (λ t2 w2 v.
          let link : next_pc t2 ≡ address (suc place) = next_is place branch rest there refl refl s 10 t2
          (Jalr 0 31 (pos 0)) [] w2 ∙ (let x = after_is place branch rest there refl refl s in omega arith) in
          let to : plus (reg t2 31) (pos 0) - plus (reg t2 31) (pos 0) % 2
          ≡ goal = ap (λ x. plus x (pos 0) - plus x (pos 0) % 2) v ∙ (let d = divides (mark_place wanted items) in
          let c : plus goal (pos 0) - plus goal (pos 0) % 2 ≡ goal = omega arith in c) in
          reaches_weaken N (λ u. IsLike u s) (Related
          (record s { regs = set_reg 0 (address (suc place)) s.regs; pc = goal })) (λ u. IsLike u s)
          (Related taken_end) (λ u k. k) no_link 1 t2
          (ends place branch rest there refl refl s 0 (address (suc place)) goal 10 t2 (Jalr 0 31 (pos 0)) [] w2
          (omega arith) (jump_to place branch rest there refl refl s 0 _ goal (address (suc place)) t2 to
          (divides (mark_place wanted items)) link))))

      to_mark : (near : Bool) → is_near (longest_widths items) items l.code place branch ≡ near
          → holds cond (reg s a) (reg s b) ≡ true → (t : State) → Related s t → t.pc ≡ address place
          → Sim 11 s t (Go taken_end)
      to_mark true e h t r q = goes 11 1 s taken_end t (omega arith) (omega arith) (near_taken e h t r q)
      to_mark false e h t r q = goes 11 11 s taken_end t (omega arith) (omega arith) (far_taken e h t r q)

      to_next : (near : Bool) → is_near (longest_widths items) items l.code place branch ≡ near
          → holds cond (reg s a) (reg s b) ≡ false → (t : State) → Related s t → t.pc ≡ address place
          → Sim 11 s t (Go passed_end)
      to_next true e h t r q = goes 11 1 s passed_end t (omega arith) (omega arith) (near_passed e h t r q)
      to_next false e h t r q = goes 11 1 s passed_end t (omega arith) (omega arith) (far_passed e h t r q)

      does_branch : (v : Bool) (mark next : Option ℕ) → holds cond (reg s a) (reg s b) ≡ v
          → ((n : ℕ) → mark ≡ Some n → n ≡ goal) → ((n : ℕ) → next ≡ Some n → n ≡ address (suc place)) → (t : State)
          → Related s t → t.pc ≡ address place → Sim 11 s t (branch_step v mark next s)
      does_branch true None next h f g t r q = tt
      does_branch true (Some to) next h f g t r q =
          rw (f to refl) (to_mark (is_near (longest_widths items) items l.code place branch) refl h t r q)
      does_branch false mark None h f g t r q = tt
      does_branch false mark (Some n) h f g t r q =
          rw (g n refl) (to_next (is_near (longest_widths items) items l.code place branch) refl h t r q)

    -- ---- addresses

    near_target : (place rd wanted : ℕ) → is_near (longest_widths items) items l.code place (Address rd wanted) ≡ true
        → address (mark_place wanted items) < 2147483648
    near_target place rd wanted e = lies_below items l.code (mark_place wanted items) e

    module _ (place rd wanted : ℕ) (rest : List RealItem) (there : drop place items ≡ Address rd wanted ∷ rest)
        (s : State) where
      abbrev item : RealItem
      item = Address rd wanted

      abbrev word : ℕ
      word = address (mark_place wanted items)

      abbrev put_end : State
      put_end = record s { regs = set_reg rd word s.regs; pc = address (suc place) }

      abbrev half_low : ℕ
      half_low = word % 4096 / 2

      put_turn : (v to : ℕ) (t : State) → v ≡ word → next_pc t ≡ to
          → put rd v t ≡ Next (record t { regs = set_reg rd word t.regs; pc = to })
      put_turn v to t e k = rw (e, k) refl

      addressed : (near : Bool) → is_near (longest_widths items) items l.code place item ≡ near → (t : State)
          → Related s t → t.pc ≡ address place → (k : ℕ) × (0 < k) × (k ≤ 10)
          × Reaches N (λ u. IsLike u s) (Related put_end) k t
      addressed true e t r q =
          let w = begins place item rest there refl refl s true e t r q in
          let wide : width_at items l.code place item ≡ 3 = words_are place item rest there refl refl s true e in
          let even : word % 2 ≡ 0 = let d = divides (mark_place wanted items) in omega arith in
          let v0 : ℕ = half (word / 4096 * 2 ^ 12) in
          let v1 : ℕ = plus v0 (pos half_low) in (
            3,
            omega arith,
            omega arith,
            puts l m0 items ecall ebreak place item rest there refl refl p.small s reading (Related put_end) 2 0 v0 t
                (Lui 31 (word / 4096)) (Addi 31 31 (pos half_low) ∷ Addi rd 31 (pos half_low) ∷ []) w
                (omega arith) refl (λ t1 w1 e1.
                puts l m0 items ecall ebreak place item rest there refl refl p.small s reading
                (Related put_end) 1 1 v1 t1 (Addi 31 31 (pos half_low)) (Addi rd 31 (pos half_low) ∷ []) w1
                (omega arith) (ap (λ x. put 31 (plus x (pos half_low)) t1) e1) (λ t2 w2 e2.
                let link : next_pc t2 ≡ address (suc place) = next_is place item rest there refl refl s 2 t2
                (Addi rd 31 (pos half_low)) [] w2 ∙ (let a = after_is place item rest there refl refl s in
                omega arith) in
                let value : plus (reg t2 31) (pos half_low) ≡ word = ap (λ x. plus x (pos half_low)) e2
                ∙ near_word_is word (near_target place rd wanted e) even in
                ends place item rest there refl refl s rd word (address (suc place)) 2 t2
                (Addi rd 31 (pos half_low)) [] w2 (omega arith) (put_turn _ (address (suc place)) t2 value link))),
          )
      addressed false e t r q =
          let w = begins place item rest there refl refl s false e t r q in
          let wide : width_at items l.code place item ≡ 10 = words_are place item rest there refl refl s false e in
          let small : word < 2 ^ 64 = let a = below (mark_place wanted items) in omega arith in (
            10,
            omega arith,
            omega arith,
            far l m0 items ecall ebreak place item rest there refl refl p.small s reading (Related put_end) 1 0 word t
                (Addi rd 31 (pos 0) ∷ []) small w (omega arith) (λ t1 w1 v.
                let link : next_pc t1 ≡ address (suc place) = next_is place item rest there refl refl s 9 t1
                (Addi rd 31 (pos 0)) [] w1 ∙ (let a = after_is place item rest there refl refl s in omega arith) in
                let value : plus (reg t1 31) (pos 0) ≡ word = ap (λ x. plus x (pos 0)) v
                ∙ (let c : plus word (pos 0) ≡ word = omega arith in c) in
                ends place item rest there refl refl s rd word (address (suc place)) 9 t1 (Addi rd 31 (pos 0)) [] w1
                (omega arith) (put_turn _ (address (suc place)) t1 value link)),
          )

      does_address : (mark next : Option ℕ) → ((n : ℕ) → mark ≡ Some n → n ≡ word)
          → ((n : ℕ) → next ≡ Some n → n ≡ address (suc place)) → (t : State) → Related s t → t.pc ≡ address place
          → Sim 10 s t (address_step rd mark next s)
      does_address None next f g t r q = tt
      does_address (Some to) None f g t r q = tt
      does_address (Some to) (Some n) f g t r q =
          let j = addressed (is_near (longest_widths items) items l.code place item) refl t r q in
          rw (f to refl, g n refl) (goes 10 j.0 s put_end t j.1 j.2 j.3)

    -- ---- all items

    does_item : (place : ℕ) (item : RealItem) (rest : List RealItem) (next : Option ℕ)
        → drop place items ≡ item ∷ rest → ((n : ℕ) → next ≡ Some n → n ≡ address (suc place)) → (s t : State)
        → Related s t → t.pc ≡ address place → item_at address items t.pc
        ≡ Some (record { place = place; item = item; next = next })
        → Sim (real_price item) s t (item_step reading items setting place next item s)
    does_item place (Op i) rest next there g s t r q k = does_op place i rest next there g s t r q k
    does_item place (Mark mark) rest next there g s t r q k = tt
    does_item place (Jump rd wanted) rest next there g s t r q k =
        does_jump place rd wanted rest there s (mark_address address items wanted) next
        (λ n e. mark_lies items l.code wanted n e) g t r q
    does_item place (Branch cond a b wanted) rest next there g s t r q k =
        does_branch place cond a b wanted rest there s (holds cond (reg s a) (reg s b))
        (mark_address address items wanted) next refl (λ n e. mark_lies items l.code wanted n e) g t r q
    does_item place (Address rd wanted) rest next there g s t r q k =
        does_address place rd wanted rest there s (mark_address address items wanted) next
        (λ n e. mark_lies items l.code wanted n e) g t r q

    does_here : (o : Option Here) (s t : State) → Related s t → item_at address items s.pc ≡ o
        → Sim (price_here o) s t (step_here reading items setting o s)
    does_here None s t r k = tt
    does_here (Some here) s t r k =
        let f : Found items l.code s.pc here = found items l.code s.pc here k in
        does_item here.place here.item f.rest here.next f.stands
        (λ n e. next_address items l.code (suc here.place) f.rest n
        (drop_next items here.place here.item f.rest f.stands).1 (sym f.next ∙ e)) s t r (r.pc ∙ sym f.address)
        (ap (item_at address items) r.pc ∙ k)

    once : (n : ℕ) → n ≡ 1 * n
    once n = omega arith

    pub simulates : CostSimulation IsLike 1 M N (state_price items setting) each_one Related (λ s. 0)
    simulates = record {
      alike = λ s t r. alike_of s t r.like;
      does = λ s t r. subst (λ most. Sim most s t (M.step s)) (once (state_price items setting s))
          (does_here (item_at address items s.pc) s t r refl);
    }

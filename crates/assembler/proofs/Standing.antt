-- Items that stand in code, and the turns that make their instructions.
use Rattle.std.proofs.Common.{ℕ, suc, ◌+◌, ◌*◌, ◌/◌, ◌^◌, ◌<◌, ◌≤◌, ◌≡◌, ◌≢◌, Bool, true, false, List, [], ◌∷◌, ◌++◌}
use Rattle.std.proofs.Common.{drop, Option, Some, None, refl, sym, ◌∙◌, ap, subst, arith}
use Rattle.std.proofs.lemmas.Bool.{true≢false}
use Rattle.std.specs.Prelude.{pos, ◌==◌, ◌&&◌, nat_le, nat_lt}
use Rattle.run_laws.specs.Machines.{Go, Reaches}
use Rattle.run_laws.proofs.Public.{by_step}
use Rattle.rv_isa.specs.declared.inst.Inst.{Inst}
use Rattle.rv_isa.specs.declared.inst.Inst.TheVariants.{Lui, Addi, Slli, Srli, Ecall, Ebreak}
use Rattle.rv_machine.specs.declared.real.RealItem.{RealItem}
use Rattle.rv_machine.specs.declared.real.RealItem.TheVariants.{Op, Mark, Jump, Branch, Address}
use Rattle.rv_isa.specs.Decoding.{decode_of}
use Rattle.machine_words.specs.Memory.{Memory, load_bytes}
use Rattle.rv_machine.specs.Registers.{set_reg}
use Rattle.rv_machine.specs.State.{Layout, State, Turn, reg}
use Rattle.machine_words.specs.Halts.{Halt}
use Rattle.rv_machine.specs.Turn.{act, act_if, put, next_pc}
use Rattle.machine_words.specs.Arithmetic.{plus, half, shift_left, shift_right}
use Rattle.rv_machine.specs.Mach.{step_by}
use Rattle.run_laws.specs.Runs.{Ending}
use Rattle.rv_machine.specs.Real.{Setting, Here, item_at, call_of_item, call_here, call_or_fetched, turn_in, machine_in}
use Rattle.machine_words.proofs.Public.{load_same}
use Rattle.assembler.specs.Layout.{address_of}
use Rattle.assembler.specs.Expansion.{chunk_of, far_insts}
use Rattle.assembler.specs.Conditions.{is_mark}
use Rattle.assembler.specs.Following.{IsLike}
use Rattle.assembler.proofs.Finding.{head_of, width_at, Found, found, same_place}
use Rattle.assembler.proofs.Turns.{is_call}
use Rattle.assembler.proofs.Scratch.{high_part, add_chunk, far_word, far_word_is}

-- whether the item is an ECALL or an EBREAK
abbrev pub calls : RealItem → Bool
calls (Op i) = is_call i
calls item = false

no_call_op : (setting : Setting) (place : ℕ) (i : Inst) → is_call i ≡ false → call_of_item setting place (Op i) ≡ None
no_call_op setting place Ecall c = absurd (true≢false c)
no_call_op setting place Ebreak c = absurd (true≢false c)
no_call_op setting place _ c = refl

pub no_call_item : (setting : Setting) (place : ℕ) (item : RealItem) → calls item ≡ false
    → call_of_item setting place item ≡ None
no_call_item setting place (Mark mark) c = refl
no_call_item setting place (Jump rd mark) c = refl
no_call_item setting place (Branch cond a b mark) c = refl
no_call_item setting place (Address rd mark) c = refl
no_call_item setting place (Op i) c = no_call_op setting place i c

module _ (l : Layout) (m0 : Memory) where
  -- the word lies in code
  abbrev pub InCode : ℕ → Type 0
  InCode at = (l.code ≤ at) × (at + 4 ≤ l.region)

  -- these instructions stand in code from this address on
  abbrev pub Stands : ℕ → List Inst → Type 0
  Stands at [] = Unit {0}
  Stands at (i ∷ is) = (decode_of (load_bytes 4 m0 at) ≡ Some i) × InCode at × Stands (at + 4) is

  -- code is as in m0
  abbrev pub Intact : Memory → Type 0
  Intact m = (at : ℕ) → l.code ≤ at → at < l.region → m at ≡ m0 at

  pub in_code : (a b c : ℕ) → a ≤ b → b < c → (nat_le a b && nat_lt b c) ≡ true
  in_code a b c h k = grind arith

  pub same_word : (m : Memory) (at : ℕ) → Intact m → InCode at → load_bytes 4 m at ≡ load_bytes 4 m0 at
  same_word m at h k =
      load_same 4 m m0 at at (λ i less. let a = k.0 in let b = k.1 in h (at + i) (omega arith) (omega arith))

  module _ (items : List RealItem) (ecall ebreak : ℕ → State → Turn) where
    abbrev pub address : ℕ → ℕ
    address = address_of items l.code

    abbrev pub setting : Setting
    setting = record { address = address; ecall = ecall; ebreak = ebreak }

    turn_known : (t : State) (o : Option (State → Turn)) → t.layout ≡ l → InCode t.pc
        → call_here setting (item_at address items t.pc) ≡ o → turn_in items setting t ≡ call_or_fetched o t
    unfolding turn_in
    turn_known t o e h k =
        let above : t.layout.code ≤ t.pc = rw e h.0 in
        let below : t.pc < t.layout.region = let a = h.1 in rw e (omega arith) in
        rw (in_code t.layout.code t.pc t.layout.region above below, k) refl

    -- an item that begins here
    pub turn_of_call : (t : State) (here : Here) (does : State → Turn) → t.layout ≡ l → InCode t.pc
        → item_at address items t.pc ≡ Some here → call_of_item setting here.place here.item ≡ Some does
        → turn_in items setting t ≡ does t
    turn_of_call t here does e h k d = turn_known t (Some does) e h (ap (call_here setting) k ∙ d)

    module _ (place : ℕ) (item : RealItem) (rest : List RealItem) (there : drop place items ≡ item ∷ rest)
        (m : is_mark item ≡ false) (c : calls item ≡ false) where
      no_call_within : (x : ℕ) (o : Option Here) → item_at address items x ≡ o → address place ≤ x
          → x < address place + 4 * width_at items l.code place item → call_here setting o ≡ None
      no_call_within x None k a b = refl
      no_call_within x (Some here) k a b =
          let f : Found items l.code x here = found items l.code x here k in
          let at = f.address in
          let p : place ≡ here.place = same_place items l.code place here.place item here.item rest f.rest there
          f.stands m f.item (omega arith) (omega arith) in
          let same : drop place items ≡ here.item ∷ f.rest = ap (λ n. drop n items) p ∙ f.stands in
          let i : item ≡ here.item = head_of item here.item rest f.rest (sym there ∙ same) in
          ap (λ x1. call_of_item setting here.place x1) (sym i) ∙ no_call_item setting here.place item c

      pub turn_of_inst : (t : State) (i : Inst) (is : List Inst) → t.layout ≡ l → Intact t.memory
          → address place ≤ t.pc → t.pc < address place + 4 * width_at items l.code place item → Stands t.pc (i ∷ is)
          → turn_in items setting t ≡ act i t
      turn_of_inst t i is e h a b s =
          turn_known t None e s.1 (no_call_within t.pc (item_at address items t.pc) refl a b)
          ∙ ap (λ o. act_if o t) (ap decode_of (same_word t.memory t.pc h s.1) ∙ s.0)

      -- so many words of the item are done, and nothing but x31 has changed; these instructions are left
      pub record Within (s : State) (n : ℕ) (is : List Inst) (t : State) : Type 0 where
        pub like : IsLike t s
        pub layout : t.layout ≡ l
        pub intact : Intact t.memory
        pub pc : t.pc ≡ address place + 4 * n
        pub code : Stands t.pc is

      module _ (small : l.region < 2 ^ 62) (s : State) where
        pub pc_next : (n : ℕ) (t : State) (i : Inst) (is : List Inst) → Within s n (i ∷ is) t → next_pc t ≡ t.pc + 4
        pc_next n t i is w = let a = w.code.1.1 in omega arith

        pub turn_within : (n : ℕ) (t : State) (i : Inst) (is : List Inst) → Within s n (i ∷ is) t
            → n < width_at items l.code place item → turn_in items setting t ≡ act i t
        turn_within n t i is w h =
            let p = w.pc in turn_of_inst t i is w.layout w.intact (omega arith) (omega arith) w.code

        set_scratch : (v : ℕ) (t : State) (r : ℕ) → r ≢ 31 → set_reg 31 v t.regs r ≡ t.regs r
        set_scratch v t r h = let e : (r == 31) ≡ false = grind arith in rw e refl

        module _ {V : Type 0} (reading : Halt → Ending V) (Q : State → Type 0) where
          abbrev Way : State → Type 0
          Way t = IsLike t s

          -- one turn that changes x31
          pub puts : (k n v : ℕ) (t : State) (i : Inst) (is : List Inst) → Within s n (i ∷ is) t
              → n < width_at items l.code place item → act i t ≡ put 31 v t
              → ((t1 : State) → Within s (suc n) is t1 → reg t1 31 ≡ v
              → Reaches (machine_in reading items setting) Way Q k t1)
              → Reaches (machine_in reading items setting) Way Q (suc k) t
          puts k n v t i is w h a go =
              let t1 : State = record t { regs = set_reg 31 v t.regs; pc = next_pc t } in
              let p = w.pc in
              let q = pc_next n t i is w in
              by_step (machine_in reading items setting) Way Q k t (Go t1)
              (ap (step_by reading t) (turn_within n t i is w h ∙ a)) w.like
              (go t1 (record {
                like = record {
                  layout = w.like.layout;
                  regs = λ r z. set_scratch v t r z ∙ w.like.regs r z;
                  memory = w.like.memory;
                  world = w.like.world;
                };
                layout = w.layout;
                intact = w.intact;
                pc = omega arith;
                code = subst (λ x. Stands x is) (sym q) w.code.2;
              }) refl)

          nine : (n : ℕ) (is : List Inst) (t : State)
              → Within s (suc (suc (suc (suc (suc (suc (suc (suc (suc n))))))))) is t → Within s (n + 9) is t
          nine n is t w =
              let e : suc (suc (suc (suc (suc (suc (suc (suc (suc n)))))))) ≡ n + 9 = omega arith in
              subst (λ x. Within s x is t) e w

          -- the nine instructions that put a word into x31
          pub far : (k n word : ℕ) (t : State) (is : List Inst) → word < 2 ^ 64 → Within s n (far_insts word ++ is) t
              → n + 9 ≤ width_at items l.code place item
              → ((t1 : State) → Within s (n + 9) is t1 → reg t1 31 ≡ word
              → Reaches (machine_in reading items setting) Way Q k t1)
              → Reaches (machine_in reading items setting) Way Q
              (suc (suc (suc (suc (suc (suc (suc (suc (suc k))))))))) t
          far k n word t is h w room go =
              let v2 : ℕ = add_chunk (high_part word) word 3 in
              let v3 : ℕ = shift_left v2 11 in
              let v4 : ℕ = add_chunk v3 word 2 in
              let v5 : ℕ = shift_left v4 11 in
              let v6 : ℕ = add_chunk v5 word 1 in
              let v7 : ℕ = shift_left v6 11 in
              puts (suc (suc (suc (suc (suc (suc (suc (suc k)))))))) n (half (word / 2 ^ 44 * 2 ^ 12)) t
              (Lui 31 (word / 2 ^ 44)) _ w (omega arith) refl (λ t1 w1 e1.
              puts (suc (suc (suc (suc (suc (suc (suc k))))))) (suc n) (high_part word) t1 (Srli 31 31 1) _ w1
              (omega arith) (ap (λ x. put 31 (shift_right x 1) t1) e1) (λ t2 w2 e2.
              puts (suc (suc (suc (suc (suc (suc k)))))) (suc (suc n)) v2 t2 (Addi 31 31 (pos (chunk_of word 3))) _ w2
              (omega arith) (ap (λ x. put 31 (plus x (pos (chunk_of word 3))) t2) e2) (λ t3 w3 e3.
              puts (suc (suc (suc (suc (suc k))))) (suc (suc (suc n))) v3 t3 (Slli 31 31 11) _ w3 (omega arith)
              (ap (λ x. put 31 (shift_left x 11) t3) e3) (λ t4 w4 e4.
              puts (suc (suc (suc (suc k)))) (suc (suc (suc (suc n)))) v4 t4 (Addi 31 31 (pos (chunk_of word 2))) _ w4
              (omega arith) (ap (λ x. put 31 (plus x (pos (chunk_of word 2))) t4) e4) (λ t5 w5 e5.
              puts (suc (suc (suc k))) (suc (suc (suc (suc (suc n))))) v5 t5 (Slli 31 31 11) _ w5 (omega arith)
              (ap (λ x. put 31 (shift_left x 11) t5) e5) (λ t6 w6 e6.
              puts (suc (suc k)) (suc (suc (suc (suc (suc (suc n)))))) v6 t6 (Addi 31 31 (pos (chunk_of word 1))) _ w6
              (omega arith) (ap (λ x. put 31 (plus x (pos (chunk_of word 1))) t6) e6) (λ t7 w7 e7.
              puts (suc k) (suc (suc (suc (suc (suc (suc (suc n))))))) v7 t7 (Slli 31 31 11) _ w7 (omega arith)
              (ap (λ x. put 31 (shift_left x 11) t7) e7) (λ t8 w8 e8.
              puts k (suc (suc (suc (suc (suc (suc (suc (suc n)))))))) (far_word word) t8
              (Addi 31 31 (pos (chunk_of word 0))) is w8 (omega arith)
              (ap (λ x. put 31 (plus x (pos (chunk_of word 0))) t8) e8) (λ t9 w9 e9.
              go t9 (nine n is t9 w9) (e9 ∙ far_word_is word h))))))))))

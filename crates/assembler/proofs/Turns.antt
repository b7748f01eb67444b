-- What instructions do on states that are the same but for x31, and that they leave code as it is.
use Rattle.std.proofs.Common.{subst, length, ℕ, ◌+◌, ◌-◌, ◌*◌, ◌/◌, ◌%◌, ◌^◌, ◌<◌, ◌≡◌, ◌≢◌, inl, Bool, true, false}
use Rattle.std.proofs.Common.{List, [], ◌∷◌, Option, Some, None, refl, sym, ◌∙◌, ap, ap₂, arith}
use Rattle.std.proofs.lemmas.Bool.{true≢false}
use Rattle.std.specs.Prelude.{ℤ, int_lt, ◌==◌, ◌&&◌, not, nat_lt, nat_le, if◌then◌else◌, bit_and, bit_or, bit_xor}
use Rattle.std.specs.Prelude.{Contains, slice_get}
use Rattle.std.specs.Int.{Width, w8, w16, w32, w64, byte_len}
use Rattle.grift_base.specs.World.{WorldState}
use Rattle.grift_base.specs.declared.places.Pos.{Pos}
use Rattle.grift_base.specs.declared.worlds.EnvEffect.{EnvEffect}
use Rattle.grift_base.specs.declared.worlds.EnvEffect.TheVariants.{Next as GoesOn, Ended as Answers, Blamed as Blames}
use Rattle.grift_base.specs.declared.worlds.EnvEffect.TheVariants.{Trapped as Traps, RegionOut as RegionEnds}
use Rattle.grift_base.specs.declared.worlds.EnvEffect.TheVariants.{StackOut as StackEnds, Refused, OutOfMemory}
use Rattle.rv_isa.specs.declared.inst.Inst.{Inst}
use Rattle.rv_isa.specs.declared.inst.Inst.TheVariants.{Lui, Auipc, Jal, Jalr, Beq, Bne, Blt, Bge, Bltu, Bgeu, Lb, Lh}
use Rattle.rv_isa.specs.declared.inst.Inst.TheVariants.{Lw, Ld, Lbu, Lhu, Lwu, Sb, Sh, Sw, Sd, Addi, Slti, Sltiu, Xori}
use Rattle.rv_isa.specs.declared.inst.Inst.TheVariants.{Ori, Andi, Slli, Srli, Srai, Add, Sub, Sll, Slt, Sltu, Xor, Srl}
use Rattle.rv_isa.specs.declared.inst.Inst.TheVariants.{Sra, Or, And, Addiw, Slliw, Srliw, Sraiw, Addw, Subw, Sllw}
use Rattle.rv_isa.specs.declared.inst.Inst.TheVariants.{Srlw, Sraw, Fence, Ecall, Ebreak}
use Rattle.machine_words.specs.Memory.{load_bytes, store_bytes, first_address}
use Rattle.rv_machine.specs.Registers.{set_reg}
use Rattle.grift_base.specs.EnvironmentCall.{environment_call}
use Rattle.rv_machine.specs.State.{Layout, State, Turn, reg}
use Rattle.machine_words.specs.Halts.{GoesWrong}
use Rattle.machine_words.specs.declared.faults.MachineFault.TheVariants.{Undefined, BadAddress, Misaligned}
use Rattle.machine_words.specs.Arithmetic.{word_of, signed_of, sign_extend, add, plus, subtract, flag, signed_less}
use Rattle.machine_words.specs.Arithmetic.{shift_left}
use Rattle.machine_words.specs.Arithmetic.{shift_right, shift_right_signed, low_half, half, half_right_signed}
use Rattle.rv_machine.specs.Turn.{next_pc, put}
use Rattle.rv_machine.specs.Turn.{load_into, store_from, branch_if, jump_and_link, blames, comes_to, called}
use Rattle.rv_machine.specs.Turn.{call_environment, act_with, act}
use Rattle.machine_words.proofs.Public.{stored_outside}
use Rattle.rv_machine.proofs.Public.{each_act}
use Rattle.assembler.specs.Conditions.{registers_of, is_relative}
use Rattle.assembler.specs.Following.{IsLike, ComeToLike, LeavesCode, CanBeCall}

-- ---- registers that aren't named

pub first : (a : ℕ) (rest : List ℕ) → ¬ Contains (a ∷ rest) 31 → a ≢ 31
first a rest h e = h (0, omega arith, e)

pub second : (a b : ℕ) (rest : List ℕ) → ¬ Contains (a ∷ b ∷ rest) 31 → b ≢ 31
second a b rest h e = h (1, omega arith, e)

pub third : (a b c : ℕ) → ¬ Contains (a ∷ b ∷ c ∷ []) 31 → c ≢ 31
third a b c h e = h (2, omega arith, e)

-- ---- the same but for x31

pub like_reg : (a : ℕ) (s t : State) → IsLike s t → a ≢ 31 → reg s a ≡ reg t a
like_reg a s t l n = ap (λ x. if a == 0 then 0 else x) (l.regs a n)

pub like_set : (rd word : ℕ) (s t : State) → IsLike s t → (r : ℕ) → r ≢ 31
    → set_reg rd word s.regs r ≡ set_reg rd word t.regs r
like_set rd word s t l r n = ap (λ x. if (r == rd) && not (rd == 0) then word else x) (l.regs r n)

like_put : (rd word other : ℕ) (s t : State) → IsLike s t → s.pc ≡ t.pc → word ≡ other
    → ComeToLike (put rd word s) (put rd other t)
like_put rd word other s t l e w = (
  record {
    layout = l.layout;
    regs = λ r n. ap (λ x. set_reg rd x s.regs r) w ∙ like_set rd other s t l r n;
    memory = l.memory;
    world = l.world;
  },
  ap (λ x. add x 4) e,
)

-- what is computed of one register, or of two, behind one that is written
like_one : (f : ℕ → ℕ) (rd a : ℕ) (s t : State) → IsLike s t → ¬ Contains (rd ∷ a ∷ []) 31
    → f (reg s a) ≡ f (reg t a)
like_one f rd a s t l h = ap f (like_reg a s t l (second rd a [] h))

like_two : (f : ℕ → ℕ → ℕ) (rd a b : ℕ) (s t : State) → IsLike s t → ¬ Contains (rd ∷ a ∷ b ∷ []) 31
    → f (reg s a) (reg s b) ≡ f (reg t a) (reg t b)
like_two f rd a b s t l h =
    ap₂ f (like_reg a s t l (second rd a (b ∷ []) h)) (like_reg b s t l (third rd a b h))

like_if : (b c : Bool) (x x1 y y1 : Turn) → b ≡ c → ComeToLike x y → ComeToLike x1 y1
    → ComeToLike (if b then x else x1) (if c then y else y1)
like_if true true x x1 y y1 e h k = h
like_if false false x x1 y y1 e h k = k
like_if true false x x1 y y1 e h k = absurd (true≢false e)
like_if false true x x1 y y1 e h k = absurd (true≢false (sym e))

like_load : (signed : Bool) (w : Width) (rd at to : ℕ) (s t : State) → IsLike s t → s.pc ≡ t.pc → at ≡ to
    → ComeToLike (load_into signed w rd at s) (load_into signed w rd to t)
like_load signed w rd at to s t l e p =
    like_if (at % byte_len w == 0) (to % byte_len w == 0) _ _ _ _ (ap (λ x. x % byte_len w == 0) p)
    (like_if (nat_le first_address at && nat_le (at + byte_len w) s.layout.end)
    (nat_le first_address to && nat_le (to + byte_len w) t.layout.end) _ _ _ _
    (ap (λ x. nat_le first_address x && nat_le (x + byte_len w) s.layout.end) p
    ∙ ap (λ x. nat_le first_address to && nat_le (to + byte_len w) x.end) l.layout)
    (like_put rd _ _ s t l e (ap (λ x. if signed then sign_extend w (load_bytes (byte_len w) s.memory x) else
    load_bytes (byte_len w) s.memory x) p ∙ ap
    (λ m. if signed then sign_extend w (load_bytes (byte_len w) m to) else load_bytes (byte_len w) m to) l.memory))
    (ap (λ pc. GoesWrong (BadAddress pc)) e))
    (ap (λ pc. GoesWrong (Misaligned pc)) e)

like_store : (w : Width) (word other at to : ℕ) (s t : State) → IsLike s t → s.pc ≡ t.pc → word ≡ other → at ≡ to
    → ComeToLike (store_from w word at s) (store_from w other to t)
like_store w word other at to s t l e v p =
    like_if (at % byte_len w == 0) (to % byte_len w == 0) _ _ _ _ (ap (λ x. x % byte_len w == 0) p)
    (like_if (nat_le s.layout.region at && nat_le (at + byte_len w) s.layout.end)
    (nat_le t.layout.region to && nat_le (to + byte_len w) t.layout.end) _ _ _ _
    (ap (λ x. nat_le s.layout.region x && nat_le (x + byte_len w) s.layout.end) p
    ∙ ap (λ x. nat_le x.region to && nat_le (to + byte_len w) x.end) l.layout) (
      record {
        layout = l.layout;
        regs = l.regs;
        memory = ap (λ m. store_bytes (byte_len w) m at word) l.memory
            ∙ (ap (λ x. store_bytes (byte_len w) t.memory x word) p
            ∙ ap (λ x. store_bytes (byte_len w) t.memory to x) v);
        world = l.world;
      },
      ap (λ x. add x 4) e,
    )
    (ap (λ pc. GoesWrong (BadAddress pc)) e))
    (ap (λ pc. GoesWrong (Misaligned pc)) e)

like_jump : (rd target other : ℕ) (s t : State) → IsLike s t → s.pc ≡ t.pc → target ≡ other
    → ComeToLike (jump_and_link rd target s) (jump_and_link rd other t)
like_jump rd target other s t l e p =
    like_if (target % 4 == 0) (other % 4 == 0) _ _ _ _ (ap (λ x. x % 4 == 0) p) (
      record {
        layout = l.layout;
        regs = λ r n. ap (λ x. set_reg rd (add x 4) s.regs r) e
            ∙ like_set rd (next_pc t) s t l r n;
        memory = l.memory;
        world = l.world;
      },
      p,
    )
    (ap (λ pc. GoesWrong (Misaligned pc)) e)

like_computed : (f : ℕ → ℕ) (rd a : ℕ) (s t : State) → IsLike s t → s.pc ≡ t.pc → ¬ Contains (rd ∷ a ∷ []) 31
    → ComeToLike (put rd (f (reg s a)) s) (put rd (f (reg t a)) t)
like_computed f rd a s t l e h = like_put rd (f (reg s a)) (f (reg t a)) s t l e (like_one f rd a s t l h)

like_of_two : (f : ℕ → ℕ → ℕ) (rd a b : ℕ) (s t : State) → IsLike s t → s.pc ≡ t.pc
    → ¬ Contains (rd ∷ a ∷ b ∷ []) 31
    → ComeToLike (put rd (f (reg s a) (reg s b)) s) (put rd (f (reg t a) (reg t b)) t)
like_of_two f rd a b s t l e h = like_put rd _ _ s t l e (like_two f rd a b s t l h)

like_loaded : (signed : Bool) (w : Width) (rd a : ℕ) (n : ℤ) (s t : State) → IsLike s t → s.pc ≡ t.pc
    → ¬ Contains (rd ∷ a ∷ []) 31
    → ComeToLike (load_into signed w rd (plus (reg s a) n) s) (load_into signed w rd (plus (reg t a) n) t)
like_loaded signed w rd a n s t l e h = like_load signed w rd _ _ s t l e (like_one (λ x. plus x n) rd a s t l h)

like_stored : (w : Width) (b a : ℕ) (n : ℤ) (s t : State) → IsLike s t → s.pc ≡ t.pc → ¬ Contains (b ∷ a ∷ []) 31
    → ComeToLike (store_from w (reg s b) (plus (reg s a) n) s) (store_from w (reg t b) (plus (reg t a) n) t)
like_stored w b a n s t l e h =
    like_store w _ _ _ _ s t l e (like_reg b s t l (first b (a ∷ []) h)) (like_one (λ x. plus x n) b a s t l h)

module _ (ecall ebreak : State → Turn) where
  module _ (ok_ecall : CanBeCall ecall) (ok_ebreak : CanBeCall ebreak) where
    pub like_act : (i : Inst) → is_relative i ≡ false → ¬ Contains (registers_of i) 31 → (s t : State) → IsLike s t
        → s.pc ≡ t.pc → ComeToLike (act_with ecall ebreak i s) (act_with ecall ebreak i t)
    like_act (Lui rd n) r h s t l e = like_put rd _ _ s t l e refl
    like_act (Auipc rd n) r h s t l e = absurd (true≢false r)
    like_act (Jal rd n) r h s t l e = absurd (true≢false r)
    like_act (Jalr rd a n) r h s t l e =
        like_jump rd _ _ s t l e (like_one (λ x. plus x n - plus x n % 2) rd a s t l h)
    like_act (Beq a b n) r h s t l e = absurd (true≢false r)
    like_act (Bne a b n) r h s t l e = absurd (true≢false r)
    like_act (Blt a b n) r h s t l e = absurd (true≢false r)
    like_act (Bge a b n) r h s t l e = absurd (true≢false r)
    like_act (Bltu a b n) r h s t l e = absurd (true≢false r)
    like_act (Bgeu a b n) r h s t l e = absurd (true≢false r)
    like_act (Lb rd a n) r h s t l e = like_loaded true w8 rd a n s t l e h
    like_act (Lh rd a n) r h s t l e = like_loaded true w16 rd a n s t l e h
    like_act (Lw rd a n) r h s t l e = like_loaded true w32 rd a n s t l e h
    like_act (Ld rd a n) r h s t l e = like_loaded false w64 rd a n s t l e h
    like_act (Lbu rd a n) r h s t l e = like_loaded false w8 rd a n s t l e h
    like_act (Lhu rd a n) r h s t l e = like_loaded false w16 rd a n s t l e h
    like_act (Lwu rd a n) r h s t l e = like_loaded false w32 rd a n s t l e h
    like_act (Sb b a n) r h s t l e = like_stored w8 b a n s t l e h
    like_act (Sh b a n) r h s t l e = like_stored w16 b a n s t l e h
    like_act (Sw b a n) r h s t l e = like_stored w32 b a n s t l e h
    like_act (Sd b a n) r h s t l e = like_stored w64 b a n s t l e h
    like_act (Addi rd a n) r h s t l e = like_computed (λ x. plus x n) rd a s t l e h
    like_act (Slti rd a n) r h s t l e = like_computed (λ x. flag (int_lt (signed_of x) n)) rd a s t l e h
    like_act (Sltiu rd a n) r h s t l e = like_computed (λ x. flag (nat_lt x (word_of n))) rd a s t l e h
    like_act (Xori rd a n) r h s t l e = like_computed (λ x. bit_xor x (word_of n)) rd a s t l e h
    like_act (Ori rd a n) r h s t l e = like_computed (λ x. bit_or x (word_of n)) rd a s t l e h
    like_act (Andi rd a n) r h s t l e = like_computed (λ x. bit_and x (word_of n)) rd a s t l e h
    like_act (Slli rd a n) r h s t l e = like_computed (λ x. shift_left x n) rd a s t l e h
    like_act (Srli rd a n) r h s t l e = like_computed (λ x. shift_right x n) rd a s t l e h
    like_act (Srai rd a n) r h s t l e = like_computed (λ x. shift_right_signed x n) rd a s t l e h
    like_act (Add rd a b) r h s t l e = like_of_two (λ x y. add x y) rd a b s t l e h
    like_act (Sub rd a b) r h s t l e = like_of_two (λ x y. subtract x y) rd a b s t l e h
    like_act (Sll rd a b) r h s t l e = like_of_two (λ x y. shift_left x (y % 64)) rd a b s t l e h
    like_act (Slt rd a b) r h s t l e = like_of_two (λ x y. flag (signed_less x y)) rd a b s t l e h
    like_act (Sltu rd a b) r h s t l e = like_of_two (λ x y. flag (nat_lt x y)) rd a b s t l e h
    like_act (Xor rd a b) r h s t l e = like_of_two (λ x y. bit_xor x y) rd a b s t l e h
    like_act (Srl rd a b) r h s t l e = like_of_two (λ x y. shift_right x (y % 64)) rd a b s t l e h
    like_act (Sra rd a b) r h s t l e = like_of_two (λ x y. shift_right_signed x (y % 64)) rd a b s t l e h
    like_act (Or rd a b) r h s t l e = like_of_two (λ x y. bit_or x y) rd a b s t l e h
    like_act (And rd a b) r h s t l e = like_of_two (λ x y. bit_and x y) rd a b s t l e h
    like_act (Addiw rd a n) r h s t l e = like_computed (λ x. half (plus x n)) rd a s t l e h
    like_act (Slliw rd a n) r h s t l e = like_computed (λ x. half (low_half x * 2 ^ n)) rd a s t l e h
    like_act (Srliw rd a n) r h s t l e = like_computed (λ x. half (low_half x / 2 ^ n)) rd a s t l e h
    like_act (Sraiw rd a n) r h s t l e = like_computed (λ x. half_right_signed x n) rd a s t l e h
    like_act (Addw rd a b) r h s t l e = like_of_two (λ x y. half (add x y)) rd a b s t l e h
    like_act (Subw rd a b) r h s t l e = like_of_two (λ x y. half (subtract x y)) rd a b s t l e h
    like_act (Sllw rd a b) r h s t l e = like_of_two (λ x y. half (low_half x * 2 ^ (y % 32))) rd a b s t l e h
    like_act (Srlw rd a b) r h s t l e = like_of_two (λ x y. half (low_half x / 2 ^ (y % 32))) rd a b s t l e h
    like_act (Sraw rd a b) r h s t l e = like_of_two (λ x y. half_right_signed x (y % 32)) rd a b s t l e h
    like_act (Fence rd a n) r h s t l e =
        (record { layout = l.layout; regs = l.regs; memory = l.memory; world = l.world }, ap (λ x. add x 4) e)
    like_act Ecall r h s t l e = ok_ecall.spares s t l e
    like_act Ebreak r h s t l e = ok_ebreak.spares s t l e

-- ---- the calls of the environment look at x10, x11 and x17 alone

like_blame : (label : Option Pos) (s t : State) → s.pc ≡ t.pc → ComeToLike (blames label s) (blames label t)
like_blame None s t e = ap (λ pc. GoesWrong (Undefined pc)) e
like_blame (Some label) s t e = refl

like_effect : (effect : EnvEffect) (w : WorldState) (s t : State) → IsLike s t → s.pc ≡ t.pc
    → ComeToLike (comes_to effect w s) (comes_to effect w t)
like_effect (GoesOn a0 a1) w s t l e = (
  record {
    layout = l.layout;
    regs = λ r n. ap (λ x. if (r == 11) && not (11 == 0) then a1 else x)
        (like_set 10 a0 s t l r n);
    memory = l.memory;
    world = refl;
  },
  ap (λ x. add x 4) e,
)
like_effect (Blames label) w s t l e =
    subst (λ (o : Option Pos). ComeToLike (blames (slice_get s.layout.labels label) s) (blames o t))
    (ap (λ (x : Layout). slice_get x.labels label) l.layout) (like_blame (slice_get s.layout.labels label) s t e)
like_effect (Answers answer) w s t l e = refl
like_effect (Traps trap) w s t l e = refl
like_effect RegionEnds w s t l e = refl
like_effect StackEnds w s t l e = refl
like_effect Refused w s t l e = ap (λ pc. GoesWrong (Undefined pc)) e
like_effect OutOfMemory w s t l e = ap (λ pc. GoesWrong (Undefined pc)) e

abbrev called_with : ℕ → ℕ → ℕ → ℕ → WorldState → State → Turn
called_with number a0 a1 labels w s =
    let c = environment_call number a0 a1 labels w in comes_to c.effect c.world s

pub like_call : (s t : State) → IsLike s t → s.pc ≡ t.pc → ComeToLike (call_environment s) (call_environment t)
like_call s t l e =
    let n : reg s 17 ≡ reg t 17 = like_reg 17 s t l (λ h. let f : ⊥ = omega arith in f) in
    let a : reg s 10 ≡ reg t 10 = like_reg 10 s t l (λ h. let f : ⊥ = omega arith in f) in
    let b : reg s 11 ≡ reg t 11 = like_reg 11 s t l (λ h. let f : ⊥ = omega arith in f) in
    let same : call_environment s ≡ called_with (reg t 17) (reg t 10) (reg t 11)
    (length t.layout.labels) t.world s = ap
    (λ x. called_with x (reg s 10) (reg s 11) (length s.layout.labels) s.world s) n
    ∙ (ap (λ x. called_with (reg t 17) x (reg s 11) (length s.layout.labels) s.world s) a
    ∙ (ap (λ x. called_with (reg t 17) (reg t 10) x (length s.layout.labels) s.world s) b
    ∙ (ap (λ (x : Layout). called_with (reg t 17) (reg t 10) (reg t 11) (length x.labels) s.world s) l.layout
    ∙ ap (λ x. called_with (reg t 17) (reg t 10) (reg t 11) (length t.layout.labels) x s) l.world))) in
    subst (λ x. ComeToLike x (call_environment t)) (sym same) (like_effect (called t).effect (called t).world s t l e)

-- ---- what they leave

leaves_put : (rd word : ℕ) (s : State) → LeavesCode s (put rd word s)
leaves_put rd word s = (refl, λ at h k. refl)

leaves_if : (s : State) (b : Bool) (x y : Turn) → LeavesCode s x → LeavesCode s y → LeavesCode s (if b then x else y)
leaves_if s true x y h k = h
leaves_if s false x y h k = k

leaves_when : (s : State) (b : Bool) (x y : Turn) → (b ≡ true → LeavesCode s x) → LeavesCode s y
    → LeavesCode s (if b then x else y)
leaves_when s true x y h k = h refl
leaves_when s false x y h k = k

leaves_load : (signed : Bool) (w : Width) (rd at : ℕ) (s : State) → LeavesCode s (load_into signed w rd at s)
leaves_load signed w rd at s =
    leaves_if s (at % byte_len w == 0) _ _ (leaves_if s
    (nat_le first_address at && nat_le (at + byte_len w) s.layout.end) _ _
    (leaves_put rd (if signed then sign_extend w (load_bytes (byte_len w) s.memory at) else load_bytes
    (byte_len w) s.memory at) s) tt) tt

above_region : (region at to high : ℕ) (b : Bool) → (nat_le region at && b) ≡ true → to < region → to < at
above_region region at to high b h k = grind arith

leaves_store : (w : Width) (word at : ℕ) (s : State) → LeavesCode s (store_from w word at s)
leaves_store w word at s =
    leaves_if s (at % byte_len w == 0) _ _
    (leaves_when s (nat_le s.layout.region at && nat_le (at + byte_len w) s.layout.end) _ _
    (λ e. (
      refl,
      λ to h k. stored_outside (byte_len w) s.memory at word to
          (inl (above_region s.layout.region at to 0 _ e k)),
    )) tt)
    tt

leaves_branch : (taken : Bool) (n : ℤ) (s : State) → LeavesCode s (branch_if taken n s)
leaves_branch true n s = leaves_if s (plus s.pc n % 4 == 0) _ _ (refl, λ at h k. refl) tt
leaves_branch false n s = (refl, λ at h k. refl)

leaves_jump : (rd target : ℕ) (s : State) → LeavesCode s (jump_and_link rd target s)
leaves_jump rd target s = leaves_if s (target % 4 == 0) _ _ (refl, λ at h k. refl) tt

leaves_blame : (label : Option Pos) (s : State) → LeavesCode s (blames label s)
leaves_blame None s = tt
leaves_blame (Some label) s = tt

leaves_effect : (effect : EnvEffect) (w : WorldState) (s : State) → LeavesCode s (comes_to effect w s)
leaves_effect (GoesOn a0 a1) w s = (refl, λ at h k. refl)
leaves_effect (Blames label) w s = leaves_blame (slice_get s.layout.labels label) s
leaves_effect (Answers answer) w s = tt
leaves_effect (Traps trap) w s = tt
leaves_effect RegionEnds w s = tt
leaves_effect StackEnds w s = tt
leaves_effect Refused w s = tt
leaves_effect OutOfMemory w s = tt

pub leaves_call : (s : State) → LeavesCode s (call_environment s)
leaves_call s = leaves_effect (called s).effect (called s).world s

module _ (ecall ebreak : State → Turn) where
  module _ (left_ecall : (s : State) → LeavesCode s (ecall s)) (left_ebreak : (s : State) → LeavesCode s (ebreak s))
    where
      pub leaves_act : (i : Inst) (s : State) → LeavesCode s (act_with ecall ebreak i s)
      leaves_act i s =
          each_act ecall ebreak s (λ turn. LeavesCode s turn) (record {
            puts = λ regs. (refl, λ at h k. refl);
            jumps = λ rd target. leaves_jump rd target s;
            branches = λ taken n. leaves_branch taken n s;
            loads = λ signed w rd at. leaves_load signed w rd at s;
            stores = λ w word at. leaves_store w word at s;
            calls = left_ecall s;
            breaks = left_ebreak s;
          }) i

-- ---- instructions that are no calls

abbrev pub is_call : Inst → Bool
is_call Ecall = true
is_call Ebreak = true
is_call i = false

pub plain_act : (ecall ebreak : State → Turn) (i : Inst) → is_call i ≡ false → (s : State)
    → act i s ≡ act_with ecall ebreak i s
plain_act ecall ebreak Ecall c s = absurd (true≢false c)
plain_act ecall ebreak Ebreak c s = absurd (true≢false c)
plain_act ecall ebreak i c s = refl

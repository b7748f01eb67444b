-- A word is put into a register, eleven bits at a time.
use Rattle.std.proofs.Common.{ℕ, zero, suc, ◌+◌, ◌*◌, ◌/◌, ◌%◌, ◌^◌, ◌<◌, ◌≤◌, ◌≡◌, Bool, true, false, List, [], ◌∷◌}
use Rattle.std.proofs.Common.{◌++◌, refl, sym, ◌∙◌, ap, arith}
use Rattle.std.proofs.Math.Nat.{div-div-eq-div-mul}
use Rattle.std.proofs.lemmas.Nat.{pow-add}
use Rattle.std.specs.Prelude.{◌==◌, nat_lt, if◌then◌else◌, pos}
use Rattle.rv_isa.specs.declared.inst.Inst.TheVariants.{Addi, Lui, Addiw}
use Rattle.rv_machine.specs.declared.real.RealItem.{RealItem}
use Rattle.rv_machine.specs.declared.real.RealItem.TheVariants.{Op}
use Rattle.rv_machine.specs.Registers.{Registers, get_reg, set_reg}
use Rattle.rv_machine.specs.State.{State}
use Rattle.machine_words.specs.Arithmetic.{plus, shift_left, half}
use Rattle.rv_machine.specs.Turn.{put}
use Rattle.rv_machine.proofs.Public.{Program, At, HasItem, has_item-append}
use Rattle.rv_select.specs.Prices.{number_price}
use Rattle.placed_code.specs.Slots.{word_items, long_items, chunk_items, chunk_of, is_half, upper_of, lower_of}
use Rattle.placed_code.proofs.slotted.Halves.{two_make}
use Rattle.placed_code.proofs.slotted.Paying.{Comes, ComesOn, comes_there, comes_later, comes_on_later, op}

-- the next eleven bits are added
chunk_more : (y : ℕ) → y < 2 ^ 64 → (shift_left (y / 2048) 11 + y % 2048) % 2 ^ 64 ≡ y
chunk_more y h = omega arith

higher : (word k : ℕ) → word / 2 ^ (11 * suc k) ≡ word / 2 ^ (11 * k) / 2048
higher word k =
    let e : 11 * suc k ≡ 11 * k + 11 = omega arith in
    ap (λ n. word / 2 ^ n) e
    ∙ ap (λ n. word / n) (pow-add 2 (11 * k) 11)
    ∙ sym (div-div-eq-div-mul word (2 ^ (11 * k)) 2048)

pub quotient_fits : (word n : ℕ) → word < 2 ^ 64 → word / n < 2 ^ 64
quotient_fits word n h = grind arith

-- what a register reads as after a write to it or to another
pub set_here : (r word : ℕ) (regs : Registers) → (r == 0) ≡ false → get_reg (set_reg r word regs) r ≡ word
set_here r word regs h = let e : (r == r) ≡ true = grind arith in rw (e, h) refl

pub set_there : (r q word : ℕ) (regs : Registers) → (q == r) ≡ false → set_reg r word regs q ≡ regs q
set_there r q word regs h = rw h refl

-- no register but one was changed
abbrev pub OnlyIn : ℕ → Registers → Registers → Type 0
OnlyIn r regs old = (q : ℕ) → (q == r) ≡ false → regs q ≡ old q

pub number_most : (word : ℕ) → number_price word ≤ 11
number_most word = pick (nat_lt word 2048)
  where
    pick : (c : Bool) → (if c then 1 else 11) ≤ 11
    pick true = omega arith
    pick false = omega arith

module _ {V : Type 0} (program : Program V) (P Q : State → Type 0) where
  -- the word is put, whatever comes behind
  module _ {most : ℕ} (s : State) (rd word : ℕ) (xs : List RealItem) (some : (rd == 0) ≡ false)
      (small : word < 2 ^ 64) (h : HasItem xs)
      (p : (regs : Registers) (pc : ℕ) → OnlyIn rd regs s.regs → P (record s { regs = regs; pc = pc }))
      (go : (regs : Registers) (pc : ℕ) → get_reg regs rd ≡ word → OnlyIn rd regs s.regs
      → At program (record s { regs = regs; pc = pc }) xs → Comes program P Q most (record s { regs = regs; pc = pc }))
    where
      chunks : (k : ℕ) (regs : Registers) (pc : ℕ) → OnlyIn rd regs s.regs → get_reg regs rd ≡ word / 2 ^ (11 * k)
          → At program (record s { regs = regs; pc = pc }) (chunk_items rd word k ++ xs)
          → Comes program P Q (2 * k + most) (record s { regs = regs; pc = pc })
      chunks zero regs pc same v c =
          let whole : word / 2 ^ (11 * 0) ≡ word = omega arith in
          comes_later program P Q (2 * 0 + most) (omega arith) (go regs pc (v ∙ whole) same c)
      chunks (suc k) regs pc same v c =
          let y : ℕ = word / 2 ^ (11 * k) in
          let below : y < 2 ^ 64 = quotient_fits word (2 ^ (11 * k)) small in
          let high : ℕ = shift_left (y / 2048) 11 in
          let regs1 : Registers = set_reg rd high regs in
          let regs2 : Registers = set_reg rd y regs1 in
          let here : State = record s { regs = regs; pc = pc } in
          comes_later program P Q (2 * suc k + most) (omega arith) (comes_there program P Q (
          op program P Q regs1 s.memory c tt
          (λ ecall ebreak q. ap (λ z. put rd (shift_left z 11) (record here { pc = q })) (v ∙ higher word k))
          (p regs pc same) (λ pc1 c1.
          let next : State = record s { regs = regs1; pc = pc1 } in
          comes_there program P Q (op program P Q regs2 s.memory c1 (has_item-append (chunk_items rd word k) xs h)
          (λ ecall ebreak q.
          ap (λ z. put rd (plus z (pos (chunk_of word k))) (record next { pc = q })) (set_here rd high regs some)
          ∙ ap (λ z. put rd z (record next { pc = q })) (chunk_more y below))
          (p regs1 pc1 (λ q m. set_there rd q high regs m ∙ same q m)) (λ pc2 c2.
          chunks k regs2 pc2 (λ q m. set_there rd q y regs1 m ∙ (set_there rd q high regs m ∙ same q m))
          (set_here rd y regs1 some) c2)))))

      in_two : is_half word ≡ true
          → At program s ((Op (Lui rd (upper_of word)) ∷ Op (Addiw rd rd (lower_of word)) ∷ []) ++ xs)
          → ComesOn program P Q (11 + most) s
      in_two e c =
          let high : ℕ = half (upper_of word * 2 ^ 12) in
          let regs1 : Registers = set_reg rd high s.regs in
          let regs2 : Registers = set_reg rd word regs1 in
          comes_on_later program P Q (11 + most) (omega arith) (
          op program P Q regs1 s.memory c tt (λ ecall ebreak q. refl) (p s.regs s.pc (λ q m. refl)) (λ pc1 c1.
          let next : State = record s { regs = regs1; pc = pc1 } in
          comes_there program P Q (op program P Q regs2 s.memory c1 h
          (λ ecall ebreak q.
          ap (λ z. put rd (half (plus z (lower_of word))) (record next { pc = q })) (set_here rd high s.regs some)
          ∙ ap (λ z. put rd z (record next { pc = q })) (two_make word small e))
          (p regs1 pc1 (λ q m. set_there rd q high s.regs m)) (λ pc2 c2.
          go regs2 pc2 (set_here rd word regs1 some)
          (λ q m. set_there rd q word regs1 m ∙ set_there rd q high s.regs m) c2))))

      in_long : (two : Bool) → is_half word ≡ two
          → At program s ((if two then Op (Lui rd (upper_of word)) ∷ Op (Addiw rd rd (lower_of word)) ∷ []
          else Op (Addi rd 0 (pos (chunk_of word 5))) ∷ chunk_items rd word 5) ++ xs)
          → ComesOn program P Q (11 + most) s
      in_long true e c = in_two e c
      in_long false e c =
          let y : ℕ = word / 2 ^ (11 * 5) in
          let first : (0 + chunk_of word 5) % 2 ^ 64 ≡ y = omega arith in
          comes_on_later program P Q (11 + most) (omega arith) (
          op program P Q (set_reg rd y s.regs) s.memory c (has_item-append (chunk_items rd word 5) xs h)
          (λ ecall ebreak q. ap (λ z. put rd z (record s { pc = q })) first) (p s.regs s.pc (λ q m. refl)) (λ pc c1.
          chunks 5 (set_reg rd y s.regs) pc (λ q m. set_there rd q y s.regs m) (set_here rd y s.regs some) c1))

      in_form : (short : Bool) → nat_lt word 2048 ≡ short
          → At program s ((if short then Op (Addi rd 0 (pos word)) ∷ [] else long_items rd word) ++ xs)
          → ComesOn program P Q ((if short then 1 else 11) + most) s
      in_form true e c =
          let fits : (0 + word) % 2 ^ 64 ≡ word = omega arith in
          comes_on_later program P Q (1 + most) (omega arith) (
          op program P Q (set_reg rd word s.regs) s.memory c h
          (λ ecall ebreak q. ap (λ z. put rd z (record s { pc = q })) fits) (p s.regs s.pc (λ q m. refl)) (λ pc c1.
          go (set_reg rd word s.regs) pc (set_here rd word s.regs some) (λ q m. set_there rd q word s.regs m) c1))
      in_form false e c = in_long (is_half word) refl c

      pub puts_word : At program s (word_items rd word ++ xs) → ComesOn program P Q (number_price word + most) s
      puts_word c = in_form (nat_lt word 2048) refl c

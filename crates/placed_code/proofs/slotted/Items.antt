-- The program logic of code with marks, told the address at which items stand in place of a state.
use Rattle.std.proofs.Common.{ℕ, suc, ◌+◌, ◌%◌, ◌^◌, ◌<◌, ◌≡◌, true, false, List, [], ◌∷◌, ◌++◌, Some, drop}
use Rattle.std.proofs.Common.{refl, sym, ◌∙◌, ap, subst, append_assoc, arith}
use Rattle.std.specs.Prelude.{pos, ◌==◌, length}
use Rattle.std.proofs.lemmas.List.{length-drop}
use Rattle.rv_isa.specs.declared.inst.Inst.{Inst}
use Rattle.rv_isa.specs.declared.inst.Inst.TheVariants.{Jalr}
use Rattle.machine_words.specs.declared.conditions.Cond.{Cond}
use Rattle.rv_machine.specs.declared.real.RealItem.{RealItem}
use Rattle.rv_machine.specs.declared.real.RealItem.TheVariants.{Op, Mark, Jump, Branch, Address}
use Rattle.machine_words.specs.Memory.{Memory}
use Rattle.rv_machine.specs.Registers.{Registers, get_reg, set_reg}
use Rattle.rv_machine.specs.State.{State, Turn, Next, reg}
use Rattle.machine_words.specs.Arithmetic.{add}
use Rattle.rv_machine.specs.Turn.{act_with}
use Rattle.rv_machine.specs.Real.{address_from, mark_address}
use Rattle.machine_words.specs.Conditions.{holds}
use Rattle.rv_machine.proofs.Public.{Program, At, HasItem, at_small, at_aligned, behind_mark, mark_at}
use Rattle.rv_machine.proofs.Public.{drop_next}
use Rattle.rv_select.specs.Prices.{number_price}
use Rattle.placed_code.proofs.slotted.Paying.{Comes, ComesOn, op, jump, falls_through, is_taken, puts_address, jumps_to}
use Rattle.placed_code.proofs.slotted.PutWords.{OnlyIn, puts_word}
use Rattle.placed_code.specs.Slots.{word_items}

items_some : (xs : List RealItem) → HasItem xs → 0 < length xs
items_some [] h = absurd h
items_some (x ∷ xs) h = omega arith

module _ {V : Type 0} (program : Program V) where
  -- these items stand in the code from an address on, which is that of the first of them that isn't a mark
  pub record Stands (pc : ℕ) (items : List RealItem) : Type 0 where
    pub place : ℕ
    pub stand : drop place program.code ≡ items
    pub address : address_from program.setting.address place items ≡ Some pc

  -- a state at that address is at those items, and back
  pub as_at : (s : State) {xs : List RealItem} → Stands s.pc xs → At program s xs
  as_at s c = record { place = c.place; stand = c.stand; address = c.address }

  pub as_stands : {s : State} {xs : List RealItem} → At program s xs → Stands s.pc xs
  as_stands c = record { place = c.place; stand = c.stand; address = c.address }

  -- a list of items may be grouped in another way
  pub regrouped : {pc : ℕ} (xs ys zs : List RealItem) → Stands pc ((xs ++ ys) ++ zs) → Stands pc (xs ++ (ys ++ zs))
  regrouped {pc} xs ys zs c = subst (Stands pc) (append_assoc xs ys zs) c

  -- addresses are words, and multiples of 4
  pub stands_small : (s : State) {pc : ℕ} {xs : List RealItem} → Stands pc xs → pc < 2 ^ 64
  stands_small s {pc} c = at_small program (as_at (record s { pc = pc }) c)

  pub stands_aligned : (s : State) {pc : ℕ} {xs : List RealItem} → Stands pc xs → pc % 4 ≡ 0
  stands_aligned s {pc} c = at_aligned program (as_at (record s { pc = pc }) c)

  -- what stands behind a mark has the mark's address
  pub past_mark : (s : State) {pc mark : ℕ} {xs : List RealItem} → Stands pc (Mark mark ∷ xs) → Stands pc xs
  past_mark s {pc} c = as_stands (behind_mark program (as_at (record s { pc = pc }) c))

  -- the address of a mark, where the mark stands with what is behind it
  pub record MarkStands (mark : ℕ) (xs : List RealItem) : Type 0 where
    pub pc : ℕ
    pub is_address : mark_address program.setting.address program.code mark ≡ Some pc
    pub marked : Stands pc (Mark mark ∷ xs)
    pub stands : Stands pc xs

  pub mark_stands : (s : State) (k mark : ℕ) (xs : List RealItem) → drop k program.code ≡ Mark mark ∷ xs → HasItem xs
      → MarkStands mark xs
  mark_stands s k mark xs d h =
      let m = mark_at program k mark xs d h in
      let c = m.at (record s { pc = m.pc }) refl in
      let next = (drop_next program.code k (Mark mark) xs d).1 in
      let here = sym (length-drop (suc k) program.code) ∙ ap length next in
      let there = sym (length-drop c.place program.code) ∙ ap length c.stand in
      let some = items_some xs h in
      let same : c.place ≡ suc k = omega (arith, here, there, some) in
      record {
        pc = m.pc;
        is_address = m.is_mark_address;
        marked = record {
          place = k;
          stand = d;
          address = subst (λ p. address_from program.setting.address p xs ≡ Some m.pc) same c.address;
        };
        stands = as_stands c;
      }

  -- ---- steps

  module _ (P Q : State → Type 0) where
    abbrev pub Then : ℕ → State → Type 0
    Then most s = Comes program P Q most s

    abbrev pub ThenOn : ℕ → State → Type 0
    ThenOn most s = ComesOn program P Q most s

    pub does : {most : ℕ} (s : State) {i : Inst} {xs : List RealItem} (regs : Registers) (memory : Memory)
        → Stands s.pc (Op i ∷ xs) → HasItem xs
        → ((ecall ebreak : State → Turn) (pc : ℕ) → act_with ecall ebreak i (record s { pc = pc })
        ≡ Next (record s { regs = regs; memory = memory; pc = add pc 4 }))
        → P s
        → ((pc : ℕ) → Stands pc xs → Then most (record s { regs = regs; memory = memory; pc = pc }))
        → ThenOn (suc most) s
    does s regs memory c h act p go = op program P Q regs memory (as_at s c) h act p (λ pc at. go pc (as_stands at))

    pub jumps : {most : ℕ} (s : State) {rd mark : ℕ} {xs : List RealItem} (target : ℕ)
        → Stands s.pc (Jump rd mark ∷ xs) → HasItem xs
        → mark_address program.setting.address program.code mark ≡ Some target → P s
        → ((pc : ℕ) → Stands pc xs → Then most (record s { regs = set_reg rd pc s.regs; pc = target }))
        → ThenOn (10 + most) s
    jumps s target c h there p go =
        jump program P Q target (as_at s c) h there p (λ pc at. go pc (as_stands (at (record s { pc = pc }) refl)))

    pub goes_past : {most : ℕ} (s : State) {cond : Cond} {a b mark : ℕ} {xs : List RealItem}
        → Stands s.pc (Branch cond a b mark ∷ xs) → HasItem xs → holds cond (reg s a) (reg s b) ≡ false → P s
        → ((pc : ℕ) → Stands pc xs → Then most (record s { pc = pc })) → ThenOn (11 + most) s
    goes_past s c h test p go = falls_through program P Q (as_at s c) h test p (λ pc at. go pc (as_stands at))

    pub taken : {most : ℕ} (s : State) {cond : Cond} {a b mark : ℕ} {xs : List RealItem} (target : ℕ)
        → Stands s.pc (Branch cond a b mark ∷ xs) → holds cond (reg s a) (reg s b) ≡ true
        → mark_address program.setting.address program.code mark ≡ Some target → P s
        → Then most (record s { pc = target }) → ThenOn (11 + most) s
    taken s target c test there p go = is_taken program P Q target (as_at s c) test there p go

    pub addresses : {most : ℕ} (s : State) {rd mark : ℕ} {xs : List RealItem} (target : ℕ)
        → Stands s.pc (Address rd mark ∷ xs) → HasItem xs
        → mark_address program.setting.address program.code mark ≡ Some target → P s
        → ((pc : ℕ) → Stands pc xs → Then most (record s { regs = set_reg rd target s.regs; pc = pc }))
        → ThenOn (10 + most) s
    addresses s target c h there p go =
        puts_address program P Q target (as_at s c) h there p (λ pc at. go pc (as_stands at))

    pub lands : {most : ℕ} (s : State) {rd a : ℕ} {xs : List RealItem} (target : ℕ)
        → Stands s.pc (Op (Jalr rd a (pos 0)) ∷ xs) → HasItem xs → reg s a ≡ target → target < 2 ^ 64
        → target % 4 ≡ 0 → P s
        → ((pc : ℕ) → Stands pc xs → Then most (record s { regs = set_reg rd pc s.regs; pc = target }))
        → ThenOn (suc most) s
    lands s target c h is_target small aligned p go =
        jumps_to program P Q target (as_at s c) h is_target small aligned p (λ pc at.
        go pc (as_stands (at (record s { pc = pc }) refl)))

    pub words : {most : ℕ} (s : State) (rd word : ℕ) (xs : List RealItem) → (rd == 0) ≡ false → word < 2 ^ 64
        → HasItem xs
        → ((regs : Registers) (pc : ℕ) → OnlyIn rd regs s.regs → P (record s { regs = regs; pc = pc }))
        → ((regs : Registers) (pc : ℕ) → get_reg regs rd ≡ word → OnlyIn rd regs s.regs → Stands pc xs
        → Then most (record s { regs = regs; pc = pc }))
        → Stands s.pc (word_items rd word ++ xs) → ThenOn (number_price word + most) s
    words s rd word xs some small h p go c =
        puts_word program P Q s rd word xs some small h p (λ regs pc v only at. go regs pc v only (as_stands at))
        (as_at s c)

-- What a code with marks comes to within a budget, item by item: one lemma a kind of item, each over what the run comes
-- to from there.
use Rattle.std.proofs.Common.{ℕ, suc, ◌+◌, ◌%◌, ◌^◌, ◌<◌, ◌≤◌, ◌≡◌, true, false, List, ◌∷◌}
use Rattle.std.proofs.Common.{Some, refl, sym, ◌∙◌, ap, subst, arith}
use Rattle.std.specs.Prelude.{pos}
use Rattle.grift_base.specs.World.{WorldState}
use Rattle.run_laws.specs.Machines.{Go, Reaches}
use Rattle.run_laws.specs.Meters.{Metered, metered}
use Rattle.run_laws.proofs.Public.{by_step_at_cost}
use Rattle.rv_isa.specs.declared.inst.Inst.{Inst}
use Rattle.rv_isa.specs.declared.inst.Inst.TheVariants.{Jalr, Ecall}
use Rattle.machine_words.specs.declared.conditions.Cond.{Cond}
use Rattle.rv_machine.specs.declared.real.RealItem.{RealItem}
use Rattle.rv_machine.specs.declared.real.RealItem.TheVariants.{Op, Jump, Branch, Address}
use Rattle.machine_words.specs.Memory.{Memory}
use Rattle.rv_machine.specs.Registers.{Registers, set_reg}
use Rattle.rv_machine.specs.State.{State, Turn, Next, reg}
use Rattle.machine_words.specs.Arithmetic.{add}
use Rattle.rv_machine.specs.Turn.{act_with}
use Rattle.rv_machine.specs.Real.{is_mark, mark_address}
use Rattle.machine_words.specs.Conditions.{holds}
use Rattle.rv_machine.proofs.Public.{Program, At, HasItem, item_here, next_at, running}
use Rattle.rv_machine.proofs.Public.{op_step_is, call_step_is, jump_step_is, fall_step_is, branch_step_is}
use Rattle.rv_machine.proofs.Public.{address_step_is, register_jump_step_is}
use Rattle.assembler.specs.Prices.{real_price, price_here, state_price}

module _ {V : Type 0} (program : Program V) where
  -- the price of the item that a state is at
  abbrev pub cost : State → ℕ
  cost s = state_price program.code program.setting s

  pub cost_is : {s : State} {x : RealItem} {xs : List RealItem} → At program s (x ∷ xs) → is_mark x ≡ false
      → cost s ≡ real_price x
  cost_is at m = ap price_here (item_here program at m)

  module _ (P Q : State → Type 0) where
    -- something holds, and no more than a total was spent
    abbrev pub Within : (State → Type 0) → ℕ → Metered State → Type 0
    Within G total m = G m.rest × (m.spent ≤ total)

    -- in so many steps, for this much, whatever was spent before
    abbrev pub Pays : ℕ → ℕ → State → Type 0
    Pays steps most s =
        (spent total : ℕ) → spent + most ≤ total
        → Reaches (metered cost (running program)) (Within P total) (Within Q total) steps
        (record { spent = spent; rest = s })

    -- for at most so much the run comes to where Q holds, or is exhausted before; P holds at each state that it leaves
    pub record Comes (most : ℕ) (s : State) : Type 0 where
      pub steps : ℕ
      pub pays : Pays steps most s

    -- the run comes there by one step at least
    pub record ComesOn (most : ℕ) (s : State) : Type 0 where
      pub later : ℕ
      pub pays : Pays (suc later) most s

    pub comes_there : {most : ℕ} {s : State} → ComesOn most s → Comes most s
    comes_there on = record { steps = suc on.later; pays = on.pays }

    -- a run that is there comes there for nothing
    pub is_there : {s : State} → Q s → Comes 0 s
    is_there q = record { steps = 0; pays = λ spent total h. (q, omega (arith, h)) }

    -- a budget may be larger
    pub comes_later : {n : ℕ} {s : State} (m : ℕ) → n ≤ m → Comes n s → Comes m s
    comes_later m h c =
        record { steps = c.steps; pays = λ spent total g. c.pays spent total (omega (arith, h, g)) }

    pub comes_on_later : {n : ℕ} {s : State} (m : ℕ) → n ≤ m → ComesOn n s → ComesOn m s
    comes_on_later m h c =
        record { later = c.later; pays = λ spent total g. c.pays spent total (omega (arith, h, g)) }

    -- the run goes on by one step that is known
    pub goes : {most : ℕ} {s : State} {x : RealItem} {xs : List RealItem} (price : ℕ) (t : State)
        → At program s (x ∷ xs) → is_mark x ≡ false → real_price x ≡ price → (running program).step s ≡ Go t → P s
        → Comes most t → ComesOn (price + most) s
    goes {most} {s} price t at m costs e p c = record {
      later = c.steps;
      pays = λ spent total h.
          by_step_at_cost (running program) cost (Within P total) (Within Q total) c.steps
          (record { spent = spent; rest = s }) (Go t) e (p, omega (arith, h))
          (subst (λ n. Reaches (metered cost (running program)) (Within P total) (Within Q total) c.steps
          (record { spent = spent + n; rest = t })) (sym (cost_is at m ∙ costs))
          (c.pays (spent + price) total (omega (arith, h))));
    }

    -- wherever the items behind it lie, the run comes there from a state that is otherwise this one
    abbrev pub Behind : ℕ → State → List RealItem → Type 0
    Behind most t xs =
        (pc : ℕ) → At program (record t { pc = pc }) xs → Comes most (record t { pc = pc })

    -- an item that changes the state but for its place, and goes on
    passes : {most : ℕ} {s : State} {x : RealItem} {xs : List RealItem} (price : ℕ) (t : State)
        (at : At program s (x ∷ xs)) (h : HasItem xs) → is_mark x ≡ false → real_price x ≡ price →
        (running program).step s ≡ Go (record t { pc = (next_at program at h).pc }) → P s → Behind most t xs →
        ComesOn (price + most) s
    passes price t at h m costs e p go =
        let next = next_at program at h in
        goes price (record t { pc = next.pc }) at m costs e p (go next.pc (next.at (record t { pc = next.pc }) refl))

    -- an instruction that changes registers and memory and goes on
    pub op : {most : ℕ} {s : State} {i : Inst} {xs : List RealItem} (regs : Registers) (memory : Memory) →
        At program s (Op i ∷ xs) → HasItem xs →
        ((ecall ebreak : State → Turn) (pc : ℕ) → act_with ecall ebreak i (record s { pc = pc })
        ≡ Next (record s { regs = regs; memory = memory; pc = add pc 4 })) →
        P s → Behind most (record s { regs = regs; memory = memory }) xs → ComesOn (suc most) s
    op {most} {s} regs memory at h act p go =
        comes_on_later (suc most) (omega arith)
        (passes 1 (record s { regs = regs; memory = memory }) at h refl refl (op_step_is program regs memory at h act)
        p go)

    -- an ECALL that goes on
    pub call : {most : ℕ} {s : State} {xs : List RealItem} (regs : Registers) (world : WorldState)
        (at : At program s (Op Ecall ∷ xs)) → HasItem xs →
        ((pc : ℕ) → program.setting.ecall at.place (record s { pc = pc })
        ≡ Next (record s { regs = regs; world = world; pc = add pc 4 })) →
        P s → Behind most (record s { regs = regs; world = world }) xs → ComesOn (suc most) s
    call {most} {s} regs world at h act p go =
        comes_on_later (suc most) (omega arith)
        (passes 1 (record s { regs = regs; world = world }) at h refl refl (call_step_is program regs world at h act)
        p go)

    -- a jump to a mark, which keeps the next item's address
    pub jump : {most : ℕ} {s : State} {rd mark : ℕ} {xs : List RealItem} (target : ℕ) →
        At program s (Jump rd mark ∷ xs) → HasItem xs →
        mark_address program.setting.address program.code mark ≡ Some target → P s →
        ((pc : ℕ) → ((t : State) → t.pc ≡ pc → At program t xs) →
        Comes most (record s { regs = set_reg rd pc s.regs; pc = target })) →
        ComesOn (10 + most) s
    jump target at h there p go =
        let next = next_at program at h in
        goes 10 _ at refl refl (jump_step_is program target at h there) p (go next.pc next.at)

    -- a branch that isn't taken, and one that is
    pub falls_through : {most : ℕ} {s : State} {cond : Cond} {a b mark : ℕ} {xs : List RealItem} →
        At program s (Branch cond a b mark ∷ xs) → HasItem xs → holds cond (reg s a) (reg s b) ≡ false → P s →
        Behind most s xs → ComesOn (11 + most) s
    falls_through {s = s} at h test p go = passes 11 s at h refl refl (fall_step_is program at h test) p go

    pub is_taken : {most : ℕ} {s : State} {cond : Cond} {a b mark : ℕ} {xs : List RealItem} (target : ℕ) →
        At program s (Branch cond a b mark ∷ xs) → holds cond (reg s a) (reg s b) ≡ true →
        mark_address program.setting.address program.code mark ≡ Some target → P s →
        Comes most (record s { pc = target }) → ComesOn (11 + most) s
    is_taken target at test there p go =
        goes 11 _ at refl refl (branch_step_is program target at test there) p go

    -- the address of a mark is put into a register
    pub puts_address : {most : ℕ} {s : State} {rd mark : ℕ} {xs : List RealItem} (target : ℕ) →
        At program s (Address rd mark ∷ xs) → HasItem xs →
        mark_address program.setting.address program.code mark ≡ Some target → P s →
        Behind most (record s { regs = set_reg rd target s.regs }) xs → ComesOn (10 + most) s
    puts_address {s = s} {rd = rd} target at h there p go =
        passes 10 (record s { regs = set_reg rd target s.regs }) at h refl refl
        (address_step_is program target at h there) p go

    -- a jump to the address in a register, which keeps the next item's address
    pub jumps_to : {most : ℕ} {s : State} {rd a : ℕ} {xs : List RealItem} (target : ℕ) →
        At program s (Op (Jalr rd a (pos 0)) ∷ xs) → HasItem xs → reg s a ≡ target → target < 2 ^ 64 →
        target % 4 ≡ 0 → P s →
        ((pc : ℕ) → ((t : State) → t.pc ≡ pc → At program t xs) →
        Comes most (record s { regs = set_reg rd pc s.regs; pc = target })) →
        ComesOn (suc most) s
    jumps_to {most} target at h is_target small aligned p go =
        let next = next_at program at h in
        comes_on_later (suc most) (omega arith)
        (goes 1 _ at refl refl (register_jump_step_is program target at h is_target small aligned) p
        (go next.pc next.at))

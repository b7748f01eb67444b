-- What the step of each kind of item of a code with marks comes to.
use Rattle.std.proofs.Common.{ℕ, suc, ◌+◌, ◌-◌, ◌%◌, ◌^◌, ◌<◌, ◌≡◌, Bool, true, false, List, ◌∷◌}
use Rattle.std.proofs.Common.{Some, refl, ◌∙◌, ap, arith}
use Rattle.std.specs.Prelude.{◌==◌, if◌then◌else◌, pos}
use Rattle.grift_base.specs.World.{WorldState}
use Rattle.run_laws.specs.Machines.{Go, Stop, Machine}
use Rattle.rv_isa.specs.declared.inst.Inst.{Inst}
use Rattle.rv_isa.specs.declared.inst.Inst.TheVariants.{Jalr, Ecall}
use Rattle.machine_words.specs.declared.conditions.Cond.{Cond}
use Rattle.rv_machine.specs.declared.real.RealItem.{RealItem}
use Rattle.rv_machine.specs.declared.real.RealItem.TheVariants.{Op, Jump, Branch, Address}
use Rattle.machine_words.specs.declared.faults.MachineFault.TheVariants.{Misaligned}
use Rattle.machine_words.specs.Memory.{Memory}
use Rattle.rv_machine.specs.Registers.{Registers, set_reg}
use Rattle.rv_machine.specs.State.{State, Turn, Next, Stops, reg}
use Rattle.machine_words.specs.Halts.{Halt}
use Rattle.machine_words.specs.Arithmetic.{subtract, add}
use Rattle.rv_machine.specs.Turn.{act_with, goes_wrong}
use Rattle.rv_machine.specs.Mach.{step_by}
use Rattle.rv_machine.specs.Real.{is_mark, address_from, mark_address, step_here, item_step, op_step, jump_step}
use Rattle.machine_words.specs.Conditions.{holds}
use Rattle.rv_machine.specs.Real.{branch_step, address_step, goes_to, real_machine}
use Rattle.rv_machine.proofs.Standing.{Program, At, HasItem, item_here, next_at}

back_again : (n : ℕ) → n < 2 ^ 64 → add (subtract n 4) 4 ≡ n
back_again n h = omega arith

module _ {V : Type 0} (program : Program V) where
  abbrev pub running : Machine State State V
  running = real_machine program.reading program.code program.setting

  -- the step of the item that the state is at
  pub step_is : {s : State} {x : RealItem} {xs : List RealItem} (at : At program s (x ∷ xs)) → is_mark x ≡ false →
      running.step s
      ≡ item_step program.reading program.code program.setting at.place
      (address_from program.setting.address (suc at.place) xs) x s
  step_is {s} at m =
      ap (λ here. step_here program.reading program.code program.setting here s) (item_here program at m)

  -- an ECALL that stops
  pub call_stops : {s : State} {xs : List RealItem} (halt : Halt) (at : At program s (Op Ecall ∷ xs)) → HasItem xs →
      ((pc : ℕ) → program.setting.ecall at.place (record s { pc = pc }) ≡ Stops halt) →
      running.step s ≡ Stop (program.reading halt) s
  call_stops {s} {xs} halt at h stops =
      let next = next_at program at h in
      step_is at refl
      ∙ (ap (λ o. op_step program.reading (program.setting.ecall at.place) (program.setting.ebreak at.place) Ecall o s)
      next.is_next
      ∙ ap (λ turn. step_by program.reading s turn) (stops (subtract next.pc 4)))

  -- an instruction that changes registers and memory and goes on
  pub op_step_is : {s : State} {i : Inst} {xs : List RealItem} (regs : Registers) (memory : Memory)
      (at : At program s (Op i ∷ xs)) (h : HasItem xs) →
      ((ecall ebreak : State → Turn) (pc : ℕ) → act_with ecall ebreak i (record s { pc = pc })
      ≡ Next (record s { regs = regs; memory = memory; pc = add pc 4 })) →
      running.step s ≡ Go (record s { regs = regs; memory = memory; pc = (next_at program at h).pc })
  op_step_is {s} {i} regs memory at h act =
      let next = next_at program at h in
      let ecall = program.setting.ecall at.place in
      let ebreak = program.setting.ebreak at.place in
      step_is at refl
      ∙ (ap (λ o. op_step program.reading ecall ebreak i o s) next.is_next
      ∙ (ap (λ turn. step_by program.reading s turn) (act ecall ebreak (subtract next.pc 4))
      ∙ ap (λ q. Go (record s { regs = regs; memory = memory; pc = q })) (back_again next.pc next.small)))

  -- an ECALL that goes on
  pub call_step_is : {s : State} {xs : List RealItem} (regs : Registers) (world : WorldState)
      (at : At program s (Op Ecall ∷ xs)) (h : HasItem xs) →
      ((pc : ℕ) → program.setting.ecall at.place (record s { pc = pc })
      ≡ Next (record s { regs = regs; world = world; pc = add pc 4 })) →
      running.step s ≡ Go (record s { regs = regs; world = world; pc = (next_at program at h).pc })
  call_step_is {s} regs world at h act =
      let next = next_at program at h in
      let ecall = program.setting.ecall at.place in
      let ebreak = program.setting.ebreak at.place in
      step_is at refl
      ∙ (ap (λ o. op_step program.reading ecall ebreak Ecall o s) next.is_next
      ∙ (ap (λ turn. step_by program.reading s turn) (act (subtract next.pc 4))
      ∙ ap (λ q. Go (record s { regs = regs; world = world; pc = q })) (back_again next.pc next.small)))

  -- a jump to a mark, which keeps the next item's address
  pub jump_step_is : {s : State} {rd mark : ℕ} {xs : List RealItem} (target : ℕ)
      (at : At program s (Jump rd mark ∷ xs)) (h : HasItem xs) →
      mark_address program.setting.address program.code mark ≡ Some target →
      running.step s ≡ Go (record s { regs = set_reg rd (next_at program at h).pc s.regs; pc = target })
  jump_step_is {s} {rd} {mark} {xs} target at h there =
      step_is at refl
      ∙ (ap (λ to. jump_step rd to (address_from program.setting.address (suc at.place) xs) s) there
      ∙ ap (λ o. jump_step rd (Some target) o s) (next_at program at h).is_next)

  -- a branch that isn't taken, and one that is
  pub fall_step_is : {s : State} {cond : Cond} {a b mark : ℕ} {xs : List RealItem}
      (at : At program s (Branch cond a b mark ∷ xs)) (h : HasItem xs) →
      holds cond (reg s a) (reg s b) ≡ false → running.step s ≡ Go (record s { pc = (next_at program at h).pc })
  fall_step_is {s} {cond} {a} {b} {mark} {xs} at h test =
      let to = mark_address program.setting.address program.code mark in
      step_is at refl
      ∙ (ap (λ c. branch_step c to (address_from program.setting.address (suc at.place) xs) s) test
      ∙ ap (λ o. goes_to o s) (next_at program at h).is_next)

  pub branch_step_is : {s : State} {cond : Cond} {a b mark : ℕ} {xs : List RealItem} (target : ℕ)
      (at : At program s (Branch cond a b mark ∷ xs)) → holds cond (reg s a) (reg s b) ≡ true →
      mark_address program.setting.address program.code mark ≡ Some target →
      running.step s ≡ Go (record s { pc = target })
  branch_step_is {s} {cond} {a} {b} {mark} {xs} target at test there =
      let to = mark_address program.setting.address program.code mark in
      step_is at refl
      ∙ (ap (λ c. branch_step c to (address_from program.setting.address (suc at.place) xs) s) test
      ∙ ap (λ o. goes_to o s) there)

  -- the address of a mark is put into a register
  pub address_step_is : {s : State} {rd mark : ℕ} {xs : List RealItem} (target : ℕ)
      (at : At program s (Address rd mark ∷ xs)) (h : HasItem xs) →
      mark_address program.setting.address program.code mark ≡ Some target →
      running.step s ≡ Go (record s { regs = set_reg rd target s.regs; pc = (next_at program at h).pc })
  address_step_is {s} {rd} {mark} {xs} target at h there =
      step_is at refl
      ∙ (ap (λ to. address_step rd to (address_from program.setting.address (suc at.place) xs) s) there
      ∙ ap (λ o. address_step rd (Some target) o s) (next_at program at h).is_next)

  -- a jump to the address in a register, which keeps the next item's address
  pub register_jump_step_is : {s : State} {rd a : ℕ} {xs : List RealItem} (target : ℕ)
      (at : At program s (Op (Jalr rd a (pos 0)) ∷ xs)) (h : HasItem xs) → reg s a ≡ target → target < 2 ^ 64 →
      target % 4 ≡ 0 →
      running.step s ≡ Go (record s { regs = set_reg rd (next_at program at h).pc s.regs; pc = target })
  register_jump_step_is {s} {rd} {a} {xs} target at h is_target small aligned =
      let next = next_at program at h in
      let ecall = program.setting.ecall at.place in
      let ebreak = program.setting.ebreak at.place in
      let whole : (target + 0) % 2 ^ 64 - (target + 0) % 2 ^ 64 % 2 ≡ target = omega arith in
      let even : (target % 4 == 0) ≡ true = ap (λ x. x == 0) aligned in
      step_is at refl
      ∙ (ap (λ o. op_step program.reading ecall ebreak (Jalr rd a (pos 0)) o s) next.is_next
      ∙ (ap (λ w. step_by program.reading s (lands rd w (subtract next.pc 4))) is_target
      ∙ (ap (λ w. step_by program.reading s (lands_at rd w (subtract next.pc 4))) whole
      ∙ (ap (λ (c : Bool). step_by program.reading s (if c then arrives rd target (subtract next.pc 4)
      else goes_wrong Misaligned (record s { pc = subtract next.pc 4 }))) even
      ∙ ap (λ q. Go (record s { regs = set_reg rd q s.regs; pc = target })) (back_again next.pc next.small)))))
    where
      arrives : ℕ → ℕ → ℕ → Turn
      arrives rd to pc = Next (record s { regs = set_reg rd (add pc 4) s.regs; pc = to })

      lands_at : ℕ → ℕ → ℕ → Turn
      lands_at rd to pc =
          if to % 4 == 0 then arrives rd to pc else goes_wrong Misaligned (record s { pc = pc })

      lands : ℕ → ℕ → ℕ → Turn
      lands rd word pc = lands_at rd ((word + 0) % 2 ^ 64 - (word + 0) % 2 ^ 64 % 2) pc

-- A run of a code goes wrong under one reading of stops where it does under another.
use Rattle.std.proofs.Common.{ℕ, zero, suc, ◌≡◌, subst, Bool, true, false, List, Option, Some, None, refl, ap}
use Rattle.std.specs.Prelude.{◌==◌, if◌then◌else◌}
use Rattle.run_laws.specs.Runs.{Ending, Wrong, NeverWrong}
use Rattle.run_laws.specs.Machines.{Next as Step, Go, Stop, Machine, and_then, steps, seen, run}
use Rattle.rv_isa.specs.declared.inst.Inst.{Inst}
use Rattle.rv_machine.specs.declared.real.RealItem.{RealItem}
use Rattle.rv_machine.specs.declared.real.RealItem.TheVariants.{Op, Mark, Jump, Branch, Address}
use Rattle.rv_machine.specs.State.{State, Turn, Next, Stops, reg}
use Rattle.machine_words.specs.Halts.{Halt, Ended, Lacks, GoesWrong}
use Rattle.rv_machine.specs.Turn.{act_with}
use Rattle.machine_words.specs.Arithmetic.{subtract}
use Rattle.machine_words.specs.Halts.{IsReading}
use Rattle.rv_machine.specs.Mach.{step_by}
use Rattle.rv_machine.specs.Real.{Setting, Here, mark_address, item_at, is_lost, goes_to, needs_next, last_step}
use Rattle.rv_machine.specs.Real.{op_step, jump_step, address_step, item_step, step_here, real_machine}
use Rattle.machine_words.specs.Conditions.{holds}

module _ {V W : Type 0} (first : Halt → Ending V) (second : Halt → Ending W)
    (wrong : (halt : Halt) → first halt ≡ Wrong → second halt ≡ Wrong) where
  -- the same step, but for the reading of the stop
  abbrev Alike : Step State V → Step State W → Type 0
  Alike (Go s) (Go t) = s ≡ t
  Alike (Stop e s) (Stop f t) = e ≡ Wrong → f ≡ Wrong
  Alike (Go s) (Stop f t) = ⊥
  Alike (Stop e s) (Go t) = ⊥

  alike_if : (b : Bool) (x x1 : Step State V) (y y1 : Step State W) → Alike x y → Alike x1 y1 →
      Alike (if b then x else x1) (if b then y else y1)
  alike_if true x x1 y y1 h k = h
  alike_if false x x1 y y1 h k = k

  alike_by : (s : State) (turn : Turn) → Alike (step_by first s turn) (step_by second s turn)
  alike_by s (Next t) = refl
  alike_by s (Stops halt) = wrong halt

  alike_last : (i : Inst) (s : State) (turn : Turn) → Alike (last_step first i s turn) (last_step second i s turn)
  alike_last i s (Stops halt) = wrong halt
  alike_last i s (Next t) = alike_if (needs_next i s t) (is_lost s) (Go t) (is_lost s) (Go t) (λ e. refl) refl

  alike_op : (ecall ebreak : State → Turn) (i : Inst) (next : Option ℕ) (s : State) →
      Alike (op_step first ecall ebreak i next s) (op_step second ecall ebreak i next s)
  alike_op ecall ebreak i (Some next) s = alike_by s (act_with ecall ebreak i (record s { pc = subtract next 4 }))
  alike_op ecall ebreak i None s = alike_last i s (act_with ecall ebreak i s)

  alike_to : (at : Option ℕ) (s : State) → Alike (goes_to at s) (goes_to at s)
  alike_to None s = λ e. refl
  alike_to (Some at) s = refl

  alike_jump : (rd : ℕ) (target next : Option ℕ) (s : State) →
      Alike (jump_step rd target next s) (jump_step rd target next s)
  alike_jump rd None next s = λ e. refl
  alike_jump rd (Some target) (Some next) s = refl
  alike_jump rd (Some target) None s =
      let there : State = record s { pc = target } in
      alike_if (rd == 0) (Go there) (is_lost s) (Go there) (is_lost s) refl (λ e. refl)

  alike_address : (rd : ℕ) (target next : Option ℕ) (s : State) →
      Alike (address_step rd target next s) (address_step rd target next s)
  alike_address rd (Some target) (Some next) s = refl
  alike_address rd None next s = λ e. refl
  alike_address rd (Some target) None s = λ e. refl

  module _ (code : List RealItem) (setting : Setting) where
    alike_item : (place : ℕ) (next : Option ℕ) (item : RealItem) (s : State) →
        Alike (item_step first code setting place next item s) (item_step second code setting place next item s)
    alike_item place next (Op i) s = alike_op (setting.ecall place) (setting.ebreak place) i next s
    alike_item place next (Mark mark) s = λ e. refl
    alike_item place next (Jump rd mark) s = alike_jump rd (mark_address setting.address code mark) next s
    alike_item place next (Branch cond a b mark) s =
        alike_to (if holds cond (reg s a) (reg s b) then mark_address setting.address code mark else next) s
    alike_item place next (Address rd mark) s = alike_address rd (mark_address setting.address code mark) next s

    alike_here : (here : Option Here) (s : State) →
        Alike (step_here first code setting here s) (step_here second code setting here s)
    alike_here None s = λ e. refl
    alike_here (Some here) s = alike_item here.place here.next here.item s

    abbrev X : Machine State State V
    X = real_machine first code setting

    abbrev Y : Machine State State W
    Y = real_machine second code setting

    -- where the first run is wrong, the second is
    abbrev WrongBoth : Step State V → Step State W → Type 0
    WrongBoth x y = (seen X x).ending ≡ Some Wrong → (seen Y y).ending ≡ Some Wrong

    inner : (e : Ending V) → Some e ≡ Some Wrong → e ≡ Wrong
    inner e h = cc

    none_ended : (o : Option (Ending V)) → o ≡ None → o ≡ Some Wrong → ⊥
    none_ended o e h = cc

    onward : (n : ℕ) (x : Step State V) (y : Step State W) → Alike x y →
        ((s : State) → WrongBoth (steps X s n) (steps Y s n)) →
        WrongBoth (and_then x (λ s. steps X s n)) (and_then y (λ s. steps Y s n))
    onward n (Go s) (Go t) h ih w = subst (λ u. (seen Y (steps Y u n)).ending ≡ Some Wrong) h (ih s w)
    onward n (Stop e s) (Stop f t) h ih w = ap Some (h (inner e w))
    onward n (Go s) (Stop f t) h ih w = absurd h
    onward n (Stop e s) (Go t) h ih w = absurd h

    wrong_both : (n : ℕ) (s : State) → WrongBoth (steps X s n) (steps Y s n)
    wrong_both zero s w = absurd (none_ended None refl w)
    wrong_both (suc n) s w =
        onward n (X.step s) (Y.step s) (alike_here (item_at setting.address code s.pc) s) (λ t. wrong_both n t) w

    pub never_wrong_by : (s : State) → NeverWrong (run Y s) → NeverWrong (run X s)
    never_wrong_by s nw n w = nw n (wrong_both n s w)

module _ {V W : Type 0} (first : Halt → Ending V) (second : Halt → Ending W)
    (f : IsReading first) (g : IsReading second) where
  same_wrong : (halt : Halt) → second halt ≡ Wrong → first halt ≡ Wrong
  same_wrong (Ended verdict) e = absurd (g.ended verdict e)
  same_wrong (Lacks room) e = absurd (g.lacking room e)
  same_wrong (GoesWrong fault) e = f.wrong fault

  -- a run that never goes wrong under one reading never does under another
  pub a_run_goes_wrong_under_every_reading :
      (code : List RealItem) (setting : Setting) (s : State) → NeverWrong (run (real_machine first code setting) s) →
      NeverWrong (run (real_machine second code setting) s)
  a_run_goes_wrong_under_every_reading code setting s nw = never_wrong_by second first same_wrong code setting s nw

-- The code with slots does each step of the virtual run in its stack.
use Rattle.std.proofs.Common.{ℕ, suc, ◌*◌, ◌^◌, ◌<◌, ◌≡◌, inl, Bool, true, false, List, ◌∷◌}
use Rattle.std.proofs.Common.{Option, Some, None}
use Rattle.std.proofs.Common.{refl, ◌∙◌, ap, subst, arith}
use Rattle.std.specs.Prelude.{ℤ, FitsSigned, ◌==◌, nat_lt, if◌then◌else◌, length, slice_get}
use Rattle.std.specs.Int.{w64, cast_unsigned}
use Rattle.std.proofs.Math.Facts.{Fits-of_z}
use Rattle.grift_base.specs.World.{WorldState}
use Rattle.grift_base.specs.Reading.{next_number}
use Rattle.grift_base.proofs.Public.{next_number_fits}
use Rattle.grift_base.specs.EnvironmentCall.{Called, environment_call, ends, traps, reads}
use Rattle.grift_base.specs.declared.places.Pos.{Pos}
use Rattle.grift_base.specs.declared.verdicts.Verdict.TheVariants.{Answer, Blame, Trap}
use Rattle.grift_base.specs.declared.worlds.EnvEffect.{EnvEffect}
use Rattle.grift_base.specs.declared.worlds.EnvEffect.TheVariants.{Next as GoesOn, Ended as Answers, Blamed as Blames}
use Rattle.grift_base.specs.declared.worlds.EnvEffect.TheVariants.{Trapped as Traps, RegionOut as RegionEnds}
use Rattle.grift_base.specs.declared.worlds.EnvEffect.TheVariants.{StackOut as StackEnds, Refused, OutOfMemory}
use Rattle.run_laws.specs.Machines.{Next as Step, Go, Stop}
use Rattle.run_laws.specs.Meters.{metered, unspent, DoesOnBudget, CostSimulation}
use Rattle.run_laws.proofs.Public.{reaches_weaken, unless_wrong_map}
use Rattle.rv_isa.specs.declared.inst.Inst.TheVariants.{Ecall}
use Rattle.rv_machine.specs.declared.real.RealItem.{RealItem}
use Rattle.rv_machine.specs.declared.real.RealItem.TheVariants.{Op}
use Rattle.rv_machine.specs.Registers.{Registers, get_reg, set_reg}
use Rattle.rv_machine.specs.State.{Layout, State, Turn, Stops}
use Rattle.machine_words.specs.Halts.{Halt, Region, Stack, Ended, Lacks}
use Rattle.rv_machine.specs.Turn.{comes_to, blames, call_environment}
use Rattle.rv_machine.proofs.Public.{At, call_stops}
use Rattle.low_ir.specs.Steps.{effect_of, blame_of, settle}
use Rattle.rv_select.specs.declared.code.VReg.TheVariants.{Real}
use Rattle.rv_select.specs.declared.code.VirtualItem.{VirtualItem}
use Rattle.rv_select.specs.declared.code.VirtualItem.TheVariants.{Constant, Move, Compute, ComputeWith, Load, Store}
use Rattle.rv_select.specs.declared.code.VirtualItem.TheVariants.{CodeOf, Mark, Procedure, Jump, Branch, Call, CallAt}
use Rattle.rv_select.specs.declared.code.VirtualItem.TheVariants.{TailCall, TailCallAt, Return, Environment}
use Rattle.rv_select.specs.Run.{VirtualState, also_known, value, step_here}
use Rattle.rv_select.specs.Prices.{some_price, virtual_price}
use Rattle.placed_code.proofs.slotted.Paying.{cost, cost_is, call, is_there}
use Rattle.placed_code.proofs.slotted.Items.{as_at, as_stands}
use Rattle.placed_code.proofs.slotted.Frames.{Slotting, set_same, set_fits, program, virtual_setting, M, N, rest_of}
use Rattle.placed_code.proofs.slotted.Frames.{has_rest}
use Rattle.placed_code.proofs.slotted.Frames.{On, has_room, Same, seen_of, as_alike, Way, way_first}
use Rattle.placed_code.proofs.slotted.SlotWords.{when_readable}
use Rattle.placed_code.proofs.slotted.SlotItems.{code_of, size, Sim, SimItem, DoesFor, sim_given, sim_go, do_compute}
use Rattle.placed_code.proofs.slotted.SlotItems.{do_compute_with}
use Rattle.placed_code.proofs.slotted.SlotItems.{do_move, do_constant, do_load, do_store}
use Rattle.placed_code.proofs.slotted.SlotMarks.{do_mark, do_jump, do_branch}
use Rattle.placed_code.proofs.slotted.SlotCalls.{unless, do_code_of, do_call, do_call_at}
use Rattle.placed_code.proofs.slotted.SlotReturns.{do_return, do_tail, do_tail_at}

-- ---- environment calls

-- the state after a call that goes on with two words
abbrev called_back : WorldState → VirtualState → ℕ → ℕ → VirtualState
called_back world t a b = record t {
  regs = set_reg 11 b (set_reg 10 a t.regs);
  known = also_known 11 (also_known 10 t.known);
  world = world;
  pc = suc t.pc;
}

abbrev call_on : ℕ → ℕ → ℕ → ℕ → WorldState → State → Turn
call_on number a0 a1 labels world s =
    let c = environment_call number a0 a1 labels world in comes_to c.effect c.world s

never_ends : (kind word x y : ℕ) → ends kind word ≡ GoesOn x y → ⊥
never_ends kind word x y e = grind arith

never_traps : (kind x y : ℕ) → traps kind ≡ GoesOn x y → ⊥
never_traps kind x y e = grind arith

first_is : (a b x y : ℕ) → GoesOn a b ≡ GoesOn x y → a ≡ x
first_is a b x y e = cc

second_is : (a b x y : ℕ) → GoesOn a b ≡ GoesOn x y → b ≡ y
second_is a b x y e = cc

both_fit : (a b x y : ℕ) → GoesOn a b ≡ GoesOn x y → a < 2 ^ 64 → b < 2 ^ 64 → (x < 2 ^ 64) × (y < 2 ^ 64)
both_fit a b x y e h k =
    (subst (λ z. z < 2 ^ 64) (first_is a b x y e) h, subst (λ z. z < 2 ^ 64) (second_is a b x y e) k)

-- a number that is read is a word, and what is handed back with it
read_fits : (o : Option ℤ) (x y : ℕ) → ((n : ℤ) → o ≡ Some n → FitsSigned w64 n) → reads o ≡ GoesOn x y
    → (x < 2 ^ 64) × (y < 2 ^ 64)
read_fits (Some n) x y h e = both_fit (cast_unsigned w64 n) 0 x y e (Fits-of_z (h n refl)).fits (omega arith)
read_fits None x y h e = both_fit 0 1 x y e (omega arith) (omega arith)

never_blames : (b : Bool) (label x y : ℕ) → (if b then Blames label else Refused) ≡ GoesOn x y → ⊥
never_blames true label x y e = cc
never_blames false label x y e = cc

by_either : (b : Bool) (c d : Called) (x y : ℕ) → (if b then c else d).effect ≡ GoesOn x y
    → (c.effect ≡ GoesOn x y → (x < 2 ^ 64) × (y < 2 ^ 64)) → (d.effect ≡ GoesOn x y → (x < 2 ^ 64) × (y < 2 ^ 64))
    → (x < 2 ^ 64) × (y < 2 ^ 64)
by_either true c d x y e f g = f e
by_either false c d x y e f g = g e

-- a call that goes on hands back words
goes_words : (number a0 a1 labels : ℕ) (world : WorldState) (x y : ℕ)
    → (environment_call number a0 a1 labels world).effect ≡ GoesOn x y → a0 < 2 ^ 64 → a1 < 2 ^ 64
    → (x < 2 ^ 64) × (y < 2 ^ 64)
unfolding environment_call
goes_words number a0 a1 labels w x y e h k =
    by_either (number == 0) _ _ x y e (λ f. absurd (never_ends a0 a1 x y f)) (λ e1.
    by_either (number == 1) _ _ x y e1 (λ f. both_fit a0 a1 x y f h k) (λ e2.
    by_either (number == 2) _ _ x y e2 (λ f. both_fit a0 a1 x y f h k) (λ e3.
    by_either (number == 3) _ _ x y e3 (λ f. absurd (never_blames (nat_lt a0 labels) a0 x y f)) (λ e4.
    by_either (number == 4) _ _ x y e4 (λ f. absurd (never_traps a0 x y f)) (λ e5.
    by_either (number == 5) _ _ x y e5 (λ f. absurd (let z : ⊥ = cc in z)) (λ e6.
    by_either (number == 6) _ _ x y e6 (λ f. absurd (let z : ⊥ = cc in z)) (λ e7.
    by_either (number == 7) _ _ x y e7 (λ f. read_fits (next_number w) x y (next_number_fits w) f)
    (λ e8. absurd (let z : ⊥ = cc in z)))))))))

module _ {V : Type 0} (w : Slotting V) where
  do_environment : (t : VirtualState) (s : State) (on : On w t s) → slice_get w.items t.pc ≡ Some Environment
      → SimItem w t s Environment
  do_environment t s on here =
      sim_given w _ t t s (value t (Real 17)) _ (λ number e. sim_given w _ t t s (value t (Real 10)) _ (λ x f.
      sim_given w _ t t s (value t (Real 11)) _ (λ y g. same_words number x y (when_readable t 17 number e).1
      (when_readable t 10 x f).1 (when_readable t 11 y g).1)))
    where
      c : Called
      c =
          environment_call (get_reg t.regs 17) (get_reg t.regs 10) (get_reg t.regs 11) (length w.layout.labels) t.world

      rest : List RealItem
      rest = rest_of w t.active.found (suc t.pc)

      at : At (program w) s (Op Ecall ∷ rest)
      at = as_at (program w) s (code_of w t s on Environment here tt)

      -- the machine's call is that of the virtual run
      same : (u : State) → u.regs ≡ s.regs → u.world ≡ s.world → u.layout ≡ s.layout
          → call_environment u ≡ comes_to c.effect c.world u
      same u regs world layout =
          let b = on.body in
          let labels = length u.layout.labels in
          let r17 = ap (λ (x : Registers). get_reg x 17) regs ∙ b.regs 17 refl in
          let r10 = ap (λ (x : Registers). get_reg x 10) regs ∙ b.regs 10 refl in
          let r11 = ap (λ (x : Registers). get_reg x 11) regs ∙ b.regs 11 refl in
          ap (λ x. call_on x (get_reg u.regs 10) (get_reg u.regs 11) labels u.world u) r17
          ∙ (ap (λ x. call_on (get_reg t.regs 17) x (get_reg u.regs 11) labels u.world u) r10
          ∙ (ap (λ x. call_on (get_reg t.regs 17) (get_reg t.regs 10) x labels u.world u) r11
          ∙ (ap (λ (x : Layout). call_on (get_reg t.regs 17) (get_reg t.regs 10) (get_reg t.regs 11) (length x.labels)
          u.world u) (layout ∙ b.layout)
          ∙ ap (λ x. call_on (get_reg t.regs 17) (get_reg t.regs 10) (get_reg t.regs 11) (length w.layout.labels) x u)
          (world ∙ b.world))))

      turn : (e : EnvEffect) → c.effect ≡ e → (pc : ℕ)
          → w.setting.ecall at.place (record s { pc = pc }) ≡ comes_to e c.world (record s { pc = pc })
      turn e h pc =
          let u : State = record s { pc = pc } in
          w.calls at.place u ∙ (same u refl refl refl ∙ ap (λ x. comes_to x c.world u) h)

      stops : (halt : Halt) → ((pc : ℕ) → w.setting.ecall at.place (record s { pc = pc }) ≡ Stops halt)
          → Sim w 1 t s (Stop (w.reading halt) t)
      stops halt h =
          let seen = seen_of w t s on.body in
          let stop = call_stops (program w) halt at (has_rest w t.active.found (suc t.pc)) h in
          unless w (w.reading halt) (
            0,
            record {
              alike = as_alike w t s seen;
              last = s;
              step = stop;
              same = as_alike w t s seen;
              few = (let one = cost_is (program w) at refl in omega (arith, one));
              lacking = tt;
            },
          )

      blamed : (o : Option Pos)
          → ((pc : ℕ) → w.setting.ecall at.place (record s { pc = pc }) ≡ blames o (record s { pc = pc }))
          → Sim w 1 t s (settle w.reading (blame_of o) t (called_back c.world t))
      blamed None h = tt
      blamed (Some label) h = stops (Ended (Blame label)) h

      by_effect : (e : EnvEffect) → c.effect ≡ e
          → Sim w 1 t s (settle w.reading (effect_of w.layout.labels e) t (called_back c.world t))
      by_effect (GoesOn x y) h =
          let t1 : VirtualState = called_back c.world t x y in
          let b = on.body in
          let regs : Registers = set_reg 11 y (set_reg 10 x s.regs) in
          let words = goes_words (get_reg t.regs 17) (get_reg t.regs 10) (get_reg t.regs 11) (length w.layout.labels)
          t.world x y h (subst (λ z. z < 2 ^ 64) (b.regs 10 refl) (b.fits 10))
          (subst (λ z. z < 2 ^ 64) (b.regs 11 refl) (b.fits 11)) in
          sim_go w t t1 s (omega arith) (has_room w t s b) (
          call (program w) (Way w t t1) (On w t1) regs c.world at (has_rest w t.active.found (suc t.pc))
          (turn (GoesOn x y) h) (way_first w t t1 s (seen_of w t s b)) (λ n c1.
          is_there (program w) (Way w t t1) (On w t1) (record {
            body = record {
              regs = λ q m. set_same 11 y q (set_reg 10 x s.regs) (set_reg 10 x t.regs)
                  (set_same 10 x q s.regs t.regs (b.regs q m));
              limit = b.limit;
              memory = b.memory;
              world = refl;
              layout = b.layout;
              fits = set_fits 11 y (set_reg 10 x s.regs) words.1 (set_fits 10 x s.regs words.0 b.fits);
              bytes = b.bytes;
              above = b.above;
              stack = b.stack;
            };
            home = on.home;
            code = as_stands (program w) c1;
          })))
      by_effect (Answers answer) h = stops (Ended (Answer answer)) (turn (Answers answer) h)
      by_effect (Blames label) h =
          blamed (slice_get w.layout.labels label) (λ pc. turn (Blames label) h pc
          ∙ ap (λ (x : Layout). blames (slice_get x.labels label) (record s { pc = pc })) on.body.layout)
      by_effect (Traps trap) h = stops (Ended (Trap trap)) (turn (Traps trap) h)
      by_effect RegionEnds h = stops (Lacks Region) (turn RegionEnds h)
      by_effect StackEnds h = stops (Lacks Stack) (turn StackEnds h)
      by_effect Refused h = tt
      by_effect OutOfMemory h = tt

      call_of : ℕ → ℕ → ℕ → Step VirtualState V
      call_of number x y =
          let d = environment_call number x y (length w.layout.labels) t.world in
          settle w.reading (effect_of w.layout.labels d.effect) t (called_back d.world t)

      same_words : (number x y : ℕ) → get_reg t.regs 17 ≡ number → get_reg t.regs 10 ≡ x → get_reg t.regs 11 ≡ y
          → Sim w 1 t s (call_of number x y)
      same_words number x y e f g =
          subst (λ n. Sim w 1 t s (call_of n x y)) e (subst (λ n. Sim w 1 t s (call_of (get_reg t.regs 17) n y)) f (
          subst (λ n. Sim w 1 t s (call_of (get_reg t.regs 17) (get_reg t.regs 10) n)) g (by_effect c.effect refl)))

  -- ---- all steps

  do_item : (t : VirtualState) (s : State) (on : On w t s) (item : VirtualItem) → slice_get w.items t.pc ≡ Some item
      → SimItem w t s item
  do_item t s on (Constant rd word) here = do_constant w t s on rd word here
  do_item t s on (Move rd a) here = do_move w t s on rd a here
  do_item t s on (Compute o rd a b) here = do_compute w t s on o rd a b here
  do_item t s on (ComputeWith o rd a n) here = do_compute_with w t s on o rd a n here
  do_item t s on (Load rd a offset) here = do_load w t s on rd a offset here
  do_item t s on (Store b a offset) here = do_store w t s on b a offset here
  do_item t s on (CodeOf rd k) here = do_code_of w t s on rd k here
  do_item t s on (Mark mark) here = do_mark w t s on mark here
  do_item t s on (Procedure k first count) here = tt
  do_item t s on (Jump mark) here = do_jump w t s on mark here
  do_item t s on (Branch cond a b mark) here = do_branch w t s on cond a b mark here
  do_item t s on (Call k n) here = do_call w t s on k n here
  do_item t s on (CallAt a n) here = do_call_at w t s on a n here
  do_item t s on (TailCall k n) here = do_tail w t s on k n here
  do_item t s on (TailCallAt a n) here = do_tail_at w t s on a n here
  do_item t s on Return here = do_return w t s on here
  do_item t s on Environment here = do_environment t s on here

  pub do_here : (t : VirtualState) (s : State) (on : On w t s) (o : Option VirtualItem) → slice_get w.items t.pc ≡ o
      → Sim w (some_price (virtual_setting w) t.active.found o) t s (step_here w.reading (virtual_setting w) o t)
  do_here t s on None e = tt
  do_here t s on (Some item) e = do_item t s on item e

  -- what is known of a stop is let go
  on_budget : (b : ℕ) (t : VirtualState) (s : State) (y z : Step VirtualState V) → DoesFor w b t s y z
      → DoesOnBudget (Same w) (M w) (N w) (cost (program w)) (On w) (size w) b t s z
  on_budget b t s y (Go t1) h = h
  on_budget b t s y (Stop e t1) h =
      unless_wrong_map e (λ g. (
        g.0,
        reaches_weaken (metered (cost (program w)) (N w)) _ _ _ _ (λ m p. (inl p.0, p.1))
            (λ m q. (
              (inl q.alike, let few = q.few in omega (arith, few)),
              (q.last, q.step, q.same, q.few),
            )) g.0 (unspent s) g.1,
      )) h

  once : (n : ℕ) → n ≡ 1 * n
  once n = omega arith

  -- the code with slots simulates the virtual run in its stack, and its items cost no more than those of that run
  pub slots_simulate : CostSimulation (Same w) 1 (M w) (N w) (virtual_price (virtual_setting w)) (cost (program w))
      (On w) (size w)
  slots_simulate = record {
    alike = λ t s on. as_alike w t s (seen_of w t s on.body);
    does = λ t s on.
        subst (λ b. DoesOnBudget (Same w) (M w) (N w) (cost (program w)) (On w) (size w) b t s ((M w).step t))
        (once (virtual_price (virtual_setting w) t))
        (on_budget (virtual_price (virtual_setting w) t) t s
        (step_here w.reading (virtual_setting w) (slice_get w.items t.pc) t) ((M w).step t)
        (do_here t s on (slice_get w.items t.pc) refl));
  }

-- The run of a renamed code follows the run of the code, item by item, without a bound on the stack and in a stack.
use Rattle.std.proofs.Common.{ℕ, zero, suc, ◌+◌, ◌*◌, ◌≤◌, ◌≡◌, inl, Bool, true, false, List, [], ◌∷◌}
use Rattle.std.proofs.Common.{Some, refl, sym, ◌∙◌, ap, subst, arith}
use Rattle.std.specs.Prelude.{if◌then◌else◌, nat_le, length, slice_get}
use Rattle.grift_base.specs.World.{WorldState}
use Rattle.run_laws.specs.Runs.{Ending, Verdict, Exhausted, Wrong, Moment, NeverWrong}
use Rattle.run_laws.specs.Machines.{Next, Go, Stop, Machine, and_then, steps, seen, run, Alike, Onward, UnlessWrong}
use Rattle.run_laws.specs.Meters.{charge, OnBudget, DoesOnBudget, CostSimulation}
use Rattle.run_laws.proofs.Public.{unless_wrong_map, run_go}
use Rattle.machine_words.specs.Memory.{Memory}
use Rattle.rv_machine.specs.Registers.{Registers}
use Rattle.machine_words.specs.Halts.{Lacks, Stack}
use Rattle.low_ir.specs.Steps.{no_locals}
use Rattle.rv_select.specs.declared.code.VReg.{VReg}
use Rattle.rv_select.specs.declared.code.VReg.TheVariants.{Real, Virtual}
use Rattle.rv_select.specs.Run.{Found, Frame, VirtualState, Shown, held_by, step_here, virtual_machine}
use Rattle.rv_select.specs.Run.{virtual_start, value}
use Rattle.rv_select.specs.Stacks.{frame_size}
use Rattle.rv_select.specs.Stacks.{stack_of, if_room, stacked_machine}
use Rattle.rv_select.specs.Prices.{virtual_price}
use Rattle.placed_code.specs.Rename.{name, with_slots}
use Rattle.placed_code.specs.Sized.{stack_by, if_room_by, sized_machine, SameOrFewer}
use Rattle.placed_code.proofs.Names.{none_is}
use Rattle.placed_code.proofs.Renaming.{Pass, items', setting', image, Agree, AgreeAll, Related, Sim, do_step}
use Rattle.placed_code.proofs.RenamedPrices.{IfRight, renamed_pays}

both : {V : Type 0} (P Q : Type 0) (e : Ending V) → UnlessWrong e P → UnlessWrong e Q → UnlessWrong e (P × Q)
both P Q (Verdict v) p q = (p, q)
both P Q Exhausted p q = (p, q)
both P Q Wrong p q = tt

module _ {V : Type 0} (w : Pass V) where
  -- the frames of both states
  same_length : (fs gs : List Frame) → AgreeAll w fs gs → length gs ≡ length fs
  same_length [] [] h = refl
  same_length [] (g ∷ gs) h = absurd h
  same_length (f ∷ fs) [] h = absurd h
  same_length (f ∷ fs) (g ∷ gs) h = ap suc (same_length fs gs h.1)

  same_found : (f g : Frame) → Agree w f g → g.active.found ≡ with_slots w.naming f.active.found
  same_found f g h = ap (λ (x : Frame). x.active.found) h.1

  held_less : (found : Found) (fs gs : List Frame) → AgreeAll w fs gs
      → held_by (with_slots w.naming found) gs ≤ held_by found fs
  held_less found [] [] h = omega arith
  held_less found [] (g ∷ gs) h = absurd h
  held_less found (f ∷ fs) [] h = absurd h
  held_less found (f ∷ fs) (g ∷ gs) h =
      let few = w.is.few found.first found.count in
      let a = held_less f.active.found fs gs h.1 in
      let b : held_by g.active.found gs ≤ held_by f.active.found fs =
      subst (λ x. held_by x gs ≤ held_by f.active.found fs) (sym (same_found f g h.0)) a in
      omega (arith, few, b)

  stack_same : (found : Found) (fs gs : List Frame) → AgreeAll w fs gs
      → stack_of (with_slots w.naming found) gs ≡ stack_by w.naming.slots found fs
  stack_same found [] [] h = refl
  stack_same found [] (g ∷ gs) h = absurd h
  stack_same found (f ∷ fs) [] h = absurd h
  stack_same found (f ∷ fs) (g ∷ gs) h =
      ap (λ x. frame_size (w.naming.slots found.first found.count) + x)
      (ap (λ x. stack_of x gs) (same_found f g h.0) ∙ stack_same f.active.found fs gs h.1)

  module _ (M N : Machine VirtualState Shown V)
      (m_output : M.output ≡ (virtual_machine w.reading w.setting).output)
      (m_shown : M.shown ≡ (virtual_machine w.reading w.setting).shown)
      (n_output : N.output ≡ (virtual_machine w.reading (setting' w)).output)
      (n_shown : N.shown ≡ (virtual_machine w.reading (setting' w)).shown)
      (does_so : (t u : VirtualState) → Related w t u → Sim w t u (M.step t) (N.step u))
      (pays_so : (t u : VirtualState) → Related w t u
      → IfRight w (M.step t) (virtual_price (setting' w) u ≤ virtual_price w.setting t)) where
    like : (t u : VirtualState) → Related w t u → Alike SameOrFewer M N t u
    like t u r =
        let facts = r.5 in
        subst (λ z. Alike SameOrFewer M N t z) (sym r.4) (record {
          output = ap (λ o. o (image w t r.0 r.1 r.2 r.3)) n_output ∙ ap (λ o. o t) (sym m_output);
          shown = subst (λ o. SameOrFewer (N.shown (image w t r.0 r.1 r.2 r.3)) (o t)) (sym m_shown)
              (subst (λ o. SameOrFewer (o (image w t r.0 r.1 r.2 r.3)) ((virtual_machine w.reading w.setting).shown t))
              (sym n_shown) (record {
                memory = refl;
                stack = facts.fixed 25 refl;
                alloc = facts.fixed 26 refl;
                top = facts.fixed 27 refl;
                frames = same_length t.frames r.1 facts.frames;
                held = held_less t.active.found t.frames r.1 facts.frames;
              }));
        })

    abbrev cost : VirtualState → ℕ
    cost u = virtual_price (setting' w) u

    abbrev work : VirtualState → ℕ
    work t = virtual_price w.setting t

    abbrev size : VirtualState → ℕ
    size t = 0

    abbrev Paid : VirtualState → VirtualState → Type 0
    Paid t u = cost u ≤ work t

    abbrev Does : ℕ → VirtualState → VirtualState → Next VirtualState V → Type 0
    Does b t u y = DoesOnBudget SameOrFewer M N cost (Related w) size b t u y

    one_step : (b : ℕ) (t u : VirtualState) → work t ≡ b → Related w t u → (y : Next VirtualState V)
        → Sim w t u y (N.step u) → IfRight w y (Paid t u) → Does b t u y
    one_step b t u same r (Go t1) k paid = (
      1,
      inl (omega arith),
      (
        (inl (like t u r), omega arith),
        subst (λ z. Onward (charge (0 + cost u) z) (OnBudget SameOrFewer M N t t1 b)
            (λ m. Related w t1 m.rest × (m.spent ≤ b))) (sym k.1) (k.2, omega (arith, paid, same)),
      ),
    )
    one_step b t u same r (Stop e t1) k paid =
        unless_wrong_map e (λ h. (
          0,
          (
            (inl (like t u r), omega arith),
            (
              u,
              h.0.1,
              subst (λ z. Alike SameOrFewer M N z u) (sym h.0.0) (like t u r),
              (let paid = h.1 in
                  omega (arith, paid, same)),
            ),
          ),
        )) (both _ (Paid t u) e k paid)

    once : (n : ℕ) → n ≡ 1 * n
    once n = omega arith

    pub in_step : CostSimulation SameOrFewer 1 M N work cost (Related w) size
    in_step = record {
      alike = like;
      does = λ t u r. one_step (1 * work t) t u (once (work t)) r (M.step t) (does_so t u r) (pays_so t u r);
    }

  -- ---- both kinds of run

  free_step : (t u : VirtualState) → Related w t u
      → Sim w t u ((virtual_machine w.reading w.setting).step t) ((virtual_machine w.reading (setting' w)).step u)
  free_step t u r =
      subst (λ z. Sim w t z ((virtual_machine w.reading w.setting).step t)
      ((virtual_machine w.reading (setting' w)).step z)) (sym r.4) (do_step w t r.0 r.1 r.2 r.3 r.5)

  unless : {P : Type 0} (e : Ending V) → P → UnlessWrong e P
  unless (Verdict v) p = p
  unless Exhausted p = p
  unless Wrong p = tt

  by_room : (room : ℕ) (t u : VirtualState) (y y' : Next VirtualState V) → Sim w t u y y'
      → Sim w t u (if_room_by w.naming.slots w.reading room t y) (if_room w.reading room u y')
  by_room room t u (Go t1) y' k =
      let r = k.2 in
      let same : stack_of k.0.active.found k.0.frames ≡ stack_by w.naming.slots t1.active.found t1.frames =
      ap (λ (z : VirtualState). stack_of z.active.found z.frames) r.4
      ∙ stack_same t1.active.found t1.frames r.1 r.5.frames in
      subst (λ z. Sim w t u (if_room_by w.naming.slots w.reading room t (Go t1)) (if_room w.reading room u z))
      (sym k.1) (subst (λ n. Sim w t u (if_room_by w.naming.slots w.reading room t (Go t1))
      (if nat_le n room then Go k.0 else Stop (w.reading (Lacks Stack)) u)) (sym same)
      (pick (nat_le (stack_by w.naming.slots t1.active.found t1.frames) room) k.0 r))
    where
      pick : (c : Bool) (u1 : VirtualState) → Related w t1 u1
          → Sim w t u (if c then Go t1 else Stop (w.reading (Lacks Stack)) t)
          (if c then Go u1 else Stop (w.reading (Lacks Stack)) u)
      pick true u1 r = (u1, refl, r)
      pick false u1 r = unless (w.reading (Lacks Stack)) (refl, refl)
  by_room room t u (Stop e t1) y' k =
      unless_wrong_map e (λ h. (h.0, ap (λ z. if_room w.reading room u z) h.1)) k

  room_step : (room : ℕ) (t u : VirtualState) → Related w t u
      → Sim w t u ((sized_machine w.reading w.setting w.naming.slots room).step t)
      ((stacked_machine w.reading (setting' w) room).step u)
  room_step room t u r =
      by_room room t u (step_here w.reading w.setting (slice_get w.setting.items t.pc) t)
      (step_here w.reading (setting' w) (slice_get (items' w) u.pc) u) (free_step t u r)

  -- want of stack costs what the item would
  room_pays : (room : ℕ) (t : VirtualState) (P : Type 0) (y : Next VirtualState V) → IfRight w y P
      → IfRight w (if_room_by w.naming.slots w.reading room t y) P
  room_pays room t P (Go t1) p = pick (nat_le (stack_by w.naming.slots t1.active.found t1.frames) room)
    where
      pick : (c : Bool) → IfRight w (if c then Go t1 else Stop (w.reading (Lacks Stack)) t) P
      pick true = p
      pick false = unless (w.reading (Lacks Stack)) p
  room_pays room t P (Stop e t1) p = p

  pub free_simulates : CostSimulation SameOrFewer 1 (virtual_machine w.reading w.setting)
      (virtual_machine w.reading (setting' w)) (virtual_price w.setting) (virtual_price (setting' w)) (Related w)
      (λ t. 0)
  free_simulates =
      in_step (virtual_machine w.reading w.setting) (virtual_machine w.reading (setting' w)) refl refl refl refl
      free_step (λ t u r. renamed_pays w t u r)

  pub sized_simulates : (room : ℕ) → CostSimulation SameOrFewer 1
      (sized_machine w.reading w.setting w.naming.slots room) (stacked_machine w.reading (setting' w) room)
      (virtual_price w.setting) (virtual_price (setting' w)) (Related w) (λ t. 0)
  sized_simulates room =
      in_step (sized_machine w.reading w.setting w.naming.slots room) (stacked_machine w.reading (setting' w) room) refl
      refl refl refl (room_step room) (λ t u r.
      room_pays room t (virtual_price (setting' w) u ≤ virtual_price w.setting t)
      (step_here w.reading w.setting (slice_get w.setting.items t.pc) t) (renamed_pays w t u r))

  -- ---- where the renamed code comes the code comes

  abbrev free : Machine VirtualState Shown V
  free = virtual_machine w.reading w.setting

  abbrev free' : Machine VirtualState Shown V
  free' = virtual_machine w.reading (setting' w)

  no_stop : (e : Ending V) (t u : VirtualState) → Stop e t ≡ Go u → ⊥
  no_stop e t u h = cc

  here_is : (t u : VirtualState) → Go t ≡ (let y : Next VirtualState V = Go u in y) → t ≡ u
  here_is t u h = cc

  -- so many items lead to such a state
  abbrev pub ComesFrom : VirtualState → ℕ → VirtualState → Type 0
  ComesFrom t n u1 = (t1 : VirtualState) × (steps free t n ≡ Go t1) × Related w t1 u1

  goes_back : (t u u1 : VirtualState) (n : ℕ) (y : Next VirtualState V) → free.step t ≡ y
      → Sim w t u y (free'.step u) → NeverWrong (run free t)
      → ((t2 u2 : VirtualState) → Related w t2 u2 → NeverWrong (run free t2) → steps free' u2 n ≡ Go u1
      → ComesFrom t2 n u1)
      → and_then (free'.step u) (λ u2. steps free' u2 n) ≡ Go u1 → ComesFrom t (suc n) u1
  goes_back t u u1 n (Go t2) is k never ih h =
      let on = ih t2 k.0 k.2
      (λ m e. never (suc m) (ap (λ (x : Moment Shown V). x.ending) (run_go free t t2 m is) ∙ e))
      (ap (λ y. and_then y (λ u2. steps free' u2 n)) (sym k.1) ∙ h) in
      (on.0, ap (λ y. and_then y (λ t3. steps free t3 n)) is ∙ on.1, on.2)
  goes_back t u u1 n (Stop (Verdict v) t2) is k never ih h =
      absurd (no_stop (Verdict v) u u1 (ap (λ y. and_then y (λ u2. steps free' u2 n)) (sym k.1) ∙ h))
  goes_back t u u1 n (Stop Exhausted t2) is k never ih h =
      absurd (no_stop Exhausted u u1 (ap (λ y. and_then y (λ u2. steps free' u2 n)) (sym k.1) ∙ h))
  goes_back t u u1 n (Stop Wrong t2) is k never ih h =
      absurd (never 1 (ap (λ y. (seen free (and_then y (λ t3. steps free t3 0))).ending) is))

  pub comes_back : (n : ℕ) (t u u1 : VirtualState) → Related w t u → NeverWrong (run free t)
      → steps free' u n ≡ Go u1 → ComesFrom t n u1
  comes_back zero t u u1 r never h = (t, refl, subst (Related w t) (here_is u u1 h) r)
  comes_back (suc n) t u u1 r never h =
      goes_back t u u1 n (free.step t) refl (free_step t u r) never
      (λ t2 u2 r2 never2 h2. comes_back n t2 u2 u1 r2 never2 h2) h

  -- the bytes of the frames of the state that is come to
  pub frames_same : (t u : VirtualState) → Related w t u
      → stack_of u.active.found u.frames ≡ stack_by w.naming.slots t.active.found t.frames
  frames_same t u r =
      ap (λ (z : VirtualState). stack_of z.active.found z.frames) r.4
      ∙ stack_same t.active.found t.frames r.1 r.5.frames

  -- ---- where both begin

  no_slots : w.naming.slots 0 0 ≡ 0
  no_slots = let z = w.is.few 0 0 in omega (arith, z)

  pub related_start : (regs : Registers) (memory : Memory) (world : WorldState)
      → Related w (virtual_start regs memory world) (virtual_start regs memory world)
  related_start regs memory world =
      let t : VirtualState = virtual_start regs memory world in (
        no_locals,
        [],
        regs,
        (λ r. false),
        ap (λ n. record t { active = record { found = record { home = 0; first = 0; count = n }; locals = no_locals } })
            (sym no_slots),
        record {
          code = refl;
          home = refl;
          found = tt;
          fixed = λ r h. refl;
          holds = λ a x h e. real_held a x e;
          owned = λ v x e. absurd (none_is x e);
          frames = tt;
        },
      )
    where
      real_held : (a : VReg) (x : ℕ) → value (virtual_start regs memory world) a ≡ Some x
          → value (image w (virtual_start regs memory world) no_locals [] regs (λ r. false)) (name w.naming 0 0 a) ≡
          Some x
      real_held (Real r) x e = e
      real_held (Virtual v) x e = absurd (none_is x e)

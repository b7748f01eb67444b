-- Calls, tail calls and returns: a frame is made where it fits into the stack, and given up.
use Rattle.std.proofs.Common.{ℕ, suc, ◌+◌, ◌-◌, ◌*◌, ◌%◌, ◌^◌, ◌<◌, ◌≤◌, ◌≡◌, ◌⊎◌, inl, inr, Bool, true, false}
use Rattle.std.proofs.Common.{List, [], ◌∷◌, ◌++◌, Some, refl, sym, ◌∙◌, ap, subst, arith}
use Rattle.std.specs.Prelude.{◌==◌, nat_lt, nat_le, if◌then◌else◌, length, slice_get, pos}
use Rattle.grift_base.specs.EnvironmentCall.{environment_call}
use Rattle.run_laws.specs.Runs.{Ending, Verdict, Exhausted, Wrong}
use Rattle.run_laws.specs.Machines.{Go, Stop, Alike, UnlessWrong}
use Rattle.run_laws.specs.Meters.{metered, unspent}
use Rattle.run_laws.proofs.Public.{reaches_weaken}
use Rattle.rv_isa.specs.declared.inst.Inst.TheVariants.{Sd, Addi, Jalr, Ecall, Ebreak, Sub as SubInst}
use Rattle.machine_words.specs.declared.conditions.Cond.TheVariants.{Ltu}
use Rattle.rv_machine.specs.declared.real.RealItem.{RealItem}
use Rattle.rv_machine.specs.declared.real.RealItem.TheVariants.{Op, Branch as RealBranch}
use Rattle.machine_words.specs.Memory.{Memory, store_bytes}
use Rattle.rv_machine.specs.Registers.{Registers, get_reg, set_reg}
use Rattle.rv_machine.specs.State.{State, Turn, Stops}
use Rattle.machine_words.specs.Halts.{Lacks, Stack}
use Rattle.rv_machine.specs.Turn.{put, comes_to, call_environment}
use Rattle.machine_words.proofs.Public.{load_stored, stored_outside}
use Rattle.rv_machine.proofs.Public.{has_item-append, call_stops}
use Rattle.low_ir.specs.Prices.{entering}
use Rattle.low_ir.specs.Steps.{no_locals}
use Rattle.rv_select.specs.declared.code.VReg.{VReg}
use Rattle.rv_select.specs.declared.code.VirtualItem.TheVariants.{CodeOf, Call, CallAt}
use Rattle.rv_select.specs.Run.{Found, VirtualState, may_read, only_args, value}
use Rattle.rv_select.specs.Run.{procedure_from, procedure_at}
use Rattle.rv_select.specs.Prices.{register_price, number_price, entering_found}
use Rattle.placed_code.specs.Slots.{register_for, fetch_items, save_items, word_items}
use Rattle.placed_code.specs.Slots.{expand_all, final_items}
use Rattle.rv_select.specs.Stacks.{frame_size, stack_of}
use Rattle.placed_code.proofs.slotted.Paying.{cost, cost_is, comes_there, is_there, comes_on_later}
use Rattle.placed_code.proofs.slotted.PutWords.{OnlyIn}
use Rattle.placed_code.proofs.slotted.Items.{Then, ThenOn, as_at, regrouped, stands_small, stands_aligned, mark_stands}
use Rattle.placed_code.proofs.slotted.Items.{does, jumps, goes_past, taken, addresses, lands, words}
use Rattle.placed_code.proofs.slotted.Frames.{Slotting, none_is, readable_low, low_reg, unset, other_get, get_only}
use Rattle.placed_code.proofs.slotted.Frames.{scratch_same}
use Rattle.placed_code.proofs.slotted.Frames.{set_fits, fits_only, stored_fits, program, M, N, Stand, rest_of}
use Rattle.placed_code.proofs.slotted.Frames.{has_rest, HasHome, Stacked, stack_is, stack_high, stack_same, Body, On}
use Rattle.placed_code.proofs.slotted.Frames.{Same, Seen, seen_of, seen_still, as_alike, Way, way_first, way_second}
use Rattle.placed_code.proofs.slotted.Frames.{body_scratch}
use Rattle.placed_code.proofs.slotted.SlotPrices.{made_for, entering_most}
use Rattle.placed_code.proofs.slotted.SlotWords.{wrote, stores, fetch, saved}
use Rattle.placed_code.proofs.slotted.SlotItems.{code_of, room, DoesFor, SimItem}
use Rattle.placed_code.proofs.slotted.SlotItems.{reached_for, sim_given, sim_puts}
use Rattle.placed_code.proofs.slotted.SlotMarks.{beyond, drop_beyond, frame_items, enter_items, Begins}
use Rattle.placed_code.proofs.slotted.SlotMarks.{found_number, found_address, told_address, begins_at}

not_link : (q : ℕ) → may_read q ≡ true → (q == 1) ≡ false
not_link q h = grind arith

not_stack : (q : ℕ) → may_read q ≡ true → (q == 2) ≡ false
not_stack q h = grind arith

-- ---- the stack lacks room

abbrev call_with : ℕ → ℕ → ℕ → State → Turn
call_with number a0 a1 s =
    let c = environment_call number a0 a1 (length s.layout.labels) s.world in comes_to c.effect c.world s

sixth_stops : (a0 a1 : ℕ) (s : State) → call_with 6 a0 a1 s ≡ Stops (Lacks Stack)
unfolding environment_call
sixth_stops a0 a1 s = refl

lacks_stack : (s : State) → get_reg s.regs 17 ≡ 6 → call_environment s ≡ Stops (Lacks Stack)
lacks_stack s h =
    ap (λ n. call_with n (get_reg s.regs 10) (get_reg s.regs 11) s) h
    ∙ sixth_stops (get_reg s.regs 10) (get_reg s.regs 11) s

-- the price of a procedure's entry up to where its stop for want of stack is next
abbrev pub entry_price : ℕ → ℕ
entry_price count = number_price (frame_size count) + 13

aligned_below : (x n : ℕ) → x % 8 ≡ 0 → 8 * n ≤ x → (x - 8 * n) % 8 ≡ 0
aligned_below x n e k = omega arith

module _ {V : Type 0} (w : Slotting V) where
  -- the machine's next step stops for want of stack, as fewer bytes are left than the frame of a procedure has
  pub record Out (t : VirtualState) (f : Found) (s : State) : Type 0 where
    pub alike : Alike (Same w) (M w) (N w) t s
    pub step : (N w).step s ≡ Stop (w.reading (Lacks Stack)) s
    pub one : cost (program w) s ≡ 1
    pub left : s.regs 2 < s.regs 25 + frame_size f.count
    pub world : s.world ≡ t.world

  -- the code behind the last procedure
  no_room : (t : VirtualState) (f : Found) (s : State) → Seen w t s → s.regs 2 < s.regs 25 + frame_size f.count
      → Stand w s.pc (Op (Addi 17 0 (pos 6)) ∷ Op Ecall ∷ Op Ebreak ∷ [])
      → ThenOn (program w) (Way w t t) (Out t f) 1 s
  no_room t f s seen left c =
      does (program w) (Way w t t) (Out t f) s (set_reg 17 6 s.regs) s.memory c tt (λ ecall ebreak pc. refl)
      (way_first w t t s seen) (λ n c1.
      let s1 : State = record s { regs = set_reg 17 6 s.regs; pc = n } in
      let seen1 : Seen w t s1 =
      seen_still w t s (set_reg 17 6 s.regs) n 17 seen (λ q e. unset q 17 6 s.regs e) refl refl refl refl in
      let at = as_at (program w) s1 c1 in
      let stops = call_stops (program w) (Lacks Stack) at tt (λ pc.
      w.calls at.place (record s1 { pc = pc }) ∙ lacks_stack (record s1 { pc = pc }) refl) in
      is_there (program w) (Way w t t) (Out t f) (record {
        alike = as_alike w t s1 seen1;
        step = stops;
        one = cost_is (program w) at refl;
        left = left;
        world = seen1.world;
      }))

  -- ---- a procedure is entered

  abbrev pub entered : ℕ → VirtualState → Found → ℕ → VirtualState
  entered n u f back = record u {
    pc = f.home;
    active = record { found = f; locals = no_locals };
    frames = record { back = back; active = u.active } ∷ u.frames;
    known = only_args n u.known;
  }

  -- from where the procedure begins, the link in x1, the machine comes to where Q holds, in steps between two states;
  -- the first is where the step began, and u what is left of it
  abbrev pub Enters : ℕ → VirtualState → VirtualState → ℕ → Found → VirtualState → (State → Type 0) → Type 0
  Enters most t u back f t1 Q =
      (s : State) → Seen w t s → Body w u s → HasHome w u.active.found
      → Stand w (s.regs 1) (rest_of w u.active.found back)
      → Stand w s.pc (enter_items w f.count ++ rest_of w f f.home)
      → ThenOn (program w) (Way w t t1) Q most s

  -- the code where the stack lacks room, or where the frame is made, behind the test
  abbrev AfterTest : Bool → ℕ → List RealItem → Type 0
  AfterTest true pc rest = Stand w pc (Op (Addi 17 0 (pos 6)) ∷ Op Ecall ∷ Op Ebreak ∷ [])
  AfterTest false pc rest = Stand w pc (Op (SubInst 2 2 28) ∷ Op (Sd 1 2 (pos 0)) ∷ rest)

  -- the bytes that are left in the stack are compared with those of the frame
  stack_test : {most : ℕ} (t t1 u : VirtualState) (Q : State → Type 0) (s : State) (need : ℕ) (rest : List RealItem)
      (lacks : Bool) → Seen w t s → Body w u s → get_reg s.regs 28 ≡ need → nat_lt (s.regs 2 - w.top) need ≡ lacks
      → Stand w s.pc (frame_items w ++ rest)
      → ((pc : ℕ) → AfterTest lacks pc rest
      → Then (program w) (Way w t t1) Q most (record s { regs = set_reg 29 (s.regs 2 - w.top) s.regs; pc = pc }))
      → ThenOn (program w) (Way w t t1) Q (suc (11 + most)) s
  stack_test {most} t t1 u Q s need rest lacks seen b size28 test c go =
      does (program w) (Way w t t1) Q s regs2 s.memory c tt
      (λ ecall ebreak pc. ap (λ z. put 29 z (record s { pc = pc })) free_word) (way_first w t t1 s seen) (λ n2 c2.
      comes_there (program w) (Way w t t1) Q (tested n2 c2 lacks test go))
    where
      free : ℕ
      free = s.regs 2 - w.top

      regs2 : Registers
      regs2 = set_reg 29 free s.regs

      free_word : (s.regs 2 + (2 ^ 64 - s.regs 25)) % 2 ^ 64 ≡ free
      free_word =
          let e : s.regs 25 ≡ w.top = b.limit in
          let h = b.above in
          let small = b.fits 2 in
          let y : (s.regs 2 + (2 ^ 64 - w.top)) % 2 ^ 64 ≡ s.regs 2 - w.top = omega arith in
          ap (λ x. (s.regs 2 + (2 ^ 64 - x)) % 2 ^ 64) e ∙ y

      seen2 : (n : ℕ) → Seen w t (record s { regs = regs2; pc = n })
      seen2 n = seen_still w t s regs2 n 29 seen (λ q e. unset q 29 free s.regs e) refl refl refl refl

      less : (c : Bool) → nat_lt free need ≡ c → nat_lt free (get_reg s.regs 28) ≡ c
      less c h = ap (λ x. nat_lt free x) size28 ∙ h

      tested : (n2 : ℕ) → Stand w n2 (RealBranch Ltu 29 28 w.out ∷ Op (SubInst 2 2 28) ∷ Op (Sd 1 2 (pos 0)) ∷ rest)
          → (c : Bool) → nat_lt free need ≡ c
          → ((pc : ℕ) → AfterTest c pc rest
          → Then (program w) (Way w t t1) Q most (record s { regs = regs2; pc = pc }))
          → ThenOn (program w) (Way w t t1) Q (11 + most) (record s { regs = regs2; pc = n2 })
      tested n2 c2 true h next =
          let s2 : State = record s { regs = regs2; pc = n2 } in
          let last : List RealItem = Op (Addi 17 0 (pos 6)) ∷ Op Ecall ∷ Op Ebreak ∷ [] in
          let a = mark_stands (program w) s (beyond (expand_all w.out 0 0 w.items) 0) w.out last
          (drop_beyond w (expand_all w.out 0 0 w.items) (final_items w.out) 0 refl) tt in
          taken (program w) (Way w t t1) Q s2 a.pc c2 (less true h) a.is_address (way_first w t t1 s2 (seen2 n2))
          (next a.pc a.stands)
      tested n2 c2 false h next =
          let s2 : State = record s { regs = regs2; pc = n2 } in
          goes_past (program w) (Way w t t1) Q s2 c2 tt (less false h) (way_first w t t1 s2 (seen2 n2))
          (λ n3 c3. next n3 c3)

  -- behind the test the frame is made, with the link
  makes_frame : (t u : VirtualState) (n back : ℕ) (f : Found) (s : State) → Seen w t s → Body w u s
      → HasHome w u.active.found → HasHome w f → Stand w (s.regs 1) (rest_of w u.active.found back)
      → get_reg s.regs 28 ≡ frame_size f.count → frame_size f.count ≤ s.regs 2 - w.top
      → Stand w s.pc (Op (SubInst 2 2 28) ∷ Op (Sd 1 2 (pos 0)) ∷ rest_of w f f.home)
      → ThenOn (program w) (Way w t (entered n u f back)) (On w (entered n u f back)) 2 s
  makes_frame t u n back f s seen b home f_home link size28 fit c =
      does (program w) P Q s regs3 s.memory c tt
      (λ ecall ebreak pc. ap (λ x. put 2 ((sp + (2 ^ 64 - x)) % 2 ^ 64) (record s { pc = pc })) size28
      ∙ ap (λ z. put 2 z (record s { pc = pc })) low_word) (way_first w t t1 s seen) (λ n4 c4.
      let s4 : State = record s { regs = regs3; pc = n4 } in
      let x = b.above in
      let y = w.lies.region in
      let z = high.0 in
      let g = fit in
      let small = low_fits in
      let at : (low + 0) % 2 ^ 64 ≡ low = omega arith in
      comes_there (program w) P Q (does (program w) P Q s4 regs3 memory1 c4 (has_rest w f f.home)
      (λ ecall ebreak pc. stores w s4 1 2 low 0 pc ecall ebreak b.layout at (made s.pc).stack.0.aligned (omega arith)
      (omega arith)) (way_second w t t1 s4 (seen4 n4)) (λ n5 c5.
      is_there (program w) P Q (record {
        body = made n5;
        home = f_home;
        code = c5;
      }))))
    where
      t1 : VirtualState
      t1 = entered n u f back

      P : State → Type 0
      P = Way w t t1

      Q : State → Type 0
      Q = On w t1

      need : ℕ
      need = frame_size f.count

      sp : ℕ
      sp = s.regs 2

      low : ℕ
      low = sp - need

      regs3 : Registers
      regs3 = set_reg 2 low s.regs

      memory1 : Memory
      memory1 = store_bytes 8 s.memory low (s.regs 1)

      high : (sp ≤ w.layout.end) × (sp % 8 ≡ 0)
      high = stack_high w s.memory sp u.active u.frames b.stack

      low_word : (sp + (2 ^ 64 - need)) % 2 ^ 64 ≡ low
      low_word = let small = b.fits 2 in let x = b.above in let g = fit in omega arith

      low_fits : low < 2 ^ 64
      low_fits = let small = b.fits 2 in omega arith

      other_is : (q : ℕ) → (q == 2) ≡ false → regs3 q ≡ s.regs q
      other_is q m = rw m refl

      aligned : low % 8 ≡ 0
      aligned =
          let x = high.1 in
          let y = b.above in
          let g = fit in aligned_below sp (1 + f.count) x (omega arith)

      -- x2 is that of the state that is entered
      seen4 : (n4 : ℕ) → Seen w t1 (record s { regs = regs3; pc = n4 })
      seen4 n4 = record {
        memory = b.memory;
        stack = b.regs 25 refl;
        alloc = b.regs 26 refl;
        top = b.regs 27 refl;
        world = b.world;
        layout = b.layout;
        above = (let x = b.above in let g = fit in omega arith);
        used = (let e = stack_is w s.memory sp u.active u.frames b.stack in
            let x = b.above in let g = fit in omega (arith, e));
      }

      made : (pc : ℕ) → Body w t1 (record s { regs = regs3; memory = memory1; pc = pc })
      made pc =
          let x = b.above in
          let y = high.0 in
          let g = fit in
          let back_up : sp ≡ low + need = omega arith in
          record {
            regs = λ q m. other_get 2 q low s.regs (not_stack q m) ∙ b.regs q m;
            limit = b.limit;
            memory = λ i m. stored_outside 8 s.memory low (s.regs 1) i (inl (omega (arith, m))) ∙ b.memory i m;
            world = b.world;
            layout = b.layout;
            fits = set_fits 2 low s.regs low_fits b.fits;
            bytes = stored_fits s.memory low (s.regs 1) b.bytes;
            above = omega arith;
            stack = (
              record {
                slots = λ v word e. absurd (none_is word e);
                aligned = aligned;
                room = omega arith;
                back = subst (λ a. Stand w a (rest_of w u.active.found back))
                    (sym (load_stored 8 s.memory low (s.regs 1) (b.fits 1))) link;
                home = home;
              },
              subst (λ a. Stacked w memory1 a u.active u.frames) back_up (stack_same w s.memory memory1 sp u.active
                  u.frames (λ i m. sym (stored_outside 8 s.memory low (s.regs 1) i (inr (omega (arith, m))))) b.stack),
            );
          }

  -- the size of the frame is put into x28, and the stack is tested
  enters_by : {most : ℕ} (t t1 u : VirtualState) (Q : State → Type 0) (k back : ℕ) (f : Found) (lacks : Bool)
      → Begins w k f → (s : State) → Seen w t s → Body w u s → nat_lt (s.regs 2 - w.top) (frame_size f.count) ≡ lacks
      → Stand w (s.regs 1) (rest_of w u.active.found back)
      → Stand w s.pc (enter_items w f.count ++ rest_of w f f.home)
      → ((s2 : State) → Seen w t s2 → Body w u s2 → Stand w (s2.regs 1) (rest_of w u.active.found back)
      → get_reg s2.regs 28 ≡ frame_size f.count → s2.regs 2 ≡ s.regs 2
      → s2.regs 25 ≡ s.regs 25 → AfterTest lacks s2.pc (rest_of w f f.home)
      → Then (program w) (Way w t t1) Q most s2)
      → ThenOn (program w) (Way w t t1) Q (number_price (frame_size f.count) + suc (11 + most)) s
  enters_by {most} t t1 u Q k back f lacks begins s seen b test link c go =
      words (program w) (Way w t t1) Q s 28 need (frame_items w ++ rest) refl small tt
      (λ regs pc only. way_first w t t1 (record s { regs = regs; pc = pc }) (seen28 regs pc only))
      (λ regs n1 e1 only c1.
      let s1 : State = record s { regs = regs; pc = n1 } in
      let b1 : Body w u s1 = body_scratch w u s regs n1 b
      (λ q m. get_only 28 q regs s.regs only (low_reg q 28 (readable_low q m) (omega arith))) (only 2 refl)
      (fits_only 28 need regs s.regs only e1 (omega arith) small b.fits) in
      let test1 : nat_lt (regs 2 - w.top) need ≡ lacks = ap (λ x. nat_lt (x - w.top) need) (only 2 refl) ∙ test in
      comes_there (program w) (Way w t t1) Q (stack_test t t1 u Q s1 need rest lacks (seen28 regs n1 only) b1 e1 test1
      c1
      (λ n2 c2.
      let free : ℕ = regs 2 - w.top in
      let s2 : State = record s { regs = set_reg 29 free regs; pc = n2 } in
      let seen2 : Seen w t s2 = seen_still w t s1 (set_reg 29 free regs) n2 29 (seen28 regs n1 only)
      (λ q m. rw m refl) refl refl refl refl in
      let small2 : free < 2 ^ 64 = (let x = b1.fits 2 in omega arith) in
      let b2 : Body w u s2 = body_scratch w u s1 (set_reg 29 free regs) n2 b1
      (λ q m. scratch_same 29 free q regs (omega arith) m) refl (set_fits 29 free regs small2 b1.fits) in
      go s2 seen2 b2 (subst (λ x. Stand w x (rest_of w u.active.found back)) (sym (only 1 refl)) link) e1 (only 2 refl)
      (only 25 refl) c2))) (regrouped (program w) (word_items 28 need) (frame_items w) rest c)
    where
      need : ℕ
      need = frame_size f.count

      rest : List RealItem
      rest = rest_of w f f.home

      small : need < 2 ^ 64
      small = let h = begins.few in omega arith

      seen28 : (regs : Registers) (pc : ℕ) → OnlyIn 28 regs s.regs → Seen w t (record s { regs = regs; pc = pc })
      seen28 regs pc only = seen_still w t s regs pc 28 seen only refl refl refl refl

  -- the frame of a procedure fits behind the others
  abbrev pub HasRoom : Bool → Found → VirtualState → Type 0
  HasRoom c f u = nat_le (frame_size f.count + stack_of u.active.found u.frames) (room w) ≡ c

  enters_fit : (t u : VirtualState) (k n back : ℕ) (f : Found) → Begins w k f → HasRoom true f u
      → Enters (suc (entry_price f.count)) t u back f (entered n u f back) (On w (entered n u f back))
  enters_fit t u k n back f begins fit s seen b home link c =
      let filled = stack_is w s.memory (s.regs 2) u.active u.frames b.stack in
      let x = b.above in
      let need : ℕ = frame_size f.count in
      let no_lack : nat_lt (s.regs 2 - w.top) (frame_size f.count) ≡ false = grind (arith, filled, x, fit) in
      let enough : frame_size f.count ≤ s.regs 2 - w.top = grind (arith, filled, x, fit) in
      let t1 : VirtualState = entered n u f back in
      comes_on_later (program w) (Way w t t1) (On w t1) (suc (entry_price f.count)) (omega arith) (
      enters_by t t1 u (On w t1) k back f false begins s seen b no_lack link c (λ s2 seen2 b2 link2 e2 sp2 limit2 c2.
      let enough2 : frame_size f.count ≤ s2.regs 2 - w.top =
      subst (λ y. frame_size f.count ≤ y - w.top) (sym sp2) enough in
      comes_there (program w) (Way w t t1) (On w t1)
      (makes_frame t u n back f s2 seen2 b2 home begins.home link2 e2 enough2 c2)))

  enters_out : (t u : VirtualState) (k back : ℕ) (f : Found) → Begins w k f → HasRoom false f u
      → Enters (entry_price f.count) t u back f t (Out t f)
  enters_out t u k back f begins lacks s seen b home link c =
      let filled = stack_is w s.memory (s.regs 2) u.active u.frames b.stack in
      let x = b.above in
      let lack : nat_lt (s.regs 2 - w.top) (frame_size f.count) ≡ true = grind (arith, filled, x, lacks) in
      let limit = b.limit in
      let left : s.regs 2 < s.regs 25 + frame_size f.count = grind (arith, lack, x, limit) in
      comes_on_later (program w) (Way w t t) (Out t f) (entry_price f.count) (omega arith) (
      enters_by t t u (Out t f) k back f true begins s seen b lack link c (λ s2 seen2 b2 link2 e2 sp2 limit2 c2.
      comes_there (program w) (Way w t t) (Out t f)
      (no_room t f s2 seen2 (omega (arith, left, sp2, limit2)) c2)))

  -- what is to be shown of an item that enters a procedure, whether its frame fits or not
  alike_first : (t : VirtualState) (s : State) → (Alike (Same w) (M w) (N w) t s ⊎ Alike (Same w) (M w) (N w) t s)
      → Alike (Same w) (M w) (N w) t s
  alike_first t s (inl a) = a
  alike_first t s (inr a) = a

  pub unless : {P : Type 0} (e : Ending V) → P → UnlessWrong e P
  unless (Verdict v) p = p
  unless Exhausted p = p
  unless Wrong p = tt

  pub sim_enter : {b : ℕ} (before : ℕ) (t u : VirtualState) (s : State) (k n back : ℕ) (f : Found) → Begins w k f
      → t.world ≡ u.world → before + entering f.count ≤ b
      → ((most : ℕ) (t1 : VirtualState) (Q : State → Type 0) → Enters most t u back f t1 Q
      → ThenOn (program w) (Way w t t1) Q (before + most) s)
      → DoesFor w b t s (Go (entered n u f back))
      (if nat_le (frame_size f.count + stack_of u.active.found u.frames) (room w) then Go (entered n u f back)
      else Stop (w.reading (Lacks Stack)) t)
  sim_enter {b} before t u s k n back f begins world few go =
      by_room (nat_le (frame_size f.count + stack_of u.active.found u.frames) (room w)) refl
    where
      t1 : VirtualState
      t1 = entered n u f back

      by_room : (c : Bool) → HasRoom c f u
          → DoesFor w b t s (Go t1) (if c then Go t1 else Stop (w.reading (Lacks Stack)) t)
      by_room true h =
          let made = made_for f.count in
          reached_for w b (before + suc (entry_price f.count)) t t1 s (omega (arith, few, made))
          (go (suc (entry_price f.count)) t1 (On w t1) (enters_fit t u k n back f begins h))
      by_room false h =
          let made = made_for f.count in
          let r = go (entry_price f.count) t (Out t f) (enters_out t u k back f begins h) in
          unless (w.reading (Lacks Stack)) (
            suc r.later,
            reaches_weaken (metered (cost (program w)) (N w)) _ _ _ _ (λ m p. (
              alike_first t m.rest p.0.0,
              omega (
                arith,
                few,
                made,
                p.1,
              ),
            )) (λ m q. record {
              alike = q.0.alike;
              last = m.rest;
              step = q.0.step;
              same = q.0.alike;
              few = (let one = q.0.one in let spent = q.1 in omega (arith, few, made, one, spent));
              lacking = record {
                left = q.0.left;
                world = q.0.world ∙ world;
                place = begins.mark;
                number = k;
                there = begins.is;
              };
            }) (suc r.later) (unspent s) (r.pays 0 (before + entry_price f.count) (omega arith)),
          )

  -- ---- the address of a procedure

  pub do_code_of : (t : VirtualState) (s : State) (on : On w t s) (rd : VReg) (k : ℕ)
      → slice_get w.items t.pc ≡ Some (CodeOf rd k)
      → SimItem w t s (CodeOf rd k)
  do_code_of t s on rd k here =
      sim_given w _ t t s (procedure_from k 0 w.items) _ (λ g e.
      sim_puts w t s rd (w.told k) on.body (omega arith) (λ permit.
      let f : Found = t.active.found in
      let rest : List RealItem = rest_of w f (suc t.pc) in
      let t1 : VirtualState = wrote rd (w.told k) t in
      let begins = found_number w k g e in
      let a = begins_at w s k g begins in
      let same : w.told k ≡ a.pc = told_address w k a.pc g begins a.is_address in
      let small : w.told k < 2 ^ 64 = subst (λ z. z < 2 ^ 64) (sym same) (stands_small (program w) s a.stands) in
      addresses (program w) (Way w t t1) (On w t1) s (w.told k) (code_of w t s on (CodeOf rd k) here tt)
      (has_item-append (save_items f.first rd) rest (has_rest w f (suc t.pc))) (a.is_address ∙ ap Some (sym same))
      (way_first w t t1 s (seen_of w t s on.body)) (λ n c.
      saved w t s rd (w.told k) n on.body on.home permit small c)))

  -- ---- calls

  -- the link is in x1, and the machine is at the procedure
  linked : (most : ℕ) (t : VirtualState) (s : State) (home : HasHome w t.active.found) (at m : ℕ) (f : Found)
      (t1 : VirtualState) (Q : State → Type 0) (regs : Registers) → Body w t (record s { regs = regs })
      → Enters most t t (suc t.pc) f t1 Q → Stand w at (enter_items w f.count ++ rest_of w f f.home)
      → Stand w m (rest_of w t.active.found (suc t.pc))
      → Then (program w) (Way w t t1) Q most (record s { regs = set_reg 1 m regs; pc = at })
  linked most t s home at m f t1 Q regs b enters c link =
      let s1 : State = record s { regs = set_reg 1 m regs; pc = at } in
      let small : m < 2 ^ 64 = stands_small (program w) s link in
      let body : Body w t s1 = body_scratch w t (record s { regs = regs }) (set_reg 1 m regs) at b
      (λ q h. other_get 1 q m regs (not_link q h)) refl (set_fits 1 m regs small b.fits) in
      comes_there (program w) (Way w t t1) Q (enters s1 (seen_of w t s1 body) body home link c)

  same_state : (t : VirtualState) (s : State) → Body w t s → Body w t (record s { regs = s.regs })
  same_state t s b = b

  -- what is entered by its number is paid by it
  pub entered_price : (k : ℕ) (f : Found) → procedure_from k 0 w.items ≡ Some f
      → entering_found (procedure_from k 0 w.items) ≡ entering f.count
  entered_price k f e = ap entering_found e

  pub do_call : (t : VirtualState) (s : State) (on : On w t s) (k n : ℕ) → slice_get w.items t.pc ≡ Some (Call k n)
      → SimItem w t s (Call k n)
  do_call t s on k n here =
      sim_given w _ t t s (procedure_from k 0 w.items) _ (λ f e.
      let begins = found_number w k f e in
      let a = begins_at w s k f begins in
      sim_enter 10 t t s k n (suc t.pc) f begins refl (omega (arith, entered_price k f e)) (λ most t1 Q enters.
      jumps (program w) (Way w t t1) Q s a.pc (code_of w t s on (Call k n) here tt)
      (has_rest w t.active.found (suc t.pc)) a.is_address (way_first w t t1 s (seen_of w t s on.body)) (λ m c.
      linked most t s on.home a.pc m f t1 Q s.regs (same_state t s on.body) enters a.stands c)))

  -- the procedure at an address, with its code there
  pub entered_at : (s : State) (at : ℕ) (f : Found) → procedure_at w.told at 0 w.items ≡ Some f
      → (k : ℕ) × Begins w k f × Stand w at (enter_items w f.count ++ rest_of w f f.home)
  entered_at s at f e =
      let z = found_address w at f e in
      let b = begins_at w s z.0 f z.1 in
      let same : b.pc ≡ at = sym (told_address w z.0 b.pc f z.1 b.is_address) ∙ z.2 in
      (z.0, z.1, subst (λ x. Stand w x (enter_items w f.count ++ rest_of w f f.home)) same b.stands)

  pub do_call_at : (t : VirtualState) (s : State) (on : On w t s) (a : VReg) (n : ℕ)
      → slice_get w.items t.pc ≡ Some (CallAt a n)
      → SimItem w t s (CallAt a n)
  do_call_at t s on a n here =
      sim_given w _ t t s (value t a) _ (λ at ae. sim_given w _ t t s (procedure_at w.told at 0 w.items) _ (λ f e.
      let z = entered_at s at f e in
      let code : Stand w at (enter_items w f.count ++ rest_of w f f.home) = z.2 in
      let rest : List RealItem = rest_of w t.active.found (suc t.pc) in
      let last : List RealItem = Op (Jalr 1 (register_for 28 a) (pos 0)) ∷ [] in
      sim_enter (register_price t.active.found.first a + 1) t t s z.0 n (suc t.pc) f z.1 refl
      (let dearest = entering_most f.count in omega (arith, dearest)) (λ most t1 Q enters.
      comes_on_later (program w) (Way w t t1) Q (register_price t.active.found.first a + 1 + most) (omega arith) (
      fetch w t t1 Q (suc most) s on.body 28 a at (last ++ rest) (omega arith) ae tt
      (regrouped (program w) (fetch_items t.active.found.first 28 a) last rest
      (code_of w t s on (CallAt a n) here tt)) (λ s1 f1 c1.
      lands (program w) (Way w t t1) Q s1 at c1 (has_rest w t.active.found (suc t.pc)) f1.there
      (stands_small (program w) s code) (stands_aligned (program w) s code)
      (way_first w t t1 s1 (seen_of w t s1 f1.body)) (λ m c2.
      linked most t s1 on.home at m f t1 Q s1.regs (same_state t s1 f1.body) enters code c2))))))

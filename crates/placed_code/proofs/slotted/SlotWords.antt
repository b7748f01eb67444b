-- Words that are fetched from slots, and put into them.
use Rattle.std.proofs.Common.{ℕ, suc, ◌+◌, ◌-◌, ◌%◌, ◌^◌, ◌<◌, ◌≤◌, ◌≡◌, Bool, true, false, List, [], ◌∷◌, ◌++◌}
use Rattle.std.proofs.Common.{Some, None, inl, refl, sym, ◌∙◌, ap, subst, arith}
use Rattle.std.specs.Prelude.{◌==◌, ◌&&◌, ◌||◌, nat_lt, nat_le, if◌then◌else◌, pos}
use Rattle.std.specs.Int.{w64}
use Rattle.rv_isa.specs.declared.inst.Inst.TheVariants.{Ld, Sd, Add as AddInst}
use Rattle.rv_machine.specs.declared.real.RealItem.{RealItem}
use Rattle.rv_machine.specs.declared.real.RealItem.TheVariants.{Op}
use Rattle.machine_words.specs.Memory.{Memory, load_bytes, store_bytes, first_address}
use Rattle.rv_machine.specs.Registers.{Registers, get_reg, set_reg}
use Rattle.rv_machine.specs.State.{State, Turn, Next, reg}
use Rattle.machine_words.specs.Arithmetic.{add}
use Rattle.rv_machine.specs.Turn.{put, load_into, store_from, act_with}
use Rattle.machine_words.proofs.Public.{load_below, stored_outside}
use Rattle.rv_machine.proofs.Public.{HasItem}
use Rattle.low_ir.specs.Prices.{slot_price}
use Rattle.low_ir.specs.Steps.{set_local}
use Rattle.rv_select.specs.declared.code.VReg.{VReg}
use Rattle.rv_select.specs.declared.code.VReg.TheVariants.{Real, Virtual}
use Rattle.rv_select.specs.Run.{Found, VirtualState, may_read, may_write, is_fixed, also_known, is_own, value}
use Rattle.rv_select.specs.Prices.{register_price}
use Rattle.placed_code.specs.Slots.{slot_offset, register_for, fetch_items, save_items, word_items, slot_save}
use Rattle.rv_select.specs.Stacks.{frame_size}
use Rattle.placed_code.specs.Slots.{slot_fetch, slot_save_of}
use Rattle.placed_code.proofs.slotted.Paying.{comes_there, is_there, comes_on_later}
use Rattle.placed_code.proofs.slotted.Items.{Then, ThenOn, regrouped, does, words}
use Rattle.placed_code.proofs.slotted.PutWords.{OnlyIn, set_here, number_most}
use Rattle.placed_code.proofs.slotted.SlotPrices.{one_slot, far_slot}
use Rattle.placed_code.proofs.slotted.Frames.{Slotting, equal_of, other_get, some_is, none_is, readable_low, low_reg}
use Rattle.placed_code.proofs.slotted.Frames.{not_zero}
use Rattle.placed_code.proofs.slotted.Frames.{unset, get_only, scratch_same, set_same, set_fits, fits_only, stored_fits}
use Rattle.placed_code.proofs.slotted.Frames.{slot_inside, slot_aligned, program, rest_of, has_rest, HasHome, Stand}
use Rattle.placed_code.proofs.slotted.Frames.{Stacked}
use Rattle.placed_code.proofs.slotted.Frames.{slot_of, frame_fits, stack_written, Body, On, seen_of, seen_still, Way}
use Rattle.placed_code.proofs.slotted.Frames.{way_first, body_scratch}

-- the states after a register was written
abbrev pub wrote : VReg → ℕ → VirtualState → VirtualState
wrote (Real r) word t =
    record t { regs = set_reg r word t.regs; known = also_known r t.known; pc = suc t.pc }
wrote (Virtual v) word t =
    record t { active = record t.active { locals = set_local v word t.active.locals }; pc = suc t.pc }

-- whether the register may be written
abbrev pub Permits : VirtualState → VReg → Type 0
Permits t (Real r) = may_write r ≡ true
Permits t (Virtual v) = is_own t.active.found v ≡ true

pub when_readable : (t : VirtualState) (r word : ℕ) → value t (Real r) ≡ Some word
    → (may_read r ≡ true) × (get_reg t.regs r ≡ word)
when_readable t r word e = pick (may_read r) (is_fixed r || t.known r) refl e
  where
    pick : (c d : Bool) → may_read r ≡ c → (if c && d then Some (get_reg t.regs r) else None) ≡ Some word
        → (may_read r ≡ true) × (get_reg t.regs r ≡ word)
    pick true true h f = (h, some_is (get_reg t.regs r) word f)
    pick true false h f = absurd (none_is word f)
    pick false d h f = absurd (none_is word f)

not_two : (r : ℕ) → may_write r ≡ true → (2 == r) ≡ false
not_two r h = grind arith

not_limit : (r : ℕ) → may_write r ≡ true → (25 == r) ≡ false
not_limit r h = grind arith

module _ {V : Type 0} (w : Slotting V) where
  slot_at : (sp first v size : ℕ) → sp + size ≤ w.layout.end → slot_offset first v + 8 ≤ size
      → (sp + slot_offset first v) % 2 ^ 64 ≡ sp + slot_offset first v
  slot_at sp first v size h k = let c = w.lies.small in omega arith

  -- ---- loads and stores that lie in memory

  pub loads : (s : State) (rd from at offset pc : ℕ) (ecall ebreak : State → Turn) → s.layout ≡ w.layout
      → (reg s from + offset) % 2 ^ 64 ≡ at → at % 8 ≡ 0 → first_address ≤ at → at + 8 ≤ w.layout.end
      → act_with ecall ebreak (Ld rd from (pos offset)) (record s { pc = pc })
      ≡ put rd (load_bytes 8 s.memory at) (record s { pc = pc })
  loads s rd from at offset pc ecall ebreak e place whole above below =
      ap (λ n. load_into false w64 rd n (record s { pc = pc })) place ∙ loaded
    where
      inside : (nat_le first_address at && nat_le (at + 8) s.layout.end) ≡ true
      inside = let d : at + 8 ≤ s.layout.end = rw e below in grind arith

      loaded : load_into false w64 rd at (record s { pc = pc })
          ≡ put rd (load_bytes 8 s.memory at) (record s { pc = pc })
      loaded = rw (whole, inside) refl

  pub stores : (s : State) (rs from at offset pc : ℕ) (ecall ebreak : State → Turn) → s.layout ≡ w.layout
      → (reg s from + offset) % 2 ^ 64 ≡ at → at % 8 ≡ 0 → w.layout.region ≤ at → at + 8 ≤ w.layout.end
      → act_with ecall ebreak (Sd rs from (pos offset)) (record s { pc = pc })
      ≡ Next (record s { memory = store_bytes 8 s.memory at (reg s rs); pc = add pc 4 })
  stores s rs from at offset pc ecall ebreak e place whole above below =
      ap (λ n. store_from w64 (reg s rs) n (record s { pc = pc })) place ∙ stored
    where
      inside : (nat_le s.layout.region at && nat_le (at + 8) s.layout.end) ≡ true
      inside =
          let c : s.layout.region ≤ at = rw e above in
          let d : at + 8 ≤ s.layout.end = rw e below in grind arith

      stored : store_from w64 (reg s rs) at (record s { pc = pc })
          ≡ Next (record s { memory = store_bytes 8 s.memory at (reg s rs); pc = add pc 4 })
      stored = rw (whole, inside) refl

  -- ---- a word is fetched

  -- it is in the register in which an item looks for it
  pub record Fetched (t : VirtualState) (scratch : ℕ) (a : VReg) (word : ℕ) (s s1 : State) : Type 0 where
    pub body : Body w t s1
    pub there : get_reg s1.regs (register_for scratch a) ≡ word
    pub others : (q : ℕ) → (q == scratch) ≡ false → get_reg s1.regs q ≡ get_reg s.regs q

  module _ (t t1 : VirtualState) (Q : State → Type 0) where
    abbrev Later : ℕ → State → Type 0
    Later most s = Then (program w) (Way w t t1) Q most s

    abbrev LaterOn : ℕ → State → Type 0
    LaterOn most s = ThenOn (program w) (Way w t t1) Q most s

    -- what comes behind a fetch
    abbrev pub Behind : ℕ → ℕ → VReg → ℕ → List RealItem → State → Type 0
    Behind most scratch a word xs s =
        (s1 : State) → Fetched t scratch a word s s1 → Stand w s1.pc xs → LaterOn most s1

    pub slot_into : (most : ℕ) (s : State) (b : Body w t s) (scratch v word : ℕ) (xs : List RealItem)
        → (scratch == 0) ≡ false → (2 == scratch) ≡ false → (25 == scratch) ≡ false → (26 == scratch) ≡ false
        → (27 == scratch) ≡ false → t.active.locals v ≡ Some word → HasItem xs
        → Stand w s.pc (slot_fetch scratch (slot_offset t.active.found.first v) ++ xs)
        → ((regs : Registers) (n : ℕ) → get_reg regs scratch ≡ word → word < 2 ^ 64 → OnlyIn scratch regs s.regs
        → Stand w n xs → Later most (record s { regs = regs; pc = n }))
        → LaterOn (slot_price (v - t.active.found.first) + most) s
    slot_into most s b scratch v word xs r0 r2 r25 r26 r27 e h c go =
        let x = w.lies.base in
        let y = w.lies.region in
        let z = b.above in
        let k = held.3 in
        let i = inside in
        let small = w.lies.small in
        in_form (nat_lt offset 2048) refl (omega arith) (omega arith) (omega arith) c
      where
        f : Found
        f = t.active.found

        offset : ℕ
        offset = slot_offset f.first v

        at : ℕ
        at = s.regs 2 + offset

        held : (is_own f v ≡ true) × (load_bytes 8 s.memory at ≡ word) × (s.regs 2 % 8 ≡ 0)
            × (s.regs 2 + frame_size f.count ≤ w.layout.end)
        held = slot_of w s.memory (s.regs 2) t.active t.frames v word b.stack e

        inside : offset + 8 ≤ frame_size f.count
        inside = slot_inside f v held.0

        place : (s.regs 2 + offset) % 2 ^ 64 ≡ at
        place = slot_at (s.regs 2) f.first v (frame_size f.count) held.3 inside

        whole : at % 8 ≡ 0
        whole = slot_aligned (s.regs 2) f.first v held.2

        seen_only : (regs : Registers) (pc : ℕ) → OnlyIn scratch regs s.regs
            → Way w t t1 (record s { regs = regs; pc = pc })
        seen_only regs pc only =
            way_first w t t1 (record s { regs = regs; pc = pc }) (seen_still w t s regs pc scratch (seen_of w t s b)
            only r2 r25 r26 r27)

        finished : (regs : Registers) (n : ℕ) → get_reg regs scratch ≡ word → OnlyIn scratch regs s.regs
            → Stand w n xs → Later most (record s { regs = regs; pc = n })
        finished regs n e1 only c1 =
            go regs n e1 (subst (λ x. x < 2 ^ 64) held.1 (load_below 8 s.memory at b.bytes)) only c1

        in_form : (short : Bool) → nat_lt offset 2048 ≡ short → first_address ≤ at → at + 8 ≤ w.layout.end
            → offset < 2 ^ 64
            → Stand w s.pc ((if short then Op (Ld scratch 2 (pos offset)) ∷ []
            else word_items scratch offset ++ (Op (AddInst scratch scratch 2) ∷ Op (Ld scratch scratch (pos 0)) ∷ []))
            ++ xs)
            → LaterOn (slot_price (v - f.first) + most) s
        in_form true k above below small c1 =
            let there : ℕ = load_bytes 8 s.memory at in
            comes_on_later (program w) (Way w t t1) Q (slot_price (v - f.first) + most)
            (let near = one_slot (v - f.first) in omega (arith, near)) (
            does (program w) (Way w t t1) Q s (set_reg scratch there s.regs) s.memory c1 h
            (λ ecall ebreak pc. loads s scratch 2 at offset pc ecall ebreak b.layout place whole above below)
            (way_first w t t1 s (seen_of w t s b)) (λ n c2.
            finished (set_reg scratch there s.regs) n (set_here scratch there s.regs r0 ∙ held.1)
            (λ q m. unset q scratch there s.regs m) c2))
        in_form false k above below small c1 =
            let there : ℕ = load_bytes 8 s.memory at in
            comes_on_later (program w) (Way w t t1) Q (slot_price (v - f.first) + most)
            (let far = far_slot f.first v k in let number = number_most offset in omega (arith, far, number)) (
            words (program w) (Way w t t1) Q s scratch offset
            (Op (AddInst scratch scratch 2) ∷ Op (Ld scratch scratch (pos 0)) ∷ xs) r0 small tt
            (λ regs pc only. seen_only regs pc only) (λ regs n e1 only c2.
            let s1 : State = record s { regs = regs; pc = n } in
            let regs1 : Registers = set_reg scratch at regs in
            let turned : offset + s.regs 2 ≡ s.regs 2 + offset = omega arith in
            let sum : (offset + get_reg regs 2) % 2 ^ 64 ≡ at =
            ap (λ x. (offset + x) % 2 ^ 64) (only 2 r2)
            ∙ (ap (λ x. x % 2 ^ 64) turned ∙ place) in
            let only1 : OnlyIn scratch regs1 s.regs = (λ q m. unset q scratch at regs m ∙ only q m) in
            comes_there (program w) (Way w t t1) Q (does (program w) (Way w t t1) Q s1 regs1 s.memory c2 tt
            (λ ecall ebreak pc. ap (λ x. put scratch ((x + get_reg regs 2) % 2 ^ 64) (record s1 { pc = pc })) e1
            ∙ ap (λ x. put scratch x (record s1 { pc = pc })) sum) (seen_only regs n only) (λ n1 c3.
            let s2 : State = record s { regs = regs1; pc = n1 } in
            let regs2 : Registers = set_reg scratch there regs1 in
            let fits : (at + 0) % 2 ^ 64 ≡ at = (let x = w.lies.small in omega arith) in
            let here : (get_reg regs1 scratch + 0) % 2 ^ 64 ≡ at =
            ap (λ x. (x + 0) % 2 ^ 64) (set_here scratch at regs r0) ∙ fits in
            comes_there (program w) (Way w t t1) Q (does (program w) (Way w t t1) Q s2 regs2 s.memory c3 h
            (λ ecall ebreak pc. loads s2 scratch scratch at 0 pc ecall ebreak b.layout here whole above below)
            (seen_only regs1 n1 only1) (λ n2 c4.
            finished regs2 n2 (set_here scratch there regs1 r0 ∙ held.1)
            (λ q m. unset q scratch there regs1 m ∙ only1 q m) c4)))))
            (regrouped (program w) (word_items scratch offset)
            (Op (AddInst scratch scratch 2) ∷ Op (Ld scratch scratch (pos 0)) ∷ []) xs c1))

    fetch_slot : (most : ℕ) (s : State) (b : Body w t s) (scratch v word : ℕ) (xs : List RealItem) → 28 ≤ scratch
        → t.active.locals v ≡ Some word → HasItem xs
        → Stand w s.pc (fetch_items t.active.found.first scratch (Virtual v) ++ xs)
        → ((s1 : State) → Fetched t scratch (Virtual v) word s s1 → Stand w s1.pc xs → Later most s1)
        → LaterOn (slot_price (v - t.active.found.first) + most) s
    fetch_slot most s b scratch v word xs hi e h c go =
        slot_into most s b scratch v word xs (not_zero scratch hi) (low_reg 2 scratch (omega arith) hi)
        (low_reg 25 scratch (omega arith) hi) (low_reg 26 scratch (omega arith) hi)
        (low_reg 27 scratch (omega arith) hi) e h c (λ regs n e1 small only c1.
        go (record s { regs = regs; pc = n }) (record {
          body = body_scratch w t s regs n b
              (λ q m. get_only scratch q regs s.regs only (low_reg q scratch (readable_low q m) hi))
              (only 2 (low_reg 2 scratch (omega arith) hi))
              (fits_only scratch word regs s.regs only e1 hi small b.fits);
          there = e1;
          others = λ q m. get_only scratch q regs s.regs only m;
        }) c1)

    pub fetch : (most : ℕ) (s : State) (b : Body w t s) (scratch : ℕ) (a : VReg) (word : ℕ) (xs : List RealItem)
        → 28 ≤ scratch → value t a ≡ Some word → HasItem xs
        → Stand w s.pc (fetch_items t.active.found.first scratch a ++ xs) → Behind most scratch a word xs s
        → LaterOn (register_price t.active.found.first a + most) s
    fetch most s b scratch (Real r) word xs hi e h c go =
        let z = when_readable t r word e in
        comes_on_later (program w) (Way w t t1) Q (register_price t.active.found.first (Real r) + most) (omega arith)
        (go s (record { body = b; there = b.regs r z.0 ∙ z.1; others = λ q k. refl }) c)
    fetch most s b scratch (Virtual v) word xs hi e h c go =
        fetch_slot most s b scratch v word xs hi e h c (λ s1 f c1. comes_there (program w) (Way w t t1) Q (go s1 f c1))

  -- ---- a word that is in x28 is put where it belongs

  abbrev Ends : VirtualState → VirtualState → ℕ → State → Type 0
  Ends t t1 most s = Then (program w) (Way w t t1) (On w t1) most s

  pub saved_from : (t : VirtualState) (s : State) (r v word : ℕ) → Body w t s → HasHome w t.active.found
      → is_own t.active.found v ≡ true → word < 2 ^ 64 → get_reg s.regs r ≡ word → (r == 29) ≡ false
      → Stand w s.pc (slot_save_of r (slot_offset t.active.found.first v) ++ rest_of w t.active.found (suc t.pc))
      → ThenOn (program w) (Way w t (wrote (Virtual v) word t)) (On w (wrote (Virtual v) word t))
      (slot_price (v - t.active.found.first)) s
  saved_from t s r v word b home permit small there r29 c = in_form (nat_lt offset 2048) refl c
    where
      f : Found
      f = t.active.found

      t1 : VirtualState
      t1 = wrote (Virtual v) word t

      P : State → Type 0
      P = Way w t t1

      Q : State → Type 0
      Q = On w t1

      rest : List RealItem
      rest = rest_of w f (suc t.pc)

      offset : ℕ
      offset = slot_offset f.first v

      at : ℕ
      at = s.regs 2 + offset

      memory : Memory
      memory = store_bytes 8 s.memory at word

      inside : offset + 8 ≤ frame_size f.count
      inside = slot_inside f v permit

      fit : (s.regs 2 % 8 ≡ 0) × (s.regs 2 + frame_size f.count ≤ w.layout.end)
      fit = frame_fits w s.memory (s.regs 2) t.active t.frames v b.stack permit

      low : w.layout.region ≤ at
      low = let x = w.lies.region in let k = b.above in omega arith

      high : at + 8 ≤ w.layout.end
      high = let k = fit.1 in let i = inside in omega arith

      place : (s.regs 2 + offset) % 2 ^ 64 ≡ at
      place = slot_at (s.regs 2) f.first v (frame_size f.count) fit.1 inside

      whole : at % 8 ≡ 0
      whole = slot_aligned (s.regs 2) f.first v fit.0

      seen_only : (regs : Registers) (pc : ℕ) → OnlyIn 29 regs s.regs → P (record s { regs = regs; pc = pc })
      seen_only regs pc only =
          way_first w t t1 (record s { regs = regs; pc = pc })
          (seen_still w t s regs pc 29 (seen_of w t s b) only refl refl refl refl)

      finished : (regs : Registers) (n : ℕ) → OnlyIn 29 regs s.regs → ((q : ℕ) → regs q < 2 ^ 64) → Stand w n rest
          → Ends t t1 0 (record s { regs = regs; memory = memory; pc = n })
      finished regs n only fits c1 =
          let same : Body w t (record s { regs = regs; pc = n }) = body_scratch w t s regs n b
          (λ q m. get_only 29 q regs s.regs only (low_reg q 29 (readable_low q m) (omega arith))) (only 2 refl) fits in
          is_there (program w) P Q (record {
            body = record {
              regs = same.regs;
              limit = same.limit;
              memory = λ i h.
                  stored_outside 8 s.memory at word i (inl (let k = b.above in omega (arith, h))) ∙ b.memory i h;
              world = b.world;
              layout = b.layout;
              fits = fits;
              bytes = stored_fits s.memory at word b.bytes;
              above = same.above;
              stack = subst (λ x. Stacked w memory x (record t.active { locals = set_local v word t.active.locals })
                  t.frames) (sym (only 2 refl))
                  (stack_written w s.memory (s.regs 2) t.active t.frames v word b.stack permit small);
            };
            home = home;
            code = c1;
          })

      in_form : (short : Bool) → nat_lt offset 2048 ≡ short
          → Stand w s.pc ((if short then Op (Sd r 2 (pos offset)) ∷ []
          else word_items 29 offset ++ (Op (AddInst 29 29 2) ∷ Op (Sd r 29 (pos 0)) ∷ [])) ++ rest)
          → ThenOn (program w) P Q (slot_price (v - f.first)) s
      in_form true k c1 =
          comes_on_later (program w) P Q (slot_price (v - f.first))
          (let near = one_slot (v - f.first) in omega (arith, near)) (
          does (program w) P Q s s.regs memory c1 (has_rest w f (suc t.pc))
          (λ ecall ebreak pc. stores s r 2 at offset pc ecall ebreak b.layout place whole low high
          ∙ ap (λ z. Next (record s { memory = store_bytes 8 s.memory at z; pc = add pc 4 })) there)
          (way_first w t t1 s (seen_of w t s b)) (λ n c2.
          finished s.regs n (λ q m. refl) b.fits c2))
      in_form false k c1 =
          let x = w.lies.small in
          let y = fit.1 in
          let i = inside in
          let z = high in
          let bound : offset < 2 ^ 64 = omega arith in
          let small_at : at < 2 ^ 64 = omega arith in
          comes_on_later (program w) P Q (slot_price (v - f.first))
          (let far = far_slot f.first v k in let number = number_most offset in omega (arith, far, number)) (
          words (program w) P Q s 29 offset (Op (AddInst 29 29 2) ∷ Op (Sd r 29 (pos 0)) ∷ rest) refl bound tt
          (λ regs pc only. seen_only regs pc only) (λ regs n e1 only c2.
          let s1 : State = record s { regs = regs; pc = n } in
          let regs1 : Registers = set_reg 29 at regs in
          let turned : offset + s.regs 2 ≡ s.regs 2 + offset = omega arith in
          let sum : (offset + get_reg regs 2) % 2 ^ 64 ≡ at =
          ap (λ a. (offset + a) % 2 ^ 64) (only 2 refl) ∙ (ap (λ a. a % 2 ^ 64) turned ∙ place) in
          let only1 : OnlyIn 29 regs1 s.regs = (λ q m. unset q 29 at regs m ∙ only q m) in
          comes_there (program w) P Q (does (program w) P Q s1 regs1 s.memory c2 tt
          (λ ecall ebreak pc. ap (λ a. put 29 ((a + get_reg regs 2) % 2 ^ 64) (record s1 { pc = pc })) e1
          ∙ ap (λ a. put 29 a (record s1 { pc = pc })) sum) (seen_only regs n only) (λ n1 c3.
          let s2 : State = record s { regs = regs1; pc = n1 } in
          let here : (at + 0) % 2 ^ 64 ≡ at = omega arith in
          let word28 : get_reg regs1 r ≡ word = get_only 29 r regs1 s.regs only1 r29 ∙ there in
          comes_there (program w) P Q (does (program w) P Q s2 regs1 memory c3 (has_rest w f (suc t.pc))
          (λ ecall ebreak pc. stores s2 r 29 at 0 pc ecall ebreak b.layout here whole low high
          ∙ ap (λ a. Next (record s2 { memory = store_bytes 8 s2.memory at a; pc = add pc 4 })) word28)
          (seen_only regs1 n1 only1) (λ n2 c4.
          finished regs1 n2 only1
          (set_fits 29 at regs small_at (fits_only 29 offset regs s.regs only e1 (omega arith) bound b.fits)) c4)))))
          (regrouped (program w) (word_items 29 offset) (Op (AddInst 29 29 2) ∷ Op (Sd r 29 (pos 0)) ∷ []) rest c1))

  pub saved_slot : (t : VirtualState) (s : State) (v word : ℕ) → Body w t s → HasHome w t.active.found
      → is_own t.active.found v ≡ true → word < 2 ^ 64 → get_reg s.regs 28 ≡ word
      → Stand w s.pc (slot_save (slot_offset t.active.found.first v) ++ rest_of w t.active.found (suc t.pc))
      → Ends t (wrote (Virtual v) word t) (slot_price (v - t.active.found.first)) s
  saved_slot t s v word b home permit small there c =
      comes_there (program w) (Way w t (wrote (Virtual v) word t)) (On w (wrote (Virtual v) word t))
      (saved_from t s 28 v word b home permit small there refl c)

  -- a real register was set, and no other
  pub real_put : (t : VirtualState) (s : State) (r word : ℕ) (regs : Registers) (n : ℕ) → Body w t s
      → HasHome w t.active.found → may_write r ≡ true → word < 2 ^ 64 → get_reg regs r ≡ word → OnlyIn r regs s.regs
      → Stand w n (rest_of w t.active.found (suc t.pc))
      → On w (wrote (Real r) word t) (record s { regs = regs; pc = n })
  real_put t s r word regs n b home permit small e only c = record {
    body = record {
      regs = λ q h. same q h (q == r) refl;
      limit = only 25 (not_limit r permit) ∙ b.limit;
      memory = b.memory;
      world = b.world;
      layout = b.layout;
      fits = λ q. fit q (q == r) refl;
      bytes = b.bytes;
      above = subst (λ x. w.top ≤ x) (sym (only 2 (not_two r permit))) b.above;
      stack = subst (λ x. Stacked w s.memory x t.active t.frames) (sym (only 2 (not_two r permit))) b.stack;
    };
    home = home;
    code = c;
  }
    where
      zero_not : (r == 0) ≡ false
      zero_not = grind arith

      same : (q : ℕ) → may_read q ≡ true → (d : Bool) → (q == r) ≡ d
          → get_reg regs q ≡ get_reg (set_reg r word t.regs) q
      same q h true d =
          let is : q ≡ r = equal_of q r d in
          subst (λ z. get_reg regs z ≡ get_reg (set_reg r word t.regs) z) (sym is)
          (e ∙ sym (set_here r word t.regs zero_not))
      same q h false d =
          get_only r q regs s.regs only d ∙ (b.regs q h ∙ sym (other_get r q word t.regs d))

      fit : (q : ℕ) (d : Bool) → (q == r) ≡ d → regs q < 2 ^ 64
      fit q true d =
          let is : q ≡ r = equal_of q r d in
          let raw : regs r ≡ word = ap (λ c. if c then 0 else regs r) (sym zero_not) ∙ e in
          subst (λ z. regs z < 2 ^ 64) (sym is) (subst (λ x. x < 2 ^ 64) (sym raw) small)
      fit q false d = subst (λ x. x < 2 ^ 64) (sym (only q d)) (b.fits q)

  -- the word was put into a real register, or into x28 and goes into its slot
  pub saved : (t : VirtualState) (s : State) (rd : VReg) (word n : ℕ) → Body w t s → HasHome w t.active.found
      → Permits t rd → word < 2 ^ 64
      → Stand w n (save_items t.active.found.first rd ++ rest_of w t.active.found (suc t.pc))
      → Ends t (wrote rd word t) (register_price t.active.found.first rd)
      (record s { regs = set_reg (register_for 28 rd) word s.regs; pc = n })
  saved t s (Real r) word n b home permit small c =
      let P : State → Type 0 = Way w t (wrote (Real r) word t) in
      let Q : State → Type 0 = On w (wrote (Real r) word t) in
      let sp = unset 2 r word s.regs (not_two r permit) in
      is_there (program w) P Q (record {
        body = record {
          regs = λ q h. set_same r word q s.regs t.regs (b.regs q h);
          limit = unset 25 r word s.regs (not_limit r permit) ∙ b.limit;
          memory = b.memory;
          world = b.world;
          layout = b.layout;
          fits = set_fits r word s.regs small b.fits;
          bytes = b.bytes;
          above = subst (λ x. w.top ≤ x) (sym sp) b.above;
          stack = subst (λ x. Stacked w s.memory x t.active t.frames) (sym sp) b.stack;
        };
        home = home;
        code = c;
      })
  saved t s (Virtual v) word n b home permit small c =
      let regs : Registers = set_reg 28 word s.regs in
      saved_slot t (record s { regs = regs; pc = n }) v word
      (body_scratch w t s regs n b (λ q m. scratch_same 28 word q s.regs (omega arith) m) refl
      (set_fits 28 word s.regs small b.fits)) home permit small refl c

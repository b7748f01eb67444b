-- Frames that are given up: returns and tail calls.
use Rattle.std.proofs.Common.{ℕ, suc, ◌+◌, ◌%◌, ◌^◌, ◌<◌, ◌≤◌, ◌≡◌, Bool, true, false, List, [], ◌∷◌, ◌++◌}
use Rattle.std.proofs.Common.{Some, refl, sym, ◌∙◌, ap, subst, arith}
use Rattle.std.specs.Prelude.{◌==◌, slice_get, pos, nat_le, nat_lt, if◌then◌else◌}
use Rattle.run_laws.specs.Machines.{Go}
use Rattle.rv_isa.specs.declared.inst.Inst.TheVariants.{Jalr, Addi, Add as AddInst}
use Rattle.rv_machine.specs.declared.real.RealItem.{RealItem}
use Rattle.rv_machine.specs.declared.real.RealItem.TheVariants.{Op, Jump as RealJump}
use Rattle.machine_words.specs.Memory.{load_bytes}
use Rattle.rv_machine.specs.Registers.{Registers, get_reg, set_reg}
use Rattle.rv_machine.specs.State.{State}
use Rattle.rv_machine.specs.Turn.{put}
use Rattle.machine_words.proofs.Public.{load_below}
use Rattle.rv_machine.proofs.Public.{HasItem, has_item-append}
use Rattle.low_ir.specs.Steps.{no_locals, given}
use Rattle.rv_select.specs.declared.code.VReg.{VReg}
use Rattle.rv_select.specs.declared.code.VReg.TheVariants.{Real, Virtual}
use Rattle.rv_select.specs.declared.code.VirtualItem.TheVariants.{TailCall, TailCallAt, Return}
use Rattle.rv_select.specs.Run.{Found, Frame, VirtualState, may_read, only_args, only_answer, value, enter, back_to}
use Rattle.rv_select.specs.Run.{framed, procedure_from, procedure_at}
use Rattle.rv_select.specs.Prices.{register_price, giving_up, item_price}
use Rattle.placed_code.specs.Slots.{register_for, fetch_items, word_items, raise_items, leave_items}
use Rattle.rv_select.specs.Stacks.{frame_size, stack_of}
use Rattle.placed_code.proofs.slotted.Paying.{comes_there, comes_on_later, is_there}
use Rattle.placed_code.proofs.slotted.PutWords.{OnlyIn, number_most}
use Rattle.placed_code.proofs.slotted.Items.{Then, ThenOn, regrouped, stands_small, stands_aligned, does, jumps, lands}
use Rattle.placed_code.proofs.slotted.Items.{words}
use Rattle.placed_code.proofs.slotted.Frames.{Slotting, readable_low, low_reg, other_get, get_only, set_fits, fits_only}
use Rattle.placed_code.proofs.slotted.Frames.{program}
use Rattle.placed_code.proofs.slotted.Frames.{virtual_setting, Stand, rest_of, has_rest, HasHome, Framed, Stacked}
use Rattle.placed_code.proofs.slotted.Frames.{stack_is, Body}
use Rattle.placed_code.proofs.slotted.Frames.{On}
use Rattle.placed_code.proofs.slotted.Frames.{has_room, Seen, seen_of, seen_still, Way, way_first, body_scratch}
use Rattle.placed_code.proofs.slotted.Frames.{body_at}
use Rattle.placed_code.proofs.slotted.SlotWords.{loads, when_readable, Fetched, fetch}
use Rattle.placed_code.proofs.slotted.SlotPrices.{entering_most, given_up_for}
use Rattle.placed_code.proofs.slotted.SlotItems.{code_of, room, Sim, SimItem, sim_given, sim_go}
use Rattle.placed_code.proofs.slotted.SlotMarks.{zero_lost, zero_fits, enter_items, found_number}
use Rattle.placed_code.proofs.slotted.SlotMarks.{begins_at}
use Rattle.placed_code.proofs.slotted.SlotCalls.{Enters, entered, entered_at, sim_enter, entered_price}

not_link : (q : ℕ) → may_read q ≡ true → (q == 1) ≡ false
not_link q h = grind arith

not_stack : (q : ℕ) → may_read q ≡ true → (q == 2) ≡ false
not_stack q h = grind arith

module _ {V : Type 0} (w : Slotting V) where
  -- a state from which the frame of the active procedure was taken
  abbrev pub without : VirtualState → Frame → List Frame → VirtualState
  without t f fs = record t { active = f.active; frames = fs }

  -- the frame was given up, and the link is in x1
  pub record Left (t : VirtualState) (f : Frame) (fs : List Frame) (s s1 : State) : Type 0 where
    pub body : Body w (without t f fs) s1
    pub seen : Seen w t s1
    pub link : Stand w (s1.regs 1) (rest_of w f.active.found f.back)
    pub home : HasHome w f.active.found
    pub same : (q : ℕ) → may_read q ≡ true → get_reg s1.regs q ≡ get_reg s.regs q
    -- what was fetched for a tail call
    pub target : s1.regs 29 ≡ s.regs 29

  leaves : {most : ℕ} (t t1 : VirtualState) (Q : State → Type 0) (s : State) (f : Frame) (fs : List Frame)
      (xs : List RealItem) → Body w t s → t.frames ≡ f ∷ fs → HasItem xs
      → Stand w s.pc (leave_items t.active.found.count ++ xs)
      → ((s1 : State) → Left t f fs s s1 → Stand w s1.pc xs → ThenOn (program w) (Way w t t1) Q most s1)
      → ThenOn (program w) (Way w t t1) Q (giving_up t.active.found.count + most) s
  leaves {most} t t1 Q s f fs xs b frames h c go =
      comes_on_later (program w) P Q (giving_up t.active.found.count + most)
      (let given_up = given_up_for t.active.found.count in omega (arith, given_up)) (
      does (program w) P Q s regs1 s.memory c (has_item-append (raise_items need) xs h)
      (λ ecall ebreak pc. loads w s 1 2 sp 0 pc ecall ebreak b.layout whole k.0.aligned low below)
      (way_first w t t1 s (seen_of w t s b)) (λ n1 c1. raised n1 (nat_lt need 2048) refl c1))
    where
      P : State → Type 0
      P = Way w t t1

      need : ℕ
      need = frame_size t.active.found.count

      sp : ℕ
      sp = s.regs 2

      link : ℕ
      link = load_bytes 8 s.memory sp

      regs1 : Registers
      regs1 = set_reg 1 link s.regs

      k : Framed w s.memory sp t.active f × Stacked w s.memory (sp + need) f.active fs
      k = subst (λ gs. Stacked w s.memory sp t.active gs) frames b.stack

      high : sp + need < 2 ^ 64
      high = let x = k.0.room in let y = w.lies.small in omega arith

      need_small : need < 2 ^ 64
      need_small = let x = high in omega arith

      whole : (sp + 0) % 2 ^ 64 ≡ sp
      whole = let small = b.fits 2 in omega arith

      low : 65536 ≤ sp
      low = let x = w.lies.base in let y = w.lies.region in let z = b.above in omega arith

      below : sp + 8 ≤ w.layout.end
      below = let x = k.0.room in omega arith

      top_word : (sp + need) % 2 ^ 64 ≡ sp + need
      top_word = let x = high in omega arith

      seen28 : (n1 : ℕ) (regs : Registers) (pc : ℕ) → OnlyIn 28 regs regs1
          → Seen w t (record s { regs = regs; pc = pc })
      seen28 n1 regs pc only =
          let s1 : State = record s { regs = regs1; pc = n1 } in
          seen_still w t s1 regs pc 28 (seen_still w t s regs1 n1 1 (seen_of w t s b) (λ q m. rw m refl) refl refl refl
          refl) only refl refl refl refl

      fits1 : (q : ℕ) → regs1 q < 2 ^ 64
      fits1 = set_fits 1 link s.regs (load_below 8 s.memory sp b.bytes) b.fits

      left : (regs : Registers) (n2 n3 : ℕ) → ((q : ℕ) → regs q < 2 ^ 64) → OnlyIn 28 regs regs1
          → Seen w t (record s { regs = regs; pc = n2 })
          → Left t f fs s (record s { regs = set_reg 2 (sp + need) regs; pc = n3 })
      left regs n2 n3 small only seen =
          let regs3 : Registers = set_reg 2 (sp + need) regs in
          let kept_all : (q : ℕ) → may_read q ≡ true → get_reg regs3 q ≡ get_reg s.regs q = (λ q m.
          other_get 2 q (sp + need) regs (not_stack q m)
          ∙ (get_only 28 q regs regs1 only (low_reg q 28 (readable_low q m) (omega arith))
          ∙ other_get 1 q link s.regs (not_link q m))) in
          let x = b.above in
          record {
            body = record {
              regs = λ q m. kept_all q m ∙ b.regs q m;
              limit = only 25 refl ∙ b.limit;
              memory = b.memory;
              world = b.world;
              layout = b.layout;
              fits = set_fits 2 (sp + need) regs high small;
              bytes = b.bytes;
              above = omega arith;
              stack = k.1;
            };
            seen = (let e = stack_is w s.memory sp t.active t.frames b.stack in search arith);
            link = subst (λ a. Stand w a (rest_of w f.active.found f.back)) (sym (only 1 refl)) k.0.back;
            home = k.0.home;
            same = kept_all;
            target = only 29 refl;
          }

      -- x2 is raised by one instruction, or by a word that was put into x28
      raised : (n1 : ℕ) (short : Bool) → nat_lt need 2048 ≡ short
          → Stand w n1 ((if short then Op (Addi 2 2 (pos need)) ∷ []
          else word_items 28 need ++ (Op (AddInst 2 2 28) ∷ [])) ++ xs)
          → Then (program w) P Q ((if short then 1 else 12) + most) (record s { regs = regs1; pc = n1 })
      raised n1 true e c1 =
          let s1 : State = record s { regs = regs1; pc = n1 } in
          let seen : Seen w t s1 = seen28 n1 regs1 n1 (λ q m. refl) in
          comes_there (program w) P Q (comes_on_later (program w) P Q (1 + most) (omega arith) (
          does (program w) P Q s1 (set_reg 2 (sp + need) regs1) s.memory c1 h
          (λ ecall ebreak pc. ap (λ x. put 2 x (record s1 { pc = pc })) top_word) (way_first w t t1 s1 seen) (λ n3 c3.
          comes_there (program w) P Q (go (record s { regs = set_reg 2 (sp + need) regs1; pc = n3 })
          (left regs1 n1 n3 fits1 (λ q m. refl) seen) c3))))
      raised n1 false e c1 =
          let s1 : State = record s { regs = regs1; pc = n1 } in
          comes_there (program w) P Q (comes_on_later (program w) P Q (12 + most)
          (let number = number_most need in omega (arith, number)) (
          words (program w) P Q s1 28 need (Op (AddInst 2 2 28) ∷ xs) refl need_small tt
          (λ regs pc only. way_first w t t1 (record s { regs = regs; pc = pc }) (seen28 n1 regs pc only))
          (λ regs n2 e2 only c2.
          let s2 : State = record s { regs = regs; pc = n2 } in
          let seen : Seen w t s2 = seen28 n1 regs n2 only in
          comes_there (program w) P Q (does (program w) P Q s2 (set_reg 2 (sp + need) regs) s.memory c2 h
          (λ ecall ebreak pc. ap (λ x. put 2 ((get_reg regs 2 + x) % 2 ^ 64) (record s2 { pc = pc })) e2
          ∙ (ap (λ x. put 2 ((x + need) % 2 ^ 64) (record s2 { pc = pc })) (only 2 refl)
          ∙ ap (λ x. put 2 x (record s2 { pc = pc })) top_word)) (way_first w t t1 s2 seen) (λ n3 c3.
          comes_there (program w) P Q (go (record s { regs = set_reg 2 (sp + need) regs; pc = n3 })
          (left regs n2 n3 (fits_only 28 need regs regs1 only e2 (omega arith) need_small fits1) only seen) c3))))
          (regrouped (program w) (word_items 28 need) (Op (AddInst 2 2 28) ∷ []) xs c1)))

  -- the frames that are left fit where all did
  left_room : (t : VirtualState) (s : State) (f : Frame) (fs : List Frame) → Body w t s → t.frames ≡ f ∷ fs
      → nat_le (stack_of f.active.found fs) (room w) ≡ true
  left_room t s f fs b e =
      let h : nat_le (frame_size t.active.found.count + stack_of f.active.found fs) (room w) ≡ true =
      subst (λ gs. nat_le (stack_of t.active.found gs) (room w) ≡ true) e (has_room w t s b) in
      grind (arith, h)

  pub do_return : (t : VirtualState) (s : State) (on : On w t s) → slice_get w.items t.pc ≡ Some Return
      → SimItem w t s Return
  do_return t s on here = sim_given w _ t t s (value t (Real 10)) _ (λ x e. by_frames t.frames refl)
    where
      by_frames : (gs : List Frame) → t.frames ≡ gs
          → Sim w (giving_up t.active.found.count + 1) t s (back_to w.reading (virtual_setting w) gs t)
      by_frames [] e = tt
      by_frames (f ∷ fs) e =
          let rest : List RealItem = rest_of w t.active.found (suc t.pc) in
          let t1 : VirtualState =
          record t { pc = f.back; active = f.active; frames = fs; known = only_answer t.known } in
          let last : List RealItem = Op (Jalr 0 1 (pos 0)) ∷ [] in
          sim_go w t t1 s (omega arith) (left_room t s f fs on.body e) (
          leaves t t1 (On w t1) s f fs (last ++ rest) on.body e tt
          (regrouped (program w) (leave_items t.active.found.count) last rest (code_of w t s on Return here tt))
          (λ s1 left c1.
          let to : ℕ = s1.regs 1 in
          lands (program w) (Way w t t1) (On w t1) s1 to c1 (has_rest w t.active.found (suc t.pc)) refl
          (stands_small (program w) s left.link) (stands_aligned (program w) s left.link)
          (way_first w t t1 s1 left.seen) (λ n c2.
          let u : VirtualState = without t f fs in
          let s2 : State = record s1 { regs = set_reg 0 n s1.regs; pc = to } in
          is_there (program w) (Way w t t1) (On w t1) (record {
            body = body_at w u s2 f.back (only_answer t.known) (body_scratch w u s1 (set_reg 0 n s1.regs) to left.body
                (λ q h. zero_lost n q s1.regs) refl (zero_fits n s1.regs left.body.fits));
            home = left.home;
            code = left.link;
          }))))

  -- ---- tail calls: the procedure goes back where the one before would

  -- a procedure is entered in place of the active one
  abbrev taken_over : ℕ → VirtualState → Found → VirtualState
  taken_over n t g =
      record t { pc = g.home; active = record { found = g; locals = no_locals }; known = only_args n t.known }

  -- from where the frame was given up the machine enters the procedure
  goes_over : (most : ℕ) (t t1 : VirtualState) (f : Frame) (fs : List Frame) (g : Found) (Q : State → Type 0)
      (s s1 : State)
      → Left t f fs s s1 → (at m : ℕ) → Enters w most t (without t f fs) f.back g t1 Q
      → Stand w at (enter_items w g.count ++ rest_of w g g.home)
      → Then (program w) (Way w t t1) Q most (record s1 { regs = set_reg 0 m s1.regs; pc = at })
  goes_over most t t1 f fs g Q s s1 left at m enters code =
      let regs : Registers = set_reg 0 m s1.regs in
      let s2 : State = record s1 { regs = regs; pc = at } in
      let b2 : Body w (without t f fs) s2 = body_scratch w (without t f fs) s1 regs at left.body
      (λ q h. zero_lost m q s1.regs) refl (zero_fits m s1.regs left.body.fits) in
      let seen2 : Seen w t s2 = seen_still w t s1 regs at 0 left.seen (λ q h. rw h refl) refl refl refl refl in
      comes_there (program w) (Way w t t1) Q (enters s2 seen2 b2 left.home left.link code)

  sim_tail : (b : ℕ) (t : VirtualState) (s : State) (f : Frame) (fs : List Frame) (n : ℕ) (g : Found)
      → t.frames ≡ f ∷ fs → Sim w b t s (Go (entered w n (without t f fs) g f.back))
      → Sim w b t s (Go (taken_over n t g))
  sim_tail b t s f fs n g e h =
      subst (λ gs. Sim w b t s (Go (record t {
        pc = g.home;
        active = record { found = g; locals = no_locals };
        frames = gs;
        known = only_args n t.known;
      }))) (sym e) h

  pub do_tail : (t : VirtualState) (s : State) (on : On w t s) (k n : ℕ)
      → slice_get w.items t.pc ≡ Some (TailCall k n)
      → SimItem w t s (TailCall k n)
  do_tail t s on k n here = by_frames t.frames refl
    where
      by_frames : (gs : List Frame) → t.frames ≡ gs
          → Sim w (item_price (virtual_setting w) t.active.found (TailCall k n)) t s
          (framed w.reading (virtual_setting w) gs t
          (given t (procedure_from k 0 w.items) (enter w.reading (virtual_setting w) n t)))
      by_frames [] e = tt
      by_frames (f ∷ fs) e =
          sim_given w _ t t s (procedure_from k 0 w.items) _ (λ g ge.
          let begins = found_number w k g ge in
          let a = begins_at w s k g begins in
          let rest : List RealItem = rest_of w t.active.found (suc t.pc) in
          let u : VirtualState = without t f fs in
          let last : List RealItem = RealJump 0 k ∷ [] in
          sim_tail _ t s f fs n g e (sim_enter w (giving_up t.active.found.count + 10) t u s k n f.back g begins
          refl (omega (arith, entered_price w k g ge)) (λ most t1 Q enters.
          comes_on_later (program w) (Way w t t1) Q (giving_up t.active.found.count + 10 + most) (omega arith) (
          leaves t t1 Q s f fs (last ++ rest) on.body e tt
          (regrouped (program w) (leave_items t.active.found.count) last rest
          (code_of w t s on (TailCall k n) here tt)) (λ s1 left c1.
          jumps (program w) (Way w t t1) Q s1 a.pc c1 (has_rest w t.active.found (suc t.pc)) a.is_address
          (way_first w t t1 s1 left.seen) (λ m c2.
          goes_over most t t1 f fs g Q s s1 left a.pc m enters a.stands))))))

  pub do_tail_at : (t : VirtualState) (s : State) (on : On w t s) (a : VReg) (n : ℕ)
      → slice_get w.items t.pc ≡ Some (TailCallAt a n)
      → SimItem w t s (TailCallAt a n)
  do_tail_at t s on a n here = by_frames t.frames refl
    where
      -- what was fetched into x29, or stands in a real register, is still there
      still : (x : VReg) (word : ℕ) (f : Frame) (fs : List Frame) (s0 s1 : State) → Fetched w t 29 x word s s0
          → value t x ≡ Some word → Left t f fs s0 s1 → get_reg s1.regs (register_for 29 x) ≡ word
      still (Real r) word f fs s0 s1 fetched e left = left.same r (when_readable t r word e).0 ∙ fetched.there
      still (Virtual v) word f fs s0 s1 fetched e left = left.target ∙ fetched.there

      by_frames : (gs : List Frame) → t.frames ≡ gs
          → Sim w (item_price (virtual_setting w) t.active.found (TailCallAt a n)) t s
          (framed w.reading (virtual_setting w) gs t (given t (value t a) (λ at.
          given t (procedure_at w.told at 0 w.items) (enter w.reading (virtual_setting w) n t))))
      by_frames [] e = tt
      by_frames (f ∷ fs) e =
          sim_given w _ t t s (value t a) _ (λ at ae. sim_given w _ t t s (procedure_at w.told at 0 w.items) _ (λ g ge.
          let z = entered_at w s at g ge in
          let code : Stand w at (enter_items w g.count ++ rest_of w g g.home) = z.2 in
          let rest : List RealItem = rest_of w t.active.found (suc t.pc) in
          let u : VirtualState = without t f fs in
          let last : List RealItem = Op (Jalr 0 (register_for 29 a) (pos 0)) ∷ [] in
          let leave : List RealItem = leave_items t.active.found.count in
          sim_tail _ t s f fs n g e (
          sim_enter w (register_price t.active.found.first a + giving_up t.active.found.count + 1) t u s z.0 n f.back g
          z.1 refl (let dearest = entering_most g.count in omega (arith, dearest)) (λ most t1 Q enters.
          comes_on_later (program w) (Way w t t1) Q
          (register_price t.active.found.first a + giving_up t.active.found.count + 1 + most) (omega arith) (
          fetch w t t1 Q (giving_up t.active.found.count + suc most) s on.body 29 a at
          ((leave ++ last) ++ rest) (omega arith) ae tt
          (regrouped (program w) (fetch_items t.active.found.first 29 a) (leave ++ last) rest
          (code_of w t s on (TailCallAt a n) here tt)) (λ s0 f0 c0.
          leaves t t1 Q s0 f fs (last ++ rest) f0.body e tt (regrouped (program w) leave last rest c0) (λ s1 left c1.
          lands (program w) (Way w t t1) Q s1 at c1 (has_rest w t.active.found (suc t.pc))
          (still a at f fs s0 s1 f0 ae left) (stands_small (program w) s code) (stands_aligned (program w) s code)
          (way_first w t t1 s1 left.seen) (λ m c2.
          goes_over most t t1 f fs g Q s0 s1 left at m enters code))))))))

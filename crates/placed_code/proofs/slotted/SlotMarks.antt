-- Where the marks and procedures of a virtual code stand in the code with slots, and what jumps and branches come to.
use Rattle.std.proofs.Common.{append_assoc, ℕ, suc, ◌+◌, ◌-◌, ◌^◌, ◌<◌, ◌≡◌, Bool, true, false, List}
use Rattle.std.proofs.Common.{[], ◌∷◌, ◌++◌, Some, drop, refl, sym, ◌∙◌, ap, subst, arith}
use Rattle.std.specs.Prelude.{◌==◌, ◌&&◌, if◌then◌else◌, length, slice_get, pos}
use Rattle.std.proofs.lemmas.Option.{slice_get_within}
use Rattle.run_laws.specs.Machines.{Go}
use Rattle.rv_isa.specs.declared.inst.Inst.TheVariants.{Sd, Sub as SubInst}
use Rattle.machine_words.specs.declared.conditions.Cond.{Cond}
use Rattle.machine_words.specs.declared.conditions.Cond.TheVariants.{Ltu}
use Rattle.rv_machine.specs.declared.real.RealItem.{RealItem}
use Rattle.rv_machine.specs.declared.real.RealItem.TheVariants.{Op, Mark as RealMark}
use Rattle.rv_machine.specs.declared.real.RealItem.TheVariants.{Branch as RealBranch}
use Rattle.rv_machine.specs.Registers.{Registers, get_reg, set_reg}
use Rattle.rv_machine.specs.State.{State, reg}
use Rattle.machine_words.specs.Conditions.{holds}
use Rattle.rv_machine.specs.Real.{mark_address}
use Rattle.rv_machine.proofs.Public.{drop_next, has_item-append}
use Rattle.low_ir.specs.Steps.{given}
use Rattle.rv_select.specs.declared.code.VReg.{VReg}
use Rattle.rv_select.specs.declared.code.VirtualItem.{VirtualItem}
use Rattle.rv_select.specs.declared.code.VirtualItem.TheVariants.{Mark, Procedure, Jump, Branch}
use Rattle.rv_select.specs.Run.{Found, VirtualState, value, mark_from, mark_place, procedure_from, procedure_at}
use Rattle.rv_select.specs.Prices.{register_price}
use Rattle.placed_code.specs.Slots.{register_for, fetch_items, word_items, expand, expand_all, final_items}
use Rattle.rv_select.specs.Stacks.{frame_size}
use Rattle.placed_code.proofs.slotted.Paying.{is_there}
use Rattle.placed_code.proofs.slotted.Items.{regrouped, past_mark, MarkStands, mark_stands, jumps, goes_past, taken}
use Rattle.placed_code.proofs.slotted.Frames.{Slotting, none_is, some_is, equal_of, code, program, Stand}
use Rattle.placed_code.proofs.slotted.Frames.{rest_of, has_rest, HasHome, Body, On, has_room, seen_of, Way, way_first}
use Rattle.placed_code.proofs.slotted.Frames.{body_scratch, body_at}
use Rattle.placed_code.proofs.slotted.SlotWords.{fetch}
use Rattle.placed_code.proofs.Items.{drop_here, IsBody}
use Rattle.placed_code.proofs.slotted.SlotItems.{expand_cons, kept, code_of, Sim, SimItem, sim_given}
use Rattle.placed_code.proofs.slotted.SlotItems.{Reached, sim_go, sim_stay}

-- the place behind so many items
abbrev pub beyond : List RealItem → ℕ → ℕ
beyond [] k = k
beyond (x ∷ xs) k = beyond xs (suc k)

-- a write to register 0 is lost
pub zero_lost : (n q : ℕ) (regs : Registers) → get_reg (set_reg 0 n regs) q ≡ get_reg regs q
zero_lost n q regs = pick (q == 0)
  where
    pick : (c : Bool) → (if c then 0 else (if c && false then n else regs q)) ≡ (if c then 0 else regs q)
    pick true = refl
    pick false = refl

pub zero_fits : (n : ℕ) (regs : Registers) → ((q : ℕ) → regs q < 2 ^ 64) → (q : ℕ) → set_reg 0 n regs q < 2 ^ 64
zero_fits n regs h q = pick (q == 0)
  where
    pick : (c : Bool) → (if c && false then n else regs q) < 2 ^ 64
    pick true = h q
    pick false = h q

module _ {V : Type 0} (w : Slotting V) where
  pub do_mark : (t : VirtualState) (s : State) (on : On w t s) (mark : ℕ) → slice_get w.items t.pc ≡ Some (Mark mark)
      → SimItem w t s (Mark mark)
  do_mark t s on mark here =
      let t1 : VirtualState = record t { pc = suc t.pc } in
      let inside = slice_get_within w.items t.pc (Mark mark) here in
      sim_stay w _ t t1 s (has_room w t s on.body) (fewer t.pc (length w.items) inside) (record {
        body = body_at w t s (suc t.pc) t.known on.body;
        home = on.home;
        code = past_mark (program w) s (code_of w t s on (Mark mark) here tt);
      })
    where
      fewer : (p n : ℕ) → p < n → n - suc p < n - p
      fewer p n h = omega arith

  -- ---- the code behind some items

  abbrev pub RealFrom : ℕ → List RealItem → Type 0
  RealFrom k xs = drop k (code w) ≡ xs

  pub drop_beyond : (xs ys : List RealItem) (k : ℕ) → RealFrom k (xs ++ ys) → RealFrom (beyond xs k) ys
  drop_beyond [] ys k e = e
  drop_beyond (x ∷ xs) ys k e = drop_beyond xs ys (suc k) (drop_next (code w) k x (xs ++ ys) e).1

  next_real : (first count k : ℕ) (x : VirtualItem) (xs : List VirtualItem) → IsBody x
      → RealFrom k (expand_all w.out first count (x ∷ xs) ++ final_items w.out)
      → RealFrom (beyond (expand w.out first count x) k) (expand_all w.out first count xs ++ final_items w.out)
  next_real first count k x xs h e =
      drop_beyond (expand w.out first count x) (expand_all w.out first count xs ++ final_items w.out) k
      (e ∙ (ap (λ ys. ys ++ final_items w.out) (expand_cons w.out first count x xs h)
      ∙ append_assoc (expand w.out first count x) (expand_all w.out first count xs) (final_items w.out)))

  -- ---- marks

  -- the mark stands at a place of the virtual code, and this is the code from there on
  abbrev MarkCode : ℕ → ℕ → Found → Type 0
  MarkCode m q f = (j : ℕ) × RealFrom j (rest_of w f q) × (slice_get w.items q ≡ Some (Mark m))

  mark_code : (xs : List VirtualItem) (m p q k : ℕ) (f : Found) → drop p w.items ≡ xs
      → RealFrom k (expand_all w.out f.first f.count xs ++ final_items w.out) → mark_from m p xs ≡ Some q
      → MarkCode m q f
  mark_code [] m p q k f d e g = absurd (none_is q g)
  mark_code (Procedure i first count ∷ xs) m p q k f d e g = absurd (none_is q g)
  mark_code (Mark n ∷ xs) m p q k f d e g =
      pick (n == m) refl g (λ h. mark_code xs m (suc p) q (suc k) f (drop_next w.items p (Mark n) xs d).1
      (next_real f.first f.count k (Mark n) xs tt e) h)
    where
      pick : (c : Bool) → (n == m) ≡ c → (if c then Some p else mark_from m (suc p) xs) ≡ Some q
          → (mark_from m (suc p) xs ≡ Some q → MarkCode m q f) → MarkCode m q f
      pick true h i later =
          let same : p ≡ q = some_is p q i in
          let number : n ≡ m = equal_of n m h in (
            k,
            e ∙ (ap (λ ys. expand_all w.out f.first f.count ys ++ final_items w.out) (sym d)
                ∙ ap (λ r. rest_of w f r) same),
            ap (λ r. slice_get w.items r) (sym same)
                ∙ ((drop_next w.items p (Mark n) xs d).0 ∙ ap (λ z. Some (Mark z)) number),
          )
      pick false h i later = later i
  mark_code (x ∷ xs) m p q k f d e g =
      mark_code xs m (suc p) q (beyond (expand w.out f.first f.count x) k) f (drop_next w.items p x xs d).1
      (next_real f.first f.count k x xs tt e) g

  -- the address of a mark of the active procedure, and what stands there
  pub record FoundMark (f : Found) (m q : ℕ) : Type 0 where
    pub pc : ℕ
    pub is_address : mark_address w.setting.address (code w) m ≡ Some pc
    pub stands : Stand w pc (rest_of w f q)

  found_mark : (t : VirtualState) (s : State) → On w t s → (m q : ℕ)
      → mark_place w.items t.active.found.home m ≡ Some q → FoundMark t.active.found m q
  found_mark t s on m q e =
      let f : Found = t.active.found in
      let c = mark_code (drop f.home w.items) m f.home q on.home.0 f refl on.home.1 e in
      let body : rest_of w f q ≡ RealMark m ∷ rest_of w f (suc q) =
      ap (λ xs. expand_all w.out f.first f.count xs ++ final_items w.out) (drop_here w.items q (Mark m) c.2) in
      let a = mark_stands (program w) s c.0 m (rest_of w f (suc q)) (c.1 ∙ body) (has_rest w f (suc q)) in
      record { pc = a.pc; is_address = a.is_address; stands = subst (Stand w a.pc) (sym body) a.marked }

  -- the machine is at a mark of the active procedure
  at_mark : (t : VirtualState) (s : State) (m q : ℕ) (on : On w t s) (found : FoundMark t.active.found m q)
      (s2 : State) → Body w t s2 → (regs : Registers) → ((r : ℕ) → get_reg regs r ≡ get_reg s2.regs r)
      → ((r : ℕ) → regs r < 2 ^ 64) → regs 2 ≡ s2.regs 2
      → On w (record t { pc = q }) (record s2 { regs = regs; pc = found.pc })
  at_mark t s m q on found s2 b regs same fits sp =
      let u : State = record s2 { regs = regs; pc = found.pc } in
      record {
        body = body_at w t u q t.known (body_scratch w t s2 regs found.pc b (λ r h. same r) sp fits);
        home = on.home;
        code = found.stands;
      }

  pub do_jump : (t : VirtualState) (s : State) (on : On w t s) (m : ℕ) → slice_get w.items t.pc ≡ Some (Jump m)
      → SimItem w t s (Jump m)
  do_jump t s on m here =
      sim_given w _ t t s (mark_place w.items t.active.found.home m) _ (λ q e.
      let t1 : VirtualState = record t { pc = q } in
      let found = found_mark t s on m q e in
      sim_go w t t1 s (omega arith) (has_room w t s on.body) (
      jumps (program w) (Way w t t1) (On w t1) s found.pc (code_of w t s on (Jump m) here tt)
      (has_rest w t.active.found (suc t.pc)) found.is_address (way_first w t t1 s (seen_of w t s on.body)) (λ k c.
      is_there (program w) (Way w t t1) (On w t1) (at_mark t s m q on found s on.body (set_reg 0 k s.regs)
      (λ r. zero_lost k r s.regs) (zero_fits k s.regs on.body.fits) refl))))

  pub do_branch : (t : VirtualState) (s : State) (on : On w t s) (cond : Cond) (a b : VReg) (m : ℕ)
      → slice_get w.items t.pc ≡ Some (Branch cond a b m)
      → SimItem w t s (Branch cond a b m)
  do_branch t s on cond a b m here =
      sim_given w _ t t s (value t a) _ (λ x xe. sim_given w _ t t s (value t b) _ (λ y ye.
      decided x y xe ye (holds cond x y) refl))
    where
      f : Found
      f = t.active.found

      rest : List RealItem
      rest = rest_of w f (suc t.pc)

      last : List RealItem
      last = RealBranch cond (register_for 28 a) (register_for 29 b) m ∷ []

      -- both words are in registers, and the branch is next
      at_branch : (x y : ℕ) → value t a ≡ Some x → value t b ≡ Some y → (t1 : VirtualState)
          → ((s2 : State) → Body w t s2
          → holds cond (reg s2 (register_for 28 a)) (reg s2 (register_for 29 b)) ≡ holds cond x y
          → Stand w s2.pc (last ++ rest) → Reached w 11 t t1 s2)
          → Reached w (register_price f.first a + (register_price f.first b + 11)) t t1 s
      at_branch x y xe ye t1 go =
          fetch w t t1 (On w t1) (register_price f.first b + 11) s on.body 28 a x
          ((fetch_items f.first 29 b ++ last) ++ rest) (omega arith) xe
          (has_item-append (fetch_items f.first 29 b ++ last) rest (has_rest w f (suc t.pc)))
          (regrouped (program w) (fetch_items f.first 28 a) (fetch_items f.first 29 b ++ last) rest
          (code_of w t s on (Branch cond a b m) here tt)) (λ s1 f1 c1.
          fetch w t t1 (On w t1) 11 s1 f1.body 29 b y (last ++ rest) (omega arith) ye
          (has_item-append last rest (has_rest w f (suc t.pc)))
          (regrouped (program w) (fetch_items f.first 29 b) last rest c1) (λ s2 f2 c2.
          let r1 : ℕ = register_for 28 a in
          let xr : get_reg s2.regs r1 ≡ x = f2.others r1 (kept w t a x xe) ∙ f1.there in
          go s2 f2.body (ap (λ z. holds cond z (reg s2 (register_for 29 b))) xr ∙ ap (λ z. holds cond x z) f2.there)
          c2))

      decided : (x y : ℕ) → value t a ≡ Some x → value t b ≡ Some y → (test : Bool) → holds cond x y ≡ test
          → Sim w (register_price f.first a + register_price f.first b + 11) t s
          (if test then given t (mark_place w.items t.active.found.home m) (λ p. Go (record t { pc = p }))
          else Go (record t { pc = suc t.pc }))
      decided x y xe ye true h =
          sim_given w _ t t s (mark_place w.items t.active.found.home m) _ (λ q e.
          let t1 : VirtualState = record t { pc = q } in
          let found = found_mark t s on m q e in
          sim_go w t t1 s (omega arith) (has_room w t s on.body) (at_branch x y xe ye t1 (λ s2 body same c2.
          taken (program w) (Way w t t1) (On w t1) s2 found.pc c2 (same ∙ h) found.is_address
          (way_first w t t1 s2 (seen_of w t s2 body)) (is_there (program w) (Way w t t1) (On w t1) (
          at_mark t s m q on found s2 body s2.regs (λ r. refl) body.fits refl)))))
      decided x y xe ye false h =
          let t1 : VirtualState = record t { pc = suc t.pc } in
          sim_go w t t1 s (omega arith) (has_room w t s on.body) (at_branch x y xe ye t1 (λ s2 body same c2.
          goes_past (program w) (Way w t t1) (On w t1) s2 c2 (has_rest w f (suc t.pc)) (same ∙ h)
          (way_first w t t1 s2 (seen_of w t s2 body)) (λ n c3.
          is_there (program w) (Way w t t1) (On w t1) (record {
            body = body_at w t (record s2 { pc = n }) (suc t.pc) t.known
                (body_scratch w t s2 s2.regs n body (λ r k. refl) refl body.fits);
            home = on.home;
            code = c3;
          }))))

  -- ---- procedures

  -- what stands behind the mark of a procedure
  abbrev pub frame_items : List RealItem
  frame_items =
      Op (SubInst 29 2 25) ∷ RealBranch Ltu 29 28 w.out ∷ Op (SubInst 2 2 28) ∷ Op (Sd 1 2 (pos 0)) ∷ []

  abbrev pub enter_items : ℕ → List RealItem
  enter_items count = word_items 28 (frame_size count) ++ frame_items

  -- a procedure's mark and code
  pub record Begins (k : ℕ) (f : Found) : Type 0 where
    pub place : ℕ
    pub here : RealFrom place (RealMark k ∷ (enter_items f.count ++ rest_of w f f.home))
    pub home : HasHome w f
    -- where it stands in the virtual code
    pub mark : ℕ
    pub is : slice_get w.items mark ≡ Some (Procedure k f.first f.count)
    pub few : f.count < 2 ^ 32

  -- its number of registers and its code from its mark on, where it stands in the virtual code
  procedure_here : (p j k first count : ℕ) (xs : List VirtualItem) (first0 count0 : ℕ)
      → drop p w.items ≡ Procedure k first count ∷ xs
      → RealFrom j (expand_all w.out first0 count0 (Procedure k first count ∷ xs) ++ final_items w.out)
      → Begins k (record { home = suc p; first = first; count = count })
  procedure_here p j k first count xs first0 count0 d e =
      let f : Found = record { home = suc p; first = first; count = count } in
      let mine : List RealItem = expand_all w.out first count xs in
      let rest : List RealItem = mine ++ final_items w.out in
      let next = drop_next w.items p (Procedure k first count) xs d in
      let same : rest_of w f (suc p) ≡ rest =
      ap (λ ys. expand_all w.out first count ys ++ final_items w.out) next.1 in
      let start : List RealItem = RealMark k ∷ enter_items count in
      let split : expand_all w.out first0 count0 (Procedure k first count ∷ xs) ++ final_items w.out
      ≡ RealMark k ∷ (enter_items count ++ rest) = append_assoc start mine (final_items w.out) in
      record {
        place = j;
        here = e ∙ (split ∙ ap (λ ys. RealMark k ∷ (enter_items count ++ ys)) (sym same));
        home = (beyond start j, drop_beyond start rest j (e ∙ split) ∙ sym same);
        mark = p;
        is = next.0;
        few = w.counts p k first count next.0;
      }

  -- the code behind a procedure's mark and frame
  past_procedure : (p j k first count : ℕ) (xs : List VirtualItem) (first0 count0 : ℕ)
      → RealFrom j (expand_all w.out first0 count0 (Procedure k first count ∷ xs) ++ final_items w.out)
      → RealFrom (beyond (RealMark k ∷ enter_items count) j) (expand_all w.out first count xs ++ final_items w.out)
  past_procedure p j k first count xs first0 count0 e =
      let start : List RealItem = RealMark k ∷ enter_items count in
      let mine : List RealItem = expand_all w.out first count xs in
      drop_beyond start (mine ++ final_items w.out) j (e ∙ append_assoc start mine (final_items w.out))

  -- that of a number
  procedure_code : (xs : List VirtualItem) (k p j : ℕ) (f : Found) (first count : ℕ) → drop p w.items ≡ xs
      → RealFrom j (expand_all w.out first count xs ++ final_items w.out) → procedure_from k p xs ≡ Some f → Begins k f
  procedure_code [] k p j f first count d e g = absurd (let h : ⊥ = cc in h)
  procedure_code (Procedure i first1 count1 ∷ xs) k p j f first count d e g =
      pick (i == k) refl g (λ h. procedure_code xs k (suc p) (beyond (RealMark i ∷ enter_items count1) j) f first1
      count1 (drop_next w.items p (Procedure i first1 count1) xs d).1
      (past_procedure p j i first1 count1 xs first count e) h)
    where
      here : Found
      here = record { home = suc p; first = first1; count = count1 }

      pick : (c : Bool) → (i == k) ≡ c
          → (if c then Some (record { home = suc p; first = first1; count = count1 }) else procedure_from k (suc p) xs)
          ≡ Some f → (procedure_from k (suc p) xs ≡ Some f → Begins k f) → Begins k f
      pick true h z later =
          let b = procedure_here p j i first1 count1 xs first count d e in
          let same : record { home = suc p; first = first1; count = count1 } ≡ f = cc in
          subst (Begins k) same (subst (λ n. Begins n here) (equal_of i k h) b)
      pick false h z later = later z
  procedure_code (x ∷ xs) k p j f first count d e g =
      procedure_code xs k (suc p) (beyond (expand w.out first count x) j) f first count (drop_next w.items p x xs d).1
      (next_real first count j x xs tt e) g

  pub found_number : (k : ℕ) (f : Found) → procedure_from k 0 w.items ≡ Some f → Begins k f
  found_number k f e = procedure_code w.items k 0 0 f 0 0 refl refl e

  -- that of a code address
  abbrev pub AddressCode : ℕ → Found → Type 0
  AddressCode at f = (k : ℕ) × Begins k f × (w.told k ≡ at)

  address_code : (xs : List VirtualItem) (at p j : ℕ) (f : Found) (first count : ℕ) → drop p w.items ≡ xs
      → RealFrom j (expand_all w.out first count xs ++ final_items w.out) → procedure_at w.told at p xs ≡ Some f
      → AddressCode at f
  address_code [] at p j f first count d e g = absurd (let h : ⊥ = cc in h)
  address_code (Procedure i first1 count1 ∷ xs) at p j f first count d e g =
      pick (w.told i == at) refl g (λ h. address_code xs at (suc p) (beyond (RealMark i ∷ enter_items count1) j) f
      first1 count1 (drop_next w.items p (Procedure i first1 count1) xs d).1
      (past_procedure p j i first1 count1 xs first count e) h)
    where
      pick : (c : Bool) → (w.told i == at) ≡ c
          → (if c then Some (record { home = suc p; first = first1; count = count1 })
          else procedure_at w.told at (suc p) xs) ≡ Some f
          → (procedure_at w.told at (suc p) xs ≡ Some f → AddressCode at f) → AddressCode at f
      pick true h z later =
          let b = procedure_here p j i first1 count1 xs first count d e in
          let same : record { home = suc p; first = first1; count = count1 } ≡ f = cc in
          (i, subst (Begins i) same b, equal_of (w.told i) at h)
      pick false h z later = later z
  address_code (x ∷ xs) at p j f first count d e g =
      address_code xs at (suc p) (beyond (expand w.out first count x) j) f first count (drop_next w.items p x xs d).1
      (next_real first count j x xs tt e) g

  pub found_address : (at : ℕ) (f : Found) → procedure_at w.told at 0 w.items ≡ Some f
      → AddressCode at f
  found_address at f e = address_code w.items at 0 0 f 0 0 refl refl e

  -- the virtual run is told the address of its mark
  pub told_address : (k n : ℕ) (f : Found) → Begins k f → mark_address w.setting.address (code w) k ≡ Some n
      → w.told k ≡ n
  told_address k n f b e = w.agree b.mark k f.first f.count n b.is e

  -- the address of a procedure's mark, and what stands there
  pub begins_at : (s : State) (k : ℕ) (f : Found) → Begins k f
      → MarkStands (program w) k (enter_items f.count ++ rest_of w f f.home)
  begins_at s k f b =
      mark_stands (program w) s b.place k (enter_items f.count ++ rest_of w f f.home) b.here
      (has_item-append (enter_items f.count) (rest_of w f f.home) (has_rest w f f.home))

-- The steps that set, compute, load and store a word.
use Rattle.std.proofs.Common.{ℕ, suc, ◌+◌, ◌%◌, ◌^◌, ◌<◌, ◌≤◌, ◌≡◌, inl, true, false, Bool, ◌∷◌, ◌++◌, Some, refl, sym}
use Rattle.std.proofs.Common.{◌∙◌, ap, arith}
use Rattle.std.specs.Prelude.{nat_lt, pos}
use Rattle.run_laws.specs.Machines.{Go}
use Rattle.machine_words.specs.Memory.{Memory, load_bytes, store_bytes}
use Rattle.machine_words.specs.Arithmetic.{plus}
use Rattle.low_ir.specs.declared.code.WordOp.{WordOp}
use Rattle.low_ir.specs.declared.code.WordOp.TheVariants.{Sll, Srl, Sra}
use Rattle.low_ir.specs.Operations.{compute}
use Rattle.low_ir.specs.Steps.{may_load, may_store}
use Rattle.low_ir.specs.declared.code.LowSource.{LowSource}
use Rattle.low_ir.specs.declared.code.LowSource.TheVariants.{Word, Number}
use Rattle.low_ir.specs.Procedures.{Code, Set, Compute as LowCompute, Load as LowLoad, Store as LowStore}
use Rattle.low_ir.specs.Run.{LowState, word_of, with_local}
use Rattle.low_ir.specs.Prices.{source_price}
use Rattle.rv_select.specs.declared.convention.TheConstants.{FIRST_SCRATCH, SECOND_SCRATCH}
use Rattle.rv_select.specs.declared.code.VReg.TheVariants.{Virtual}
use Rattle.rv_select.specs.declared.code.VirtualItem.{VirtualItem}
use Rattle.rv_select.specs.declared.code.VirtualItem.TheVariants.{Compute, ComputeWith, Load, Store}
use Rattle.rv_select.specs.Run.{Found, VirtualState, fits_item, puts}
use Rattle.rv_select.specs.Select.{put_item, is_small, number_of, second_items, compute_item, source_reg, source_items}
use Rattle.rv_select.specs.Prices.{register_price, item_price}
use Rattle.rv_select.proofs.Pricing.{own_slot, source_paid, put_paid}
use Rattle.rv_select.proofs.Fetching.{first_is_scratch}
use Rattle.rv_select.proofs.Fetching.{kept_fixed, fetches, fetches_ge, fetch, fetch_both}
use Rattle.rv_select.proofs.Handing.{put_local}
use Rattle.rv_select.proofs.Stretches.{does_item, write_local, given_is, only_is, beyond, fixed_self, prices}
use Rattle.rv_select.proofs.Relation.{Program, On, setting, owed, Way, At, way_first, past, way_regs, body_regs, next}
use Rattle.rv_select.proofs.Relation.{all_owed}
use Rattle.rv_select.proofs.Stepping.{DoesStep}
use Rattle.rv_select.proofs.Stepping.{Sim, purse_of, sim_given, sim_if, popped, item_sets, mine, ItemsOn}
use Rattle.rv_select.proofs.Stepping.{items_of, active_same}

-- a number that may stand in an item of an operation has 64 bits
pub with_few : (o : WordOp) (n : ℕ) → fits_item o n ≡ true → n < 2 ^ 64
with_few Sll n h = grind arith
with_few Srl n h = grind arith
with_few Sra n h = grind arith
with_few o n h = grind arith

module _ {V : Type 0} (program : Program V) where
  pub do_set : (s : LowState) (t : VirtualState) (on : On program s t) (d : ℕ) (a : LowSource) (rest : Code)
      → DoesStep program s t on (Set d a rest)
  do_set s t on d a rest lies =
      let f : Found = t.active.found in
      let purse : ℕ = purse_of program s (Set d a rest) in
      sim_given program purse s s t (word_of s.active.locals a) _ (λ x e.
      sim_if program purse s (popped program s rest) t (nat_lt d s.active.count) _ (λ h. (
        1,
        inl (omega arith),
        item_price (setting program) f (put_item f.first (Virtual (f.first + d)) a) + owed s.waiting,
        (let p = put_paid (setting program) f (Virtual (f.first + d)) a in
            let q = own_slot f.first d in omega (arith, p, q)),
        item_sets program s t on rest d x t.regs t.known t.pc _ (fixed_self t.regs) lies
            (put_local program.reading
            (setting program) t s.active.locals (t.active.found.first + d) a x e on.active.locals
            (mine program s t on d h)),
      )))

  -- what two sources lead to, with one item behind them
  pub some_steps : (a b : LowSource) → 0 < fetches a (fetches b 1)
  some_steps a b = let h = fetches_ge b 1 in let k = fetches_ge a (fetches b 1) in omega (arith, h, k)

  -- what puts both into registers, and the item that reads them there
  pub both_paid : (s : LowState) (t : VirtualState) (a b : LowSource) (left : ℕ)
      → (let f : Found = t.active.found in
      prices (setting program) f (source_items FIRST_SCRATCH a)
      (prices (setting program) f (source_items SECOND_SCRATCH b) left)
      + (register_price f.first (source_reg f.first FIRST_SCRATCH a) + register_price f.first
      (source_reg f.first SECOND_SCRATCH b))
      ≤ source_price a + source_price b + left)
  both_paid s t a b left =
      let f : Found = t.active.found in
      let p = source_paid (setting program) f FIRST_SCRATCH a
      (prices (setting program) f (source_items SECOND_SCRATCH b) left) in
      let q = source_paid (setting program) f SECOND_SCRATCH b left in omega (arith, p, q)

  pub do_compute : (s : LowState) (t : VirtualState) (on : On program s t) (op : WordOp)
      (d : ℕ) (a b : LowSource) (rest : Code)
      → DoesStep program s t on (LowCompute op d a b rest)
  do_compute s t on op d a b rest lies =
      sim_given program purse s s t (word_of s.active.locals a) _ (λ x ae.
      sim_given program purse s s t (word_of s.active.locals b) _ (λ y be.
      sim_if program purse s (popped program s rest) t (nat_lt d s.active.count) _ (λ h.
      by_kind x y ae be h (is_small op b) refl lies)))
    where
      purse : ℕ
      purse = purse_of program s (LowCompute op d a b rest)

      f : Found
      f = t.active.found

      first : ℕ
      first = f.first

      p1 : ℕ
      p1 = beyond (source_items FIRST_SCRATCH a) t.pc

      after : ℕ → ℕ → LowState
      after x y = record s { active = with_local d (compute op x y) (record s.active { code = rest }) }

      -- a number that stands in the item
      small_is : (c : LowSource) (y : ℕ) → is_small op c ≡ true → word_of s.active.locals c ≡ Some y
          → (fits_item op (number_of c) ≡ true) × (number_of c ≡ y)
      small_is (Word i) y h e = absurd (let z : ⊥ = cc in z)
      small_is (Number n) y h e =
          let few : n < 2 ^ 64 = with_few op n h in
          let whole : n % 2 ^ 64 ≡ n = omega (arith, few) in
          let same : n % 2 ^ 64 ≡ y = cc in (h, sym whole ∙ same)

      by_kind : (x y : ℕ) → word_of s.active.locals a ≡ Some x → word_of s.active.locals b ≡ Some y
          → nat_lt d s.active.count ≡ true → (c : Bool) → is_small op b ≡ c
          → ItemsOn program s t on t.pc (source_items FIRST_SCRATCH a ++ (second_items c b
          ++ (compute_item c first op (Virtual (first + d)) a b ∷ items_of program s t on rest)))
          → Sim program purse s t (Go (after x y))
      by_kind x y ae be h true small_b there =
          let s1 : LowState = after x y in
          let item : VirtualItem = ComputeWith op (Virtual (first + d)) (source_reg first FIRST_SCRATCH a)
          (number_of b) in
          let k = small_is b y small_b be in (
            fetches a 1,
            inl (let z = fetches_ge a 1 in omega (arith, z)),
            prices (setting program) f (source_items FIRST_SCRATCH a)
                (item_price (setting program) f item + owed s.waiting),
            (let p = source_paid (setting program) f FIRST_SCRATCH a
                (item_price (setting program) f item + owed s.waiting) in
                let q = own_slot first d in omega (arith, p, q)),
            fetch program.reading (setting program) (Way program s s1) (At program s1) s.active.locals FIRST_SCRATCH
                first_is_scratch a x t (item
                ∷ items_of program s t on rest) 1
                (item_price (setting program) f item + owed s.waiting) ae on.active.locals there.stands
                (way_first program s s1 t on.body)
                (λ regs known kept va.
                item_sets program s t on rest d (compute op x y) regs known p1 item (kept_fixed kept refl refl refl)
                (past program t.active.found on.active.out t.pc (source_items FIRST_SCRATCH a) (item
                ∷ items_of program s t on rest) s.active.rests there) (
                given_is _ _ x _ va ∙ (only_is _ _ _ k.0
                ∙ (ap (λ n. puts program.reading (setting program) (Virtual (first + d)) (compute op x n)
                (record t { regs = regs; known = known; pc = p1 })) k.1
                ∙ write_local program.reading (setting program) (record t { regs = regs; known = known; pc = p1 })
                (first + d)
                (compute op x y) (mine program s t on d h))))),
          )
      by_kind x y ae be h false small_b there =
          let s1 : LowState = after x y in
          let item : VirtualItem = Compute op (Virtual (first + d)) (source_reg first FIRST_SCRATCH a)
          (source_reg first SECOND_SCRATCH b) in
          let pc : ℕ = beyond (source_items SECOND_SCRATCH b) p1 in (
            fetches a (fetches b 1),
            inl (some_steps a b),
            prices (setting program) f (source_items FIRST_SCRATCH a)
                (prices (setting program) f (source_items SECOND_SCRATCH b)
                (item_price (setting program) f item + owed s.waiting)),
            (let p = both_paid s t a b (item_price (setting program) f item + owed s.waiting) in
                let q = own_slot first d in omega (arith, p, q)),
            fetch_both program.reading (setting program) (Way program s s1) (At program s1) s.active.locals a b x y t
                (item
                ∷ items_of program s t on rest) 1
                (item_price (setting program) f item + owed s.waiting) ae be on.active.locals
                there.stands (way_regs program s s1 t on.body)
                (λ regs known same va vb.
                item_sets program s t on rest d (compute op x y) regs known pc item same
                (past program t.active.found on.active.out p1 (source_items SECOND_SCRATCH b) (item
                ∷ items_of program s t on rest) s.active.rests (past program t.active.found on.active.out t.pc
                (source_items FIRST_SCRATCH a)
                (source_items SECOND_SCRATCH b ++ (item ∷ items_of program s t on rest)) s.active.rests there))
                (given_is _ _ x _ va
                ∙ (given_is _ _ y _ vb ∙ write_local program.reading (setting program)
                (record t { regs = regs; known = known; pc = pc })
                (first + d) (compute op x y) (mine program s t on d h)))),
          )

  pub do_load : (s : LowState) (t : VirtualState) (on : On program s t) (d : ℕ)
      (a : LowSource) (offset : ℕ) (rest : Code)
      → DoesStep program s t on (LowLoad d a offset rest)
  do_load s t on d a offset rest lies =
      let purse : ℕ = purse_of program s (LowLoad d a offset rest) in
      let f : Found = t.active.found in
      let first : ℕ = f.first in
      let item : VirtualItem = Load (Virtual (first + d)) (source_reg first FIRST_SCRATCH a) offset in
      let pc : ℕ = beyond (source_items FIRST_SCRATCH a) t.pc in
      let left : ℕ = item_price (setting program) f item + owed s.waiting in
      sim_given program purse s s t (word_of s.active.locals a) _ (λ x ae.
      let at : ℕ = plus x (pos offset) in
      sim_if program purse s (popped program s rest) t (may_load program.low.top at) _ (λ m.
      sim_if program purse s (popped program s rest) t (nat_lt d s.active.count) _ (λ h.
      let word : ℕ = load_bytes 8 s.memory at in
      let s1 : LowState = record s { active = with_local d word (record s.active { code = rest }) } in (
        fetches a 1,
        inl (let z = fetches_ge a 1 in omega (arith, z)),
        prices (setting program) f (source_items FIRST_SCRATCH a) left,
        (let p = source_paid (setting program) f FIRST_SCRATCH a left in let q = own_slot first d in omega
            (arith, p, q)),
        fetch program.reading (setting program) (Way program s s1) (At program s1) s.active.locals FIRST_SCRATCH
            first_is_scratch a x t (item
            ∷ items_of program s t on rest) 1 left ae on.active.locals lies.stands (way_first program s s1 t on.body)
            (λ regs known kept va.
            item_sets program s t on rest d word regs known pc item (kept_fixed kept refl refl refl)
            (past program t.active.found on.active.out t.pc (source_items FIRST_SCRATCH a) (item
            ∷ items_of program s t on rest) s.active.rests lies) (
            given_is _ _ x _ va ∙ (only_is _ _ _ m
            ∙ (ap (λ (m0 : Memory). puts program.reading (setting program) (Virtual (first + d)) (load_bytes 8 m0 at)
            (record t { regs = regs; known = known; pc = pc })) on.body.0
            ∙ write_local program.reading (setting program) (record t { regs = regs; known = known; pc = pc })
            (first + d) word
            (mine program s t on d h))))),
      ))))

  pub do_store : (s : LowState) (t : VirtualState) (on : On program s t) (b a : LowSource) (offset : ℕ) (rest : Code)
      → DoesStep program s t on (LowStore b a offset rest)
  do_store s t on b a offset rest lies =
      let purse : ℕ = purse_of program s (LowStore b a offset rest) in
      let f : Found = t.active.found in
      let first : ℕ = f.first in
      let item : VirtualItem = Store (source_reg first SECOND_SCRATCH b) (source_reg first FIRST_SCRATCH a) offset in
      let p1 : ℕ = beyond (source_items FIRST_SCRATCH a) t.pc in
      let pc : ℕ = beyond (source_items SECOND_SCRATCH b) p1 in
      let left : ℕ = item_price (setting program) f item + owed s.waiting in
      sim_given program purse s s t (word_of s.active.locals a) _ (λ x ae.
      sim_given program purse s s t (word_of s.active.locals b) _ (λ y be.
      let at : ℕ = plus x (pos offset) in
      sim_if program purse s (popped program s rest) t (may_store program.low.region program.low.top at) _ (λ m.
      let s1 : LowState = record s {
        active = record s.active { code = rest };
        memory =
            store_bytes 8 s.memory at y;
      } in (
        fetches a (fetches b 1),
        inl (some_steps a b),
        prices (setting program) f (source_items FIRST_SCRATCH a)
            (prices (setting program) f (source_items SECOND_SCRATCH b) left),
        (let p = both_paid s t a b left in omega (arith, p)),
        fetch_both program.reading (setting program) (Way program s s1) (At program s1) s.active.locals a b x y t (item
            ∷ items_of program s t on rest) 1 left ae be on.active.locals lies.stands (way_regs program s s1 t on.body)
            (λ regs known same va vb.
            let u : VirtualState = record t { regs = regs; known = known; pc = pc } in
            let here : ItemsOn program s t on pc (item ∷ items_of program s t on rest) =
            past program t.active.found on.active.out p1 (source_items SECOND_SCRATCH b) (item
            ∷ items_of program s t on rest) s.active.rests (past program t.active.found on.active.out t.pc
            (source_items FIRST_SCRATCH a)
            (source_items SECOND_SCRATCH b ++ (item ∷ items_of program s t on rest)) s.active.rests lies) in
            let body = body_regs program s t regs known (suc pc) on.body same in
            does_item program.reading (setting program) (Way program s s1) (At program s1) 0
            (owed s.waiting) u (record u {
              memory = store_bytes 8 u.memory at y;
              pc =
                  suc pc;
            }) item here.stands.0 (given_is _ _ x _ va ∙ (given_is _ _ y _ vb ∙ only_is _ _ _ m))
            (way_regs program s s1 t on.body regs known pc same) (
              record {
                active = active_same program s t on rest (suc pc) (next program t.active.found on.active.out pc item
                    (items_of program s t on rest) s.active.rests here);
                behind = on.behind;
                body = (
                  ap (λ (m0 : Memory). store_bytes 8 m0 at y) body.0,
                  body.1,
                  body.2,
                  body.3,
                  body.4,
                  body.5,
                  body.6,
                  body.7,
                  body.8,
                );
              },
              all_owed (owed s.waiting),
            )),
      ))))

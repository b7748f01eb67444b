-- The steps that ask for words of the region, take them, and fill objects.
use Rattle.std.proofs.Common.{append_assoc, ℕ, suc, ◌+◌, ◌-◌, ◌*◌, ◌/◌, ◌%◌, ◌^◌, ◌<◌, ◌≤◌, ◌≡◌, inl, true, false, Bool}
use Rattle.std.proofs.Common.{List, [], ◌∷◌, ◌++◌, Option, Some, None, refl, sym, ◌∙◌, ap, subst, arith}
use Rattle.std.specs.Prelude.{nat_lt, nat_le, if◌then◌else◌, length}
use Rattle.grift_base.specs.declared.environment.TheConstants.{REGION_OUT_CALL}
use Rattle.machine_words.specs.declared.conditions.Cond.TheVariants.{Ltu}
use Rattle.machine_words.specs.Memory.{Memory, store_bytes}
use Rattle.machine_words.proofs.Public.{stored_outside}
use Rattle.rv_machine.specs.Registers.{Registers}
use Rattle.machine_words.specs.Halts.{Lacks, Region}
use Rattle.low_ir.specs.declared.code.WordOp.TheVariants.{Add, Sub, Sll, Srl}
use Rattle.low_ir.specs.Steps.{may_store, store_words}
use Rattle.low_ir.specs.declared.code.LowSource.{LowSource}
use Rattle.low_ir.specs.Procedures.{Code, Build, Request, Take}
use Rattle.low_ir.specs.Run.{LowState, word_of, words_of, and_more, with_local, sets, finds_no_room}
use Rattle.rv_select.specs.declared.convention.TheConstants.{FIRST_SCRATCH, SECOND_SCRATCH, THIRD_SCRATCH}
use Rattle.rv_select.specs.declared.convention.TheConstants.{FIRST_ARGUMENT, SECOND_ARGUMENT, CALL_NUMBER, STACK_END}
use Rattle.rv_select.specs.declared.convention.TheConstants.{ALLOCATION, REGION_END}
use Rattle.rv_select.specs.declared.code.VReg.TheVariants.{Real, Virtual}
use Rattle.rv_select.specs.declared.code.VirtualItem.{VirtualItem}
use Rattle.rv_select.specs.declared.code.VirtualItem.TheVariants.{Constant, Move, Compute, ComputeWith, Store, Mark}
use Rattle.rv_select.specs.declared.code.VirtualItem.TheVariants.{Branch, Environment}
use Rattle.rv_select.specs.Run.{Found, VirtualState, value, store, branch, item_step}
use Rattle.rv_select.specs.Select.{source_reg, source_items, stores_items, out_items}
use Rattle.rv_select.specs.Prices.{item_price}
use Rattle.rv_select.proofs.Pricing.{own_slot, few_bytes, source_paid, stores_paid, prices_append}
use Rattle.rv_select.proofs.Fetching.{first_is_scratch, third_is_scratch}
use Rattle.rv_select.proofs.Fetching.{kept_value, kept_fixed, wrote_kept, source_apart, fetches, fetches_ge, fetch}
use Rattle.rv_select.proofs.Handing.{words_length}
use Rattle.rv_select.proofs.Stretches.{wrote_real, wrote_local, stands_past, does_item, move_local, given_is, only_is}
use Rattle.rv_select.proofs.Stretches.{beyond, beyond_append, SameFixed, fixed_self, also_fixed, PaidWay, prices}
use Rattle.rv_select.proofs.Relation.{Program, On, setting, owed, Way, At, way_first, past, Body, body_regs, all_owed}
use Rattle.rv_select.proofs.Relation.{Homed, Here, way_second, as_alike, seen, end_is_owed, SeenAs, way_seen}
use Rattle.rv_select.proofs.Stepping.{DoesStep}
use Rattle.rv_select.proofs.Stepping.{Sim, purse_of, items_of, sim_given, sim_if, popped, ItemsOn}
use Rattle.rv_select.proofs.Stepping.{active_same, Ends, stops_here, region_call, cost_here, mine, active_set, unless}

-- the sums by which words are asked for and taken
taken : (alloc n top : ℕ) → (nat_le (alloc + 8 * n) top) ≡ true → top < 2 ^ 64
    → (alloc + n * 8 % 2 ^ 64) % 2 ^ 64 ≡ alloc + 8 * n
taken alloc n top h k = grind arith

fits : (alloc n top : ℕ) → (nat_le (alloc + 8 * n) top) ≡ true → alloc ≤ top → top < 2 ^ 64
    → nat_lt ((top + (2 ^ 64 - alloc)) % 2 ^ 64 / 8) n ≡ false
fits alloc n top h r k = grind arith

tight : (alloc n top : ℕ) → (nat_le (alloc + 8 * n) top) ≡ false → alloc ≤ top → top < 2 ^ 64
    → nat_lt ((top + (2 ^ 64 - alloc)) % 2 ^ 64 / 8) n ≡ true
tight alloc n top h r k = grind arith

within_top : (a b : ℕ) → nat_le a b ≡ true → a ≤ b
within_top a b h = grind arith

module _ {V : Type 0} (program : Program V) where
  -- ---- the allocation word

  pub do_take : (s : LowState) (t : VirtualState) (on : On program s t) (a : LowSource) (rest : Code)
      → DoesStep program s t on (Take a rest)
  do_take s t on a rest lies =
      let purse : ℕ = purse_of program s (Take a rest) in
      let f : Found = t.active.found in
      let first : ℕ = f.first in
      let shift : VirtualItem = ComputeWith Sll (Real FIRST_SCRATCH) (source_reg first THIRD_SCRATCH a) 3 in
      let left : ℕ = item_price (setting program) f shift + (1 + owed s.waiting) in
      let tail : List VirtualItem = ComputeWith Sll (Real FIRST_SCRATCH) (source_reg first THIRD_SCRATCH a) 3
      ∷ Compute Add (Real ALLOCATION) (Real ALLOCATION) (Real FIRST_SCRATCH) ∷ items_of program s t on rest in
      let pc : ℕ = beyond (source_items THIRD_SCRATCH a) t.pc in
      sim_given program purse s s t (word_of s.active.locals a) _ (λ n ae.
      sim_if program purse s (popped program s rest) t (nat_le (s.alloc + 8 * n) program.low.top) _ (λ h.
      let s1 : LowState = record s {
        active = record s.active { code = rest };
        alloc = s.alloc + 8 * n;
        words = s.words + n;
      } in (
        fetches a 2,
        inl (let z = fetches_ge a 2 in omega (arith, z)),
        prices (setting program) f (source_items THIRD_SCRATCH a) left,
        (let p = source_paid (setting program) f THIRD_SCRATCH a left in omega (arith, p)),
        fetch program.reading (setting program) (Way program s s1) (At program s1) s.active.locals THIRD_SCRATCH
            third_is_scratch a n t tail 2 left ae on.active.locals lies.stands (way_first program s s1 t on.body)
            (λ regs known kept va.
            let u : VirtualState = record t { regs = regs; known = known; pc = pc } in
            let here : ItemsOn program s t on pc tail =
            past program t.active.found on.active.out t.pc (source_items THIRD_SCRATCH a) tail s.active.rests lies in
            let t2 : VirtualState = wrote_real FIRST_SCRATCH (n * 8 % 2 ^ 64) u in
            let t3 : VirtualState = wrote_real ALLOCATION ((regs ALLOCATION + n * 8 % 2 ^ 64) % 2 ^ 64) t2 in
            let body : Body program s u = body_regs program s t regs known pc on.body
            (kept_fixed kept refl refl refl) in
            does_item program.reading (setting program) (Way program s s1) (At program s1) 1 (1 + owed s.waiting) u t2
            shift here.stands.0 (given_is u _ n _ va)
            (way_first program s s1 u body) (
            does_item program.reading (setting program) (Way program s s1) (At program s1) 0 (owed s.waiting) t2 t3
            (Compute Add (Real ALLOCATION) (Real ALLOCATION) (Real FIRST_SCRATCH)) here.stands.1.0 refl
            (way_first program s s1 t2 body) (
              record {
                active = active_same program s t on rest t3.pc (record {
                  stands = here.stands.1.1;
                  finds = here.finds.1.1;
                  leads =
                      here.leads;
                });
                behind = on.behind;
                body = (
                  body.0,
                  ap (λ x. (x + n * 8 % 2 ^ 64) % 2 ^ 64) body.1 ∙ taken s.alloc n program.low.top h program.small,
                  body.2,
                  body.3,
                  body.4,
                  within_top (s.alloc + 8 * n) program.low.top h,
                  (let e = body.6 in omega arith),
                  (let e = body.7 in omega arith),
                  body.8,
                );
              },
              all_owed (owed s.waiting),
            ))),
      )))

  -- a request that finds no room: the code behind the mark
  module _ (s s1 : LowState) (out : ℕ) (f : Found) (homed : Homed program s.active.count out f) where
    -- from a state that has only other registers, at the mark
    no_room : (t : VirtualState) → t.pc ≡ homed.room.0 → Body program s1 t
        → PaidWay program.reading (setting program) (Way program s s1) (Ends program s s1
        (program.reading (Lacks Region))) 4 7 t
    no_room t e body =
        let P : VirtualState → Type 0 = Way program s s1 in
        let Q : ℕ → VirtualState → Type 0 = Ends program s s1 (program.reading (Lacks Region)) in
        let t5 : VirtualState = record t { pc = suc t.pc } in
        let t51 : VirtualState = wrote_real FIRST_ARGUMENT 0 t5 in
        let t52 : VirtualState = wrote_real SECOND_ARGUMENT 0 t51 in
        let t6 : VirtualState = wrote_real CALL_NUMBER REGION_OUT_CALL t52 in
        let here : Here program t.pc (out_items out) = subst (λ p. Here program p (out_items out))
        (sym e) homed.room.2 in
        does_item program.reading (setting program) P Q 3 7 t t5 (Mark out) here.0 refl
        (way_second program s s1 t body) (
        does_item program.reading (setting program) P Q 2 5 t5 t51 (Constant (Real FIRST_ARGUMENT) 0) here.1.0 refl
        (way_second program s s1 t5 body) (
        does_item program.reading (setting program) P Q 1 3 t51 t52 (Constant (Real SECOND_ARGUMENT) 0) here.1.1.0 refl
        (way_second program s s1 t51 body) (
        does_item program.reading (setting program) P Q 0 1 t52 t6 (Constant (Real CALL_NUMBER) REGION_OUT_CALL)
        here.1.1.1.0 refl
        (way_second program s s1 t52 body) (
          (
            way_second program s s1 t6 body,
            (
              t6,
              stops_here program t6 (program.reading (Lacks Region)) Environment here.1.1.1.1.0
                  (region_call program t6),
              as_alike program s1 t6 (seen program s1 t6 body),
              tt,
            ),
          ),
          cost_here program t6 Environment here.1.1.1.1.0,
        ))))

  pub do_request : (s : LowState) (t : VirtualState) (on : On program s t) (d : ℕ) (a : LowSource) (rest : Code)
      → DoesStep program s t on (Request d a rest)
  do_request s t on d a rest lies =
      sim_given program purse s s t (word_of s.active.locals a) _ (λ n e. by_room n e
      (nat_le (s.alloc + 8 * n) program.low.top) refl)
    where
      purse : ℕ
      purse = purse_of program s (Request d a rest)

      f : Found
      f = t.active.found

      test : VirtualItem
      test = Branch Ltu (Real FIRST_SCRATCH) (source_reg f.first THIRD_SCRATCH a) on.active.out

      put : VirtualItem
      put = Move (Virtual (f.first + d)) (Real ALLOCATION)

      pc : ℕ
      pc = beyond (source_items THIRD_SCRATCH a) t.pc

      tail : List VirtualItem
      tail = Compute Sub (Real FIRST_SCRATCH) (Real REGION_END) (Real ALLOCATION)
          ∷ ComputeWith Srl (Real FIRST_SCRATCH) (Real FIRST_SCRATCH) 3
          ∷ Branch Ltu (Real FIRST_SCRATCH) (source_reg f.first THIRD_SCRATCH a) on.active.out
          ∷ Move (Virtual (f.first + d)) (Real ALLOCATION)
          ∷ items_of program s t on rest

      here : ItemsOn program s t on pc tail
      here = past program t.active.found on.active.out t.pc (source_items THIRD_SCRATCH a) tail s.active.rests lies

      free : Registers → ℕ
      free regs = (regs REGION_END + (2 ^ 64 - regs ALLOCATION)) % 2 ^ 64

      free_is : (regs : Registers) → SameFixed regs t.regs → free regs ≡ (program.low.top + (2 ^ 64 - s.alloc)) % 2 ^ 64
      free_is regs h = ap (λ x. (x + (2 ^ 64 - regs ALLOCATION)) % 2 ^ 64) (h.top ∙ on.body.4)
          ∙ ap (λ x. (program.low.top + (2 ^ 64 - x)) % 2 ^ 64) (h.alloc ∙ on.body.1)

      u0 : Registers → (ℕ → Bool) → VirtualState
      u0 regs known = record t { regs = regs; known = known; pc = pc }

      u1 : Registers → (ℕ → Bool) → VirtualState
      u1 regs known = wrote_real FIRST_SCRATCH (free regs) (u0 regs known)

      u3 : Registers → (ℕ → Bool) → VirtualState
      u3 regs known = wrote_real FIRST_SCRATCH (free regs / 8) (u1 regs known)

      -- the source, three items, then what the branch comes to
      tested : (n : ℕ) → word_of s.active.locals a ≡ Some n → (s1 : LowState) (Q : ℕ → VirtualState → Type 0)
          (k left : ℕ) → ((regs : Registers) (known : ℕ → Bool) → SameFixed regs t.regs
          → value (u3 regs known) (source_reg f.first THIRD_SCRATCH a) ≡ Some n
          → PaidWay program.reading (setting program) (Way program s s1) Q k left (u3 regs known))
          → PaidWay program.reading (setting program) (Way program s s1) Q (fetches a (suc (suc k)))
          (prices (setting program) f (source_items THIRD_SCRATCH a) (1 + (1 + left))) t
      tested n e s1 Q k left r =
          fetch program.reading (setting program) (Way program s s1) Q s.active.locals THIRD_SCRATCH
          third_is_scratch a n t tail (suc (suc k)) (1 + (1 + left)) e on.active.locals lies.stands
          (way_first program s s1 t on.body)
          (λ regs known kept va.
          let body : Body program s (u0 regs known) = body_regs program s t regs known pc on.body
          (kept_fixed kept refl refl refl) in
          let v1 : value (u1 regs known) (source_reg f.first THIRD_SCRATCH a) ≡ Some n =
          wrote_kept (u0 regs known) FIRST_SCRATCH (free regs) (source_reg f.first THIRD_SCRATCH a) n
          (source_apart f.first THIRD_SCRATCH FIRST_SCRATCH a refl refl)
          va in
          does_item program.reading (setting program) (Way program s s1) Q (suc k)
          (1 + left) (u0 regs known) (u1 regs known)
          (Compute Sub (Real FIRST_SCRATCH) (Real REGION_END) (Real ALLOCATION)) here.stands.0 refl
          (way_first program s s1 (u0 regs known) body) (
          does_item program.reading (setting program) (Way program s s1) Q k left (u1 regs known) (u3 regs known)
          (ComputeWith Srl (Real FIRST_SCRATCH) (Real FIRST_SCRATCH) 3) here.stands.1.0 refl
          (way_first program s s1 (u1 regs known) body) (
          r regs known (kept_fixed kept refl refl refl) (wrote_kept (u1 regs known) FIRST_SCRATCH (free regs / 8)
          (source_reg f.first THIRD_SCRATCH a) n (source_apart f.first THIRD_SCRATCH FIRST_SCRATCH a refl refl) v1))))

      branched : (regs : Registers) (known : ℕ → Bool) (n : ℕ)
          → value (u3 regs known) (source_reg f.first THIRD_SCRATCH a) ≡ Some n
          → (b : Bool) → nat_lt (free regs / 8) n ≡ b
          → item_step program.reading (setting program) test (u3 regs known)
          ≡ branch program.reading (setting program) b on.active.out (u3 regs known)
      branched regs known n e b h =
          given_is (u3 regs known) _ n _ e ∙ ap (λ c. branch program.reading (setting program) c on.active.out
          (u3 regs known)) h

      by_room : (n : ℕ) → word_of s.active.locals a ≡ Some n → (b : Bool) → nat_le (s.alloc + 8 * n) program.low.top ≡ b
          → Sim program purse s t (if b then sets program.reading program.low d s.alloc (popped program s rest)
          else finds_no_room program.reading program.low n (popped program s rest))
      by_room n e true h =
          sim_if program purse s (popped program s rest) t (nat_lt d s.active.count) _ (λ m.
          let s1 : LowState = record s { active = with_local d s.alloc (record s.active { code = rest }) } in
          let left : ℕ = item_price (setting program) f test + (item_price (setting program) f put + owed s.waiting)
          in (
            fetches a 4,
            inl (let z = fetches_ge a 4 in omega (arith, z)),
            prices (setting program) f (source_items THIRD_SCRATCH a) (1 + (1 + left)),
            (let p = source_paid (setting program) f THIRD_SCRATCH a (1 + (1 + left)) in
                let q = own_slot f.first d in omega (arith, p, q)),
            tested n e s1 (At program s1) 2 left (λ regs known same va.
                let t3 : VirtualState = u3 regs known in
                let t4 : VirtualState = record t3 { pc = suc t3.pc } in
                let t5 : VirtualState = wrote_local (f.first + d) s.alloc t4 in
                let body : Body program s t3 = body_regs program s t t3.regs t3.known t3.pc on.body
                (record { stack = same.stack; alloc = same.alloc; top = same.top }) in
                let lt : nat_lt (free regs / 8) n ≡ false = ap (λ x. nat_lt (x / 8) n) (free_is regs same)
                ∙ fits s.alloc n program.low.top h on.body.5 program.small in
                does_item program.reading (setting program) (Way program s s1) (At program s1) 1
                (item_price (setting program) f put + owed s.waiting) t3 t4 test
                here.stands.1.1.0 (branched regs known n va false lt) (way_first program s s1 t3 body) (
                does_item program.reading (setting program) (Way program s s1) (At program s1) 0
                (owed s.waiting) t4 t5 put here.stands.1.1.1.0
                (move_local program.reading (setting program) t4 (f.first + d) (Real ALLOCATION) s.alloc
                (ap Some body.1) (mine program s t on d m))
                (way_first program s s1 t4 body) (
                  record {
                    active = active_set program s t on rest d s.alloc t5.pc
                        (assumption (here.stands.1.1.1.1, here.finds.1.1.1.1, here.leads));
                    behind = on.behind;
                    body = body;
                  },
                  all_owed (owed s.waiting),
                ))),
          ))
      by_room n e false h =
          let s1 : LowState = record (popped program s rest) { words = s.words + n } in
          let room = on.active.homed.room in
          let left : ℕ = item_price (setting program) f test + 7 in
          unless (program.reading (Lacks Region)) (
            fetches a 7,
            prices (setting program) f (source_items THIRD_SCRATCH a) (1 + (1 + left)),
            (let p = source_paid (setting program) f THIRD_SCRATCH a (1 + (1 + left)) in
                let q = end_is_owed s.waiting in omega (arith, p, q)),
            tested n e s1 (Ends program s s1 (program.reading (Lacks Region))) 5 left (λ regs known same va.
                let t3 : VirtualState = u3 regs known in
                let t4 : VirtualState = record t3 { pc = room.0 } in
                let body : Body program s t3 = body_regs program s t t3.regs t3.known t3.pc on.body
                (record { stack = same.stack; alloc = same.alloc; top = same.top }) in
                let lt : nat_lt (free regs / 8) n ≡ true = ap (λ x. nat_lt (x / 8) n) (free_is regs same)
                ∙ tight s.alloc n program.low.top h on.body.5 program.small in
                does_item program.reading (setting program) (Way program s s1) (Ends program s s1
                (program.reading (Lacks Region))) 4 7 t3 t4 test
                here.stands.1.1.0 (branched regs known n va true lt
                ∙ given_is t3 _ room.0 _ room.1) (way_first program s s1 t3 body) (
                no_room s s1 on.active.out t.active.found on.active.homed t4 refl body)),
          )

  -- ---- objects

  at_word : (alloc offset n top : ℕ) → alloc + offset + 8 * suc n ≤ top → top < 2 ^ 64
      → (alloc + offset) % 2 ^ 64 ≡ alloc + offset
  at_word alloc offset n top h k = grind arith

  may_there : (at alloc offset n top : ℕ) → at ≡ alloc + offset → alloc % 8 ≡ 0 → offset % 8 ≡ 0
      → program.low.region ≤ alloc
      → alloc + offset + 8 * suc n ≤ top → may_store program.low.region top at ≡ true
  may_there at alloc offset n top e a o r h =
      let whole : at % 8 ≡ 0 = omega (arith, e, a, o) in
      let from : program.low.region ≤ at = omega (arith, e, r) in
      let to : at + 8 ≤ top = omega (arith, e, h) in grind arith

  -- stores of these words, and the steps behind them
  abbrev stores_more : List LowSource → ℕ → ℕ
  stores_more [] k = k
  stores_more (a ∷ args) k = fetches a (suc (stores_more args k))

  words_split : (o : Option ℕ) (r : Option (List ℕ)) (w : ℕ) (ws : List ℕ) → and_more o r ≡ Some (w ∷ ws) → (o ≡ Some w)
      × (r ≡ Some ws)
  words_split None r w ws e = absurd (let z : ⊥ = cc in z)
  words_split (Some x) None w ws e = absurd (let z : ⊥ = cc in z)
  words_split (Some x) (Some xs) w ws e = (cc, cc)

  words_none : (o : Option ℕ) (r : Option (List ℕ)) → and_more o r ≡ Some [] → ⊥
  words_none None r e = cc
  words_none (Some x) None e = cc
  words_none (Some x) (Some xs) e = cc

  module _ (s s1 : LowState) (z : ℕ) (Q : ℕ → VirtualState → Type 0) (k left : ℕ) (rest : List VirtualItem)
      (even : s.alloc % 8 ≡ 0) (above : program.low.region ≤ s.alloc) where
    -- the words of an object are stored behind the allocation word
    stored : (args : List LowSource) (ws : List ℕ) (offset at : ℕ) (u : VirtualState) → at ≡ s.alloc + offset
        → words_of s.active.locals args ≡ Some ws
        → ((i : ℕ) → u.active.locals (u.active.found.first + i) ≡ s.active.locals i) → offset % 8 ≡ 0
        → s.alloc + offset + 8 * length ws ≤ program.low.top → SeenAs program s u
        → Here program u.pc (stores_items u.active.found.first offset args ++ rest)
        → value u (Real SECOND_SCRATCH) ≡ Some z
        → ((regs : Registers) (known : ℕ → Bool) (pc : ℕ) → SameFixed regs u.regs
        → pc ≡ beyond (stores_items u.active.found.first offset args) u.pc
        → SeenAs program s (record u { regs = regs; known = known; pc = pc; memory = store_words ws at u.memory })
        → value (record u { regs = regs; known = known; pc = pc; memory = store_words ws at u.memory })
        (Real SECOND_SCRATCH)
        ≡ Some z → PaidWay program.reading (setting program) (Way program s s1) Q k left (record u {
          regs = regs;
          known = known;
          pc = pc;
          memory =
              store_words ws at u.memory;
        })) → PaidWay program.reading (setting program) (Way program s s1) Q (stores_more args k)
        (prices (setting program) u.active.found (stores_items u.active.found.first offset args) left) u
    stored [] [] offset at u ate e f o room sn stands v6 go = go u.regs u.known u.pc (fixed_self u.regs) refl sn v6
    stored [] (w ∷ ws) offset at u ate e f o room sn stands v6 go = absurd (let y : ⊥ = cc in y)
    stored (a ∷ args) [] offset at u ate e f o room sn stands v6 go = absurd (words_none _ _ e)
    stored (a ∷ args) (w ∷ ws) offset at u ate e f o room sn stands v6 go =
        let first : ℕ = u.active.found.first in
        let later : List VirtualItem = stores_items first (offset + 8) args in
        let item : VirtualItem = Store (source_reg first FIRST_SCRATCH a) (Real ALLOCATION) offset in
        let p : ℕ = beyond (source_items FIRST_SCRATCH a) u.pc in
        let both = words_split (word_of s.active.locals a) (words_of s.active.locals args) w ws e in
        let split : Here program u.pc (source_items FIRST_SCRATCH a ++ (item ∷ (later ++ rest))) =
        subst (Here program u.pc) (append_assoc (source_items FIRST_SCRATCH a) (item ∷ later) rest) stands in
        let here : Here program p (item ∷ (later ++ rest)) =
        stands_past program.reading (setting program) (source_items FIRST_SCRATCH a) (item
        ∷ (later ++ rest)) u.pc split in
        let after : ℕ = prices (setting program) u.active.found later left in
        subst (λ n. PaidWay program.reading (setting program) (Way program s s1) Q (fetches a
        (suc (stores_more args k))) n u)
        (sym (prices_append (setting program) u.active.found (source_items FIRST_SCRATCH a) (item ∷ later) left)) (
        fetch program.reading (setting program) (Way program s s1) Q s.active.locals FIRST_SCRATCH
        first_is_scratch a w u (item
        ∷ (later ++ rest)) (suc
        (stores_more args k)) (item_price (setting program) u.active.found item + after) both.0 f split
        (way_seen program s s1 u sn) (λ regs known kept va.
        let u1 : VirtualState = record u { regs = regs; known = known; pc = p } in
        let u2 : VirtualState = record u1 { memory = store_bytes 8 u.memory at w; pc = suc p } in
        let sn1 : SeenAs program s u1 = (
          sn.0,
          kept.same ALLOCATION refl ∙ sn.1,
          sn.2,
          sn.3,
          sn.4,
          kept.same STACK_END refl ∙ sn.5,
          kept.same REGION_END refl ∙ sn.6,
        ) in
        let place : (regs ALLOCATION + offset) % 2 ^ 64 ≡ at = ap (λ x. (x + offset) % 2 ^ 64) sn1.1
        ∙ (at_word s.alloc offset (length ws) program.low.top room program.small ∙ sym ate) in
        let v61 : value u1 (Real SECOND_SCRATCH) ≡ Some z = kept_value u FIRST_SCRATCH regs known p kept
        (Real SECOND_SCRATCH) z refl v6 in
        let sn2 : SeenAs program s u2 = (
          λ i h. stored_outside 8 u.memory at w i (inl (omega (arith, ate, h))) ∙ sn.0 i h,
          sn1.1,
          sn.2,
          sn.3,
          sn.4,
          sn1.5,
          sn1.6,
        ) in
        does_item program.reading (setting program) (Way program s s1) Q (stores_more args k) after u1 u2 item here.0
        (given_is u1 _ w _ va
        ∙ (ap (λ x. store program.reading (setting program) x w u1) place
        ∙ only_is u1 _ _ (may_there at s.alloc offset (length ws) program.low.top ate even o above room)))
        (way_seen program s s1 u1 sn1) (
        stored args ws (offset + 8) (at + 8) u2 (omega (arith, ate)) both.1 f (omega (arith, o))
        (omega (arith, room)) sn2 here.1 v61 (λ regs3 known3 pc3 same there sn3 v63.
        go regs3 known3 pc3 (also_fixed same (kept_fixed kept refl refl refl)) (there
        ∙ sym (beyond_append (source_items FIRST_SCRATCH a) (item ∷ later) u.pc)) sn3 v63))))

  fits_bytes : (alloc n top : ℕ) → (nat_le (alloc + 8 * n) top) ≡ true → alloc ≤ top → top < 2 ^ 64
      → nat_lt ((top + (2 ^ 64 - alloc)) % 2 ^ 64) (8 * n % 2 ^ 64) ≡ false
  fits_bytes alloc n top h r k = grind arith

  tight_bytes : (alloc n top : ℕ) → (nat_le (alloc + 8 * n) top) ≡ false → n < 256 → alloc ≤ top → top < 2 ^ 64
      → nat_lt ((top + (2 ^ 64 - alloc)) % 2 ^ 64) (8 * n % 2 ^ 64) ≡ true
  tight_bytes alloc n top h f r k = grind arith

  moved_bytes : (alloc n top : ℕ) → (nat_le (alloc + 8 * n) top) ≡ true → top < 2 ^ 64
      → (alloc + 8 * n % 2 ^ 64) % 2 ^ 64 ≡ alloc + 8 * n
  moved_bytes alloc n top h k = grind arith

  pub do_build : (s : LowState) (t : VirtualState) (on : On program s t) (d : ℕ) (args : List LowSource) (rest : Code)
      → DoesStep program s t on (Build d args rest)
  do_build s t on d args rest lies =
      sim_given program purse s s t (words_of s.active.locals args) _ (λ ws e.
      sim_if program purse s (popped program s rest) t (nat_lt (length ws) 256) _
      (λ few. by_room ws e few (nat_le (s.alloc + 8 * length ws) program.low.top) refl))
    where
      purse : ℕ
      purse = purse_of program s (Build d args rest)

      f : Found
      f = t.active.found

      size_item : VirtualItem
      size_item = Constant (Real SECOND_SCRATCH) (8 * length args)

      test : VirtualItem
      test = Branch Ltu (Real FIRST_SCRATCH) (Real SECOND_SCRATCH) on.active.out

      put : VirtualItem
      put = Move (Virtual (f.first + d)) (Real ALLOCATION)

      -- the size of so few words is a small number
      size_paid : (ws : List ℕ) → words_of s.active.locals args ≡ Some ws → nat_lt (length ws) 256 ≡ true
          → item_price (setting program) f size_item ≡ 2
      size_paid ws e few =
          let many = words_length s.active.locals args ws e in
          let less : length ws < 256 = grind arith in
          let p = few_bytes (length args) (omega (arith, many, less)) in omega (arith, p)

      bytes : ℕ
      bytes = 8 * length args % 2 ^ 64

      free : ℕ
      free = (t.regs REGION_END + (2 ^ 64 - t.regs ALLOCATION)) % 2 ^ 64

      free_is : free ≡ (program.low.top + (2 ^ 64 - s.alloc)) % 2 ^ 64
      free_is = ap (λ x. (x + (2 ^ 64 - t.regs ALLOCATION)) % 2 ^ 64) on.body.4
          ∙ ap (λ x. (program.low.top + (2 ^ 64 - x)) % 2 ^ 64) on.body.1

      t1 : VirtualState
      t1 = wrote_real FIRST_SCRATCH free t

      t2 : VirtualState
      t2 = wrote_real SECOND_SCRATCH bytes t1

      tail : List VirtualItem
      tail = Move (Virtual (f.first + d)) (Real ALLOCATION)
          ∷ Compute Add (Real ALLOCATION) (Real ALLOCATION) (Real SECOND_SCRATCH)
          ∷ items_of program s t on rest

      after : ItemsOn program s t on (suc (suc (suc t.pc))) (stores_items f.first 0 args ++ tail)
      after = record { stands = lies.stands.1.1.1; finds = lies.finds.1.1.1; leads = lies.leads }

      end_place : ℕ
      end_place = beyond (stores_items f.first 0 args) (suc (suc (suc t.pc)))

      there : ItemsOn program s t on end_place tail
      there = past program t.active.found on.active.out
          (suc (suc (suc t.pc))) (stores_items f.first 0 args) tail s.active.rests
          after

      tested : (s1 : LowState) (Q : ℕ → VirtualState → Type 0) (k left : ℕ)
          → PaidWay program.reading (setting program) (Way program s s1) Q k left t2
          → PaidWay program.reading (setting program) (Way program s s1) Q (suc (suc k))
          (1 + (item_price (setting program) f size_item + left)) t
      tested s1 Q k left r =
          does_item program.reading (setting program) (Way program s s1) Q (suc k)
          (item_price (setting program) f size_item + left) t t1
          (Compute Sub (Real FIRST_SCRATCH) (Real REGION_END) (Real ALLOCATION)) lies.stands.0 refl
          (way_first program s s1 t on.body) (
          does_item program.reading (setting program) (Way program s s1) Q k left t1 t2 size_item lies.stands.1.0 refl
          (way_first program s s1 t1 on.body) r)

      branched : (b : Bool) → nat_lt free bytes ≡ b
          → item_step program.reading (setting program) test t2
          ≡ branch program.reading (setting program) b on.active.out t2
      branched b h = ap (λ c. branch program.reading (setting program) c on.active.out t2) h

      by_room : (ws : List ℕ) → words_of s.active.locals args ≡ Some ws → nat_lt (length ws) 256 ≡ true → (b : Bool)
          → nat_le (s.alloc + 8 * length ws) program.low.top ≡ b
          → Sim program purse s t (if b then sets program.reading program.low d s.alloc
          (record (popped program s rest) {
            memory = store_words ws s.alloc s.memory;
            alloc = s.alloc + 8 * length ws;
            words =
                s.words + length ws;
          }) else finds_no_room program.reading program.low (length ws) (popped program s rest))
      by_room ws e few true h =
          sim_if program purse s (record (popped program s rest) {
            memory = store_words ws s.alloc s.memory;
            alloc = s.alloc + 8 * length ws;
            words = s.words + length ws;
          }) t (nat_lt d s.active.count) _ (λ m.
          let s1 : LowState = record s {
            active = with_local d s.alloc (record s.active { code = rest });
            memory =
                store_words ws s.alloc s.memory;
            alloc = s.alloc + 8 * length ws;
            words = s.words + length ws;
          } in
          let many : length ws ≡ length args = words_length s.active.locals args ws e in
          let t3 : VirtualState = record t2 { pc = suc t2.pc } in
          let lt : nat_lt free bytes ≡ false = ap (λ x. nat_lt x bytes) free_is
          ∙ (ap (λ n. nat_lt ((program.low.top + (2 ^ 64 - s.alloc)) % 2 ^ 64) (8 * n % 2 ^ 64)) (sym many)
          ∙ fits_bytes s.alloc (length ws) program.low.top h on.body.5 program.small) in
          let left : ℕ = item_price (setting program) f put + (1 + owed s.waiting) in
          let later : ℕ = prices (setting program) f (stores_items f.first 0 args) left in (
            suc (suc (suc (stores_more args 2))),
            inl (omega arith),
            1 + (item_price (setting program) f size_item + (11 + later)),
            (let p = stores_paid (setting program) f args 0 left in
                let q = size_paid ws e few in
                let i = own_slot f.first d in omega (arith, p, q, i)),
            tested s1 (At program s1) (suc (stores_more args 2)) (11 + later) (
                does_item program.reading (setting program) (Way program s s1) (At program s1)
                (stores_more args 2) later t2 t3 test lies.stands.1.1.0
                (branched false lt) (way_first program s s1 t2 on.body) (
                stored s s1 bytes (At program s1) 2 left tail on.body.6 on.body.7 args ws 0 s.alloc t3 (omega arith) e
                on.active.locals
                refl (let y = within_top (s.alloc + 8 * length ws) program.low.top h in
                omega (arith, y)) (seen program s t3 on.body) after.stands refl (λ regs known pc same place sn v6.
                let u : VirtualState = record t3 {
                  regs = regs;
                  known = known;
                  pc = pc;
                  memory =
                      store_words ws s.alloc t.memory;
                } in
                let here : ItemsOn program s t on pc tail = subst
                (λ q. ItemsOn program s t on q tail) (sym place) there in
                let u1 : VirtualState = wrote_local (f.first + d) s.alloc u in
                let u2 : VirtualState = wrote_real ALLOCATION ((regs ALLOCATION + bytes) % 2 ^ 64) u1 in
                let sum : (regs ALLOCATION + bytes) % 2 ^ 64 ≡ s.alloc + 8 * length ws =
                ap (λ x. (x + bytes) % 2 ^ 64) (same.alloc ∙ on.body.1)
                ∙ (ap (λ n. (s.alloc + 8 * n % 2 ^ 64) % 2 ^ 64) (sym many)
                ∙ moved_bytes s.alloc (length ws) program.low.top h program.small) in
                does_item program.reading (setting program) (Way program s s1) (At program s1) 1
                (1 + owed s.waiting) u u1 put here.stands.0
                (move_local program.reading (setting program) u (f.first + d) (Real ALLOCATION) s.alloc
                (ap Some (same.alloc
                ∙ on.body.1))
                (mine program s t on d m)) (way_seen program s s1 u sn) (
                does_item program.reading (setting program) (Way program s s1) (At program s1) 0 (owed s.waiting) u1 u2
                (Compute Add (Real ALLOCATION) (Real ALLOCATION) (Real SECOND_SCRATCH)) here.stands.1.0
                (given_is u1 _ bytes _ v6)
                (way_seen program s s1 u1 sn) (
                  record {
                    active = active_set program s t on rest d s.alloc u2.pc
                        (assumption (here.stands.1.1, here.finds.1.1, here.leads));
                    behind = on.behind;
                    body = (
                      ap (λ (mem : Memory). store_words ws s.alloc mem) on.body.0,
                      sum,
                      on.body.2,
                      on.body.3,
                      same.top ∙ on.body.4,
                      within_top (s.alloc + 8 * length ws) program.low.top h,
                      (let y = on.body.6 in omega (arith, y)),
                      (let y = on.body.7 in omega (arith, y)),
                      same.stack
                          ∙ on.body.8,
                    );
                  },
                  all_owed (owed s.waiting),
                ))))),
          ))
      by_room ws e few false h =
          let s1 : LowState = record (popped program s rest) { words = s.words + length ws } in
          let room = on.active.homed.room in
          let many : length ws ≡ length args = words_length s.active.locals args ws e in
          let t4 : VirtualState = record t2 { pc = room.0 } in
          let lt : nat_lt free bytes ≡ true = ap (λ x. nat_lt x bytes) free_is
          ∙ (ap (λ n. nat_lt ((program.low.top + (2 ^ 64 - s.alloc)) % 2 ^ 64) (8 * n % 2 ^ 64)) (sym many)
          ∙ tight_bytes s.alloc (length ws) program.low.top h (let y : length ws < 256 = grind arith in
          y) on.body.5 program.small) in
          unless (program.reading (Lacks Region)) (
            7,
            1 + (item_price (setting program) f size_item + (11 + 7)),
            (let p = size_paid ws e few in
                let q = end_is_owed s.waiting in omega (arith, p, q)),
            tested s1 (Ends program s s1 (program.reading (Lacks Region))) 5 (11 + 7) (
                does_item program.reading (setting program) (Way program s s1) (Ends program s s1
                (program.reading (Lacks Region))) 4 7 t2 t4 test
                lies.stands.1.1.0 (branched true lt
                ∙ given_is t2 _ room.0 _ room.1) (way_first program s s1 t2 on.body) (
                no_room s s1 on.active.out t.active.found on.active.homed t4 refl on.body)),
          )

-- An environment call.
use Rattle.std.proofs.Common.{ℕ, suc, ◌+◌, ◌%◌, ◌^◌, ◌≤◌, ◌≡◌, inl, true, Some, refl, ap, arith}
use Rattle.std.specs.Prelude.{nat_lt, length}
use Rattle.grift_base.specs.World.{WorldState}
use Rattle.grift_base.specs.EnvironmentCall.{Called, environment_call}
use Rattle.run_laws.specs.Machines.{Next}
use Rattle.rv_machine.specs.Registers.{set_reg}
use Rattle.low_ir.specs.Steps.{set_local, Effect, Goes, Halts, Lost, effect_of, settle}
use Rattle.low_ir.specs.declared.code.LowSource.{LowSource}
use Rattle.low_ir.specs.declared.code.LowSource.TheVariants.{Number}
use Rattle.low_ir.specs.Procedures.{Code, Environment as LowEnvironment}
use Rattle.low_ir.specs.Run.{LowState, word_of, with_local}
use Rattle.low_ir.specs.Prices.{source_price}
use Rattle.rv_select.specs.declared.convention.TheConstants.{FIRST_ARGUMENT, SECOND_ARGUMENT, CALL_NUMBER}
use Rattle.rv_select.specs.declared.code.VReg.TheVariants.{Real, Virtual}
use Rattle.rv_select.specs.declared.code.VirtualItem.{VirtualItem}
use Rattle.rv_select.specs.declared.code.VirtualItem.TheVariants.{Constant, Move, Environment}
use Rattle.rv_select.specs.Run.{Found, VirtualState, also_known, item_step}
use Rattle.rv_select.specs.Select.{put_item}
use Rattle.rv_select.specs.Prices.{item_price}
use Rattle.rv_select.proofs.Pricing.{own_slot, number_paid, put_paid}
use Rattle.rv_select.proofs.Handing.{set_shifted, put_real}
use Rattle.rv_select.proofs.Stretches.{wrote_real, wrote_local, does_item, move_local, PaidWay}
use Rattle.rv_select.proofs.Relation.{Program, On, setting, Way, way_first, Body, owed, At, way_second, all_owed}
use Rattle.rv_select.proofs.Relation.{as_alike, seen}
use Rattle.rv_select.proofs.Stepping.{DoesStep}
use Rattle.rv_select.proofs.Stepping.{Sim, purse_of, sim_given, sim_if, popped, mine, unless, Ends}
use Rattle.rv_select.proofs.Stepping.{stops_here, cost_here}

module _ {V : Type 0} (program : Program V) where
  abbrev effect_from : Effect → VirtualState → WorldState → Next VirtualState V
  effect_from e t w = settle program.reading e t (λ a b. record t {
    regs = set_reg SECOND_ARGUMENT b (set_reg FIRST_ARGUMENT a t.regs);
    known =
        also_known SECOND_ARGUMENT (also_known FIRST_ARGUMENT t.known);
    world = w;
    pc = suc t.pc;
  })

  pub do_environment : (s : LowState) (t : VirtualState) (on : On program s t) (number : ℕ) (a b : LowSource) (d e : ℕ)
      (rest : Code) → DoesStep program s t on (LowEnvironment number a b d e rest)
  do_environment s t on number a b d e rest lies =
      sim_given program purse s s t (word_of s.active.locals a) _ (λ x xe.
      sim_given program purse s s t (word_of s.active.locals b) _ (λ y ye.
      sim_if program purse s (popped program s rest) t (nat_lt d s.active.count) _ (λ dm.
      sim_if program purse s (popped program s rest) t (nat_lt e s.active.count) _ (λ em.
      let c : Called = environment_call (number % 2 ^ 64) x y (length program.low.labels) s.world in
      called x y xe ye dm em (effect_of program.low.labels c.effect) c.world (calls x y)))))
    where
      purse : ℕ
      purse = purse_of program s (LowEnvironment number a b d e rest)

      f : Found
      f = t.active.found

      -- the items that hand on both words and the call's number
      first_word : VirtualItem
      first_word = put_item f.first (Real FIRST_ARGUMENT) a

      second_word : VirtualItem
      second_word = put_item f.first (Real SECOND_ARGUMENT) b

      call_number : VirtualItem
      call_number = Constant (Real CALL_NUMBER) number

      with_words : ℕ → ℕ
      with_words left =
          item_price (setting program) f first_word + (item_price (setting program) f second_word
          + (item_price (setting program) f call_number + left))

      words_paid : (left : ℕ) → with_words left
          ≤ source_price a + source_price b + source_price (Number number) + 2 + left
      words_paid left =
          let x = put_paid (setting program) f (Real FIRST_ARGUMENT) a in
          let y = put_paid (setting program) f (Real SECOND_ARGUMENT) b in
          let z = number_paid number in omega (arith, x, y, z)

      -- and those that set two words
      puts_first : VirtualItem
      puts_first = Move (Virtual (f.first + d)) (Real FIRST_ARGUMENT)

      puts_second : VirtualItem
      puts_second = Move (Virtual (f.first + e)) (Real SECOND_ARGUMENT)

      t1 : ℕ → VirtualState
      t1 x = wrote_real FIRST_ARGUMENT x t

      t2 : ℕ → ℕ → VirtualState
      t2 x y = wrote_real SECOND_ARGUMENT y (t1 x)

      t3 : ℕ → ℕ → VirtualState
      t3 x y = wrote_real CALL_NUMBER (number % 2 ^ 64) (t2 x y)

      call_of : ℕ → ℕ → WorldState → Called
      call_of x y w = environment_call (number % 2 ^ 64) x y (length program.low.labels) w

      calls : (x y : ℕ) → item_step program.reading (setting program) Environment (t3 x y)
          ≡ effect_from (effect_of program.low.labels (call_of x y s.world).effect) (t3 x y) (call_of x y s.world).world
      calls x y = ap (λ (w : WorldState). effect_from (effect_of program.low.labels (call_of x y w).effect) (t3 x y)
          (call_of x y w).world) on.body.3

      moved : (x y : ℕ) → word_of s.active.locals a ≡ Some x → word_of s.active.locals b ≡ Some y
          → (s1 : LowState) (Q : ℕ → VirtualState → Type 0) (k left : ℕ)
          → PaidWay program.reading (setting program) (Way program s s1) Q k left (t3 x y)
          → PaidWay program.reading (setting program) (Way program s s1) Q (suc (suc (suc k))) (with_words left) t
      moved x y xe ye s1 Q k left r =
          does_item program.reading (setting program) (Way program s s1) Q (suc (suc k))
          (item_price (setting program) f second_word
          + (item_price (setting program) f call_number + left)) t (t1 x) first_word lies.stands.0
          (put_real program.reading (setting program) t s.active.locals FIRST_ARGUMENT a x xe on.active.locals refl)
          (way_first program s s1 t on.body) (
          does_item program.reading (setting program) (Way program s s1) Q (suc k)
          (item_price (setting program) f call_number + left) (t1 x) (t2 x y)
          second_word lies.stands.1.0
          (put_real program.reading (setting program) (t1 x) s.active.locals SECOND_ARGUMENT b y ye on.active.locals
          refl)
          (way_first program s s1 (t1 x) on.body) (
          does_item program.reading (setting program) (Way program s s1) Q k left
          (t2 x y) (t3 x y) call_number lies.stands.1.1.0 refl
          (way_first program s s1 (t2 x y) on.body) r))

      called : (x y : ℕ) → word_of s.active.locals a ≡ Some x → word_of s.active.locals b ≡ Some y
          → nat_lt d s.active.count ≡ true → nat_lt e s.active.count ≡ true → (ef : Effect) (w : WorldState)
          → item_step program.reading (setting program) Environment (t3 x y) ≡ effect_from ef (t3 x y) w
          → Sim program purse s t (settle program.reading ef (popped program s rest) (λ a0 a1. record s {
            active =
                with_local e a1 (with_local d a0 (record s.active { code = rest }));
            world = w;
          }))
      called x y xe ye dm em (Goes a0 a1) w step =
          let s1 : LowState = record s {
            active = with_local e a1 (with_local d a0 (record s.active { code = rest }));
            world = w;
          } in
          let t4 : VirtualState = record (t3 x y) {
            regs = set_reg SECOND_ARGUMENT a1 (set_reg FIRST_ARGUMENT a0 (t3 x y).regs);
            known =
                also_known SECOND_ARGUMENT (also_known FIRST_ARGUMENT (t3 x y).known);
            world = w;
            pc = suc (t3 x y).pc;
          } in
          let t5 : VirtualState = wrote_local (t.active.found.first + d) a0 t4 in
          let t6 : VirtualState = wrote_local (t.active.found.first + e) a1 t5 in
          let body : Body program s1 t4 = (
            on.body.0,
            on.body.1,
            on.body.2,
            refl,
            on.body.4,
            on.body.5,
            on.body.6,
            on.body.7,
            on.body.8,
          ) in
          let last : ℕ = item_price (setting program) f puts_second + owed s.waiting in
          let later : ℕ = item_price (setting program) f puts_first + last in (
            6,
            inl (omega arith),
            with_words (1 + later),
            (let i = words_paid (1 + later) in
                let m = own_slot f.first d in
                let n = own_slot f.first e in omega (arith, i, m, n)),
            moved x y xe ye s1 (At program s1) 3 (1 + later) (
                does_item program.reading (setting program) (Way program s s1) (At program s1) 2 later
                (t3 x y) t4 Environment lies.stands.1.1.1.0 step
                (way_first program s s1 (t3 x y) on.body) (
                does_item program.reading
                (setting program) (Way program s s1) (At program s1) 1 last t4 t5 puts_first lies.stands.1.1.1.1.0
                (move_local program.reading (setting program) t4 (t.active.found.first + d)
                (Real FIRST_ARGUMENT) a0 refl (mine program s t on d dm))
                (way_second program s s1 t4 body) (
                does_item program.reading (setting program) (Way program s s1) (At program s1) 0
                (owed s.waiting) t5 t6 puts_second
                lies.stands.1.1.1.1.1.0
                (move_local program.reading (setting program) t5 (t.active.found.first + e)
                (Real SECOND_ARGUMENT) a1 refl (mine program s t on e em))
                (way_second program s s1 t5 body) (
                  record {
                    active = record {
                      mark = on.active.mark;
                      out = on.active.out;
                      homed = on.active.homed;
                      locals = λ i. set_shifted t.active.found.first e a1 i (set_local (t.active.found.first + d) a0
                          t.active.locals) (set_local d a0 s.active.locals) (set_shifted t.active.found.first d a0 i
                          t.active.locals s.active.locals (on.active.locals i));
                      lies = record {
                        stands = lies.stands.1.1.1.1.1.1;
                        finds = lies.finds.1.1.1.1.1.1;
                        leads =
                            lies.leads;
                      };
                    };
                    behind = on.behind;
                    body = body;
                  },
                  all_owed (owed s.waiting),
                )))),
          )
      called x y xe ye dm em (Halts halt) w step =
          let s1 : LowState = popped program s rest in
          unless (program.reading halt) (
            3,
            with_words 1,
            (let i = words_paid 1 in omega (arith, i)),
            moved x y xe ye s1 (Ends program s s1 (program.reading halt)) 0 1 (
              (
                way_first program s s1 (t3 x y) on.body,
                (
                  t3 x y,
                  stops_here program (t3 x y) (program.reading halt) Environment lies.stands.1.1.1.0 step,
                  as_alike program s1 (t3 x y) (seen program s1 (t3 x y) on.body),
                  tt,
                ),
              ),
              cost_here program (t3 x y) Environment lies.stands.1.1.1.0,
            ),
          )
      called x y xe ye dm em Lost w step = tt

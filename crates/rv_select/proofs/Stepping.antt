-- What a step of the run over words asks of the virtual code, and what the steps of all kinds of code share.
use Rattle.std.proofs.Common.{ℕ, suc, ◌+◌, ◌≤◌, ◌≡◌, true, false, Bool, List, [], ◌∷◌, Option, Some, None, refl, ◌∙◌}
use Rattle.std.proofs.Common.{ap, arith}
use Rattle.std.specs.Prelude.{nat_lt, length, slice_get}
use Rattle.grift_base.specs.declared.environment.TheConstants.{REGION_OUT_CALL}
use Rattle.grift_base.specs.EnvironmentCall.{Called, environment_call}
use Rattle.run_laws.specs.Runs.{Ending, Verdict, Exhausted, Wrong, Any}
use Rattle.run_laws.specs.Machines.{Next, Go, Stop, StopsAt, UnlessWrong}
use Rattle.rv_machine.specs.Registers.{Registers, set_reg}
use Rattle.machine_words.specs.Halts.{Lacks, Region}
use Rattle.low_ir.specs.Steps.{set_local, given, only_if, effect_of, settle}
use Rattle.low_ir.specs.Procedures.{Code}
use Rattle.low_ir.specs.Run.{code_step, LowState, with_local, goes_on}
use Rattle.low_ir.specs.Prices.{step_price}
use Rattle.rv_select.specs.declared.convention.TheConstants.{FIRST_ARGUMENT, SECOND_ARGUMENT}
use Rattle.rv_select.specs.declared.code.VirtualItem.{VirtualItem}
use Rattle.rv_select.specs.Run.{Found, VirtualState, also_known, is_own, item_step, step_here}
use Rattle.rv_select.specs.Select.{code_items}
use Rattle.rv_select.specs.Selected.{SameRegion}
use Rattle.rv_select.specs.Prices.{item_price}
use Rattle.rv_select.proofs.Paying.{DoesPaid}
use Rattle.rv_select.proofs.Handing.{set_shifted}
use Rattle.rv_select.proofs.Stretches.{wrote_local, does_item, SameFixed, PaidWay, price_here}
use Rattle.rv_select.proofs.Relation.{Program, M, N, cost, OnWith, owed, setting, On, Lies, ActiveOn, Way, At}
use Rattle.rv_select.proofs.Relation.{way_regs, next, body_regs, all_owed}

pub own : (f : Found) (count d : ℕ) → f.count ≡ count → nat_lt d count ≡ true → is_own f (f.first + d) ≡ true
own f count d e h = grind arith

pub unless : {V P : Type 0} (e : Ending V) → P → UnlessWrong e P
unless (Verdict v) p = p
unless Exhausted p = p
unless Wrong p = tt

module _ {V : Type 0} (program : Program V) where
  -- no step of the run over words is without items
  abbrev pub size : LowState → ℕ
  size s = 0

  abbrev pub Sim : ℕ → LowState → VirtualState → Next LowState V → Type 0
  Sim purse s t y = DoesPaid (SameRegion program.stack program.low.top) (M program)
      (N program) (cost program) (OnWith program) size purse s t y

  -- what a step may cost: its price, and what is owed
  abbrev pub purse_of : LowState → Code → ℕ
  purse_of s c = owed s.waiting + step_price program.low.procs s.active.count c

  -- the last state of a run, with what its item costs
  abbrev pub Ends : LowState → LowState → Ending V → ℕ → VirtualState → Type 0
  Ends s s1 e left t = StopsAt (SameRegion program.stack program.low.top) Any (M program) (N program) s s1 e t
      × (cost program t ≤ left)

  as_much : (a b : ℕ) → a ≡ b → a ≤ b
  as_much a b e = omega (arith, e)

  -- an item that stands here costs its price
  pub cost_here : (t : VirtualState) (item : VirtualItem) → slice_get program.items t.pc ≡ Some item
      → cost program t ≤ item_price (setting program) t.active.found item
  cost_here t item here = as_much (cost program t) (item_price (setting program) t.active.found item)
      (price_here program.reading (setting program) t item here)

  pub sim_given : {A : Type 0} (c : ℕ) (s s0 : LowState) (t : VirtualState) (o : Option A) (f : A → Next LowState V)
      → ((x : A) → o ≡ Some x → Sim c s t (f x)) → Sim c s t (given s0 o f)
  sim_given c s s0 t None f h = tt
  sim_given c s s0 t (Some x) f h = h x refl

  pub sim_if : (c : ℕ) (s s0 : LowState) (t : VirtualState) (b : Bool) (y : Next LowState V) → (b ≡ true → Sim c s t y)
      → Sim c s t (only_if s0 b y)
  sim_if c s s0 t true y h = h refl
  sim_if c s s0 t false y h = tt

  -- the item that stands here stops
  pub stops_here : (t : VirtualState) (e : Ending V) (item : VirtualItem) → slice_get program.items t.pc ≡ Some item
      → item_step program.reading (setting program) item t ≡ Stop e t → (N program).step t ≡ Stop e t
  stops_here t e item here h = ap (λ o. step_here program.reading (setting program) o t) here ∙ h

  abbrev pub called_by : ℕ → ℕ → ℕ → VirtualState → Next VirtualState V
  called_by n x y u =
      let c : Called = environment_call n x y (length program.low.labels) u.world in
      settle program.reading (effect_of program.low.labels c.effect) u (λ a b. record u {
        regs = set_reg SECOND_ARGUMENT b (set_reg FIRST_ARGUMENT a u.regs);
        known = also_known SECOND_ARGUMENT (also_known FIRST_ARGUMENT u.known);
        world = c.world;
        pc = suc u.pc;
      })

  pub region_call : (u : VirtualState) → called_by REGION_OUT_CALL 0 0 u ≡ Stop (program.reading (Lacks Region)) u
  unfolding environment_call
  region_call u = refl

  abbrev pub popped : LowState → Code → LowState
  popped s rest = goes_on rest s.active.rests s

  -- where the code lies
  abbrev pub LiesOn : (s : LowState) (t : VirtualState) → On program s t → ℕ → Code → Type 0
  LiesOn s t on p c =
      Lies program t.active.found on.active.out p (code_items t.active.found.first on.active.out on.active.mark c)
      s.active.rests

  -- the step of a code whose items lie at the state's place is simulated, within what it may cost
  abbrev pub DoesStep : (s : LowState) (t : VirtualState) → On program s t → Code → Type 0
  DoesStep s t on c =
      LiesOn s t on t.pc c → Sim (purse_of s c) s t (code_step program.reading program.low c s)

  abbrev pub ItemsOn : (s : LowState) (t : VirtualState) → On program s t → ℕ → List VirtualItem → Type 0
  ItemsOn s t on p xs = Lies program t.active.found on.active.out p xs s.active.rests

  abbrev pub items_of : (s : LowState) (t : VirtualState) → On program s t → Code → List VirtualItem
  items_of s t on c = code_items t.active.found.first on.active.out on.active.mark c

  -- a word was set in both
  pub active_set : (s : LowState) (t : VirtualState) (on : On program s t) (rest : Code) (d word p : ℕ)
      → LiesOn s t on p rest
      → ActiveOn program [] (with_local d word (record s.active { code = rest })) p
      (record t.active { locals = set_local (t.active.found.first + d) word t.active.locals })
  active_set s t on rest d word p lies = record {
    mark = on.active.mark;
    out = on.active.out;
    homed = on.active.homed;
    locals = λ i. set_shifted t.active.found.first d word i t.active.locals s.active.locals (on.active.locals i);
    lies = lies;
  }

  pub active_same : (s : LowState) (t : VirtualState) (on : On program s t) (rest : Code) (p : ℕ) → LiesOn s t on p rest
      → ActiveOn program [] (record s.active { code = rest }) p t.active
  active_same s t on rest p lies =
      record {
        mark = on.active.mark;
        out = on.active.out;
        homed = on.active.homed;
        locals = on.active.locals;
        lies =
            lies;
      }

  -- the item that sets the word, where registers may have changed before
  pub item_sets : (s : LowState) (t : VirtualState) (on : On program s t) (rest : Code)
      (d word : ℕ) (regs : Registers) (known : ℕ
      → Bool) (pc : ℕ) (item : VirtualItem) → SameFixed regs t.regs → ItemsOn s t on pc (item ∷ items_of s t on rest)
      → item_step program.reading (setting program) item (record t { regs = regs; known = known; pc = pc })
      ≡ Go (wrote_local (t.active.found.first + d) word (record t { regs = regs; known = known; pc = pc }))
      → PaidWay program.reading (setting program) (Way program s (record s {
        active = with_local d word
            (record s.active { code = rest });
      }))
      (At program (record s { active = with_local d word (record s.active { code = rest }) })) 1
      (item_price (setting program) t.active.found item + owed s.waiting)
      (record t { regs = regs; known = known; pc = pc })
  item_sets s t on rest d word regs known pc item h lies step =
      let s1 : LowState = record s { active = with_local d word (record s.active { code = rest }) } in
      let u : VirtualState = record t { regs = regs; known = known; pc = pc } in
      does_item program.reading (setting program) (Way program s s1) (At program s1) 0 (owed s.waiting) u
      (wrote_local (t.active.found.first + d) word u) item
      lies.stands.0 step (way_regs program s s1 t on.body regs known pc h) (
        record {
          active = active_set s t on rest d word (suc pc) (next program t.active.found on.active.out pc item
              (items_of s t on rest) s.active.rests lies);
          behind = on.behind;
          body = body_regs program s t regs known (suc pc) on.body h;
        },
        all_owed (owed s.waiting),
      )

  pub mine : (s : LowState) (t : VirtualState) (on : On program s t) (d : ℕ) → nat_lt d s.active.count ≡ true
      → is_own t.active.found (t.active.found.first + d) ≡ true
  mine s t on d h = own t.active.found s.active.count d on.active.homed.count h

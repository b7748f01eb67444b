-- The virtual run of a selected code in a stack follows the run over words in it.
use Rattle.std.proofs.Common.{ℕ, zero, suc, ◌+◌, ◌*◌, ◌%◌, ◌^◌, ◌<◌, ◌≤◌, ◌≡◌, ◌≢◌, ◌⊎◌, inl, inr, Bool, true, false}
use Rattle.std.proofs.Common.{List, [], ◌∷◌, Option, Some, None, length, refl, sym, ◌∙◌, ap, subst, arith}
use Rattle.std.specs.Prelude.{pos, ◌==◌, ◌&&◌, nat_lt, nat_le, if◌then◌else◌, slice_get}
use Rattle.grift_base.specs.World.{WorldState}
use Rattle.grift_base.specs.EnvironmentCall.{environment_call}
use Rattle.run_laws.specs.Runs.{Ending, Verdict, Exhausted, Wrong, Any, NeverWrong, FollowsBy}
use Rattle.run_laws.specs.Machines.{Next, Go, Stop, Machine, and_then, steps, seen, run, Onward, Alike, OnTheWay}
use Rattle.run_laws.specs.Machines.{StopsAt, UnlessWrong}
use Rattle.run_laws.specs.Meters.{unspent, metered, OfRest, Spends}
use Rattle.machine_words.specs.Memory.{Memory, load_bytes}
use Rattle.machine_words.specs.Arithmetic.{plus}
use Rattle.rv_machine.specs.Registers.{Registers}
use Rattle.machine_words.specs.Halts.{Halt, Lacks, Stack, Region}
use Rattle.low_ir.specs.Procedures.{Code, Done, Set, Compute, Load, Store, CodeOf, Build, Request, Take, Environment}
use Rattle.low_ir.specs.Procedures.{Call, CallAt, If, Return, TailCall, TailCallAt, Proc}
use Rattle.low_ir.specs.Steps.{effect_of, may_load, may_store, store_words}
use Rattle.low_ir.specs.Steps.{no_locals, given, only_if, Effect, Goes, Halts, Lost, settle}
use Rattle.low_ir.specs.Run.{Setting as LowSetting, Waiting, LowState, LowShown, held_by as words_held, goes_on}
use Rattle.low_ir.specs.Run.{bind, with_local, sets, word_of, words_of, proc_from}
use Rattle.low_ir.specs.Operations.{compute}
use Rattle.low_ir.specs.declared.code.LowSource.{LowSource}
use Rattle.low_ir.specs.Run.{enter_some, waits, answers, falls, code_step, low_machine, low_start}
use Rattle.low_ir.specs.Prices.{low_price}
use Rattle.rv_select.specs.declared.convention.TheConstants.{STACK_END, ALLOCATION, REGION_END}
use Rattle.rv_select.specs.declared.code.VirtualItem.{VirtualItem}
use Rattle.rv_select.specs.Run.{VirtualState, Shown, virtual_machine, virtual_start}
use Rattle.rv_select.specs.Prices.{start_price, virtual_price}
use Rattle.rv_select.specs.Select.{select_items}
use Rattle.rv_select.specs.Stacks.{stack_of, if_room, stacked_machine, frames_size, low_in_stack}
use Rattle.rv_select.specs.Selected.{setting_of, SameRegion}
use Rattle.rv_select.proofs.StackSizes.{stack_held}
use Rattle.rv_select.proofs.Paying.{Pays, pays_weaken, DoesPaid, PaidSimulation, does_with_more, follows_paid}
use Rattle.rv_select.proofs.Paying.{unmetered}
use Rattle.rv_select.proofs.Relation.{Program, On, OnWith, Laid, as_alike, seen as seen_as}
use Rattle.rv_select.proofs.Stepping.{purse_of}
use Rattle.rv_select.proofs.Moves.{do_code}
use Rattle.rv_select.proofs.Following.{first}
use Rattle.rv_select.proofs.Following.{all, starts}

unless : {V P : Type 0} (e : Ending V) → P → UnlessWrong e P
unless (Verdict v) p = p
unless Exhausted p = p
unless Wrong p = tt

-- ---- what a step over words does to the frames

-- the state is seen as one with more frames
pub record Before (s s1 : LowState) : Type 0 where
  pub memory : s.memory ≡ s1.memory
  pub alloc : s.alloc ≡ s1.alloc
  pub world : s.world ≡ s1.world
  pub frames : length s.waiting ≤ length s1.waiting
  pub held : s.active.count + words_held s.waiting ≤ s1.active.count + words_held s1.waiting

abbrev bytes : LowState → ℕ
bytes s = frames_size (length s.waiting + 1) (s.active.count + words_held s.waiting)

module _ {V : Type 0} (reading : Halt → Ending V) (low : LowSetting) (s : LowState) where
  -- where the frames fill more bytes nothing else has changed; a step that stops leaves them as they are
  abbrev Grows : Next LowState V → Type 0
  Grows (Go s1) = bytes s < bytes s1 → Before s s1
  Grows (Stop e s1) = UnlessWrong e (bytes s1 ≡ bytes s)

  if_given : {A : Type 0} (s0 : LowState) (o : Option A) (go : A → Next LowState V) → ((x : A) → Grows (go x))
      → Grows (given s0 o go)
  if_given s0 None go h = tt
  if_given s0 (Some x) go h = h x

  if_test : (s0 : LowState) (b : Bool) (go : Next LowState V) → Grows go → Grows (only_if s0 b go)
  if_test s0 true go h = h
  if_test s0 false go h = tt

  by_room : (b : Bool) (x y : Next LowState V) → Grows x → Grows y → Grows (if b then x else y)
  by_room true x y h k = h
  by_room false x y h k = k

  never : {P : Type 0} (n : ℕ) → n < n → P
  never n h = absurd (omega (arith, h))

  abbrev entered : LowState → Proc → List ℕ → LowState
  entered s0 p ws = record s0 {
    active = record { count = p.words; locals = bind 0 ws no_locals; code = p.code; rests = [] };
  }

  calls : (o : Option Proc) (ws : List ℕ) (d : ℕ) (rest : Code)
      → Grows (enter_some reading low o ws (waits reading low d (goes_on rest s.active.rests s)))
  calls o ws d rest =
      if_given _ o _ (λ p.
      if_test _ ((length ws == p.params) && (nat_le p.params 8 && nat_le p.params p.words)) _ (
      let goes : Grows (Go (entered (waits reading low d (goes_on rest s.active.rests s)) p ws)) = (λ h. record {
        memory = refl;
        alloc = refl;
        world = refl;
        frames = omega arith;
        held = omega arith;
      }) in goes))

  tail_calls : (o : Option Proc) (ws : List ℕ) → Grows (enter_some reading low o ws s)
  tail_calls o ws =
      if_given _ o _ (λ p.
      if_test _ ((length ws == p.params) && (nat_le p.params 8 && nat_le p.params p.words)) _ (
      let goes : Grows (Go (entered s p ws)) = (λ h. record {
        memory = refl;
        alloc = refl;
        world = refl;
        frames = omega arith;
        held = omega (arith, h);
      }) in goes))

  returns : (ws : List Waiting) (word : ℕ) → s.waiting ≡ ws → Grows (answers reading low ws word s)
  returns [] word e = unless _ refl
  returns (w ∷ ws) word e =
      if_test _ (nat_lt w.answer w.rest.count) _ (
      let goes : Grows (Go (record s { active = with_local w.answer word w.rest; waiting = ws })) = (λ h.
      let l : length s.waiting ≡ length (w ∷ ws) = ap length e in
      let f : words_held s.waiting ≡ words_held (w ∷ ws) = ap words_held e in absurd (omega (arith, h, l, f))) in goes)

  settles : (effect : Effect) (go : ℕ → ℕ → LowState) → ((a b : ℕ) → Grows (Go (go a b)))
      → (s0 : LowState) → bytes s0 ≡ bytes s → Grows (settle reading effect s0 go)
  settles (Goes a b) go g s0 e = g a b
  settles (Halts halt) go g s0 e = unless (reading halt) e
  settles Lost go g s0 e = tt

  falls_behind : (rests : List Code) → Grows (falls reading low rests s)
  falls_behind [] = tt
  falls_behind (r ∷ rs) = never (bytes s)

  abbrev behind : Code → LowState
  behind rest = goes_on rest s.active.rests s

  at_word : (a : LowSource) (go : ℕ → Next LowState V) → ((x : ℕ) → Grows (go x))
      → Grows (given s (word_of s.active.locals a) go)
  at_word a go h = if_given s (word_of s.active.locals a) go h

  at_words : (args : List LowSource) (go : List ℕ → Next LowState V) → ((ws : List ℕ) → Grows (go ws))
      → Grows (given s (words_of s.active.locals args) go)
  at_words args go h = if_given s (words_of s.active.locals args) go h

  set : (d word : ℕ) (rest : Code) → Grows (sets reading low d word (behind rest))
  set d word rest = if_test (behind rest) (nat_lt d s.active.count) _ (never (bytes s))

  grows : (code : Code) → Grows (code_step reading low code s)
  grows Done = falls_behind s.active.rests
  grows (Set d a rest) = at_word a _ (λ x. set d x rest)
  grows (Compute op d a b rest) = at_word a _ (λ x. at_word b _ (λ y. set d (compute op x y) rest))
  grows (Load d a offset rest) =
      at_word a _ (λ x. if_test (behind rest) (may_load low.top (plus x (pos offset))) _ (
      set d (load_bytes 8 s.memory (plus x (pos offset))) rest))
  grows (Store b a offset rest) =
      at_word a _ (λ x. at_word b _ (λ y.
      if_test (behind rest) (may_store low.region low.top (plus x (pos offset))) _ (never (bytes s))))
  grows (CodeOf d k rest) = if_given s (slice_get low.procs k) _ (λ p. set d (low.address k) rest)
  grows (Build d args rest) =
      at_words args _ (λ ws. if_test (behind rest) (nat_lt (length ws) 256) _ (
      by_room (nat_le (s.alloc + 8 * length ws) low.top) _ _ (
      if_test (record (behind rest) {
        memory = store_words ws s.alloc s.memory;
        alloc = s.alloc + 8 * length ws;
        words = s.words + length ws;
      }) (nat_lt d s.active.count) _ (never (bytes s))) (unless (reading (Lacks Region)) refl)))
  grows (Request d a rest) =
      at_word a _ (λ n. by_room (nat_le (s.alloc + 8 * n) low.top) _ _ (set d s.alloc rest)
      (unless (reading (Lacks Region)) refl))
  grows (Take a rest) =
      at_word a _ (λ n. if_test (behind rest) (nat_le (s.alloc + 8 * n) low.top) _ (never (bytes s)))
  grows (Environment number a b d e rest) =
      at_word a _ (λ x. at_word b _ (λ y.
      if_test (behind rest) (nat_lt d s.active.count) _ (if_test (behind rest) (nat_lt e s.active.count) _ (
      let called = environment_call (number % 2 ^ 64) x y (length low.labels) s.world in
      settles (effect_of low.labels called.effect) _ (λ m n. never (bytes s)) (behind rest) refl))))
  grows (Call d k args rest) = at_words args _ (λ ws. calls (slice_get low.procs k) ws d rest)
  grows (CallAt d f args rest) =
      at_word f _ (λ at. at_words args _ (λ ws. calls (proc_from low.address at 0 low.procs) ws d rest))
  grows (If cond a b one other rest) = at_word a _ (λ x. at_word b _ (λ y. never (bytes s)))
  grows (Return a) = at_word a _ (λ x. returns s.waiting x refl)
  grows (TailCall k args) = at_words args _ (λ ws. tail_calls (slice_get low.procs k) ws)
  grows (TailCallAt f args) =
      at_word f _ (λ at. at_words args _ (λ ws. tail_calls (proc_from low.address at 0 low.procs) ws))

-- ---- it never goes wrong where the run without a bound doesn't

module _ {V : Type 0} (reading : Halt → Ending V) (low : LowSetting) (room : ℕ) where
  abbrev free : Machine LowState LowShown V
  free = low_machine reading low

  abbrev bound : Machine LowState LowShown V
  bound = low_in_stack reading low room

  wrong_on : (n : ℕ) (s : LowState) → reading (Lacks Stack) ≢ Wrong
      → ((s1 : LowState) → (run bound s1 n).ending ≡ Some Wrong → (run free s1 n).ending ≡ Some Wrong)
      → (y : Next LowState V) → (b : Bool)
      → (seen bound (and_then (if b then y else Stop (reading (Lacks Stack)) s) (λ s1. steps bound s1 n))).ending
      ≡ Some Wrong → (seen free (and_then y (λ s1. steps free s1 n))).ending ≡ Some Wrong
  wrong_on n s lacking ih (Go s1) true e = ih s1 e
  wrong_on n s lacking ih (Stop o s1) true e = e
  wrong_on n s lacking ih y false e = absurd (lacking (some_is (reading (Lacks Stack)) Wrong e))
    where
      some_is : (a b : Ending V) → Some a ≡ Some b → a ≡ b
      some_is a b h = cc

  wrong_back : reading (Lacks Stack) ≢ Wrong → (n : ℕ) (s : LowState) → (run bound s n).ending ≡ Some Wrong
      → (run free s n).ending ≡ Some Wrong
  wrong_back lacking zero s e = absurd (let z : ⊥ = cc in z)
  wrong_back lacking (suc n) s e =
      wrong_on n s lacking (λ s1 h. wrong_back lacking n s1 h) (code_step reading low s.active.code s)
      (nat_le (bytes s) room) e

  pub low_never_wrong : reading (Lacks Stack) ≢ Wrong → (s : LowState) → NeverWrong (run free s)
      → NeverWrong (run bound s)
  low_never_wrong lacking s nw n e = nw n (wrong_back lacking n s e)

-- ---- the simulation

module _ {V : Type 0} (reading : Halt → Ending V) (low : LowSetting) (items : List VirtualItem) (stack : ℕ)
    (small : low.top < 2 ^ 64) (room : ℕ) where
  abbrev pub program : Program V
  program = record { reading = reading; low = low; items = items; stack = stack; small = small }

  abbrev K : Shown → LowShown → Type 0
  K = SameRegion stack low.top

  abbrev M : Machine LowState LowShown V
  M = low_machine reading low

  abbrev N : Machine VirtualState Shown V
  N = virtual_machine reading (setting_of low items)

  abbrev MS : Machine LowState LowShown V
  MS = low_in_stack reading low room

  abbrev NS : Machine VirtualState Shown V
  NS = stacked_machine reading (setting_of low items) room

  -- what items cost
  abbrev cost : VirtualState → ℕ
  cost = virtual_price (setting_of low items)

  abbrev filled : VirtualState → ℕ
  filled t = stack_of t.active.found t.frames

  -- the next item enters a procedure whose frame doesn't fit
  pub record Waits (s : LowState) (t : VirtualState) : Type 0 where
    pub lacks : NS.step t ≡ Stop (reading (Lacks Stack)) t
    pub alike : Alike K MS NS s t

  -- the purse has what is owed, or pays the item that doesn't do it
  abbrev Both : ℕ → LowState → VirtualState → Type 0
  Both purse s t =
      ((bytes s ≤ room) × OnWith program purse s t)
      ⊎ ((room < bytes s) × Waits s t × (cost t ≤ purse))

  abbrev In : LowState → ℕ → VirtualState → Type 0
  In s purse t = Both purse s t

  abbrev At : LowState → ℕ → VirtualState → Type 0
  At s purse t = OnWith program purse s t

  -- a step that stops may follow one that was not done
  abbrev size : LowState → ℕ
  size s = if nat_le (bytes s) room then 1 else 0

  no_more : (s : LowState) (t : VirtualState) → Alike K M N s t → filled t ≤ bytes s
  no_more s t a =
      let e = stack_held t.active.found t.frames in
      let f = a.shown.frames in
      let h = a.shown.held in omega (arith, e, f, h)

  as_many : (s : LowState) (t : VirtualState) → On program s t → filled t ≡ bytes s
  as_many s t on =
      let e = stack_held t.active.found t.frames in
      let f = on.body.2.0 in
      let h = on.body.2.1 in omega (arith, e, f, h)

  -- a step that leads to frames that fit
  fitting_step : (t : VirtualState) (P : VirtualState → Type 0) (Q : VirtualState → Type 0) (y : Next VirtualState V)
      → Onward y P Q → ((t1 : VirtualState) → y ≡ Go t1 → nat_le (filled t1) room ≡ true)
      → Onward (if_room reading room t y) P Q
  fitting_step t P Q (Go t1) o f = subst (λ b. Onward (if b then Go t1 else Stop (reading (Lacks Stack)) t) P Q)
      (sym (f t1 refl)) o
  fitting_step t P Q (Stop (Verdict v) t1) o f = o
  fitting_step t P Q (Stop Exhausted t1) o f = o
  fitting_step t P Q (Stop Wrong t1) o f = o

  is_within : (n : ℕ) → n ≤ room → nat_le n room ≡ true
  is_within n h = grind arith

  is_beyond : (n : ℕ) → room < n → nat_le n room ≡ false
  is_beyond n h = grind arith

  found_within : (n : ℕ) → nat_le n room ≡ true → n ≤ room
  found_within n h = grind arith

  found_beyond : (n : ℕ) → nat_le n room ≡ false → room < n
  found_beyond n h = grind arith

  -- on a way between states whose frames fit they fit
  fits_between : (s s1 : LowState) → bytes s ≤ room → bytes s1 ≤ room → (t : VirtualState)
      → (Alike K M N s t ⊎ Alike K M N s1 t) → filled t ≤ room
  fits_between s s1 h k t (inl a) = let f = no_more s t a in omega (arith, f, h)
  fits_between s s1 h k t (inr a) = let f = no_more s1 t a in omega (arith, f, k)

  -- the step from a state, where the frames of the next one fit
  go_on : (P Q : VirtualState → Type 0) (t : VirtualState) (y : Next VirtualState V)
      → ((t1 : VirtualState) → Q t1 → filled t1 ≤ room) → Onward y P Q → Onward (if_room reading room t y) P Q
  go_on P Q t (Go t1) f o =
      subst (λ b. Onward (if b then Go t1 else Stop (reading (Lacks Stack)) t) P Q)
      (sym (is_within (filled t1) (f t1 o))) o
  go_on P Q t (Stop (Verdict v) t1) f o = o
  go_on P Q t (Stop Exhausted t1) f o = o
  go_on P Q t (Stop Wrong t1) f o = o

  onward_map : (P Q Q' : VirtualState → Type 0) (y : Next VirtualState V) → ((t1 : VirtualState) → Q t1 → Q' t1)
      → Onward y P Q → Onward y P Q'
  onward_map P Q Q' (Go t1) f o = f t1 o
  onward_map P Q Q' (Stop (Verdict v) t1) f o = o
  onward_map P Q Q' (Stop Exhausted t1) f o = o
  onward_map P Q Q' (Stop Wrong t1) f o = o

  -- a way on which all frames fit, up to its end, is one in the stack
  stays_in : (P : VirtualState → Type 0) (Q : ℕ → VirtualState → Type 0) → ((t : VirtualState) → P t → filled t ≤ room)
      → ((left : ℕ) (t : VirtualState) → Q left t → filled t ≤ room) → (k purse : ℕ) (t : VirtualState)
      → Pays N cost P Q k purse t → Pays NS cost P Q k purse t
  stays_in P Q p q zero purse t r = r
  stays_in P Q p q (suc k) purse t r = (
    r.0,
    r.1,
    r.2,
    onward_map P (Pays N cost P Q k r.1) (Pays NS cost P Q k r.1) (NS.step t)
        (λ t1 r1. stays_in P Q p q k r.1 t1 r1)
        (go_on P (Pays N cost P Q k r.1) t (N.step t) (λ t1 r1. here k r.1 t1 r1) r.3),
  )
    where
      here : (k left : ℕ) (t1 : VirtualState) → Pays N cost P Q k left t1 → filled t1 ≤ room
      here zero left t1 r1 = q left t1 r1
      here (suc k) left t1 r1 = p t1 r1.0

  -- a state from which no frame fits is seen so
  before_all : (s s1 : LowState) (t : VirtualState) → Before s s1 → (Alike K M N s t ⊎ Alike K M N s1 t)
      → Alike K MS NS s1 t
  before_all s s1 t b (inr a) = record { output = a.output; shown = a.shown }
  before_all s s1 t b (inl a) =
      let f = a.shown.frames in
      let g = a.shown.held in
      let m = b.frames in
      let h = b.held in
      record {
        output = a.output ∙ ap (λ (w : WorldState). w.output) b.world;
        shown = record {
          memory = λ at l. a.shown.memory at (subst (λ n. at < n) (sym b.alloc) l)
              ∙ ap (λ (m : Memory). m at) b.memory;
          alloc = a.shown.alloc ∙ b.alloc;
          inside = subst (λ n. n ≤ low.top) b.alloc a.shown.inside;
          stack = a.shown.stack;
          top = a.shown.top;
          frames = omega (arith, f, m);
          held = omega (arith, g, h);
        };
      }

  abbrev Way : LowState → LowState → VirtualState → Type 0
  Way s s1 t = OnTheWay K Any M N s s1 t

  -- in no more than so many steps the run in the stack comes to the end of a step over words, or waits before it
  abbrev Comes : LowState → LowState → ℕ → ℕ → VirtualState → Type 0
  Comes s s1 k purse t = (j : ℕ) × (j ≤ k) × Pays NS cost (Way s s1) (In s1) j purse t

  abbrev Ahead : LowState → LowState → ℕ → ℕ → VirtualState → Type 0
  Ahead s s1 k purse t = Pays N cost (Way s s1) (At s1) k purse t

  chosen : (t t1 : VirtualState) (c : Bool) → N.step t ≡ Go t1 → nat_le (filled t1) room ≡ c
      → NS.step t ≡ (if c then Go t1 else Stop (reading (Lacks Stack)) t)
  chosen t t1 c e f = ap (λ y. if_room reading room t y) e
      ∙ ap (λ b. if b then Go t1 else Stop (reading (Lacks Stack)) t) f

  by_fit : (s s1 : LowState) (k purse left : ℕ) (t t1 : VirtualState) → Before s s1 → room < bytes s1 → Way s s1 t
      → cost t + left ≤ purse → N.step t ≡ Go t1 → (filled t1 ≤ room → Comes s s1 k left t1) → (c : Bool)
      → nat_le (filled t1) room ≡ c → Comes s s1 (suc k) purse t
  by_fit s s1 k purse left t t1 b over w paid e later true f =
      let i = later (found_within (filled t1) f) in (
        suc i.0,
        (let h = i.1 in omega (arith, h)),
        (
          w,
          left,
          paid,
          subst (λ y. Onward y (Way s s1) (Pays NS cost (Way s s1) (In s1) i.0 left)) (sym (chosen t t1 true e f)) i.2,
        ),
      )
  by_fit s s1 k purse left t t1 b over w paid e later false f = (
    0,
    omega arith,
    inr (over, record { lacks = chosen t t1 false e f; alike = before_all s s1 t b w.0 }, omega (arith, paid)),
  )

  by_next : (s s1 : LowState) (k purse left : ℕ) (t : VirtualState) → Before s s1 → room < bytes s1 → Way s s1 t
      → cost t + left ≤ purse
      → ((t1 : VirtualState) → filled t1 ≤ room → Ahead s s1 k left t1 → Comes s s1 k left t1)
      → (y : Next VirtualState V) → N.step t ≡ y → Onward y (Way s s1) (Ahead s s1 k left) → Comes s s1 (suc k) purse t
  by_next s s1 k purse left t b over w paid later (Go t1) e o =
      by_fit s s1 k purse left t t1 b over w paid e (λ f. later t1 f o) (nat_le (filled t1) room) refl
  by_next s s1 k purse left t b over w paid later (Stop (Verdict v) t1) e o = absurd o
  by_next s s1 k purse left t b over w paid later (Stop Exhausted t1) e o = (
    1,
    omega arith,
    (
      w,
      left,
      paid,
      subst (λ y. Onward (if_room reading room t y) (Way s s1) (In s1 left)) (sym e) o,
    ),
  )
  by_next s s1 k purse left t b over w paid later (Stop Wrong t1) e o = absurd o

  -- the first state from which the next frame doesn't fit
  comes_to_wait : (s s1 : LowState) → Before s s1 → room < bytes s1 → (k purse : ℕ) (t : VirtualState)
      → filled t ≤ room → Ahead s s1 k purse t → Comes s s1 k purse t
  comes_to_wait s s1 b over zero purse t fits r =
      let e = as_many s1 t r.0 in absurd (omega (arith, e, over, fits))
  comes_to_wait s s1 b over (suc k) purse t fits r =
      by_next s s1 k purse r.1 t b over r.0 r.2 (λ t1 f r1. comes_to_wait s s1 b over k r.1 t1 f r1) (N.step t) refl
      r.3

  -- ---- each step

  alike_in : (s : LowState) (t : VirtualState) → Alike K M N s t → Alike K MS NS s t
  alike_in s t a = record { output = a.output; shown = a.shown }

  either : (s : LowState) (t : VirtualState) → (Alike K M N s t ⊎ Alike K M N s t) → Alike K MS NS s t
  either s t (inl a) = alike_in s t a
  either s t (inr a) = alike_in s t a

  abbrev WayIn : LowState → LowState → VirtualState → Type 0
  WayIn s s1 t = OnTheWay K Any MS NS s s1 t

  alike_either : (s s1 : LowState) (t : VirtualState) → (Alike K M N s t ⊎ Alike K M N s1 t)
      → (Alike K MS NS s t ⊎ Alike K MS NS s1 t)
  alike_either s s1 t (inl a) = inl (alike_in s t a)
  alike_either s s1 t (inr a) = inr (alike_in s1 t a)

  way_in : (s s1 : LowState) (t : VirtualState) → Way s s1 t → WayIn s s1 t
  way_in s s1 t w = (alike_either s s1 t w.0, tt)

  abbrev Ends : LowState → LowState → Ending V → ℕ → VirtualState → Type 0
  Ends s s1 e left t = StopsAt K Any M N s s1 e t × (cost t ≤ left)

  abbrev EndsIn : LowState → LowState → Ending V → ℕ → VirtualState → Type 0
  EndsIn s s1 e left t = StopsAt K Any MS NS s s1 e t × (cost t ≤ left)

  ends_in : (s s1 : LowState) (e : Ending V) (left : ℕ) (t : VirtualState) → Ends s s1 e left t → EndsIn s s1 e left t
  ends_in s s1 e left t q = (
    (
      way_in s s1 t q.0.0,
      (q.0.1.0, ap (λ y. if_room reading room t y) q.0.1.1, alike_in s1 q.0.1.0 q.0.1.2, tt),
    ),
    q.1,
  )

  stops : (purse : ℕ) (s s1 : LowState) (t : VirtualState) (e : Ending V) → bytes s ≤ room → bytes s1 ≡ bytes s
      → (k : ℕ) × (paid : ℕ) × (paid ≤ purse) × Pays N cost (Way s s1) (Ends s s1 e) k paid t
      → (k : ℕ) × (paid : ℕ) × (paid ≤ purse) × Pays NS cost (WayIn s s1) (EndsIn s s1 e) k paid t
  stops purse s s1 t e h same d =
      let k : bytes s1 ≤ room = omega (arith, same, h) in (
        d.0,
        d.1,
        d.2,
        pays_weaken NS cost (Way s s1) (WayIn s s1) (Ends s s1 e) (EndsIn s s1 e) (λ u w. way_in s s1 u w)
            (λ left u q. ends_in s s1 e left u q) d.0 d.1 t
            (stays_in (Way s s1) (Ends s s1 e) (λ u w. fits_between s s1 h k u w.0)
            (λ left u q. fits_between s s1 h k u q.0.0.0) d.0 d.1 t d.3),
      )

  abbrev Does : ℕ → LowState → VirtualState → Next LowState V → Type 0
  Does purse s t y = DoesPaid K MS NS cost Both size purse s t y

  size_falls : (s s1 : LowState) → bytes s ≤ room → room < bytes s1 → size s1 < size s
  size_falls s s1 h k =
      let e = is_within (bytes s) h in
      let f = is_beyond (bytes s1) k in
      subst (λ b. size s1 < (if b then 1 else 0)) (sym e) (subst (λ b. (if b then 1 else 0) < 1) (sym f) (omega arith))

  fitting : (c : ℕ) (s : LowState) (t : VirtualState) → bytes s ≤ room → On program s t
      → (y : Next LowState V) → Grows reading low s y
      → DoesPaid K M N cost (OnWith program) (λ x. 0) c s t y → Does c s t y
  fitting c s t h on (Go s1) g d = by_fit (nat_le (bytes s1) room) refl
    where
      positive : (0 < d.0) ⊎ (0 < 0) → 0 < d.0
      positive (inl p) = p
      positive (inr p) = absurd (omega (arith, p))

      by_fit : (b : Bool) → nat_le (bytes s1) room ≡ b → Does c s t (Go s1)
      by_fit true f =
          let k : bytes s1 ≤ room = found_within (bytes s1) f in (
            d.0,
            inl (positive d.1),
            d.2,
            d.3,
            pays_weaken NS cost (Way s s1) (WayIn s s1) (At s1) (In s1) (λ u w. way_in s s1 u w)
                (λ left u o. inl (k, o)) d.0 d.2 t
                (stays_in (Way s s1) (At s1) (λ u w. fits_between s s1 h k u w.0)
                (λ left u o. let e = as_many s1 u o.0 in omega (arith, e, k)) d.0 d.2 t d.4),
          )
      by_fit false f =
          let k : room < bytes s1 = found_beyond (bytes s1) f in
          let b : Before s s1 = g (omega (arith, h, k)) in
          let i = comes_to_wait s s1 b k d.0 d.2 t (let e = as_many s t on in omega (arith, e, h)) d.4 in (
            i.0,
            inr (size_falls s s1 h k),
            d.2,
            d.3,
            pays_weaken NS cost (Way s s1) (WayIn s s1) (In s1) (In s1) (λ u w. way_in s s1 u w) (λ left u o. o) i.0
                d.2 t i.2,
          )
  fitting c s t h on (Stop (Verdict v) s1) g d = stops c s s1 t (Verdict v) h g d
  fitting c s t h on (Stop Exhausted s1) g d = stops c s s1 t Exhausted h g d
  fitting c s t h on (Stop Wrong s1) g d = tt

  does_both : Laid program → (purse : ℕ) (s : LowState) (t : VirtualState) → Both purse s t
      → Does (purse + low_price low.procs s) s t (MS.step s)
  does_both laid purse s t (inl r) =
      let whole : ℕ = purse + low_price low.procs s in
      subst (λ b. Does whole s t (if b then code_step reading low s.active.code s
      else Stop (reading (Lacks Stack)) s)) (sym (is_within (bytes s) r.0))
      (fitting whole s t r.0 r.1.0 (code_step reading low s.active.code s) (grows reading low s s.active.code)
      (does_with_more K M N cost (OnWith program) (λ x. 0) s t
      (purse_of program s s.active.code) whole
      (code_step reading low s.active.code s) (let owed = r.1.1 in omega (arith, owed))
      (do_code program laid s t r.1.0 s.active.code r.1.0.active.lies)))
  does_both laid purse s t (inr r) =
      let whole : ℕ = purse + low_price low.procs s in
      subst (λ b. Does whole s t (if b then code_step reading low s.active.code s
      else Stop (reading (Lacks Stack)) s)) (sym (is_beyond (bytes s) r.0))
      (unless (reading (Lacks Stack)) (
        0,
        purse,
        omega arith,
        (((inl r.1.alike, tt), (t, r.1.lacks, r.1.alike, tt)), r.2),
      ))

  alike_both : (purse : ℕ) (s : LowState) (t : VirtualState) → Both purse s t → Alike K MS NS s t
  alike_both purse s t (inl r) =
      alike_in s t (as_alike program s t (seen_as program s t r.1.0.body))
  alike_both purse s t (inr r) = r.1.alike

  -- the code in its stack simulates the program in it, each step at no more than its price
  pub simulates_in_stack : Laid program
      → PaidSimulation K MS NS (low_price low.procs) cost Both size
  simulates_in_stack laid = record {
    alike = λ purse s t r. alike_both purse s t r;
    does = λ purse s t r. does_both laid purse s t r;
  }

  -- where one item enters the program's first procedure
  pub first_in_stack : (purse : ℕ) (s : LowState) (t : VirtualState) → filled t ≤ room
      → Pays N cost (Way s s) (At s) 1 purse t → (j : ℕ) × (j ≤ 1) × Pays NS cost (Alike K MS NS s) (In s) j purse t
  first_in_stack purse s t fits r = by_fit (nat_le (bytes s) room) refl
    where
      self : Before s s
      self = record { memory = refl; alloc = refl; world = refl; frames = omega arith; held = omega arith }

      by_fit : (b : Bool) → nat_le (bytes s) room ≡ b
          → (j : ℕ) × (j ≤ 1) × Pays NS cost (Alike K MS NS s) (In s) j purse t
      by_fit true f =
          let k : bytes s ≤ room = found_within (bytes s) f in (
            1,
            omega arith,
            pays_weaken NS cost (Way s s) (Alike K MS NS s) (At s) (In s) (λ u w. either s u w.0)
                (λ left u o. inl (k, o)) 1 purse t
                (stays_in (Way s s) (At s) (λ u w. fits_between s s k k u w.0)
                (λ left u o. let e = as_many s u o.0 in omega (arith, e, k)) 1 purse t r),
          )
      by_fit false f =
          let k : room < bytes s = found_beyond (bytes s) f in
          let i = comes_to_wait s s self k 1 purse t fits r in (
            i.0,
            i.1,
            pays_weaken NS cost (Way s s) (Alike K MS NS s) (In s) (In s) (λ u w. either s u w.0) (λ left u o. o) i.0
                purse t i.2,
          )

-- ---- whole runs

module _ {V : Type 0} (reading : Halt → Ending V) (low : LowSetting) (entry : ℕ) (p : Proc) (regs : Registers)
    (memory : Memory) (world : WorldState) (room : ℕ) (small : low.top < 2 ^ 64) (fits : low.region ≤ low.top)
    (even : low.region % 8 ≡ 0) (found : slice_get low.procs entry ≡ Some p) (none : p.params ≡ 0)
    (alloc : regs ALLOCATION ≡ low.region) (top : regs REGION_END ≡ low.top) (lacking : reading (Lacks Stack) ≢ Wrong)
    (never : NeverWrong (run (low_machine reading low) (low_start low p memory world))) where
  abbrev code : List VirtualItem
  code = select_items entry low.procs

  abbrev s0 : LowState
  s0 = low_start low p memory world

  abbrev t0 : VirtualState
  t0 = virtual_start regs memory world

  laid_out : Laid (program reading low code (regs STACK_END) small room)
  laid_out = all reading low entry p regs memory world small fits even found none alloc top

  begun : (j : ℕ) × (j ≤ 1)
      × Pays (NS reading low code (regs STACK_END) small room) (virtual_price (setting_of low code))
      (Alike (SameRegion (regs STACK_END) low.top) (MS reading low code (regs STACK_END) small room)
      (NS reading low code (regs STACK_END) small room) s0) (In reading low code (regs STACK_END) small room s0) j
      start_price t0
  begun = first_in_stack reading low code (regs STACK_END) small room start_price s0 t0 (omega arith)
      (starts reading low entry p regs memory world small fits even found none alloc top
      (Way reading low code (regs STACK_END) small room s0 s0)
      (inl (first reading low entry p regs memory world small fits even found none alloc top), tt))

  never_in_stack : NeverWrong (run (MS reading low code (regs STACK_END) small room) s0)
  never_in_stack = low_never_wrong reading low room lacking s0 never

  pub costs_in_stack : FollowsBy (OfRest (SameRegion (regs STACK_END) low.top)) (Spends 1)
      (run (metered (virtual_price (setting_of low code)) (stacked_machine reading (setting_of low code) room))
      (unspent t0))
      (run (metered (low_price low.procs) (low_in_stack reading low room))
      (record { spent = start_price; rest = s0 }))
  costs_in_stack =
      follows_paid (simulates_in_stack reading low code (regs STACK_END) small room laid_out) start_price s0 begun.0 t0
      begun.2 never_in_stack

  pub follows_in_stack : FollowsBy (SameRegion (regs STACK_END) low.top) Any
      (run (stacked_machine reading (setting_of low code) room) t0) (run (low_in_stack reading low room) s0)
  follows_in_stack =
      unmetered (low_in_stack reading low room) (stacked_machine reading (setting_of low code) room)
      (low_price low.procs) (virtual_price (setting_of low code)) (record { spent = start_price; rest = s0 }) t0
      never_in_stack costs_in_stack

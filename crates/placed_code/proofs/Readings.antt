-- Runs under two readings of stops: the run over words differs in its ending alone, which is told from the same stop.
use Rattle.std.proofs.Common.{ℕ, zero, suc, ◌+◌, ◌*◌, ◌%◌, ◌^◌, ◌≡◌, ◌≢◌, ◌⊎◌, inl, inr, Bool, true, false, List, []}
use Rattle.std.proofs.Common.{◌∷◌, Option, Some, None, length, refl, sym, ◌∙◌, ap, subst}
use Rattle.std.specs.Prelude.{pos, ◌==◌, ◌&&◌, nat_lt, nat_le, if◌then◌else◌, slice_get}
use Rattle.grift_base.specs.EnvironmentCall.{environment_call}
use Rattle.grift_base.specs.declared.verdicts.Verdict.{Verdict as Outcome}
use Rattle.grift_base.specs.declared.verdicts.Verdict.TheVariants.{StackOut}
use Rattle.run_laws.specs.Runs.{Ending, Verdict, Exhausted, Wrong, Moment, NeverWrong}
use Rattle.run_laws.specs.Machines.{Next, Go, Stop, Machine, and_then, steps, seen, run}
use Rattle.rv_machine.specs.State.{State, Turn, Next as GoesOn}
use Rattle.machine_words.specs.Halts.{Room, Region, Stack, Halt, Ended, Lacks, GoesWrong}
use Rattle.rv_machine.specs.State.{Stops}
use Rattle.machine_words.specs.Arithmetic.{plus}
use Rattle.rv_machine.specs.Turn.{turn_of}
use Rattle.rv_machine.specs.Mach.{onward, run_of, step_by, machine_by}
use Rattle.machine_words.specs.Halts.{IsReading}
use Rattle.machine_words.specs.Memory.{load_bytes}
use Rattle.low_ir.specs.Procedures.{Code, Done, Set, Compute, Load, Store, CodeOf, Build, Request, Take, Environment}
use Rattle.low_ir.specs.Procedures.{Call, CallAt, If, Return, TailCall, TailCallAt, Proc}
use Rattle.low_ir.specs.Operations.{compute}
use Rattle.low_ir.specs.declared.code.LowSource.{LowSource}
use Rattle.low_ir.specs.Steps.{given, only_if, Effect, Goes, Halts, Lost, effect_of, settle, may_load, may_store}
use Rattle.low_ir.specs.Run.{Setting, Waiting, LowState, LowShown, word_of, words_of, proc_from, goes_on, sets}
use Rattle.low_ir.specs.Run.{enter_some, waits, answers, falls, code_step, low_machine}

module _ {V W : Type 0} (first : Halt → Ending V) (second : Halt → Ending W) (low : Setting) where
  abbrev X : Machine LowState LowShown V
  X = low_machine first low

  abbrev Y : Machine LowState LowShown W
  Y = low_machine second low

  -- both endings are told from one stop, or both are wrong
  abbrev pub SameStop : Ending V → Ending W → Type 0
  SameStop e f = ((halt : Halt) × (e ≡ first halt) × (f ≡ second halt)) ⊎ ((e ≡ Wrong) × (f ≡ Wrong))

  -- both steps are the same, but for the reading of the stop
  abbrev Alike : Next LowState V → Next LowState W → Type 0
  Alike (Go s) (Go t) = s ≡ t
  Alike (Stop e s) (Stop f t) = (s ≡ t) × SameStop e f
  Alike (Go s) (Stop f t) = ⊥
  Alike (Stop e s) (Go t) = ⊥

  if_given : {A : Type 0} (s : LowState) (o : Option A) (g : A → Next LowState V) (h : A → Next LowState W)
      → ((x : A) → Alike (g x) (h x)) → Alike (given s o g) (given s o h)
  if_given s None g h k = (refl, inr (refl, refl))
  if_given s (Some x) g h k = k x

  if_test : (s : LowState) (b : Bool) (y : Next LowState V) (z : Next LowState W) → Alike y z
      → Alike (only_if s b y) (only_if s b z)
  if_test s true y z k = k
  if_test s false y z k = (refl, inr (refl, refl))

  by_test : (b : Bool) (y y1 : Next LowState V) (z z1 : Next LowState W) → Alike y z → Alike y1 z1
      → Alike (if b then y else y1) (if b then z else z1)
  by_test true y y1 z z1 h k = h
  by_test false y y1 z z1 h k = k

  set : (d word : ℕ) (s : LowState) → Alike (sets first low d word s) (sets second low d word s)
  set d word s = if_test s (nat_lt d s.active.count) _ _ refl

  enters : (o : Option Proc) (ws : List ℕ) (s : LowState)
      → Alike (enter_some first low o ws s) (enter_some second low o ws s)
  enters o ws s =
      if_given s o _ _ (λ p.
      if_test s ((length ws == p.params) && (nat_le p.params 8 && nat_le p.params p.words)) _ _ refl)

  answered : (ws : List Waiting) (word : ℕ) (s : LowState)
      → Alike (answers first low ws word s) (answers second low ws word s)
  answered [] word s = (refl, inl (_, refl, refl))
  answered (w ∷ ws) word s = if_test s (nat_lt w.answer w.rest.count) _ _ refl

  behind : (rests : List Code) (s : LowState) → Alike (falls first low rests s) (falls second low rests s)
  behind [] s = (refl, inr (refl, refl))
  behind (r ∷ rs) s = refl

  settles : (effect : Effect) (s : LowState) (go : ℕ → ℕ → LowState)
      → Alike (settle first effect s go) (settle second effect s go)
  settles (Goes a b) s go = refl
  settles (Halts halt) s go = (refl, inl (halt, refl, refl))
  settles Lost s go = (refl, inr (refl, refl))

  abbrev on : LowState → Code → LowState
  on s rest = goes_on rest s.active.rests s

  -- at a word, and at some words
  at : (s : LowState) (a : LowSource) (g : ℕ → Next LowState V) (h : ℕ → Next LowState W)
      → ((x : ℕ) → Alike (g x) (h x))
      → Alike (given s (word_of s.active.locals a) g) (given s (word_of s.active.locals a) h)
  at s a g h k = if_given s (word_of s.active.locals a) g h k

  at_all : (s : LowState) (args : List LowSource) (g : List ℕ → Next LowState V) (h : List ℕ → Next LowState W)
      → ((ws : List ℕ) → Alike (g ws) (h ws))
      → Alike (given s (words_of s.active.locals args) g) (given s (words_of s.active.locals args) h)
  at_all s args g h k = if_given s (words_of s.active.locals args) g h k

  same_step : (code : Code) (s : LowState) → Alike (code_step first low code s) (code_step second low code s)
  same_step Done s = behind s.active.rests s
  same_step (Set d a rest) s = at s a _ _ (λ x. set d x (on s rest))
  same_step (Compute op d a b rest) s =
      at s a _ _ (λ x. at s b _ _ (λ y. set d (compute op x y) (on s rest)))
  same_step (Load d a offset rest) s =
      at s a _ _ (λ x. if_test (on s rest) (may_load low.top (plus x (pos offset))) _ _
      (set d (load_bytes 8 s.memory (plus x (pos offset))) (on s rest)))
  same_step (Store b a offset rest) s =
      at s a _ _ (λ x. at s b _ _ (λ y.
      if_test (on s rest) (may_store low.region low.top (plus x (pos offset))) _ _ refl))
  same_step (CodeOf d k rest) s = if_given s (slice_get low.procs k) _ _ (λ p. set d (low.address k) (on s rest))
  same_step (Build d args rest) s =
      at_all s args _ _ (λ ws. if_test (on s rest) (nat_lt (length ws) 256) _ _
      (by_test (nat_le (s.alloc + 8 * length ws) low.top) _ _ _ _ (set d s.alloc _)
      (refl, inl (Lacks Region, refl, refl))))
  same_step (Request d a rest) s =
      at s a _ _ (λ n. by_test (nat_le (s.alloc + 8 * n) low.top) _ _ _ _ (set d s.alloc (on s rest))
      (refl, inl (Lacks Region, refl, refl)))
  same_step (Take a rest) s = at s a _ _ (λ n. if_test (on s rest) (nat_le (s.alloc + 8 * n) low.top) _ _ refl)
  same_step (Environment number a b d e rest) s =
      at s a _ _ (λ x. at s b _ _ (λ y.
      let called = environment_call (number % 2 ^ 64) x y (length low.labels) s.world in
      if_test (on s rest) (nat_lt d s.active.count) _ _ (if_test (on s rest) (nat_lt e s.active.count) _ _
      (settles (effect_of low.labels called.effect) (on s rest) _))))
  same_step (Call d k args rest) s =
      at_all s args _ _ (λ ws. enters (slice_get low.procs k) ws (waits first low d (on s rest)))
  same_step (CallAt d f args rest) s =
      at s f _ _ (λ to. at_all s args _ _ (λ ws.
      enters (proc_from low.address to 0 low.procs) ws (waits first low d (on s rest))))
  same_step (If cond a b one other rest) s = at s a _ _ (λ x. at s b _ _ (λ y. refl))
  same_step (Return a) s = at s a _ _ (λ x. answered s.waiting x s)
  same_step (TailCall k args) s = at_all s args _ _ (λ ws. enters (slice_get low.procs k) ws s)
  same_step (TailCallAt f args) s =
      at s f _ _ (λ to. at_all s args _ _ (λ ws. enters (proc_from low.address to 0 low.procs) ws s))

  -- ---- whole runs

  then_on : (n : ℕ) (y : Next LowState V) (z : Next LowState W) → Alike y z
      → ((s : LowState) → Alike (steps X s n) (steps Y s n))
      → Alike (and_then y (λ s. steps X s n)) (and_then z (λ s. steps Y s n))
  then_on n (Go s) (Go t) h ih = subst (λ u. Alike (steps X s n) (steps Y u n)) h (ih s)
  then_on n (Stop e s) (Stop f t) h ih = h
  then_on n (Go s) (Stop f t) h ih = absurd h
  then_on n (Stop e s) (Go t) h ih = absurd h

  same_steps : (n : ℕ) (s : LowState) → Alike (steps X s n) (steps Y s n)
  same_steps zero s = refl
  same_steps (suc n) s =
      then_on n (X.step s) (Y.step s) (same_step s.active.code s) (λ t. same_steps n t)

  -- both show and print the same, and where one has ended so has the other, by the same stop
  pub record SameButEnding (x : Moment LowShown V) (y : Moment LowShown W) : Type 0 where
    pub shown : x.shown ≡ y.shown
    pub output : x.output ≡ y.output
    pub ending : (e : Ending V) → x.ending ≡ Some e → (f : Ending W) × (y.ending ≡ Some f) × SameStop e f

  as_seen : (y : Next LowState V) (z : Next LowState W) → Alike y z → SameButEnding (seen X y) (seen Y z)
  as_seen (Go s) (Go t) h =
      record { shown = ap X.shown h; output = ap X.output h; ending = λ e g. absurd (let c : ⊥ = cc in c) }
  as_seen (Stop e s) (Stop f t) h = record {
    shown = ap X.shown h.0;
    output = ap X.output h.0;
    ending = λ e1 g. let same : e ≡ e1 = cc in (f, refl, subst (λ e2. SameStop e2 f) same h.1);
  }
  as_seen (Go s) (Stop f t) h = absurd h
  as_seen (Stop e s) (Go t) h = absurd h

  pub same_but_ending : (n : ℕ) (s : LowState) → SameButEnding (run X s n) (run Y s n)
  same_but_ending n s = as_seen (steps X s n) (steps Y s n) (same_steps n s)

-- a run over words that never goes wrong under one reading never does under another
module _ {V W : Type 0} (first : Halt → Ending V) (second : Halt → Ending W) (f : IsReading first)
    (g : IsReading second) (low : Setting) where
  same_wrong : (halt : Halt) → second halt ≡ Wrong → first halt ≡ Wrong
  same_wrong (Ended verdict) e = absurd (g.ended verdict e)
  same_wrong (Lacks room) e = absurd (g.lacking room e)
  same_wrong (GoesWrong fault) e = f.wrong fault

  pub words_never_wrong : (s : LowState) → NeverWrong (run (low_machine first low) s)
      → NeverWrong (run (low_machine second low) s)
  words_never_wrong s never n e =
      let k = (same_but_ending second first low n s).ending Wrong e in
      never n (k.1 ∙ ap Some (by_stop k.0 k.2))
    where
      by_stop : (d : Ending V) → SameStop second first low Wrong d → d ≡ Wrong
      by_stop d (inl h) = h.2 ∙ same_wrong h.0 (sym h.1)
      by_stop d (inr h) = h.1

-- ---- the reading by which want of stack alone is a verdict

abbrev pub of_stack : Halt → Ending Outcome
of_stack (Ended verdict) = Exhausted
of_stack (Lacks Region) = Exhausted
of_stack (Lacks Stack) = Verdict StackOut
of_stack (GoesWrong fault) = Wrong

pub of_stack_reads : IsReading of_stack
of_stack_reads = record { wrong = λ fault. refl; ended = λ verdict e. cc; lacking = lacks }
  where
    lacks : (room : Room) → of_stack (Lacks room) ≢ Wrong
    lacks Region e = cc
    lacks Stack e = cc

pub stack_alone : (halt : Halt) → Verdict StackOut ≡ of_stack halt → halt ≡ Lacks Stack
stack_alone (Ended verdict) e = absurd (let z : ⊥ = cc in z)
stack_alone (Lacks Region) e = absurd (let z : ⊥ = cc in z)
stack_alone (Lacks Stack) e = refl
stack_alone (GoesWrong fault) e = absurd (let z : ⊥ = cc in z)

-- ---- the machine

-- a stop as a moment
abbrev pub stopped : {V : Type 0} → (Halt → Ending V) → Halt → State → Moment State V
stopped reading halt t = record { shown = t; output = t.world.output; ending = Some (reading halt) }

module _ {V : Type 0} (reading : Halt → Ending V) where
  state_is : (s t : State) (a b : Halt) → (s, Some a) ≡ (let p : State × Option Halt = (t, Some b) in p)
      → (s ≡ t) × (a ≡ b)
  state_is s t a b e =
      let here : s ≡ t = ap (λ (p : State × Option Halt). p.0) e in
      let stop : ◌≡◌ {A = Option Halt} (Some a) (Some b) = ap (λ (p : State × Option Halt). p.1) e in
      (here, cc)

  read_on : (n : ℕ) (s t : State) (halt : Halt) (turn : Turn)
      → ((u : State) → run_of n u ≡ (t, Some halt) → run (machine_by reading) u n ≡ stopped reading halt t)
      → onward (run_of n) s turn ≡ (t, Some halt)
      → seen (machine_by reading) (and_then (step_by reading s turn) (λ u. steps (machine_by reading) u n))
      ≡ stopped reading halt t
  read_on n s t halt (GoesOn u) ih e = ih u e
  read_on n s t halt (Stops stop) ih e =
      let k = state_is s t stop halt e in
      ap (λ h. stopped reading h s) k.1 ∙ ap (λ u. stopped reading halt u) k.0

  -- a stop of the machine is read so
  pub stop_read : (n : ℕ) (s t : State) (halt : Halt) → run_of n s ≡ (t, Some halt)
      → run (machine_by reading) s n ≡ stopped reading halt t
  unfolding run_of
  stop_read zero s t halt e =
      let d : ◌≡◌ {A = Option Halt} None (Some halt) = ap (λ (p : State × Option Halt). p.1) e in
      absurd (let z : ⊥ = cc in z)
  stop_read (suc n) s t halt e = read_on n s t halt (turn_of s) (λ u h. stop_read n u t halt h) e

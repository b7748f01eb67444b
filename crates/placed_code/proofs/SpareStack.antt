-- A run over words of procedures that make no environment call 6 never stops for want of stack.
use Rattle.std.proofs.Common.{Bool, true, false, ◌&&◌, ℕ, zero, suc, ◌+◌, ◌*◌, ◌%◌, ◌^◌, ◌≡◌, ◌≢◌, ap, subst}
use Rattle.std.proofs.Common.{List, [], ◌∷◌, Option, Some, length, sym}
use Rattle.std.specs.Prelude.{pos, nat_lt, nat_le, ◌==◌, slice_get, if◌then◌else◌}
use Rattle.std.proofs.lemmas.Bool.{or_parts}
use Rattle.grift_base.specs.World.{WorldState}
use Rattle.grift_base.specs.EnvironmentCall.{environment_call}
use Rattle.grift_base.specs.declared.verdicts.Verdict.{Verdict as Outcome}
use Rattle.grift_base.specs.declared.verdicts.Verdict.TheVariants.{StackOut}
use Rattle.run_laws.specs.Runs.{Ending, Verdict, Exhausted, Wrong}
use Rattle.run_laws.specs.Machines.{Next, Go, Stop, Machine, steps, seen, run}
use Rattle.machine_words.specs.Memory.{Memory}
use Rattle.machine_words.specs.Halts.{Lacks, Stack}
use Rattle.machine_words.specs.Arithmetic.{plus}
use Rattle.machine_words.specs.Conditions.{holds}
use Rattle.low_ir.specs.Procedures.{Code, Done, Set, Compute, Load, Store, CodeOf, Build, Request, Take, Environment}
use Rattle.low_ir.specs.Procedures.{Call, CallAt, If, Return, TailCall, TailCallAt, Proc}
use Rattle.low_ir.specs.Counting.{calls, any_calls}
use Rattle.low_ir.specs.Steps.{no_locals, given, only_if, may_load, may_store, Effect, Goes, Halts, Lost}
use Rattle.low_ir.specs.Steps.{effect_of, settle, store_words}
use Rattle.low_ir.specs.declared.code.LowSource.{LowSource}
use Rattle.low_ir.specs.Run.{Setting, Waiting, LowState, LowShown, proc_from, bind, word_of, words_of, with_local}
use Rattle.low_ir.specs.Run.{goes_on, sets, enter_some, waits, answers, falls, call_environment, code_step}
use Rattle.low_ir.specs.Run.{low_machine, low_start}
use Rattle.low_ir.proofs.Public.{call_has_room, LeadsTo, leads_along, leads_given, leads_if}
use Rattle.placed_code.proofs.Readings.{of_stack, stack_alone}

-- ---- what holds of each procedure

-- it makes no call 6
abbrev Spares : Code → Type 0
Spares code = calls 6 code ≡ false

numbered : (ps : List Proc) (k : ℕ) (p : Proc) → any_calls 6 ps ≡ false → slice_get ps k ≡ Some p → Spares p.code
numbered [] k p c e = absurd (let z : ⊥ = cc in z)
numbered (q ∷ ps) zero p c e =
    let is : q ≡ p = cc in subst (λ (x : Proc). Spares x.code) is (or_parts _ _ c).0
numbered (q ∷ ps) (suc k) p c e = numbered ps k p (or_parts _ _ c).1 e

addressed : (address : ℕ → ℕ) (at k : ℕ) (ps : List Proc) (p : Proc) → any_calls 6 ps ≡ false
    → proc_from address at k ps ≡ Some p → Spares p.code
addressed address at k [] p c e = absurd (let z : ⊥ = cc in z)
addressed address at k (q ∷ ps) p c e =
    by_address (address k == at) e (λ f. addressed address at (suc k) ps p (or_parts _ _ c).1 f)
  where
    by_address : (b : Bool) → (if b then Some q else proc_from address at (suc k) ps) ≡ Some p
        → (proc_from address at (suc k) ps ≡ Some p → Spares p.code) → Spares p.code
    by_address true f later =
        let is : q ≡ p = cc in subst (λ (x : Proc). Spares x.code) is (or_parts _ _ c).0
    by_address false f later = later f

abbrev EachSpares : List Code → Type 0
EachSpares [] = Unit {0}
EachSpares (r ∷ rs) = Spares r × EachSpares rs

abbrev WaitingSpare : List Waiting → Type 0
WaitingSpare [] = Unit {0}
WaitingSpare (w ∷ ws) = Spares w.rest.code × EachSpares w.rest.rests × WaitingSpare ws

-- ---- steps

module _ (setting : Setting) (calm : any_calls 6 setting.procs ≡ false) where
  abbrev M : Machine LowState LowShown Outcome
  M = low_machine of_stack setting

  -- of a state that goes on, where this code is left
  abbrev Left : Code → LowState → Type 0
  Left code s = Spares code × EachSpares s.active.rests × WaitingSpare s.waiting

  abbrev Good : LowState → Type 0
  Good s = Left s.active.code s

  abbrev Ends : Ending Outcome → LowState → Type 0
  Ends e s = e ≢ Verdict StackOut

  abbrev Leads : Next LowState Outcome → Type 0
  Leads x = LeadsTo Good Ends x

  wrong_is_none : Wrong ≢ (let e : Ending Outcome = Verdict StackOut in e)
  wrong_is_none e = cc

  exhausted_is_none : Exhausted ≢ (let e : Ending Outcome = Verdict StackOut in e)
  exhausted_is_none e = cc

  if_given : {A : Type 0} (s : LowState) (o : Option A) (go : A → Next LowState Outcome)
      → ((x : A) → o ≡ Some x → Leads (go x)) → Leads (given s o go)
  if_given s o go h = leads_given Leads s wrong_is_none o go h

  if_test : (s : LowState) (b : Bool) (go : Next LowState Outcome) → Leads go → Leads (only_if s b go)
  if_test s b go h = leads_if Leads s wrong_is_none b go (λ e. h)

  by_test : (b : Bool) (x y : Next LowState Outcome) → Leads x → Leads y → Leads (if b then x else y)
  by_test true x y h k = h
  by_test false x y h k = k

  sets_word : (d word : ℕ) (s : LowState) → Good s → Leads (sets of_stack setting d word s)
  sets_word d word s g = if_test s (nat_lt d s.active.count) _ g

  enters : (o : Option Proc) (ws : List ℕ) (s : LowState) → ((p : Proc) → o ≡ Some p → Spares p.code)
      → WaitingSpare s.waiting → Leads (enter_some of_stack setting o ws s)
  enters o ws s each waiting =
      if_given s o _ (λ p e.
      if_test s ((length ws == p.params) && (nat_le p.params 8 && nat_le p.params p.words)) _ (
      let good : Good (record s {
        active = record { count = p.words; locals = bind 0 ws no_locals; code = p.code; rests = [] };
      }) = (each p e, tt, waiting) in good))

  answered : (waiting : List Waiting) (word : ℕ) (s : LowState) → WaitingSpare waiting
      → Leads (answers of_stack setting waiting word s)
  answered [] word s w = exhausted_is_none
  answered (x ∷ xs) word s w =
      if_test s (nat_lt x.answer x.rest.count) _ (
      let good : Good (record s { active = with_local x.answer word x.rest; waiting = xs }) = w in good)

  falls_behind : (rests : List Code) (s : LowState) → EachSpares rests → WaitingSpare s.waiting
      → Leads (falls of_stack setting rests s)
  falls_behind [] s q w = wrong_is_none
  falls_behind (r ∷ rs) s q w = (q.0, q.1, w)

  settles : (effect : Effect) (s : LowState) (go : ℕ → ℕ → LowState) → ((a b : ℕ) → Good (go a b))
      → effect ≢ Halts (Lacks Stack) → Leads (settle of_stack effect s go)
  settles (Goes a b) s go g n = g a b
  settles (Halts halt) s go g n = λ e. n (ap Halts (stack_alone halt (sym e)))
  settles Lost s go g n = wrong_is_none

  calls_out : (number a b d e : ℕ) (s : LowState) → Good s → (number % 2 ^ 64 == 6) ≡ false
      → Leads (call_environment of_stack setting number a b d e s)
  calls_out number a b d e s g n =
      let called = environment_call (number % 2 ^ 64) a b (length setting.labels) s.world in
      if_test s (nat_lt d s.active.count) _ (if_test s (nat_lt e s.active.count) _ (
      settles (effect_of setting.labels called.effect) s _ (λ x y. g)
      (call_has_room Stack setting.labels (number % 2 ^ 64) a b (length setting.labels) s.world n)))

  word_at : (a : LowSource) (s : LowState) (go : ℕ → Next LowState Outcome) → ((x : ℕ) → Leads (go x))
      → Leads (given s (word_of s.active.locals a) go)
  word_at a s go h = if_given s (word_of s.active.locals a) go (λ x e. h x)

  words_at : (args : List LowSource) (s : LowState) (go : List ℕ → Next LowState Outcome)
      → ((ws : List ℕ) → Leads (go ws)) → Leads (given s (words_of s.active.locals args) go)
  words_at args s go h = if_given s (words_of s.active.locals args) go (λ ws e. h ws)

  abbrev on : LowState → Code → LowState
  on s rest = goes_on rest s.active.rests s

  step : (code : Code) (s : LowState) → Left code s → Leads (code_step of_stack setting code s)
  step Done s g = falls_behind s.active.rests s g.1 g.2
  step (Set d a rest) s g = word_at a s _ (λ x. sets_word d x (on s rest) g)
  step (Compute op d a b rest) s g = word_at a s _ (λ x. word_at b s _ (λ y. sets_word d _ (on s rest) g))
  step (Load d a offset rest) s g =
      word_at a s _ (λ x.
      if_test (on s rest) (may_load setting.top (plus x (pos offset))) _ (sets_word d _ (on s rest) g))
  step (Store b a offset rest) s g =
      word_at a s _ (λ x. word_at b s _ (λ y.
      if_test (on s rest) (may_store setting.region setting.top (plus x (pos offset))) _ g))
  step (CodeOf d k rest) s g =
      if_given s (slice_get setting.procs k) _ (λ p e. sets_word d (setting.address k) (on s rest) g)
  step (Build d args rest) s g =
      words_at args s _ (λ ws.
      if_test (on s rest) (nat_lt (length ws) 256) _ (by_test (nat_le (s.alloc + 8 * length ws) setting.top) _ _
      (sets_word d s.alloc (record (on s rest) {
        memory = store_words ws s.alloc s.memory;
        alloc = s.alloc + 8 * length ws;
        words = s.words + length ws;
      }) g) exhausted_is_none))
  step (Request d a rest) s g =
      word_at a s _ (λ n. by_test (nat_le (s.alloc + 8 * n) setting.top) _ _ (sets_word d s.alloc (on s rest) g)
      exhausted_is_none)
  step (Take a rest) s g = word_at a s _ (λ n. if_test (on s rest) (nat_le (s.alloc + 8 * n) setting.top) _ g)
  step (Environment number a b d e rest) s g =
      word_at a s _ (λ x. word_at b s _ (λ y.
      calls_out number x y d e (on s rest) ((or_parts _ _ g.0).1, g.1, g.2) (or_parts _ _ g.0).0))
  step (Call d k args rest) s g =
      words_at args s _ (λ ws.
      enters (slice_get setting.procs k) ws (waits of_stack setting d (on s rest))
      (λ p e. numbered setting.procs k p calm e) g)
  step (CallAt d f args rest) s g =
      word_at f s _ (λ at. words_at args s _ (λ ws.
      enters (proc_from setting.address at 0 setting.procs) ws (waits of_stack setting d (on s rest))
      (λ p e. addressed setting.address at 0 setting.procs p calm e) g))
  step (If cond a b one other rest) s g =
      word_at a s _ (λ x. word_at b s _ (λ y. branches (holds cond x y)))
    where
      branches : (test : Bool) → Good (goes_on (if test then one else other) (rest ∷ s.active.rests) s)
      branches true = let n = or_parts _ _ g.0 in (n.0, ((or_parts _ _ n.1).1, g.1), g.2)
      branches false = let n = or_parts _ _ (or_parts _ _ g.0).1 in (n.0, (n.1, g.1), g.2)
  step (Return a) s g = word_at a s _ (λ x. answered s.waiting x s g.2)
  step (TailCall k args) s g =
      words_at args s _ (λ ws.
      enters (slice_get setting.procs k) ws s (λ p e. numbered setting.procs k p calm e) g.2)
  step (TailCallAt f args) s g =
      word_at f s _ (λ at. words_at args s _ (λ ws.
      enters (proc_from setting.address at 0 setting.procs) ws s
      (λ p e. addressed setting.address at 0 setting.procs p calm e) g.2))

  -- ---- runs

  along : (n : ℕ) (s : LowState) → Good s → Leads (steps M s n)
  along n s g = leads_along M Good Ends (λ s1 g1. step s1.active.code s1 g1) n s g

  some_is : (a b : Ending Outcome) → Some a ≡ Some b → a ≡ b
  some_is a b h = cc

  at_end : (x : Next LowState Outcome) → Leads x → (seen M x).ending ≢ Some (Verdict StackOut)
  at_end (Go s) l e = cc
  at_end (Stop o s) l e = l (some_is o (Verdict StackOut) e)

  pub never_lacks_stack : (entry : ℕ) (p : Proc) (memory : Memory) (world : WorldState) (n : ℕ)
      → slice_get setting.procs entry ≡ Some p
      → (run M (low_start setting p memory world) n).ending ≢ Some (Verdict StackOut)
  never_lacks_stack entry p memory world n is =
      at_end _ (along n (low_start setting p memory world) (numbered setting.procs entry p calm is, tt, tt))

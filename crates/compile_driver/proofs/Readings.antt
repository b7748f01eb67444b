-- A run over words is the same however stops are read, but for how it has ended.
use Rattle.std.proofs.Common.{
  ◌≡◌,
  ◌≢◌,
  ℕ,
  zero,
  suc,
  ◌+◌,
  ◌*◌,
  Bool,
  true,
  false,
  List,
  [],
  ◌∷◌,
  length,
  Option,
  Some,
  None,
}
use Rattle.std.proofs.Common.{refl, ap, subst, slice_get}
use Rattle.std.specs.Prelude.{nat_le, nat_lt, ◌==◌, ◌&&◌, if◌then◌else◌, ◌%◌, ◌^◌, pos}
use Rattle.grift_base.specs.EnvironmentCall.{environment_call}
use Rattle.grift_base.specs.declared.verdicts.Verdict.{Verdict as Outcome}
use Rattle.grift_base.specs.declared.places.Pos.{Pos}
use Rattle.grift_base.specs.declared.worlds.EnvEffect.{EnvEffect}
use Rattle.grift_base.specs.declared.worlds.EnvEffect.TheVariants.{Next as GoesOn, Ended as Answers, Blamed, Trapped}
use Rattle.grift_base.specs.declared.worlds.EnvEffect.TheVariants.{RegionOut, StackOut, Refused, OutOfMemory}
use Rattle.run_laws.specs.Runs.{Ending, Wrong, NeverWrong, Moment}
use Rattle.run_laws.specs.Machines.{Next, Go, Stop, and_then, steps, seen, run}
use Rattle.machine_words.specs.Halts.{Halt, Ended, Lacks, Room, Region}
use Rattle.machine_words.specs.Arithmetic.{plus}
use Rattle.low_ir.specs.Operations.{compute}
use Rattle.low_ir.specs.Procedures.{Code, Done, Set, Compute, Load, Store, CodeOf, Build, Request, Take, Environment}
use Rattle.low_ir.specs.Procedures.{Call, CallAt, If, Return, TailCall, TailCallAt, Proc}
use Rattle.low_ir.specs.Steps.{given, only_if, settle, Effect, Goes, Halts, Lost, blame_of, effect_of, may_load}
use Rattle.low_ir.specs.Steps.{may_store}
use Rattle.low_ir.specs.Run.{Setting, Waiting, LowState, LowShown, word_of, words_of, proc_from, goes_on, low_machine}
use Rattle.low_ir.specs.Run.{sets, enter, enter_some, waits, answers, falls, build}
use Rattle.low_ir.specs.Run.{call_environment, code_step, set_both}

module _ {V V' : Type 0} (one : Halt → Ending V) (other : Halt → Ending V')
    (answered : (verdict : Outcome) → one (Ended verdict) ≢ Wrong) (lacking : (room : Room) → one (Lacks room) ≢ Wrong)
    (setting : Setting) where
  -- both lead to the same state, and the first stops as gone wrong only where the second does
  abbrev SameNext : Next LowState V → Next LowState V' → Type 0
  SameNext (Go s) (Go t) = s ≡ t
  SameNext (Go s) (Stop e t) = ⊥
  SameNext (Stop e s) (Go t) = ⊥
  SameNext (Stop e s) (Stop f t) = (s ≡ t) × (e ≡ Wrong → f ≡ Wrong)

  given_same : {A : Type 0} (s : LowState) (o : Option A) (f : A → Next LowState V) (g : A → Next LowState V')
      → ((a : A) → SameNext (f a) (g a)) → SameNext (given s o f) (given s o g)
  given_same s None f g h = (refl, λ e. refl)
  given_same s (Some a) f g h = h a

  only_if_same : (s : LowState) (b : Bool) (x : Next LowState V) (y : Next LowState V') → SameNext x y
      → SameNext (only_if s b x) (only_if s b y)
  only_if_same s true x y h = h
  only_if_same s false x y h = (refl, λ e. refl)

  sets_same : (d w : ℕ) (s : LowState) → SameNext (sets one setting d w s) (sets other setting d w s)
  sets_same d w s = only_if_same s (nat_lt d s.active.count) _ _ refl

  enter_same : (ws : List ℕ) (s : LowState) (p : Proc)
      → SameNext (enter one setting ws s p) (enter other setting ws s p)
  enter_same ws s p = only_if_same s ((length ws == p.params) && (nat_le p.params 8 && nat_le p.params p.words)) _ _
      refl

  enter_some_same : (p : Option Proc) (ws : List ℕ) (s : LowState)
      → SameNext (enter_some one setting p ws s) (enter_some other setting p ws s)
  enter_some_same p ws s = given_same s p _ _ (λ q. enter_same ws s q)

  answers_same : (ws : List Waiting) (word : ℕ) (s : LowState)
      → SameNext (answers one setting ws word s) (answers other setting ws word s)
  answers_same [] word s = (refl, λ e. absurd (answered _ e))
  answers_same (w ∷ ws) word s = only_if_same s (nat_lt w.answer w.rest.count) _ _ refl

  falls_same : (rests : List Code) (s : LowState) → SameNext (falls one setting rests s) (falls other setting rests s)
  falls_same [] s = (refl, λ e. refl)
  falls_same (r ∷ rs) s = refl

  room_same : (b : Bool) (n : ℕ) (s : LowState) (x : Next LowState V) (y : Next LowState V') → SameNext x y
      → SameNext (if b then x else Stop (one (Lacks Region)) (record s { words = s.words + n }))
      (if b then y else Stop (other (Lacks Region)) (record s { words = s.words + n }))
  room_same true n s x y h = h
  room_same false n s x y h = (refl, λ e. absurd (lacking Region e))

  -- the halts of an environment call are no faults
  abbrev IsFine : Effect → Type 0
  IsFine (Goes a b) = Unit {0}
  IsFine (Halts halt) = one halt ≢ Wrong
  IsFine Lost = Unit {0}

  settle_same : (e : Effect) → IsFine e → (s : LowState) (go : ℕ → ℕ → LowState)
      → SameNext (settle one e s go) (settle other e s go)
  settle_same (Goes a b) fine s go = refl
  settle_same (Halts halt) fine s go = (refl, λ e. absurd (fine e))
  settle_same Lost fine s go = (refl, λ e. refl)

  effect_fine : (effect : EnvEffect) → IsFine (effect_of setting.labels effect)
  effect_fine (GoesOn a b) = tt
  effect_fine (Answers answer) = answered _
  effect_fine (Blamed label) = blame_fine (slice_get setting.labels label)
    where
      blame_fine : (place : Option Pos) → IsFine (blame_of place)
      blame_fine None = tt
      blame_fine (Some place) = answered _
  effect_fine (Trapped trap) = answered _
  effect_fine RegionOut = lacking _
  effect_fine StackOut = lacking _
  effect_fine Refused = tt
  effect_fine OutOfMemory = tt

  build_same : (d : ℕ) (ws : List ℕ) (s : LowState) → SameNext (build one setting d ws s) (build other setting d ws s)
  build_same d ws s =
      only_if_same s (nat_lt (length ws) 256) _ _
      (room_same (nat_le (s.alloc + 8 * length ws) setting.top) (length ws) s _ _ (sets_same d s.alloc _))

  call_same : (number a b d e : ℕ) (s : LowState)
      → SameNext (call_environment one setting number a b d e s) (call_environment other setting number a b d e s)
  call_same number a b d e s =
      let c = environment_call (number % 2 ^ 64) a b (length setting.labels) s.world in
      only_if_same s (nat_lt d s.active.count) _ _ (only_if_same s (nat_lt e s.active.count) _ _
      (settle_same (effect_of setting.labels c.effect) (effect_fine c.effect) s
      (set_both one setting d e (record s { world = c.world }))))

  step_same : (code : Code) (s : LowState) → SameNext (code_step one setting code s) (code_step other setting code s)
  step_same Done s = falls_same s.active.rests s
  step_same (Set d a rest) s =
      given_same s (word_of s.active.locals a) _ _ (λ x. sets_same d x (goes_on rest s.active.rests s))
  step_same (Compute op d a b rest) s =
      given_same s (word_of s.active.locals a) _ _ (λ x. given_same s (word_of s.active.locals b) _ _ (λ y.
      sets_same d (compute op x y) (goes_on rest s.active.rests s)))
  step_same (Load d a offset rest) s =
      given_same s (word_of s.active.locals a) _ _ (λ x.
      only_if_same (goes_on rest s.active.rests s) (may_load setting.top (plus x (pos offset))) _ _
      (sets_same d _ (goes_on rest s.active.rests s)))
  step_same (Store b a offset rest) s =
      given_same s (word_of s.active.locals a) _ _ (λ x. given_same s (word_of s.active.locals b) _ _ (λ y.
      only_if_same (goes_on rest s.active.rests s) (may_store setting.region setting.top (plus x (pos offset))) _ _
      refl))
  step_same (CodeOf d k rest) s =
      given_same s (slice_get setting.procs k) _ _ (λ p. sets_same d (setting.address k)
      (goes_on rest s.active.rests s))
  step_same (Build d args rest) s =
      given_same s (words_of s.active.locals args) _ _ (λ ws. build_same d ws (goes_on rest s.active.rests s))
  step_same (Request d a rest) s =
      given_same s (word_of s.active.locals a) _ _ (λ n.
      room_same (nat_le (s.alloc + 8 * n) setting.top) n (goes_on rest s.active.rests s) _ _
      (sets_same d s.alloc (goes_on rest s.active.rests s)))
  step_same (Take a rest) s =
      given_same s (word_of s.active.locals a) _ _ (λ n.
      only_if_same (goes_on rest s.active.rests s) (nat_le (s.alloc + 8 * n) setting.top) _ _ refl)
  step_same (Environment number a b d e rest) s =
      given_same s (word_of s.active.locals a) _ _ (λ x. given_same s (word_of s.active.locals b) _ _ (λ y.
      call_same number x y d e (goes_on rest s.active.rests s)))
  step_same (Call d k args rest) s =
      given_same s (words_of s.active.locals args) _ _ (λ ws.
      enter_some_same (slice_get setting.procs k) ws (waits one setting d (goes_on rest s.active.rests s)))
  step_same (CallAt d f args rest) s =
      given_same s (word_of s.active.locals f) _ _ (λ at. given_same s (words_of s.active.locals args) _ _ (λ ws.
      enter_some_same (proc_from setting.address at 0 setting.procs) ws
      (waits one setting d (goes_on rest s.active.rests s))))
  step_same (If condition a b first second rest) s =
      given_same s (word_of s.active.locals a) _ _ (λ x. given_same s (word_of s.active.locals b) _ _ (λ y. refl))
  step_same (Return a) s = given_same s (word_of s.active.locals a) _ _ (λ x. answers_same s.waiting x s)
  step_same (TailCall k args) s =
      given_same s (words_of s.active.locals args) _ _ (λ ws. enter_some_same (slice_get setting.procs k) ws s)
  step_same (TailCallAt f args) s =
      given_same s (word_of s.active.locals f) _ _ (λ at. given_same s (words_of s.active.locals args) _ _ (λ ws.
      enter_some_same (proc_from setting.address at 0 setting.procs) ws s))

  steps_same : (n : ℕ) (s : LowState)
      → SameNext (steps (low_machine one setting) s n) (steps (low_machine other setting) s n)
  steps_same zero s = refl
  steps_same (suc n) s =
      by (λ t. steps_same n t) (code_step one setting s.active.code s) (code_step other setting s.active.code s)
      (step_same s.active.code s)
    where
      by : ((t : LowState) → SameNext (steps (low_machine one setting) t n) (steps (low_machine other setting) t n))
          → (x : Next LowState V) (y : Next LowState V') → SameNext x y
          → SameNext (and_then x (λ t. steps (low_machine one setting) t n))
          (and_then y (λ t. steps (low_machine other setting) t n))
      by ih (Go t) (Go u) h =
          subst (λ v. SameNext (steps (low_machine one setting) t n) (steps (low_machine other setting) v n)) h (ih t)
      by ih (Go t) (Stop f u) h = absurd h
      by ih (Stop e t) (Go u) h = absurd h
      by ih (Stop e t) (Stop f u) h = h

  -- two moments show the same, have printed the same, and the first has gone wrong only where the second has
  pub record SameButEnding (x : Moment LowShown V) (y : Moment LowShown V') : Type 0 where
    pub shown : x.shown ≡ y.shown
    pub output : x.output ≡ y.output
    pub wrong : x.ending ≡ Some Wrong → y.ending ≡ Some Wrong

  pub readings_agree : (n : ℕ) (s : LowState)
      → SameButEnding (run (low_machine one setting) s n) (run (low_machine other setting) s n)
  readings_agree n s =
      by (steps (low_machine one setting) s n) (steps (low_machine other setting) s n) (steps_same n s)
    where
      by : (x : Next LowState V) (y : Next LowState V') → SameNext x y
          → SameButEnding (seen (low_machine one setting) x) (seen (low_machine other setting) y)
      by (Go t) (Go u) h = record {
        shown = ap (low_machine one setting).shown h;
        output = ap (low_machine one setting).output h;
        wrong = λ e. absurd (let f : ⊥ = cc in f);
      }
      by (Go t) (Stop f u) h = absurd h
      by (Stop e t) (Go u) h = absurd h
      by (Stop e t) (Stop f u) h = record {
        shown = ap (low_machine one setting).shown h.0;
        output = ap (low_machine one setting).output h.0;
        wrong = λ w. let z : e ≡ Wrong = cc in ap Some (h.1 z);
      }

  pub never_wrong_too : (s : LowState) → NeverWrong (run (low_machine other setting) s)
      → NeverWrong (run (low_machine one setting) s)
  never_wrong_too s never n e = never n ((readings_agree n s).wrong e)

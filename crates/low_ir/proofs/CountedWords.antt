-- In each state of a run over words those that were taken fill the region up to the allocation word.
use Rattle.std.proofs.Common.{Bool, true, false, ◌&&◌, ℕ, zero, suc, ◌+◌, ◌*◌, ◌%◌, ◌^◌, ◌<◌, ◌≤◌, ◌≡◌, ◌≢◌}
use Rattle.std.proofs.Common.{◌⊎◌, inl, inr, List, [], ◌∷◌, Option, Some, None, length, refl, ap, subst, All, arith}
use Rattle.std.specs.Prelude.{pos, nat_lt, nat_le, ◌==◌, slice_get, if◌then◌else◌}
use Rattle.std.proofs.lemmas.Bool.{or_parts}
use Rattle.std.proofs.lemmas.List.Elements.{All-head, All-tail}
use Rattle.grift_base.specs.World.{WorldState}
use Rattle.grift_base.specs.EnvironmentCall.{environment_call}
use Rattle.grift_base.specs.declared.verdicts.Verdict.{Verdict}
use Rattle.run_laws.specs.Runs.{Ending, Wrong}
use Rattle.run_laws.specs.Machines.{Next, Go, Stop, Machine, steps, seen, run}
use Rattle.machine_words.specs.Memory.{Memory}
use Rattle.machine_words.specs.Halts.{Halt, Ended, Lacks, Region}
use Rattle.machine_words.specs.Arithmetic.{plus}
use Rattle.machine_words.specs.Conditions.{holds}
use Rattle.low_ir.specs.Procedures.{Code, Done, Set, Compute, Load, Store, CodeOf, Build, Request, Take, Environment}
use Rattle.low_ir.specs.Procedures.{Call, CallAt, If, Return, TailCall, TailCallAt, Proc}
use Rattle.low_ir.specs.Steps.{no_locals, given, only_if, may_load, may_store, Effect, Goes, Halts, Lost}
use Rattle.low_ir.specs.Steps.{effect_of, settle, store_words}
use Rattle.low_ir.specs.declared.code.LowSource.{LowSource}
use Rattle.low_ir.specs.Run.{Setting, Waiting, LowState, LowShown, proc_from, bind, word_of, words_of, with_local}
use Rattle.low_ir.specs.Run.{goes_on, sets, enter_some}
use Rattle.low_ir.specs.Run.{waits, answers, held_by, falls, request, take_words, build}
use Rattle.low_ir.specs.Run.{finds_no_room, call_environment, code_step, low_machine, low_start}
use Rattle.low_ir.proofs.CallEndings.{call_has_room}
use Rattle.low_ir.proofs.Leading.{LeadsTo, leads_along, leads_given, leads_if}
use Rattle.low_ir.specs.Counting.{calls, any_calls, FillsUpTo, Exceeds, IsWantOfRegion, CountsWords}

-- ---- what holds of each procedure

abbrev Each : (Proc → Type 0) → List Proc → Type 0
Each P [] = Unit {0}
Each P (p ∷ ps) = P p × Each P ps

numbered : (P : Proc → Type 0) (ps : List Proc) (k : ℕ) (p : Proc) → Each P ps → slice_get ps k ≡ Some p → P p
numbered P [] k p c e = absurd (let z : ⊥ = cc in z)
numbered P (q ∷ ps) zero p c e = let is : q ≡ p = cc in subst P is c.0
numbered P (q ∷ ps) (suc k) p c e = numbered P ps k p c.1 e

addressed : (P : Proc → Type 0) (address : ℕ → ℕ) (at k : ℕ) (ps : List Proc) (p : Proc) → Each P ps
    → proc_from address at k ps ≡ Some p → P p
addressed P address at k [] p c e = absurd (let z : ⊥ = cc in z)
addressed P address at k (q ∷ ps) p c e =
    by_address (address k == at) e (λ f. addressed P address at (suc k) ps p c.1 f)
  where
    by_address : (b : Bool) → (if b then Some q else proc_from address at (suc k) ps) ≡ Some p
        → (proc_from address at (suc k) ps ≡ Some p → P p) → P p
    by_address true f later = let is : q ≡ p = cc in subst P is c.0
    by_address false f later = later f

-- it makes no call 5
abbrev Spares : Code → Type 0
Spares code = calls 5 code ≡ false

each_spares : (ps : List Proc) → any_calls 5 ps ≡ false → Each (λ p. Spares p.code) ps
each_spares [] h = tt
each_spares (p ∷ ps) h = let n = or_parts _ _ h in (n.0, each_spares ps n.1)

each_holds : (most : ℕ) (ps : List Proc) → All (λ (p : Proc). p.words ≤ most) ps → Each (λ p. p.words ≤ most) ps
each_holds most [] h = tt
each_holds most (p ∷ ps) h =
    (All-head (λ q. q.words ≤ most) p ps h, each_holds most ps (All-tail (λ q. q.words ≤ most) p ps h))

abbrev EachSpares : List Code → Type 0
EachSpares [] = Unit {0}
EachSpares (r ∷ rs) = Spares r × EachSpares rs

abbrev WaitingSpare : List Waiting → Type 0
WaitingSpare [] = Unit {0}
WaitingSpare (w ∷ ws) = Spares w.rest.code × EachSpares w.rest.rests × WaitingSpare ws

-- it has at most so many words
abbrev WaitingHold : ℕ → List Waiting → Type 0
WaitingHold most [] = Unit {0}
WaitingHold most (w ∷ ws) = (w.rest.count ≤ most) × WaitingHold most ws

held_in_all : (most : ℕ) (ws : List Waiting) → WaitingHold most ws → held_by ws ≤ length ws * most
held_in_all most [] h = omega arith
held_in_all most (w ∷ ws) h = one_more w.rest.count (held_by ws) (length ws) most h.0 (held_in_all most ws h.1)
  where
    one_more : (count held frames most : ℕ) → count ≤ most → held ≤ frames * most → count + held ≤ suc frames * most
    one_more count held frames most h k = grind arith

-- ---- steps

has_room : (alloc n top : ℕ) → nat_le (alloc + 8 * n) top ≡ true → alloc + 8 * n ≤ top
has_room alloc n top h = grind arith

lacks_room : (region alloc words n top : ℕ) → alloc ≡ region + 8 * words → nat_le (alloc + 8 * n) top ≡ false
    → top < region + 8 * (words + n)
lacks_room region alloc words n top e h = grind arith

moved : (region alloc words n : ℕ) → alloc ≡ region + 8 * words → alloc + 8 * n ≡ region + 8 * (words + n)
moved region alloc words n e = omega (arith, e)

module _ {V : Type 0} (reading : Halt → Ending V) (setting : Setting) (most : ℕ) where
  abbrev Filled : LowState → Type 0
  Filled s = (s.alloc ≡ setting.region + 8 * s.words) × (setting.region ≤ setting.top → s.alloc ≤ setting.top)

  abbrev ExceedsIn : LowState → Type 0
  ExceedsIn s = setting.top < setting.region + 8 * s.words

  abbrev Calm : Type 0
  Calm = Each (λ p. Spares p.code) setting.procs

  abbrev Holds : LowState → Type 0
  Holds s = Each (λ p. p.words ≤ most) setting.procs → (s.active.count ≤ most) × WaitingHold most s.waiting

  -- of a state that goes on, where this code is left
  abbrev Left : Code → LowState → Type 0
  Left code s =
      Filled s × (Calm → Spares code × EachSpares s.active.rests × WaitingSpare s.waiting) × Holds s

  abbrev Good : LowState → Type 0
  Good s = Left s.active.code s

  abbrev AtEnd : Ending V → LowState → Type 0
  AtEnd e s =
      (Filled s ⊎ ((e ≡ reading (Lacks Region)) × ExceedsIn s)) × (Calm → IsWantOfRegion reading e → ExceedsIn s)
      × Holds s

  abbrev Leads : Next LowState V → Type 0
  Leads x = LeadsTo Good AtEnd x

  goes_wrong : (s : LowState) → Filled s → Holds s → AtEnd Wrong s
  goes_wrong s f o = (inl f, λ c w. absurd (w.right refl), o)

  if_given : {A : Type 0} (s : LowState) (o : Option A) (go : A → Next LowState V) → Filled s → Holds s
      → ((x : A) → o ≡ Some x → Leads (go x)) → Leads (given s o go)
  if_given s x go f o h = leads_given Leads s (goes_wrong s f o) x go h

  if_test : (s : LowState) (b : Bool) (go : Next LowState V) → Filled s → Holds s → (b ≡ true → Leads go)
      → Leads (only_if s b go)
  if_test s b go f o h = leads_if Leads s (goes_wrong s f o) b go h

  by_room : (b : Bool) (x y : Next LowState V) → (b ≡ true → Leads x) → (b ≡ false → Leads y)
      → Leads (if b then x else y)
  by_room true x y h k = h refl
  by_room false x y h k = k refl

  sets_word : (d word : ℕ) (s : LowState) → Good s → Leads (sets reading setting d word s)
  sets_word d word s g = if_test s (nat_lt d s.active.count) _ g.0 g.2 (λ h. g)

  no_room : (n : ℕ) (s : LowState) → Good s → nat_le (s.alloc + 8 * n) setting.top ≡ false
      → Leads (finds_no_room reading setting n s)
  no_room n s g h =
      let over = lacks_room setting.region s.alloc s.words n setting.top g.0.0 h in
      (inr (refl, over), λ c w. over, g.2)

  builds : (d : ℕ) (ws : List ℕ) (s : LowState) → Good s → Leads (build reading setting d ws s)
  builds d ws s g =
      if_test s (nat_lt (length ws) 256) _ g.0 g.2 (λ few.
      by_room (nat_le (s.alloc + 8 * length ws) setting.top) _ _ (λ h.
      sets_word d s.alloc (record s {
        memory = store_words ws s.alloc s.memory;
        alloc = s.alloc + 8 * length ws;
        words = s.words + length ws;
      }) (
        (
          moved setting.region s.alloc s.words (length ws) g.0.0,
          λ le. has_room s.alloc (length ws) setting.top h,
        ),
        g.1,
        g.2,
      )) (no_room (length ws) s g))

  requests : (d n : ℕ) (s : LowState) → Good s → Leads (request reading setting d n s)
  requests d n s g =
      by_room (nat_le (s.alloc + 8 * n) setting.top) _ _ (λ h. sets_word d s.alloc s g) (no_room n s g)

  takes : (n : ℕ) (s : LowState) → Good s → Leads (take_words reading setting n s)
  takes n s g =
      if_test s (nat_le (s.alloc + 8 * n) setting.top) _ g.0 g.2 (λ h. (
        (
          moved setting.region s.alloc s.words n g.0.0,
          λ le. has_room s.alloc n setting.top h,
        ),
        g.1,
        g.2,
      ))

  -- a procedure of the program is entered, with these that wait
  enters : (o : Option Proc) (ws : List ℕ) (s : LowState) → Filled s → Holds s
      → ((P : Proc → Type 0) → Each P setting.procs → (p : Proc) → o ≡ Some p → P p)
      → (Calm → WaitingSpare s.waiting) → Leads (enter_some reading setting o ws s)
  enters o ws s f h each waiting =
      if_given s o _ f h (λ p e.
      if_test s ((length ws == p.params) && (nat_le p.params 8 && nat_le p.params p.words)) _ f h (λ _.
      let s1 : LowState = record s {
        active = record { count = p.words; locals = bind 0 ws no_locals; code = p.code; rests = [] };
      } in
      let good : Good s1 = (
        f,
        λ c. (each (λ q. Spares q.code) c p e, tt, waiting c),
        λ l. (each (λ q. q.words ≤ most) l p e, (h l).1),
      ) in good))

  answered : (waiting : List Waiting) (word : ℕ) (s : LowState) → Filled s → Holds s
      → (Calm → WaitingSpare waiting) → (Each (λ p. p.words ≤ most) setting.procs → WaitingHold most waiting)
      → Leads (answers reading setting waiting word s)
  answered [] word s f o w h = (inl f, λ c want. absurd (not_region (want.alone _ refl)), o)
    where
      not_region : {e : Verdict} → Ended e ≡ Lacks Region → ⊥
      not_region e = cc
  answered (x ∷ xs) word s f o w h =
      if_test s (nat_lt x.answer x.rest.count) _ f o (λ _.
      let good : Good (record s { active = with_local x.answer word x.rest; waiting = xs }) = (f, w, h) in good)

  falls_behind : (rests : List Code) (s : LowState) → Filled s → Holds s
      → (Calm → EachSpares rests × WaitingSpare s.waiting) → Leads (falls reading setting rests s)
  falls_behind [] s f o q = goes_wrong s f o
  falls_behind (r ∷ rs) s f o q = (f, λ c. let x = q c in (x.0.0, x.0.1, x.1), o)

  settles : (effect : Effect) (s : LowState) (go : ℕ → ℕ → LowState) → Filled s → Holds s
      → ((a b : ℕ) → Good (go a b)) → (Calm → effect ≢ Halts (Lacks Region)) → Leads (settle reading effect s go)
  settles (Goes a b) s go f o g n = g a b
  settles (Halts halt) s go f o g n = (inl f, λ c w. absurd (n c (ap Halts (w.alone halt refl))), o)
  settles Lost s go f o g n = goes_wrong s f o

  calls_out : (number a b d e : ℕ) (s : LowState) → Good s → (Calm → (number % 2 ^ 64 == 5) ≡ false)
      → Leads (call_environment reading setting number a b d e s)
  calls_out number a b d e s g n =
      let called = environment_call (number % 2 ^ 64) a b (length setting.labels) s.world in
      if_test s (nat_lt d s.active.count) _ g.0 g.2 (λ h.
      if_test s (nat_lt e s.active.count) _ g.0 g.2 (λ k.
      settles (effect_of setting.labels called.effect) s _ g.0 g.2 (λ x y. g) (λ c.
      call_has_room Region setting.labels (number % 2 ^ 64) a b (length setting.labels) s.world (n c))))

  word_at : (a : LowSource) (s : LowState) (go : ℕ → Next LowState V) → Filled s → Holds s
      → ((x : ℕ) → Leads (go x)) → Leads (given s (word_of s.active.locals a) go)
  word_at a s go f o h = if_given s (word_of s.active.locals a) go f o (λ x e. h x)

  words_at : (args : List LowSource) (s : LowState) (go : List ℕ → Next LowState V) → Filled s → Holds s
      → ((ws : List ℕ) → Leads (go ws)) → Leads (given s (words_of s.active.locals args) go)
  words_at args s go f o h = if_given s (words_of s.active.locals args) go f o (λ ws e. h ws)

  step : (code : Code) (s : LowState) → Left code s → Leads (code_step reading setting code s)
  step Done s g = falls_behind s.active.rests s g.0 g.2 (λ c. let q = g.1 c in (q.1, q.2))
  step (Set d a rest) s g = word_at a s _ g.0 g.2 (λ x. sets_word d x (goes_on rest s.active.rests s) g)
  step (Compute op d a b rest) s g =
      word_at a s _ g.0 g.2 (λ x. word_at b s _ g.0 g.2 (λ y.
      sets_word d _ (goes_on rest s.active.rests s) g))
  step (Load d a offset rest) s g =
      let s1 : LowState = goes_on rest s.active.rests s in
      word_at a s _ g.0 g.2 (λ x.
      if_test s1 (may_load setting.top (plus x (pos offset))) _ g.0 g.2 (λ h. sets_word d _ s1 g))
  step (Store b a offset rest) s g =
      let s1 : LowState = goes_on rest s.active.rests s in
      word_at a s _ g.0 g.2 (λ x. word_at b s _ g.0 g.2 (λ y.
      if_test s1 (may_store setting.region setting.top (plus x (pos offset))) _ g.0 g.2 (λ k. g)))
  step (CodeOf d k rest) s g =
      if_given s (slice_get setting.procs k) _ g.0 g.2 (λ p e.
      sets_word d (setting.address k) (goes_on rest s.active.rests s) g)
  step (Build d args rest) s g = words_at args s _ g.0 g.2 (λ ws. builds d ws (goes_on rest s.active.rests s) g)
  step (Request d a rest) s g = word_at a s _ g.0 g.2 (λ n. requests d n (goes_on rest s.active.rests s) g)
  step (Take a rest) s g = word_at a s _ g.0 g.2 (λ n. takes n (goes_on rest s.active.rests s) g)
  step (Environment number a b d e rest) s g =
      word_at a s _ g.0 g.2 (λ x. word_at b s _ g.0 g.2 (λ y.
      calls_out number x y d e (goes_on rest s.active.rests s)
      (g.0, λ c. let q = g.1 c in ((or_parts _ _ q.0).1, q.1, q.2), g.2)
      (λ c. (or_parts _ _ (g.1 c).0).0)))
  step (Call d k args rest) s g =
      words_at args s _ g.0 g.2 (λ ws.
      enters (slice_get setting.procs k) ws (waits reading setting d (goes_on rest s.active.rests s)) g.0
      (λ l. let o = g.2 l in (o.0, (o.0, o.1))) (λ P c p h. numbered P setting.procs k p c h) g.1)
  step (CallAt d f args rest) s g =
      word_at f s _ g.0 g.2 (λ at. words_at args s _ g.0 g.2 (λ ws.
      enters (proc_from setting.address at 0 setting.procs) ws
      (waits reading setting d (goes_on rest s.active.rests s)) g.0
      (λ l. let o = g.2 l in (o.0, (o.0, o.1))) (λ P c p h. addressed P setting.address at 0 setting.procs p c h)
      g.1))
  step (If cond a b one other rest) s g =
      word_at a s _ g.0 g.2 (λ x. word_at b s _ g.0 g.2 (λ y. branches (holds cond x y)))
    where
      branches : (test : Bool) → Good (goes_on (if test then one else other) (rest ∷ s.active.rests) s)
      branches true = (
        g.0,
        λ c. let q = g.1 c in let n = or_parts _ _ q.0 in
            (n.0, ((or_parts _ _ n.1).1, q.1), q.2),
        g.2,
      )
      branches false = (
        g.0,
        λ c. let q = g.1 c in let n = or_parts _ _ (or_parts _ _ q.0).1 in
            (n.0, (n.1, q.1), q.2),
        g.2,
      )
  step (Return a) s g =
      word_at a s _ g.0 g.2 (λ x.
      answered s.waiting x s g.0 g.2 (λ c. (g.1 c).2) (λ l. (g.2 l).1))
  step (TailCall k args) s g =
      words_at args s _ g.0 g.2 (λ ws.
      enters (slice_get setting.procs k) ws s g.0 g.2 (λ P c p h. numbered P setting.procs k p c h)
      (λ c. (g.1 c).2))
  step (TailCallAt f args) s g =
      word_at f s _ g.0 g.2 (λ at. words_at args s _ g.0 g.2 (λ ws.
      enters (proc_from setting.address at 0 setting.procs) ws s g.0 g.2
      (λ P c p h. addressed P setting.address at 0 setting.procs p c h) (λ c. (g.1 c).2)))

  -- ---- runs

  abbrev M : Machine LowState LowShown V
  M = low_machine reading setting

  along : (n : ℕ) (s : LowState) → Good s → Leads (steps M s n)
  along n s g = leads_along M Good AtEnd (λ s1 g1. step s1.active.code s1 g1) n s g

  starts : (entry : ℕ) (p : Proc) (memory : Memory) (world : WorldState)
      → slice_get setting.procs entry ≡ Some p → Good (low_start setting p memory world)
  starts entry p memory world is =
      let first : setting.region ≡ setting.region + 8 * 0 = omega arith in (
        (first, λ le. le),
        λ c. (numbered (λ q. Spares q.code) setting.procs entry p c is, tt, tt),
        λ l. (numbered (λ q. q.words ≤ most) setting.procs entry p l is, tt),
      )

  none_is_some : (e : Ending V) → None ≡ Some e → ⊥
  none_is_some e h = cc

  some_is_none : (e : Ending V) → Some e ≡ None → ⊥
  some_is_none e h = cc

  some_is : (a b : Ending V) → Some a ≡ Some b → a ≡ b
  some_is a b h = cc

  fills : setting.region ≤ setting.top → (s : LowState) → Filled s → FillsUpTo setting (M.shown s)
  fills le s f = record { taken = f.0; fits = f.1 le }

  ended_so : setting.region ≤ setting.top → (e : Ending V) (s : LowState)
      → (Filled s ⊎ ((e ≡ reading (Lacks Region)) × ExceedsIn s))
      → FillsUpTo setting (M.shown s) ⊎ ((e ≡ reading (Lacks Region)) × Exceeds setting (M.shown s))
  ended_so le e s (inl f) = inl (fills le s f)
  ended_so le e s (inr x) = inr x

  counts : setting.region ≤ setting.top → (x : Next LowState V) → Leads x → CountsWords reading setting (seen M x)
  counts le (Go s) g = record {
    going = λ h. fills le s g.0;
    ended = λ e h. absurd (none_is_some e h);
    lacking = λ c e h w. absurd (none_is_some e h);
  }
  counts le (Stop o s) a = record {
    going = λ h. absurd (some_is_none o h);
    ended = λ e h. ended_so le e s (subst (λ x. AtEnd x s) (some_is o e h) a).0;
    lacking = λ c e h w. (subst (λ x. AtEnd x s) (some_is o e h) a).1 (each_spares setting.procs c) w;
  }

  all_hold : (s : LowState) → Each (λ p. p.words ≤ most) setting.procs → Holds s
      → (M.shown s).held ≤ (M.shown s).frames * most
  all_hold s l h =
      sum s.active.count (held_by s.waiting) (length s.waiting) (h l).0 (held_in_all most s.waiting (h l).1)
    where
      sum : (count held waiting : ℕ) → count ≤ most → held ≤ waiting * most
          → count + held ≤ (waiting + 1) * most
      sum count held waiting h k = grind arith

  holds_at : (x : Next LowState V) → Each (λ p. p.words ≤ most) setting.procs → Leads x
      → (seen M x).shown.held ≤ (seen M x).shown.frames * most
  holds_at (Go s) l g = all_hold s l g.2
  holds_at (Stop e s) l a = all_hold s l a.2

pub words_are_counted_where_they_are_taken : {V : Type 0} (reading : Halt → Ending V) (setting : Setting) (entry : ℕ)
    (p : Proc) (memory : Memory) (world : WorldState) (n : ℕ) → setting.region ≤ setting.top
    → slice_get setting.procs entry ≡ Some p
    → CountsWords reading setting (run (low_machine reading setting) (low_start setting p memory world) n)
words_are_counted_where_they_are_taken reading setting entry p memory world n fits is =
    counts reading setting 0 fits _ (along reading setting 0 n _ (starts reading setting 0 entry p memory world is))

pub active_procedures_hold_their_words : {V : Type 0} (reading : Halt → Ending V) (setting : Setting)
    (most entry : ℕ) (p : Proc) (memory : Memory) (world : WorldState) (n : ℕ)
    → All (λ (q : Proc). q.words ≤ most) setting.procs → slice_get setting.procs entry ≡ Some p
    → (run (low_machine reading setting) (low_start setting p memory world) n).shown.held
    ≤ (run (low_machine reading setting) (low_start setting p memory world) n).shown.frames * most
active_procedures_hold_their_words reading setting most entry p memory world n few is =
    holds_at reading setting most _ (each_holds most setting.procs few)
    (along reading setting most n _ (starts reading setting most entry p memory world is))

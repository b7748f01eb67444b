-- Steps over words, whatever they are: storage only grows, by what is taken; frames take the room of one procedure more
-- at most, which is one of the program; and a step that ends the run with a verdict is cheap.
use Rattle.std.proofs.Common.{◌≡◌, ℕ, ◌+◌, ◌*◌, ◌≤◌, Bool, true, false, List, [], ◌∷◌, length, Option}
use Rattle.std.proofs.Common.{Some, None, refl, sym, ap, subst, arith, le_refl, zero, suc, All}
use Rattle.std.proofs.lemmas.List.Elements.{All-head, All-tail}
use Rattle.std.specs.Prelude.{◌==◌, ◌&&◌, nat_lt, nat_le, if◌then◌else◌, slice_get, pos}
use Rattle.run_laws.specs.Runs.{Ending, Verdict as EndsWith, Exhausted, Wrong}
use Rattle.run_laws.specs.Machines.{Next, Go, Stop}
use Rattle.grift_base.specs.declared.verdicts.Verdict.{Verdict}
use Rattle.machine_words.specs.Halts.{ending_of}
use Rattle.grift_base.specs.declared.verdicts.AnswerKind.TheVariants.{Int as IntKind}
use Rattle.grift_base.specs.declared.verdicts.Verdict.TheVariants.{Answer}
use Rattle.std.specs.Int.{w64, cast_signed}
use Rattle.machine_words.specs.Halts.{Halt, Ended}
use Rattle.machine_words.specs.Arithmetic.{plus}
use Rattle.low_ir.specs.Procedures.{Code, Done, Set, Compute, Load, Store, CodeOf, Build, Request, Take, Environment}
use Rattle.low_ir.specs.Procedures.{Call, CallAt, If, Return, TailCall, TailCallAt, Proc}
use Rattle.low_ir.specs.Prices.{step_price, low_price}
use Rattle.low_ir.specs.Steps.{given, only_if, settle, may_load, may_store, Effect, Goes, Halts, Lost}
use Rattle.low_ir.specs.Run.{Setting, Waiting, LowState, code_step, falls, answers, word_of, words_of, proc_from}
use Rattle.low_ir.specs.Run.{with_local}
use Rattle.low_ir.specs.declared.code.LowSource.TheVariants.{Number}
use Rattle.low_ir.specs.Frames.{frame_room, waiting_room, stack_room}
use Rattle.lower.proofs.words.EmitPrices.{source_most, slot_most, leaving_most}

-- ---- no procedure has more than so many words

abbrev pub AreSized : ℕ → List Proc → Type 0
AreSized most procs = All (λ (p : Proc). p.words ≤ most) procs

abbrev pub WaitingSized : ℕ → List Waiting → Type 0
WaitingSized most [] = Unit {0}
WaitingSized most (w ∷ ws) = (w.rest.count ≤ most) × WaitingSized most ws

-- nor has one that was entered
pub record Sized (most : ℕ) (t : LowState) : Type 0 where
  pub active : t.active.count ≤ most
  pub waiting : WaitingSized most t.waiting

-- behind a step from a state no procedure has more either, and frames take the room of one more at most
pub record Sizes (setting : Setting) (s t : LowState) (most : ℕ) : Type 0 where
  pub sized : Sized most t
  pub room : stack_room t ≤ stack_room s + frame_room most

pub numbered_words : (most : ℕ) (ps : List Proc) (k : ℕ) (p : Proc) → AreSized most ps → slice_get ps k ≡ Some p
    → p.words ≤ most
numbered_words most [] k p c e = absurd (let z : ⊥ = cc in z)
numbered_words most (q ∷ ps) zero p c e =
    let is : q ≡ p = cc in subst (λ x. x.words ≤ most) is (All-head (λ x. x.words ≤ most) q ps c)
numbered_words most (q ∷ ps) (suc k) p c e =
    numbered_words most ps k p (All-tail (λ x. x.words ≤ most) q ps c) e

addressed_words : (most : ℕ) (address : ℕ → ℕ) (at k : ℕ) (ps : List Proc) (p : Proc) → AreSized most ps
    → proc_from address at k ps ≡ Some p → p.words ≤ most
addressed_words most address at k [] p c e = absurd (let z : ⊥ = cc in z)
addressed_words most address at k (q ∷ ps) p c e =
    by_address (address k == at) e
    (λ f. addressed_words most address at (suc k) ps p (All-tail (λ x. x.words ≤ most) q ps c) f)
  where
    by_address : (b : Bool) → (if b then Some q else proc_from address at (suc k) ps) ≡ Some p
        → (proc_from address at (suc k) ps ≡ Some p → p.words ≤ most) → p.words ≤ most
    by_address true f later =
        let is : q ≡ p = cc in subst (λ x. x.words ≤ most) is (All-head (λ x. x.words ≤ most) q ps c)
    by_address false f later = later f

pub frame_most : (count most : ℕ) → count ≤ most → frame_room count ≤ frame_room most
frame_most count most le = omega (arith, le)

-- ---- what a step does

-- from one state to another
pub record Grows (setting : Setting) (s t : LowState) : Type 0 where
  pub words : s.words ≤ t.words
  pub taken : t.alloc + 8 * s.words ≡ s.alloc + 8 * t.words
  pub sizes : (most : ℕ) → AreSized most setting.procs → Sized most s → Sizes setting s t most

-- where a step leads, at such a price
abbrev pub Stepped : Setting → ℕ → LowState → Next LowState Verdict → Type 0
Stepped setting n s (Go t) = Grows setting s t
Stepped setting n s (Stop (EndsWith v) t) =
    (n ≤ 100) × (t.alloc ≡ s.alloc) × (t.words ≡ s.words) × (stack_room t ≤ stack_room s)
Stepped setting n s (Stop Exhausted t) = (t.alloc ≡ s.alloc) × (s.words ≤ t.words) × (stack_room t ≤ stack_room s)
Stepped setting n s (Stop Wrong t) = Unit {0}

module _ (setting : Setting) (s t : LowState) where
  -- in the same procedure
  same_frames : s.words ≤ t.words → t.alloc + 8 * s.words ≡ s.alloc + 8 * t.words → t.active.count ≡ s.active.count
      → t.waiting ≡ s.waiting → Grows setting s t
  same_frames words taken e same = record {
    words = words;
    taken = taken;
    sizes = λ most each z. record {
      sized = record {
        active = let a = z.active in omega (arith, a, e);
        waiting = subst (WaitingSized most) (sym same) z.waiting;
      };
      room = let f = ap frame_room e in let g = ap waiting_room same in omega (arith, f, g);
    };
  }

  unchanged : t.words ≡ s.words → t.alloc ≡ s.alloc → t.active.count ≡ s.active.count → t.waiting ≡ s.waiting
      → Grows setting s t
  unchanged w a e same = same_frames (omega (arith, w)) (omega (arith, w, a)) e same

  -- another procedure is entered in its place, or over it
  enters : (p : Proc) → ((most : ℕ) → AreSized most setting.procs → p.words ≤ most) → t.words ≡ s.words
      → t.alloc ≡ s.alloc → t.active.count ≡ p.words → t.waiting ≡ s.waiting → Grows setting s t
  enters p few w a e same = record {
    words = omega (arith, w);
    taken = omega (arith, w, a);
    sizes = λ most each z. record {
      sized = record {
        active = let le = few most each in omega (arith, le, e);
        waiting = subst (WaitingSized most) (sym same) z.waiting;
      };
      room =
          let f = frame_most p.words most (few most each) in
          let g = ap frame_room e in let h = ap waiting_room same in omega (arith, f, g, h);
    };
  }

  enters_over : (p : Proc) → ((most : ℕ) → AreSized most setting.procs → p.words ≤ most) → t.words ≡ s.words
      → t.alloc ≡ s.alloc → t.active.count ≡ p.words → (caller : Waiting) → t.waiting ≡ caller ∷ s.waiting
      → caller.rest.count ≡ s.active.count → Grows setting s t
  enters_over p few w a e caller over same = record {
    words = omega (arith, w);
    taken = omega (arith, w, a);
    sizes = λ most each z. record {
      sized = record {
        active = let le = few most each in omega (arith, le, e);
        waiting = subst (WaitingSized most) (sym over) (let b = z.active in omega (arith, b, same), z.waiting);
      };
      room =
          let f = frame_most p.words most (few most each) in
          let g = ap frame_room e in
          let h = ap waiting_room over in let i = ap frame_room same in omega (arith, f, g, h, i);
    };
  }

  -- the one that waits last goes on
  comes_back : t.words ≡ s.words → t.alloc ≡ s.alloc → (last : Waiting) → s.waiting ≡ last ∷ t.waiting
      → t.active.count ≡ last.rest.count → Grows setting s t
  comes_back w a last over same = record {
    words = omega (arith, w);
    taken = omega (arith, w, a);
    sizes = λ most each z.
        let both : WaitingSized most (last ∷ t.waiting) = subst (WaitingSized most) over z.waiting in
        record {
          sized = record { active = let b = both.0 in omega (arith, b, same); waiting = both.1 };
          room = let f = ap waiting_room over in let g = ap frame_room same in omega (arith, f, g);
        };
  }

module _ (setting : Setting) (s : LowState) (n : ℕ) where
  abbrev To : Next LowState Verdict → Type 0
  To x = Stepped setting n s x

  if_given : {A : Type 0} (s0 : LowState) (o : Option A) (go : A → Next LowState Verdict)
      → ((x : A) → o ≡ Some x → To (go x)) → To (given s0 o go)
  if_given s0 None go h = tt
  if_given s0 (Some x) go h = h x refl

  if_test : (s0 : LowState) (b : Bool) (go : Next LowState Verdict) → To go → To (only_if s0 b go)
  if_test s0 true go h = h
  if_test s0 false go h = tt

  by_room : (b : Bool) (x y : Next LowState Verdict) → To x → To y → To (if b then x else y)
  by_room true x y h k = h
  by_room false x y h k = k

  halts : n ≤ 100 → (halt : Halt) → To (Stop (ending_of halt) s)
  halts le halt = by (ending_of halt)
    where
      by : (e : Ending Verdict) → To (Stop e s)
      by (EndsWith v) = (le, refl, refl, le_refl (stack_room s))
      by Exhausted = (refl, le_refl s.words, le_refl (stack_room s))
      by Wrong = tt

  settled : n ≤ 100 → (effect : Effect) (s0 : LowState) (go : ℕ → ℕ → LowState) → s0.words ≡ s.words
      → s0.alloc ≡ s.alloc → stack_room s0 ≤ stack_room s → ((a b : ℕ) → Grows setting s (go a b))
      → To (settle ending_of effect s0 go)
  settled le (Goes a b) s0 go w c r h = h a b
  settled le (Halts halt) s0 go w c r h = by (ending_of halt)
    where
      by : (e : Ending Verdict) → To (Stop e s0)
      by (EndsWith v) = (le, c, w, r)
      by Exhausted = (c, omega (arith, w), r)
      by Wrong = tt
  settled le Lost s0 go w c r h = tt

  fallen : (rests : List Code) → To (falls ending_of setting rests s)
  fallen [] = tt
  fallen (r ∷ rs) = unchanged setting s _ refl refl refl refl

pub stepped : (setting : Setting) (s : LowState) (code : Code)
    → Stepped setting (step_price setting.procs s.active.count code) s (code_step ending_of setting code s)
stepped setting s Done = fallen setting s 10 s.active.rests
stepped setting s (Set d a rest) =
    if_given setting s _ s (word_of s.active.locals a) _ (λ x x_is. if_test setting s _ _ (nat_lt d s.active.count) _
    (unchanged setting s _ refl refl refl refl))
stepped setting s (Compute op d a b rest) =
    if_given setting s _ s (word_of s.active.locals a) _ (λ x x_is. if_given setting s _ s (word_of s.active.locals b)
    _ (λ y y_is. if_test setting s _ _ (nat_lt d s.active.count) _ (unchanged setting s _ refl refl refl refl)))
stepped setting s (If cond a b one other rest) =
    if_given setting s _ s (word_of s.active.locals a) _ (λ x x_is. if_given setting s _ s (word_of s.active.locals b)
    _ (λ y y_is. unchanged setting s _ refl refl refl refl))
stepped setting s (Load d a offset rest) =
    if_given setting s _ s (word_of s.active.locals a) _ (λ x x_is. if_test setting s _ _
    (may_load setting.top (plus x (pos offset))) _ (if_test setting s _ _ (nat_lt d s.active.count) _
    (unchanged setting s _ refl refl refl refl)))
stepped setting s (Store b a offset rest) =
    if_given setting s _ s (word_of s.active.locals a) _ (λ x x_is. if_given setting s _ s (word_of s.active.locals b)
    _ (λ y y_is. if_test setting s _ _ (may_store setting.region setting.top (plus x (pos offset))) _
    (unchanged setting s _ refl refl refl refl)))
stepped setting s (CodeOf d k rest) =
    if_given setting s _ s (slice_get setting.procs k) _ (λ p p_is. if_test setting s _ _ (nat_lt d s.active.count) _
    (unchanged setting s _ refl refl refl refl))
stepped setting s (Build d args rest) =
    if_given setting s _ s (words_of s.active.locals args) _ (λ ws ws_is. if_test setting s _ _
    (nat_lt (length ws) 256) _ (by_room setting s _ (nat_le (s.alloc + 8 * length ws) setting.top) _ _
    (if_test setting s _ _ (nat_lt d s.active.count) _
    (same_frames setting s _ (omega arith) (omega arith) refl refl)) (refl, omega arith, le_refl (stack_room s))))
stepped setting s (Request d a rest) =
    if_given setting s _ s (word_of s.active.locals a) _ (λ n n_is. by_room setting s _
    (nat_le (s.alloc + 8 * n) setting.top) _ _
    (if_test setting s _ _ (nat_lt d s.active.count) _ (unchanged setting s _ refl refl refl refl))
    (refl, omega arith, le_refl (stack_room s)))
stepped setting s (Take a rest) =
    if_given setting s _ s (word_of s.active.locals a) _ (λ n n_is. if_test setting s _ _
    (nat_le (s.alloc + 8 * n) setting.top) _ (same_frames setting s _ (omega arith) (omega arith) refl refl))
stepped setting s (Environment number a b d f rest) =
    if_given setting s _ s (word_of s.active.locals a) _ (λ x x_is. if_given setting s _ s (word_of s.active.locals b)
    _ (λ y y_is. if_test setting s _ _ (nat_lt d s.active.count) _ (if_test setting s _ _ (nat_lt f s.active.count) _
    (settled setting s _
    (let p = source_most a in
    let q = source_most b in
    let r = source_most (Number number) in
    let u = slot_most d in let v = slot_most f in omega (arith, p, q, r, u, v)) _ _ _ refl refl (le_refl (stack_room s))
    (λ u v. unchanged setting s _ refl refl refl refl)))))
stepped setting s (Call d k args rest) =
    if_given setting s _ s (words_of s.active.locals args) _ (λ ws ws_is. if_given setting s _ _
    (slice_get setting.procs k) _ (λ p p_is. if_test setting s _ _
    ((length ws == p.params) && (nat_le p.params 8 && nat_le p.params p.words)) _
    (enters_over setting s _ p (λ most each. numbered_words most setting.procs k p each p_is) refl refl refl _ refl
    refl)))
stepped setting s (CallAt d f args rest) =
    if_given setting s _ s (word_of s.active.locals f) _ (λ at at_is. if_given setting s _ s
    (words_of s.active.locals args) _ (λ ws ws_is. if_given setting s _ _
    (proc_from setting.address at 0 setting.procs) _ (λ p p_is. if_test setting s _ _
    ((length ws == p.params) && (nat_le p.params 8 && nat_le p.params p.words)) _
    (enters_over setting s _ p
    (λ most each. addressed_words most setting.address at 0 setting.procs p each p_is) refl refl refl _ refl refl))))
stepped setting s (Return a) =
    if_given setting s _ s (word_of s.active.locals a) _ (λ x x_is. answered s.waiting refl x)
  where
    cheap : step_price setting.procs s.active.count (Return a) ≤ 100
    cheap = let p = source_most a in let q = leaving_most s.active.count in omega (arith, p, q)

    answered : (ws : List Waiting) → s.waiting ≡ ws → (word : ℕ)
        → Stepped setting (step_price setting.procs s.active.count (Return a)) s (answers ending_of setting ws word s)
    answered [] e word =
        halts setting s (step_price setting.procs s.active.count (Return a)) cheap
        (Ended (Answer (record { kind = IntKind; word = cast_signed w64 word })))
    answered (w ∷ ws) e word =
        if_test setting s (step_price setting.procs s.active.count (Return a)) s (nat_lt w.answer w.rest.count)
        (Go (record s { active = with_local w.answer word w.rest; waiting = ws }))
        (comes_back setting s (record s { active = with_local w.answer word w.rest; waiting = ws }) refl refl w e refl)
stepped setting s (TailCall k args) =
    if_given setting s _ s (words_of s.active.locals args) _ (λ ws ws_is. if_given setting s _ _
    (slice_get setting.procs k) _ (λ p p_is. if_test setting s _ _
    ((length ws == p.params) && (nat_le p.params 8 && nat_le p.params p.words)) _
    (enters setting s _ p (λ most each. numbered_words most setting.procs k p each p_is) refl refl refl refl)))
stepped setting s (TailCallAt f args) =
    if_given setting s _ s (word_of s.active.locals f) _ (λ at at_is. if_given setting s _ s
    (words_of s.active.locals args) _ (λ ws ws_is. if_given setting s _ _
    (proc_from setting.address at 0 setting.procs) _ (λ p p_is. if_test setting s _ _
    ((length ws == p.params) && (nat_le p.params 8 && nat_le p.params p.words)) _
    (enters setting s _ p (λ most each. addressed_words most setting.address at 0 setting.procs p each p_is) refl refl
    refl refl))))

-- a step that ends the run with a verdict is cheap, leaves storage as it is, and enters no procedure
pub stops_cheaply : (setting : Setting) (s last : LowState) (v : Verdict)
    → code_step ending_of setting s.active.code s ≡ Stop (EndsWith v) last
    → (low_price setting.procs s ≤ 100) × (last.alloc ≡ s.alloc) × (last.words ≡ s.words)
    × (stack_room last ≤ stack_room s)
stops_cheaply setting s last v e =
    subst (Stepped setting (low_price setting.procs s) s) e (stepped setting s s.active.code)

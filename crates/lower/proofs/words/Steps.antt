-- Steps of the run over words, in the style of "and then": each lemma puts a step in front of what comes after it. What
-- they cost is told by what is left to pay of the procedure, so no lemma on code speaks of prices.
use Rattle.std.proofs.Common.{◌≡◌, ◌⊎◌, inl, inr, ℕ, ◌+◌, ◌*◌, ◌^◌, ◌%◌, ◌<◌, ◌≤◌, Bool, true, false, List}
use Rattle.std.proofs.Common.{[], ◌∷◌, Some, refl, ap, ◌∙◌, subst, arith, length, le_refl}
use Rattle.std.specs.Prelude.{◌==◌, ◌&&◌, nat_lt, nat_le, slice_get, pos, max, if◌then◌else◌}
use Rattle.run_laws.specs.Runs.{Exhausted}
use Rattle.run_laws.specs.Machines.{Go, Stop, Machine}
use Rattle.grift_base.specs.World.{WorldState}
use Rattle.grift_base.specs.EnvironmentCall.{environment_call}
use Rattle.grift_base.specs.declared.verdicts.Verdict.{Verdict}
use Rattle.machine_words.specs.declared.conditions.Cond.{Cond}
use Rattle.machine_words.specs.Memory.{load_bytes, store_bytes}
use Rattle.machine_words.specs.Halts.{ending_of}
use Rattle.machine_words.specs.Arithmetic.{plus}
use Rattle.machine_words.specs.Conditions.{holds}
use Rattle.low_ir.specs.declared.code.WordOp.{WordOp}
use Rattle.low_ir.specs.declared.code.LowSource.{LowSource}
use Rattle.low_ir.specs.Operations.{compute}
use Rattle.low_ir.specs.Procedures.{Code, Done, Set, Compute, Load, Store, CodeOf, Build, Request, Take, CallAt}
use Rattle.low_ir.specs.Procedures.{If}
use Rattle.low_ir.specs.Procedures.{TailCallAt, Proc, Environment}
use Rattle.grift_base.specs.declared.worlds.EnvEffect.TheVariants.{Next as GoesOn}
use Rattle.low_ir.specs.Steps.{Locals, no_locals, set_local, given, only_if, may_load, may_store, store_words}
use Rattle.low_ir.specs.Run.{Setting, Waiting, LowState, LowShown, word_of, words_of, bind, proc_from}
use Rattle.low_ir.specs.Run.{low_machine, load, store, sets}
use Rattle.low_ir.specs.Prices.{step_price, code_price, codes_price, left_to_pay, low_price}
use Rattle.rt_cast.specs.States.{Heap}
use Rattle.lower.proofs.words.Credits.{By, SomeBy, by_now, by_go, by_stop, by_more, by_then_some, some_more}
use Rattle.lower.proofs.words.Credits.{some_go}

pub plus_is : (x n : ℕ) → x + n < 2 ^ 64 → plus x (pos n) ≡ x + n
plus_is x n h = grind arith

pub le_true : (a b : ℕ) → a ≤ b → nat_le a b ≡ true
le_true a b h = grind arith

pub le_false : (a b : ℕ) → b < a → nat_le a b ≡ false
le_false a b h = grind arith

pub lt_true : (a b : ℕ) → a < b → nat_lt a b ≡ true
lt_true a b h = grind arith

abbrev pub le_cases : (b : Bool) → (b ≡ true) ⊎ (b ≡ false)
le_cases true = inl refl
le_cases false = inr refl

-- a procedure of so many words goes on with this code
abbrev pub at : WorldState → Heap → List Waiting → ℕ → List Code → Locals → Code → LowState
at world h waiting count rests locals code = record {
  active = record { count = count; locals = locals; code = code; rests = rests };
  waiting = waiting;
  memory = h.memory;
  alloc = h.alloc;
  world = world;
  words = h.words;
}

-- a procedure waits for the answer of a call
abbrev pub waiting_for : ℕ → ℕ → List Code → Locals → Code → Waiting
waiting_for d count rests locals code = record {
  rest = record { count = count; locals = locals; code = code; rests = rests };
  answer = d;
}

-- what is to hold at the end, told how much of what is left to pay was left, which is no less than a floor; and what
-- may
-- be paid besides
pub record Goal : Type 1 where
  pub extra : ℕ
  pub floor : ℕ
  pub holds : ℕ → LowState → Type 0
  pub least : (left : ℕ) (t : LowState) → holds left t → floor ≤ left

-- with nothing besides
abbrev pub plain : Goal → Goal
plain Q = record { extra = 0; floor = Q.floor; holds = Q.holds; least = Q.least }

-- a step, the code behind it and the codes behind the branches around it
pub step_first : (n k r : ℕ) → n + (k + r) ≤ n + k + r
step_first n k r = omega arith

-- one of two branches
pub either_branch : (n a b k r : ℕ) (c : Bool) → n + ((if c then a else b) + (k + r)) ≤ n + max a b + k + r
either_branch n a b k r true = grind arith
either_branch n a b k r false = grind arith

chosen : (price : Code → ℕ) (one other : Code) (c : Bool)
    → (if c then price one else price other) ≡ price (if c then one else other)
chosen price one other true = refl
chosen price one other false = refl

abbrev pub left_of : Setting → LowState → ℕ
left_of setting t = left_to_pay setting.procs t.active

module _ (setting : Setting) (count : ℕ) (rests : List Code) where
  -- a step to the code behind it
  pub behind : (code rest : Code) → step_price setting.procs count code
      + (code_price setting.procs count rest + codes_price setting.procs count rests)
      ≤ step_price setting.procs count code + code_price setting.procs count rest
      + codes_price setting.procs count rests
  behind code rest =
      step_first (step_price setting.procs count code) (code_price setting.procs count rest)
      (codes_price setting.procs count rests)

  -- to one of two branches
  branch : (cond : Cond) (a b : LowSource) (one other rest : Code) (c : Bool)
      → step_price setting.procs count (If cond a b one other rest)
      + (code_price setting.procs count (if c then one else other)
      + (code_price setting.procs count rest + codes_price setting.procs count rests))
      ≤ code_price setting.procs count (If cond a b one other rest) + codes_price setting.procs count rests
  branch cond a b one other rest c =
      subst (λ n. step_price setting.procs count (If cond a b one other rest)
      + (n + (code_price setting.procs count rest + codes_price setting.procs count rests))
      ≤ code_price setting.procs count (If cond a b one other rest) + codes_price setting.procs count rests)
      (chosen (code_price setting.procs count) one other c)
      (either_branch (step_price setting.procs count (If cond a b one other rest)) (code_price setting.procs count one)
      (code_price setting.procs count other) (code_price setting.procs count rest)
      (codes_price setting.procs count rests) c)

module _ (setting : Setting) (P : LowState → Type 0) (Q : Goal) where
  abbrev pub N : Machine LowState LowShown Verdict
  N = low_machine ending_of setting

  abbrev pub Left : LowState → ℕ
  Left t = left_of setting t

  -- the machine comes to where Q holds, or is exhausted, by what is left to pay and what may be paid besides; P holds
  -- on
  -- the way
  abbrev pub Comes : LowState → Type 0
  Comes t = By setting P Q.holds Q.floor (left_of setting t + Q.extra) t

  pub here : (t : LowState) → Q.holds (left_of setting t) t → Comes t
  here t q =
      by_more setting P Q.holds Q.floor (left_of setting t) (left_of setting t + Q.extra) t (omega arith)
      (by_now setting P Q.holds Q.floor (left_of setting t) t (Q.least (left_of setting t) t q) q)

  pub goes : (t t' : LowState) → N.step t ≡ Go t' → low_price setting.procs t + left_of setting t' ≤ left_of setting t
      → P t → Comes t' → Comes t
  goes t t' e le p c =
      by_go setting P Q.holds Q.floor (left_of setting t' + Q.extra) (left_of setting t + Q.extra) t t' e
      (omega (arith, le)) p c

  -- a last step, which may leave the procedure, with so much left
  pub goes_last : (t t' : LowState) (left : ℕ) → N.step t ≡ Go t' → low_price setting.procs t + left ≤ left_of setting t
      → P t → Q.holds left t' → Comes t
  goes_last t t' left e le p q =
      by_go setting P Q.holds Q.floor left (left_of setting t + Q.extra) t t' e (omega (arith, le)) p
      (by_now setting P Q.holds Q.floor left t' (Q.least left t' q) q)

  -- it finds no room
  pub stops_short : (t t' : LowState) (left : ℕ) → N.step t ≡ Stop Exhausted t'
      → low_price setting.procs t + left ≤ left_of setting t → Q.floor ≤ left → P t → P t' → Comes t
  stops_short t t' left e le enough p q =
      by_stop setting P Q.holds Q.floor left (left_of setting t + Q.extra) t t' e (omega (arith, le)) enough p q

  -- it makes a step at least
  pub record Moves (t : LowState) : Type 0 where
    pub comes : Comes t
    pub some : 0 < comes.steps

  pub moved : (t t' : LowState) → N.step t ≡ Go t' → low_price setting.procs t + left_of setting t' ≤ left_of setting t
      → P t → Comes t' → Moves t
  moved t t' e le p c =
      let x = some_go setting P Q.holds Q.floor (left_of setting t' + Q.extra) (left_of setting t + Q.extra) t t' e
      (omega (arith, le)) p c in
      record { comes = x.0; some = x.1 }

  pub comes_on : {t : LowState} → Moves t → Comes t
  comes_on m = m.comes

  -- first to where a step at least follows
  abbrev pub first_to : Goal
  first_to = record {
    extra = 0;
    floor = Q.floor;
    holds = λ left t. Moves t × (left_of setting t ≤ left) × (Q.floor ≤ left);
    least = λ left t q. q.2;
  }

  pub moves_later : (t : LowState) → By setting P first_to.holds Q.floor (left_of setting t + 0) t → Moves t
  moves_later t c =
      let w = c.within in
      by_most (by_then_some setting P Q.holds Q.floor P
      (λ u. Moves u × (left_of setting u ≤ c.left) × (Q.floor ≤ c.left)) (λ u p. p) c.steps c.price
      (c.left + Q.extra) t (let e = c.least in omega (arith, e)) c.cheap c.reach
      (λ u q. some_more setting P Q.holds Q.floor (left_of setting u + Q.extra) (c.left + Q.extra) u
      (let le = q.1 in omega (arith, le)) (q.0.comes, q.0.some))) (omega (arith, w))
    where
      by_most : SomeBy setting P Q.holds Q.floor (c.price + (c.left + Q.extra)) t
          → c.price + (c.left + Q.extra) ≤ left_of setting t + Q.extra → Moves t
      by_most m le =
          let x = some_more setting P Q.holds Q.floor (c.price + (c.left + Q.extra))
          (left_of setting t + Q.extra) t le m in
          record { comes = x.0; some = x.1 }

  -- P holds in a procedure of so many words above those that wait, whatever its code and its words
  abbrev pub Calm : ℕ → List Waiting → WorldState → Heap → Type 0
  Calm count waiting world h =
      (rests : List Code) (locals : Locals) (code : Code) → P (at world h waiting count rests locals code)

  -- the step of a load
  loads_so : (world : WorldState) (h : Heap) (waiting : List Waiting) (count : ℕ) (rests : List Code) (locals : Locals)
      (d offset : ℕ) (a : LowSource) (rest : Code) (x w : ℕ) → word_of locals a ≡ Some x
      → may_load setting.top (x + offset) ≡ true → load_bytes 8 h.memory (x + offset) ≡ w → x + offset < 2 ^ 64
      → d < count
      → N.step (at world h waiting count rests locals (Load d a offset rest))
      ≡ Go (at world h waiting count rests (set_local d w locals) rest)
  loads_so world h waiting count rests locals d offset a rest x w e m s small lt =
      let p = plus_is x offset small in
      let less = lt_true d count lt in
      let next = at world h waiting count rests locals rest in
      ap (λ x. given (at world h waiting count rests locals (Load d a offset rest)) x
      (λ x. load ending_of setting d (plus x (pos offset)) next)) e
      ∙ (ap (λ n. load ending_of setting d n next) p
      ∙ (ap (λ b. only_if next b (sets ending_of setting d (load_bytes 8 h.memory (x + offset)) next)) m
      ∙ (ap (λ n. sets ending_of setting d n next) s
      ∙ ap (λ b. only_if next b (Go (at world h waiting count rests (set_local d w locals) rest))) less)))

  module _ {world : WorldState} {h : Heap} {waiting : List Waiting} {count : ℕ} (calm : Calm count waiting world h)
      {rests : List Code} {locals : Locals} where
    within : (code : Code) (t' : LowState) → N.step (at world h waiting count rests locals code) ≡ Go t'
        → step_price setting.procs count code + left_of setting t'
        ≤ code_price setting.procs count code + codes_price setting.procs count rests → Comes t'
        → Comes (at world h waiting count rests locals code)
    within code t' e le c =
        goes (at world h waiting count rests locals code) t' e le
        (calm rests locals code) c

    pub sets_word : {d : ℕ} {a : LowSource} {rest : Code} (w : ℕ) → word_of locals a ≡ Some w → d < count
        → Comes (at world h waiting count rests (set_local d w locals) rest)
        → Comes (at world h waiting count rests locals (Set d a rest))
    sets_word {d = d} {a = a} {rest = rest} w e lt c =
        let less = lt_true d count lt in
        within (Set d a rest) (at world h waiting count rests (set_local d w locals) rest) (rw (e, less) refl)
        (behind setting count rests (Set d a rest) rest) c

    pub computes : {op : WordOp} {d : ℕ} {a b : LowSource} {rest : Code} (x y w : ℕ) → word_of locals a ≡ Some x
        → word_of locals b ≡ Some y → compute op x y ≡ w → d < count
        → Comes (at world h waiting count rests (set_local d w locals) rest)
        → Comes (at world h waiting count rests locals (Compute op d a b rest))
    computes {op = op} {d = d} {a = a} {b = b} {rest = rest} x y w e f g lt c =
        let less = lt_true d count lt in
        within (Compute op d a b rest) (at world h waiting count rests (set_local d w locals) rest)
        (rw (e, f, g, less) refl) (behind setting count rests (Compute op d a b rest) rest) c

    pub computes_first : {op : WordOp} {d : ℕ} {a b : LowSource} {rest : Code} (x y w : ℕ) → word_of locals a ≡ Some x
        → word_of locals b ≡ Some y → compute op x y ≡ w → d < count
        → Comes (at world h waiting count rests (set_local d w locals) rest)
        → Moves (at world h waiting count rests locals (Compute op d a b rest))
    computes_first {op = op} {d = d} {a = a} {b = b} {rest = rest} x y w e f g lt c =
        let less = lt_true d count lt in
        moved (at world h waiting count rests locals (Compute op d a b rest))
        (at world h waiting count rests (set_local d w locals) rest) (rw (e, f, g, less) refl)
        (behind setting count rests (Compute op d a b rest) rest)
        (calm rests locals (Compute op d a b rest)) c

    -- a word that may be loaded, at an offset
    pub loads : {d offset : ℕ} {a : LowSource} {rest : Code} (x w : ℕ) → word_of locals a ≡ Some x
        → may_load setting.top (x + offset) ≡ true → load_bytes 8 h.memory (x + offset) ≡ w → x + offset < 2 ^ 64
        → d < count → Comes (at world h waiting count rests (set_local d w locals) rest)
        → Comes (at world h waiting count rests locals (Load d a offset rest))
    loads {d = d} {offset = offset} {a = a} {rest = rest} x w e m s small lt c =
        within (Load d a offset rest) (at world h waiting count rests (set_local d w locals) rest)
        (loads_so world h waiting count rests locals d offset a rest x w e m s small lt)
        (behind setting count rests (Load d a offset rest) rest) c

    pub loads_first : {d offset : ℕ} {a : LowSource} {rest : Code} (x w : ℕ) → word_of locals a ≡ Some x
        → may_load setting.top (x + offset) ≡ true → load_bytes 8 h.memory (x + offset) ≡ w → x + offset < 2 ^ 64
        → d < count → Comes (at world h waiting count rests (set_local d w locals) rest)
        → Moves (at world h waiting count rests locals (Load d a offset rest))
    loads_first {d = d} {offset = offset} {a = a} {rest = rest} x w e m s small lt c =
        moved (at world h waiting count rests locals (Load d a offset rest))
        (at world h waiting count rests (set_local d w locals) rest)
        (loads_so world h waiting count rests locals d offset a rest x w e m s small lt)
        (behind setting count rests (Load d a offset rest) rest) (calm rests locals (Load d a offset rest)) c

    pub stores : {b a : LowSource} {offset : ℕ} {rest : Code} (x y : ℕ) → word_of locals b ≡ Some y
        → word_of locals a ≡ Some x → may_store setting.region setting.top (x + offset) ≡ true → x + offset < 2 ^ 64
        → Comes (at world (record h { memory = store_bytes 8 h.memory (x + offset) y }) waiting count rests locals rest)
        → Comes (at world h waiting count rests locals (Store b a offset rest))
    stores {b = b} {a = a} {offset = offset} {rest = rest} x y f e m small c =
        let p = plus_is x offset small in
        let next = at world h waiting count rests locals rest in
        let s = at world h waiting count rests locals (Store b a offset rest) in
        let t' = at world (record h { memory = store_bytes 8 h.memory (x + offset) y }) waiting count rests locals rest
        in
        within (Store b a offset rest) t' (
        ap (λ z. given s z (λ x. given s (word_of locals b)
        (λ y. store ending_of setting (plus x (pos offset)) y next))) e
        ∙ (ap (λ z. given s z (λ y. store ending_of setting (plus x (pos offset)) y next)) f
        ∙ (ap (λ n. store ending_of setting n y next) p
        ∙ ap (λ b. only_if next b (Go t')) m))
        ) (behind setting count rests (Store b a offset rest) rest) c

    -- a branch, by the answer of its test
    if_so : {cond : Cond} {a b : LowSource} {one other rest : Code} (x y : ℕ) (so : Bool) → word_of locals a ≡ Some x
        → word_of locals b ≡ Some y → holds cond x y ≡ so
        → Comes (at world h waiting count (rest ∷ rests) locals (if so then one else other))
        → Comes (at world h waiting count rests locals (If cond a b one other rest))
    if_so {cond = cond} {a = a} {b = b} {one = one} {other = other} {rest = rest} x y so e f g c =
        within (If cond a b one other rest) (at world h waiting count (rest ∷ rests) locals (if so then one else other))
        (rw (e, f, g) refl) (branch setting count rests cond a b one other rest so) c

    pub if_true : {cond : Cond} {a b : LowSource} {one other rest : Code} (x y : ℕ) → word_of locals a ≡ Some x
        → word_of locals b ≡ Some y → holds cond x y ≡ true
        → Comes (at world h waiting count (rest ∷ rests) locals one)
        → Comes (at world h waiting count rests locals (If cond a b one other rest))
    if_true x y = if_so x y true

    pub if_false : {cond : Cond} {a b : LowSource} {one other rest : Code} (x y : ℕ) → word_of locals a ≡ Some x
        → word_of locals b ≡ Some y → holds cond x y ≡ false
        → Comes (at world h waiting count (rest ∷ rests) locals other)
        → Comes (at world h waiting count rests locals (If cond a b one other rest))
    if_false x y = if_so x y false

    pub code_addresses : {d k : ℕ} {rest : Code} (p : Proc) → slice_get setting.procs k ≡ Some p → d < count
        → Comes (at world h waiting count rests (set_local d (setting.address k) locals) rest)
        → Comes (at world h waiting count rests locals (CodeOf d k rest))
    code_addresses {d = d} {k = k} {rest = rest} p e lt c =
        let less = lt_true d count lt in
        within (CodeOf d k rest) (at world h waiting count rests (set_local d (setting.address k) locals) rest)
        (rw (e, less) refl) (behind setting count rests (CodeOf d k rest) rest) c

    -- an environment call that goes on
    pub environment_goes : {number d e : ℕ} {a b : LowSource} {rest : Code} (x y a0 a1 : ℕ) (world' : WorldState)
        → word_of locals a ≡ Some x → word_of locals b ≡ Some y
        → environment_call (number % 2 ^ 64) x y (length setting.labels) world
        ≡ record { effect = GoesOn a0 a1; world = world' }
        → d < count → e < count
        → Comes (at world' h waiting count rests (set_local e a1 (set_local d a0 locals)) rest)
        → Comes (at world h waiting count rests locals (Environment number a b d e rest))
    environment_goes {number = number} {d = d} {e = e} {a = a} {b = b} {rest = rest} x y a0 a1 world' p q called lt less
        c =
        let one = lt_true d count lt in
        let two = lt_true e count less in
        within (Environment number a b d e rest)
        (at world' h waiting count rests (set_local e a1 (set_local d a0 locals)) rest)
        (rw (p, q, one, two, called) refl) (behind setting count rests (Environment number a b d e rest) rest) c

    -- a procedure is entered in the place of this one, and what stood behind the branches is left
    pub tail_calls_at : {f : LowSource} {args : List LowSource} (x : ℕ) (ws : List ℕ) (p : Proc)
        → word_of locals f ≡ Some x → words_of locals args ≡ Some ws
        → proc_from setting.address x 0 setting.procs ≡ Some p
        → ((length ws == p.params) && (nat_le p.params 8 && nat_le p.params p.words)) ≡ true
        → Q.holds (codes_price setting.procs count rests) (at world h waiting p.words [] (bind 0 ws no_locals) p.code)
        → Comes (at world h waiting count rests locals (TailCallAt f args))
    tail_calls_at {f = f} {args = args} x ws p e a g few q =
        goes_last (at world h waiting count rests locals (TailCallAt f args))
        (at world h waiting p.words [] (bind 0 ws no_locals) p.code) (codes_price setting.procs count rests)
        (rw (e, a, g, few) refl)
        (le_refl (code_price setting.procs count (TailCallAt f args) + codes_price setting.procs count rests))
        (calm rests locals (TailCallAt f args)) q

    -- one is called, and what is left of this one waits
    pub calls_at : {d : ℕ} {f : LowSource} {args : List LowSource} {rest : Code} (x : ℕ) (ws : List ℕ) (p : Proc)
        → word_of locals f ≡ Some x → words_of locals args ≡ Some ws
        → proc_from setting.address x 0 setting.procs ≡ Some p
        → ((length ws == p.params) && (nat_le p.params 8 && nat_le p.params p.words)) ≡ true
        → Q.holds (code_price setting.procs count rest + codes_price setting.procs count rests)
        (at world h (waiting_for d count rests locals rest ∷ waiting) p.words [] (bind 0 ws no_locals) p.code)
        → Comes (at world h waiting count rests locals (CallAt d f args rest))
    calls_at {d = d} {f = f} {args = args} {rest = rest} x ws p e a g few q =
        goes_last (at world h waiting count rests locals (CallAt d f args rest))
        (at world h (waiting_for d count rests locals rest ∷ waiting) p.words [] (bind 0 ws no_locals) p.code)
        (code_price setting.procs count rest + codes_price setting.procs count rests) (rw (e, a, g, few) refl)
        (behind setting count rests (CallAt d f args rest) rest)
        (calm rests locals (CallAt d f args rest)) q

  module _ {world : WorldState} {h : Heap} {waiting : List Waiting} {count : ℕ} (calm : Calm count waiting world h)
      {locals : Locals} where
    -- the end of a branch
    pub falls_through : {r : Code} {rests : List Code} → Comes (at world h waiting count rests locals r)
        → Comes (at world h waiting count (r ∷ rests) locals Done)
    falls_through {r = r} {rests = rests} c =
        goes (at world h waiting count (r ∷ rests) locals Done) (at world h waiting count rests locals r) refl
        (le_refl _) (calm (r ∷ rests) locals Done) c

  -- ---- storage is asked for; without room the run is exhausted
  module _ {world : WorldState} {h : Heap} {waiting : List Waiting} {count : ℕ} (calm : Calm count waiting world h)
      {rests : List Code} {locals : Locals} where
    pub builds : {d : ℕ} {args : List LowSource} {rest : Code} (ws : List ℕ) → words_of locals args ≡ Some ws
        → length ws < 256 → d < count → Calm count waiting world (record h { words = h.words + length ws })
        → Q.floor ≤ code_price setting.procs count rest + codes_price setting.procs count rests
        → (h.alloc + 8 * length ws ≤ setting.top → Comes (at world (record {
          memory = store_words ws h.alloc h.memory;
          alloc = h.alloc + 8 * length ws;
          words = h.words + length ws;
        }) waiting count rests (set_local d h.alloc locals) rest))
        → Comes (at world h waiting count rests locals (Build d args rest))
    builds {d = d} {args = args} {rest = rest} ws e few lt refused_calm enough go =
        by_room (le_cases (nat_le (h.alloc + 8 * length ws) setting.top))
      where
        s0 : LowState
        s0 = at world h waiting count rests locals (Build d args rest)

        h1 : Heap
        h1 = record {
          memory = store_words ws h.alloc h.memory;
          alloc = h.alloc + 8 * length ws;
          words = h.words + length ws;
        }

        refused : LowState
        refused = at world (record h { words = h.words + length ws }) waiting count rests locals rest

        short : nat_lt (length ws) 256 ≡ true
        short = lt_true (length ws) 256 few

        less : nat_lt d count ≡ true
        less = lt_true d count lt

        starts : P s0
        starts = calm rests locals (Build d args rest)

        by_room : (nat_le (h.alloc + 8 * length ws) setting.top ≡ true)
            ⊎ (nat_le (h.alloc + 8 * length ws) setting.top ≡ false) → Comes s0
        by_room (inl r) =
            goes s0 (at world h1 waiting count rests (set_local d h.alloc locals) rest) (rw (e, short, r, less) refl)
            (behind setting count rests (Build d args rest) rest) starts (go (grind (arith, r)))
        by_room (inr r) =
            stops_short s0 refused (code_price setting.procs count rest + codes_price setting.procs count rests)
            (rw (e, short, r) refl)
            (behind setting count rests (Build d args rest) rest) enough starts
            (refused_calm rests locals rest)

    pub requests : {d : ℕ} {a : LowSource} {rest : Code} (n : ℕ) → word_of locals a ≡ Some n → d < count
        → Calm count waiting world (record h { words = h.words + n })
        → Q.floor ≤ code_price setting.procs count rest + codes_price setting.procs count rests
        → (h.alloc + 8 * n ≤ setting.top → Comes (at world h waiting count rests (set_local d h.alloc locals) rest))
        → Comes (at world h waiting count rests locals (Request d a rest))
    requests {d = d} {a = a} {rest = rest} n e lt refused_calm enough go = by_room
        (le_cases (nat_le (h.alloc + 8 * n) setting.top))
      where
        s0 : LowState
        s0 = at world h waiting count rests locals (Request d a rest)

        refused : LowState
        refused = at world (record h { words = h.words + n }) waiting count rests locals rest

        less : nat_lt d count ≡ true
        less = lt_true d count lt

        starts : P s0
        starts = calm rests locals (Request d a rest)

        by_room : (nat_le (h.alloc + 8 * n) setting.top ≡ true) ⊎ (nat_le (h.alloc + 8 * n) setting.top ≡ false)
            → Comes s0
        by_room (inl r) =
            goes s0 (at world h waiting count rests (set_local d h.alloc locals) rest) (rw (e, r, less) refl)
            (behind setting count rests (Request d a rest) rest) starts (go (grind (arith, r)))
        by_room (inr r) =
            stops_short s0 refused (code_price setting.procs count rest + codes_price setting.procs count rests)
            (rw (e, r) refl)
            (behind setting count rests (Request d a rest) rest) enough starts
            (refused_calm rests locals rest)

    pub takes : {a : LowSource} {rest : Code} (n : ℕ) → word_of locals a ≡ Some n → h.alloc + 8 * n ≤ setting.top
        → Comes (at world (record {
          memory = h.memory;
          alloc = h.alloc + 8 * n;
          words = h.words + n;
        }) waiting count rests locals rest)
        → Comes (at world h waiting count rests locals (Take a rest))
    takes {a = a} {rest = rest} n e fits c =
        let r = le_true (h.alloc + 8 * n) setting.top fits in
        goes (at world h waiting count rests locals (Take a rest)) (at world (record {
          memory = h.memory;
          alloc = h.alloc + 8 * n;
          words = h.words + n;
        }) waiting count rests locals rest) (rw (e, r) refl) (behind setting count rests (Take a rest) rest)
        (calm rests locals (Take a rest)) c

-- Calls of procedures that serve: their words come back.
use Rattle.std.proofs.Common.{◌≡◌, ℕ, ◌<◌, ◌≤◌, true, List, [], ◌∷◌, length}
use Rattle.std.proofs.Common.{Some, refl}
use Rattle.std.proofs.Common.{sym, ap, ◌∙◌, ◌+◌, subst, arith, Bool, false}
use Rattle.std.specs.Prelude.{◌==◌, ◌&&◌, nat_le, nat_lt, if◌then◌else◌}
use Rattle.grift_base.specs.World.{WorldState}
use Rattle.machine_words.specs.Halts.{ending_of}
use Rattle.run_laws.specs.Machines.{Go}
use Rattle.low_ir.specs.declared.code.LowSource.{LowSource}
use Rattle.low_ir.specs.declared.code.LowSource.TheVariants.{Word, Number}
use Rattle.low_ir.specs.Prices.{step_price, code_price, codes_price, low_price}
use Rattle.low_ir.specs.Procedures.{Code, Call, Return, Proc}
use Rattle.low_ir.specs.Steps.{Locals, no_locals, set_local}
use Rattle.low_ir.specs.Run.{Setting, Waiting, LowState, word_of, words_of, bind, code_step}
use Rattle.rt_refs.specs.Answering.{Quiet, Returns, AnswersFor, TrapsFor, TrapsNext}
use Rattle.grift_base.specs.declared.verdicts.Trap.{Trap}
use Rattle.rt_cast.specs.States.{Heap, heap_of}
use Rattle.lower.specs.SimulationServices.{StandsAs}
use Rattle.lower.proofs.words.Credits.{By, by_now, by_go, by_then}
use Rattle.lower.proofs.words.Steps.{at, Comes, Calm, Goal, N, plain, left_of, behind, waiting_for, lt_true}

-- the words that a procedure takes are as many as it has
pub taken : (setting : Setting) (number n : ℕ) (p : Proc) (ws : List ℕ) → StandsAs setting number p n
    → length ws ≡ n → ((length ws == p.params) && (nat_le p.params 8 && nat_le p.params p.words)) ≡ true
taken setting number n p ws s e = all_true (length ws) p.params p.words (e ∙ sym s.takes)
    (let a = s.takes in let b = s.few in omega (arith, a, b)) (let a = s.takes in let b = s.room in omega (arith, a, b))
  where
    all_true : (n m k : ℕ) → n ≡ m → m ≤ 8 → m ≤ k → ((n == m) && (nat_le m 8 && nat_le m k)) ≡ true
    all_true n m k e x y = grind (arith, e, x, y)

pub heap_same : (t : LowState) (h : Heap) → t.memory ≡ h.memory → t.alloc ≡ h.alloc → t.words ≡ h.words
    → heap_of t ≡ h
heap_same t h m a n = rw (m, a, n) refl

-- a source that is near or far, and a slot
by_size : (near far : ℕ) → near ≤ 13 → far ≤ 13 → (b c : Bool)
    → (if b then near else far) + 2 + (if c then 3 else 13) ≤ 28
by_size near far x y true true = omega (arith, x)
by_size near far x y true false = omega (arith, x)
by_size near far x y false true = omega (arith, y)
by_size near far x y false false = omega (arith, y)

-- a return costs no more
pub return_price : (procs : List Proc) (count : ℕ) (a : LowSource) → step_price procs count (Return a) ≤ 28
return_price procs count (Word i) = by_size 1 13 (omega arith) (omega arith) (nat_lt i 255) (nat_lt count 255)
return_price procs count (Number n) = by_size 2 12 (omega arith) (omega arith) (nat_lt n 2048) (nat_lt count 255)

module _ (setting : Setting) (P : LowState → Type 0) (Q : Goal) where
  -- P holds in each procedure that serves, above those that wait
  abbrev pub CalmServing : List Waiting → WorldState → Heap → Type 0
  CalmServing waiting world h = (count : ℕ) → count ≤ 24 → Calm setting P Q count waiting world h

  -- a state in which one is active, and all else is as before
  quiet_calm : (world : WorldState) (h : Heap) (waiting : List Waiting) → CalmServing waiting world h → (t : LowState)
      → t.waiting ≡ waiting → t.memory ≡ h.memory → t.alloc ≡ h.alloc → t.words ≡ h.words → t.world ≡ world
      → t.active.count ≤ 24 → P t
  quiet_calm world h waiting calm t v m a n w few =
      subst (λ x. P (record t { memory = x })) (sym m)
      (subst (λ x. P (record t { memory = h.memory; alloc = x })) (sym a)
      (subst (λ x. P (record t { memory = h.memory; alloc = h.alloc; words = x })) (sym n)
      (subst (λ x. P (record t { memory = h.memory; alloc = h.alloc; words = h.words; world = x })) (sym w)
      (subst
      (λ x. P (record t { memory = h.memory; alloc = h.alloc; words = h.words; world = world; waiting = x })) (sym v)
      (calm t.active.count few t.active.rests t.active.locals t.active.code)))))

  -- a procedure returns to the one that called it
  pub returns_to : (world : WorldState) (t : LowState) (waiting : List Waiting) (d size : ℕ) (rests : List Code)
      (words : Locals) (k : Code) (source : LowSource) (w credit : ℕ)
      → CalmServing (waiting_for d size rests words k ∷ waiting) world (heap_of t) → t.active.count ≤ 24
      → t.world ≡ world → t.waiting ≡ waiting_for d size rests words k ∷ waiting → t.active.code ≡ Return source
      → word_of t.active.locals source ≡ Some w → d < size
      → By setting P Q.holds Q.floor credit (at world (heap_of t) waiting size rests (set_local d w words) k)
      → By setting P Q.holds Q.floor (28 + credit) t
  returns_to world t waiting d size rests words k source w credit calm few same waits code is lt c =
      by_go setting P Q.holds Q.floor credit (28 + credit) t (at world (heap_of t) waiting size rests
      (set_local d w words) k)
      step
      (let le = return_price setting.procs t.active.count source in
      let e : low_price setting.procs t ≡ step_price setting.procs t.active.count (Return source) =
      ap (step_price setting.procs t.active.count) code in
      omega (arith, le, e))
      (quiet_calm world (heap_of t) (waiting_for d size rests words k ∷ waiting) calm t waits refl refl refl same few) c
    where
      step : (N setting P Q).step t ≡ Go (at world (heap_of t) waiting size rests (set_local d w words) k)
      step =
          let less = lt_true d size lt in
          ap (λ z. code_step ending_of setting z t) code
          ∙ (rw (is, waits, less) refl
          ∙ ap (λ x. Go (at x (heap_of t) waiting size rests (set_local d w words) k)) same)

  module _ {world : WorldState} {h : Heap} {waiting : List Waiting} {size : ℕ}
      (calm : Calm setting P Q size waiting world h) {rests : List Code} {locals : Locals} where
    -- a call enters the procedure, with a credit that is left behind the call, or may be paid besides
    calls_in : {d number : ℕ} {args : List LowSource} {k : Code} (n : ℕ) (ws : List ℕ) (p : Proc) (credit : ℕ)
        → words_of locals args ≡ Some ws → StandsAs setting number p n → length ws ≡ n
        → credit ≤ code_price setting.procs size k + codes_price setting.procs size rests + Q.extra
        → By setting P Q.holds Q.floor credit
        (at world h (waiting_for d size rests locals k ∷ waiting) p.words [] (bind 0 ws no_locals) p.code)
        → Comes setting P Q (at world h waiting size rests locals (Call d number args k))
    calls_in {d = d} {number = number} {args = args} {k = k} n ws p credit e stands long le c =
        let first = behind setting size rests (Call d number args k) k in
        by_go setting P Q.holds Q.floor credit
        (left_of setting (at world h waiting size rests locals (Call d number args k)) + Q.extra)
        (at world h waiting size rests locals (Call d number args k))
        (at world h (waiting_for d size rests locals k ∷ waiting) p.words [] (bind 0 ws no_locals) p.code)
        (let there = stands.there in
        let few = taken setting number n p ws stands long in
        rw (e, there, few) refl) (enough (step_price setting.procs size (Call d number args k))
        (left_of setting (at world h waiting size rests locals (Call d number args k))) Q.extra
        (code_price setting.procs size k + codes_price setting.procs size rests) credit le first)
        (calm rests locals (Call d number args k)) c
      where
        enough : (first start extra after credit : ℕ) → credit ≤ after + extra → first + after ≤ start
            → first + credit ≤ start + extra
        enough first start extra after credit p q = omega (arith, p, q)

    -- a procedure that changes nothing answers a word
    pub answered_by : {d number : ℕ} {args : List LowSource} {k : Code} (n : ℕ) (ws : List ℕ) (p : Proc)
        (w most price : ℕ)
        → CalmServing (waiting_for d size rests locals k ∷ waiting) world h → words_of locals args ≡ Some ws
        → StandsAs setting number p n → length ws ≡ n → d < size
        → AnswersFor ending_of setting (at world h (waiting_for d size rests locals k ∷ waiting) size rests locals k) p
        ws w most price → price + 28 ≤ Q.extra
        → Comes setting P (plain Q) (at world h waiting size rests (set_local d w locals) k)
        → Comes setting P Q (at world h waiting size rests locals (Call d number args k))
    answered_by {d = d} {number = number} {args = args} {k = k} n ws p w most price serving e stands long lt answers le
        c =
        let s = at world h (waiting_for d size rests locals k ∷ waiting) size rests locals k in
        let after = left_of setting (at world h waiting size rests (set_local d w locals) k) in
        calls_in n ws p (price + (28 + (after + 0))) e stands long (omega (arith, le))
        (by_then setting P Q.holds Q.floor (Quiet s) (Returns w s)
        (λ t q. quiet_calm world h (waiting_for d size rests locals k ∷ waiting) serving t q.waiting q.memory q.alloc
        q.words q.world q.small) answers.0 price (28 + (after + 0))
        (at world h (waiting_for d size rests locals k ∷ waiting) p.words [] (bind 0 ws no_locals) p.code)
        (let x = c.within in let y = c.least in omega (arith, x, y)) answers.3
        answers.2
        (λ t r.
        let same = heap_same t h r.quiet.memory r.quiet.alloc r.quiet.words in
        returns_to world t waiting d size rests locals k r.source w (after + 0)
        (subst (λ x. CalmServing (waiting_for d size rests locals k ∷ waiting) world x) (sym same) serving)
        r.quiet.small r.quiet.world r.quiet.waiting r.code r.is lt
        (subst (λ x. By setting P Q.holds Q.floor (after + 0) (at world x waiting size rests (set_local d w locals) k))
        (sym same) c)))

    -- a procedure that changes nothing traps
    pub traps_by : {d number : ℕ} {args : List LowSource} {k : Code} (n : ℕ) (ws : List ℕ) (p : Proc) (trap : Trap)
        (most price : ℕ) → CalmServing (waiting_for d size rests locals k ∷ waiting) world h
        → words_of locals args ≡ Some ws → StandsAs setting number p n → length ws ≡ n
        → TrapsFor ending_of setting (at world h (waiting_for d size rests locals k ∷ waiting) size rests locals k) p ws
        trap most price → price ≤ Q.extra
        → Q.floor ≤ code_price setting.procs size k + codes_price setting.procs size rests
        → ((t : LowState)
        → TrapsNext ending_of setting trap
        (at world h (waiting_for d size rests locals k ∷ waiting) size rests locals k) t
        → Q.holds (code_price setting.procs size k + codes_price setting.procs size rests) t)
        → Comes setting P Q (at world h waiting size rests locals (Call d number args k))
    traps_by {d = d} {number = number} {args = args} {k = k} n ws p trap most price serving e stands long traps le
        least go =
        let s = at world h (waiting_for d size rests locals k ∷ waiting) size rests locals k in
        let after = code_price setting.procs size k + codes_price setting.procs size rests in
        calls_in n ws p (price + after) e stands long (omega (arith, le))
        (by_then setting P Q.holds Q.floor (Quiet s) (TrapsNext ending_of setting trap s)
        (λ t q. quiet_calm world h (waiting_for d size rests locals k ∷ waiting) serving t q.waiting q.memory q.alloc
        q.words q.world q.small) traps.0 price after
        (at world h (waiting_for d size rests locals k ∷ waiting) p.words [] (bind 0 ws no_locals) p.code) least traps.3
        traps.2 (λ t r. by_now setting P Q.holds Q.floor after t least (go t r)))

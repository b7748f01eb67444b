-- What the run over words does for a turn of the numbered procedures.
use Rattle.std.proofs.Common.{◌≡◌, ◌⊎◌, inl, inr, ℕ, suc, ◌+◌, ◌*◌, ◌≤◌, List, [], ◌∷◌, length, Option, Some}
use Rattle.std.proofs.Common.{Bool, false, arith, le_refl, refl}
use Rattle.std.specs.Prelude.{if◌then◌else◌, ◌-◌}
use Rattle.core_calc.specs.Account.{StepKind}
use Rattle.std.proofs.Common.{None}
use Rattle.std.proofs.Common.{true}
use Rattle.grift_base.specs.World.{WorldState}
use Rattle.grift_base.specs.declared.verdicts.Verdict.{Verdict}
use Rattle.run_laws.specs.Runs.{Ending, Verdict as EndsWith, Exhausted, Wrong}
use Rattle.run_laws.specs.Machines.{Stop, Machine, Reaches, UnlessWrong}
use Rattle.machine_words.specs.Halts.{ending_of}
use Rattle.low_ir.specs.Prices.{code_price, codes_price, low_price, CostsAtMost}
use Rattle.low_ir.specs.Procedures.{Code}
use Rattle.low_ir.specs.Steps.{Locals}
use Rattle.low_ir.specs.Run.{LowState, LowShown, Waiting as LowWaiting, low_machine}
use Rattle.cast_modes.specs.Modes.{Mode}
use Rattle.cast_modes.specs.ValueSteps.{CastFrame, ProjFrame, PrimFrame, EnterFrame, OwnFrame, Own, Return, Entering}
use Rattle.flat_ir.specs.Bodies.{Body, Give, Call, Choose, LetBody, LetGroup}
use Rattle.flat_ir.specs.FlatTally.{flat_cost, flat_atoms}
use Rattle.cast_modes.specs.Prices.{Cost, Prices}
use Rattle.flat_ir.specs.Machine.{FlatFrame, FlatFocus, FlatAfter, FlatState, Inside, Waiting, after_flat, flat_turn}
use Rattle.coercion_norm.specs.Objects.{Object}
use Rattle.low_ir.specs.Frames.{frame_room, waiting_room, stack_room}
use Rattle.rt_cast.specs.States.{Heap, heap_of}
use Rattle.lower.specs.Storage.{Filled}
use Rattle.lower.specs.Relation.{Related}
use Rattle.lower.proofs.words.Credits.{By, by_more, by_now}
use Rattle.lower.proofs.words.Steps.{Calm, Comes, Goal, at, left_of}
pub use Rattle.lower.proofs.words.Scene.{Program}
use Rattle.lower.proofs.words.Scene.{Scene}
use Rattle.lower.specs.Meanings.{is_last}

-- ---- a measure that falls where the run over words may do nothing

abbrev pub weight : Body → ℕ
weight (Give operation) = 3
weight (Call f os) = suc (suc (length os))
weight (Choose o a b) = suc (weight a + weight b)
weight (LetBody slot inner rest) = suc (suc (weight inner + weight rest))
weight (LetGroup slot first count captured rest) = suc (weight rest)

abbrev pub focus_weight : {C : Type 0} → FlatFocus C → ℕ
focus_weight (Own (Inside body locals group)) = weight body
focus_weight (Return v) = 0
focus_weight (Entering f done todo) = suc (length todo)

abbrev pub frames_weight : {C : Type 0} → List (FlatFrame C) → ℕ
frames_weight [] = 0
frames_weight (OwnFrame (Waiting slot rest locals group) ∷ frames) = suc (weight rest) + frames_weight frames
frames_weight (CastFrame c ∷ frames) = suc (frames_weight frames)
frames_weight (ProjFrame i ∷ frames) = frames_weight frames
frames_weight (PrimFrame op done ∷ frames) = frames_weight frames
frames_weight (EnterFrame f done todo ∷ frames) = frames_weight frames

abbrev pub unless_ended : Option (Ending Verdict) → ℕ → ℕ
unless_ended None n = suc n
unless_ended (Some e) n = 0

abbrev pub size_of : {C : Type 0} → FlatState C → ℕ
size_of f = unless_ended f.ended (focus_weight f.focus + frames_weight f.frames)

-- ---- the program and where it runs

-- the mode in which casts are made
abbrev pub mode_of : (program : Program) → Mode program.meaning.Cast
mode_of program = program.meaning.mode program.l.types program.casts

-- what turns may cost
abbrev pub prices_of : (program : Program) → Prices StepKind program.meaning.Cast
prices_of program = program.meaning.prices program.l.types program.casts program.measured

-- ---- what has to be paid yet by turns that have no budget, beside a return that is next: the ends of branches

-- branches around a call in the procedure's place aren't ended
abbrev pub due_of : Code → List Code → ℕ
due_of code rests = if is_last code then 0 else 10 * length rests

abbrev pub waiting_dues : List LowWaiting → ℕ
waiting_dues [] = 0
waiting_dues (w ∷ ws) = due_of w.rest.code w.rest.rests + waiting_dues ws

abbrev pub dues : LowState → ℕ
dues t = due_of t.active.code t.active.rests + waiting_dues t.waiting

abbrev pub zero_once_ended : Option (Ending Verdict) → ℕ → ℕ
zero_once_ended None n = n
zero_once_ended (Some e) n = 0

-- the same after other wrap steps
abbrev pub after_wraps : Program → ℕ → Program
after_wraps program number = record program { number = number }

module _ (program : Program) where
  abbrev pub Filling : LowState → Type 0
  Filling t =
      (objects : List Object) × Filled program.meaning program.setting program.l program.number objects (heap_of t)

  abbrev pub RelatedHere : FlatState program.meaning.Cast → ℕ → LowState → Type 0
  RelatedHere f due t =
      Related program.setting program.l program.run program.procs program.answer program.meaning f program.number due t

  abbrev pub N : Machine LowState LowShown Verdict
  N = low_machine ending_of program.setting

  -- as a state of the numbered procedures is seen
  pub record Seen (f : FlatState program.meaning.Cast) (t : LowState) : Type 0 where
    pub output : t.world.output ≡ f.world.output
    pub filling : Filling t

  -- the next step stops so
  pub record Stopping (f : FlatState program.meaning.Cast) (e : Ending Verdict) (t : LowState) : Type 0 where
    pub now : Seen f t
    pub last : LowState
    pub stops : N.step t ≡ Stop e last
    pub cheap : low_price program.setting.procs t ≤ 100
    pub seen : Seen f last

  -- it is seen so, and neither words were asked for nor more room for frames
  abbrev pub Quietly : (LowState → Type 0) → ℕ → ℕ → LowState → Type 0
  Quietly P words room t = P t × (t.words ≤ words) × (stack_room t ≤ room)

  pub record Ends (f : FlatState program.meaning.Cast) (e : Ending Verdict) (t : LowState) : Type 0 where
    pub steps : ℕ
    pub price : ℕ
    pub small : price ≤ 400
    pub cheap : CostsAtMost ending_of program.setting steps t price
    pub reach : Reaches N (Quietly (Seen f) t.words (stack_room t)) (Quietly (Stopping f e) t.words (stack_room t))
        steps t

  -- a state that has ended, and one that comes to the same end
  pub record Over (f : FlatState program.meaning.Cast) (t : LowState) : Type 0 where
    pub seen : Seen f t
    pub e : Ending Verdict
    pub is : f.ended ≡ Some e
    pub ends : UnlessWrong e (Ends f e t)

  -- a state that has gone wrong is left open
  abbrev pub wrong_over : (f : FlatState program.meaning.Cast) (t : LowState) → f.ended ≡ Some Wrong → Seen f t → Over
      f t
  wrong_over f t is seen = record { seen = seen; e = Wrong; is = is; ends = tt }

  -- one that has ended goes with a state whose next step ends so
  abbrev pub stopped_over : (f : FlatState program.meaning.Cast) (v : Verdict) (t : LowState)
      → f.ended ≡ Some (EndsWith v) → Stopping f (EndsWith v) t → Over f t
  stopped_over f v t is stopping = record {
    seen = stopping.now;
    e = EndsWith v;
    is = is;
    ends = record {
      steps = 0;
      price = 0;
      small = omega arith;
      cheap = omega arith;
      reach = (stopping, le_refl t.words, le_refl (stack_room t));
    };
  }

  -- what it costs until then
  abbrev pub over_price : (f : FlatState program.meaning.Cast) (t : LowState) (e : Ending Verdict)
      → UnlessWrong e (Ends f e t) → ℕ
  over_price f t (EndsWith v) ends = ends.price
  over_price f t Exhausted ends = ends.price
  over_price f t Wrong ends = 0

  -- both go on
  pub record Live (f : FlatState program.meaning.Cast) (due : ℕ) (t : LowState) : Type 0 where
    pub is : f.ended ≡ None
    pub related : RelatedHere f due t

  -- what the turn from a state may cost
  abbrev pub cost_of : FlatState program.meaning.Cast → Cost
  cost_of f = flat_cost program.procs (mode_of program) (prices_of program) f.focus f.frames

  abbrev pub asks_of : FlatState program.meaning.Cast → ℕ
  asks_of f = (cost_of f).asks

  abbrev pub budget_of : FlatState program.meaning.Cast → ℕ
  budget_of f = (cost_of f).budget + 64 * flat_atoms f.focus

  -- in a turn that began after so many words: as before it, with no more than it asks for, or as behind it
  abbrev pub Allowed : FlatState program.meaning.Cast → FlatState program.meaning.Cast → ℕ → WorldState → ℕ → Type 0
  Allowed f f' base world words =
      ((world.output ≡ f.world.output) × (words ≤ base + asks_of f))
      ⊎ ((world.output ≡ f'.world.output) × (words ≤ base))

  -- the room that frames may take in a turn that begins in a procedure of so many words above those that wait: its
  -- own once more, for where it waits, and what the procedures that serve take
  abbrev pub room_over : ℕ → List LowWaiting → ℕ
  room_over size waiting =
      frame_room size + waiting_room waiting + frame_room size + 25 * (1 + program.meaning.serving program.l)

  -- of a turn that begins in this state
  abbrev pub turn_room : LowState → ℕ
  turn_room t = room_over t.active.count t.waiting

  -- a procedure by itself is within that room
  pub stays_in : (size : ℕ) (waiting : List LowWaiting)
      → frame_room size + waiting_room waiting ≤ room_over size waiting
  stays_in size waiting = by (frame_room size) (waiting_room waiting) (25 * (1 + program.meaning.serving program.l))
    where
      by : (own waits serving : ℕ) → own + waits ≤ own + waits + own + serving
      by own waits serving = omega arith

  -- and so are those that wait
  pub below_in : (size : ℕ) (waiting : List LowWaiting) → waiting_room waiting ≤ room_over size waiting
  below_in size waiting = by (frame_room size) (waiting_room waiting) (25 * (1 + program.meaning.serving program.l))
    where
      by : (own waits serving : ℕ) → waits ≤ own + waits + own + serving
      by own waits serving = omega arith

  -- and one that serves, above the procedure and what it waits with
  pub serves_in : (size : ℕ) (waiting : List LowWaiting)
      → 25 + (frame_room size + waiting_room waiting) ≤ room_over size waiting
  serves_in size waiting = by (frame_room size) (waiting_room waiting) (program.meaning.serving program.l)
    where
      by : (own waits serving : ℕ) → 25 + (own + waits) ≤ own + waits + own + 25 * (1 + serving)
      by own waits serving = omega arith

  -- on the way of a turn, whose frames take no more than this room
  abbrev pub Way : FlatState program.meaning.Cast → FlatState program.meaning.Cast → ℕ → ℕ → LowState → Type 0
  Way f f' base room t = Allowed f f' base t.world t.words × Filling t × (stack_room t ≤ room)

  -- the state after a turn that came to this
  abbrev pub next_state : FlatState program.meaning.Cast → FlatAfter program.meaning.Cast
      → FlatState program.meaning.Cast
  next_state f x = after_flat program.procs program.told f x

  abbrev pub turn_of : FlatState program.meaning.Cast → FlatAfter program.meaning.Cast
  turn_of f = flat_turn program.procs (mode_of program) f.store f.world f.focus f.frames

  abbrev pub Settled : FlatState program.meaning.Cast → ℕ → LowState → Type 0
  Settled f due t = Live f due t ⊎ Over f t

  abbrev pub R : FlatState program.meaning.Cast → ℕ → LowState → Type 0
  R f due t = Live f due t ⊎ (Over f t ⊎ ⊥)

  pub settled : (f : FlatState program.meaning.Cast) (due : ℕ) (t : LowState) → Settled f due t → R f due t
  settled f due t (inl l) = inl l
  settled f due t (inr o) = inr (inl o)

  -- in a turn from f that began in start, where so much was due: the words are no more than it asks for, and what was
  -- paid of the whole, with what is due, is within its budget and what was due
  pub record Kept (f f' : FlatState program.meaning.Cast) (own whole : ℕ) (start : LowState) (left due : ℕ)
      (t : LowState) : Type 0 where
    pub asked : t.words ≤ start.words + asks_of f
    pub paid : whole + zero_once_ended f'.ended (due + dues t) ≤ left + budget_of f + (own + dues start)

  -- and it has come to a state that goes with f'
  abbrev pub turn_aim : FlatState program.meaning.Cast → FlatState program.meaning.Cast → ℕ → ℕ → LowState → ℕ
      → LowState → Type 0
  turn_aim f f' own whole start left t = (due : ℕ) × R f' due t × Kept f f' own whole start left due t

  -- so much of the whole is left at least
  abbrev pub floor_of : FlatState program.meaning.Cast → ℕ → ℕ → LowState → ℕ
  floor_of f own whole start = whole - (budget_of f + (own + dues start))

  pub above_floor : (f f' : FlatState program.meaning.Cast) (own whole : ℕ) (start : LowState) (left : ℕ)
      (t : LowState) → turn_aim f f' own whole start left t → floor_of f own whole start ≤ left
  above_floor f f' own whole start left t q =
      by_paid whole left (budget_of f) (own + dues start) (zero_once_ended f'.ended (q.0 + dues t)) q.2.paid
    where
      by_paid : (whole left budget have due : ℕ) → whole + due ≤ left + budget + have → whole - (budget + have) ≤ left
      by_paid whole left budget have due le = omega (arith, le)

  abbrev pub turn_goal : FlatState program.meaning.Cast → FlatState program.meaning.Cast → LowState → Goal
  turn_goal f f' start = record {
    extra = 0;
    floor = floor_of f 0 (left_of program.setting start) start;
    holds = turn_aim f f' 0 (left_of program.setting start) start;
    least = above_floor f f' 0 (left_of program.setting start) start;
  }

  -- for a turn from f that comes to this and began in start, the run over words comes from t to a state that goes with
  -- it
  abbrev pub FollowsFrom : FlatState program.meaning.Cast → FlatAfter program.meaning.Cast → LowState → LowState
      → Type 0
  FollowsFrom f x start t =
      Comes program.setting (Way f (next_state f x) start.words (turn_room start)) (turn_goal f (next_state f x) start)
      t

  abbrev pub Follows : FlatState program.meaning.Cast → FlatAfter program.meaning.Cast → LowState → Type 0
  Follows f x t = FollowsFrom f x t t

  -- the same by any credit, where so much was due
  abbrev pub FollowsBy : FlatState program.meaning.Cast → FlatAfter program.meaning.Cast → ℕ → LowState → Type 0
  FollowsBy f x own t =
      (credit : ℕ)
      × By program.setting (Way f (next_state f x) t.words (turn_room t)) (turn_aim f (next_state f x) own credit t)
      (floor_of f own credit t) credit t

  -- it has come there
  pub arrives : (f f' : FlatState program.meaning.Cast) (base room own whole : ℕ) (start : LowState) (left : ℕ)
      (t : LowState) → turn_aim f f' own whole start left t
      → By program.setting (Way f f' base room) (turn_aim f f' own whole start) (floor_of f own whole start) left t
  arrives f f' base room own whole start left t q =
      by_now program.setting (Way f f' base room) (turn_aim f f' own whole start) (floor_of f own whole start) left t
      (above_floor f f' own whole start left t q) q

  pub by_follows : (f : FlatState program.meaning.Cast) (x : FlatAfter program.meaning.Cast) (t : LowState)
      → Follows f x t → FollowsBy f x 0 t
  by_follows f x t c = (
    left_of program.setting t,
    by_more program.setting (Way f (next_state f x) t.words (turn_room t))
        (turn_aim f (next_state f x) 0 (left_of program.setting t) t) (floor_of f 0 (left_of program.setting t) t)
        (left_of program.setting t + 0)
        (left_of program.setting t) t (omega arith) c,
  )

  pub at_start : (f f' : FlatState program.meaning.Cast) (world : WorldState) (base : ℕ)
      → world.output ≡ f.world.output → Allowed f f' base world base
  at_start f f' world base e = inl (e, omega arith)

  -- what lemmas on code are told of the program, and of its walk
  abbrev pub scene_with : List ℕ → (P : LowState → Type 0) (Q : Goal) (allowed : WorldState → ℕ → Type 0) (room : ℕ)
      → ((world : WorldState) (h : Heap) (objects : List Object)
      → Filled program.meaning program.setting program.l program.number objects h → allowed world h.words → (count : ℕ)
      (waiting : List LowWaiting) → frame_room count + waiting_room waiting ≤ room
      → Calm program.setting P Q count waiting world h)
      → Scene
  scene_with places P Q allowed room calm = record {
    program = program;
    places = places;
    P = P;
    Q = Q;
    allowed = allowed;
    room = room;
    calm = calm;
  }

  -- where a turn from f, which began after so many words, comes to f', and its frames have this room
  abbrev pub scene_for : FlatState program.meaning.Cast → FlatState program.meaning.Cast → ℕ → ℕ → Goal → List ℕ
      → Scene
  scene_for f f' base room Q places =
      scene_with places (Way f f' base room) Q (Allowed f f' base) room
      (λ world h objects filled allowed count waiting fits rests locals code. (allowed, (objects, filled), fits))

-- at the end of a stretch of code in one procedure
pub kept_by : (program : Program) (f f' : FlatState program.meaning.Cast) (world world' : WorldState) (h h' : Heap)
    (waiting : List LowWaiting) (size : ℕ) (rests : List Code) (words new : Locals) (code k : Code) (due : ℕ)
    → is_last code ≡ false
    → code_price program.setting.procs size code + due
    ≤ code_price program.setting.procs size k + budget_of program f → h'.words ≤ h.words + asks_of program f
    → Kept program f f' 0 (left_of program.setting (at world h waiting size rests words code))
    (at world h waiting size rests words code)
    (left_of program.setting (at world' h' waiting size rests new k)) due (at world' h' waiting size rests new k)
kept_by program f f' world world' h h' waiting size rests words new code k due begins le asked = record {
  asked = asked;
  paid =
      by_ended f'.ended (code_price program.setting.procs size code + codes_price program.setting.procs size rests)
      (code_price program.setting.procs size k + codes_price program.setting.procs size rests + budget_of program f
      + (0 + (due_of code rests + waiting_dues waiting))) (due + (due_of k rests + waiting_dues waiting))
      (by_due (is_last k) (is_last code) begins due
      (code_price program.setting.procs size code) (code_price program.setting.procs size k)
      (codes_price program.setting.procs size rests) (budget_of program f) (length rests) (waiting_dues waiting) le);
}
  where
    by_ended : (o : Option (Ending Verdict)) (c d n : ℕ) → c + n ≤ d → c + zero_once_ended o n ≤ d
    by_ended None c d n le = le
    by_ended (Some e) c d n le = omega (arith, le)

    by_due : (b c : Bool) → c ≡ false → (due code k rests budget long waits : ℕ) → code + due ≤ k + budget
        → code + rests + (due + ((if b then 0 else 10 * long) + waits))
        ≤ k + rests + budget + (0 + ((if c then 0 else 10 * long) + waits))
    by_due true false e due code k rests budget long waits le = omega (arith, le)
    by_due false false e due code k rests budget long waits le = omega (arith, le)
    by_due true true e due code k rests budget long waits le = absurd (let z : ⊥ = cc in z)
    by_due false true e due code k rests budget long waits le = absurd (let z : ⊥ = cc in z)

-- what is due for branches is no more than they are
pub due_most : (k : Code) (rests : List Code) → due_of k rests ≤ 10 * length rests
due_most k rests = by (is_last k)
  where
    by : (b : Bool) → (if b then 0 else 10 * length rests) ≤ 10 * length rests
    by true = omega arith
    by false = le_refl (10 * length rests)

pub due_is : (k : Code) (rests : List Code) → is_last k ≡ false → 10 * length rests ≤ due_of k rests
due_is k rests e = by (is_last k) e
  where
    by : (b : Bool) → b ≡ false → 10 * length rests ≤ (if b then 0 else 10 * length rests)
    by true e = absurd (let z : ⊥ = cc in z)
    by false e = le_refl (10 * length rests)

-- the same where so much may be paid besides
pub kept_besides : (program : Program) (f f' : FlatState program.meaning.Cast) (world world' : WorldState)
    (h h' : Heap) (waiting : List LowWaiting) (size : ℕ) (rests : List Code) (words new : Locals) (code k : Code)
    (extra due : ℕ) → is_last code ≡ false
    → code_price program.setting.procs size code + extra + due
    ≤ code_price program.setting.procs size k + budget_of program f → h'.words ≤ h.words + asks_of program f
    → Kept program f f' 0 (left_of program.setting (at world h waiting size rests words code) + extra)
    (at world h waiting size rests words code)
    (left_of program.setting (at world' h' waiting size rests new k)) due (at world' h' waiting size rests new k)
kept_besides program f f' world world' h h' waiting size rests words new code k extra due begins le asked =
    record { asked = asked; paid = by_ended f'.ended }
  where
    by_ended : (o : Option (Ending Verdict)) → code_price program.setting.procs size code
        + codes_price program.setting.procs size rests + extra
        + zero_once_ended o (due + (due_of k rests + waiting_dues waiting))
        ≤ code_price program.setting.procs size k + codes_price program.setting.procs size rests + budget_of program f
        + (0 + (due_of code rests + waiting_dues waiting))
    by_ended None =
        let x = due_most k rests in let y = due_is code rests begins in omega (arith, le, x, y)
    by_ended (Some e) = let y = due_is code rests begins in omega (arith, le, y)

pub due_same : (k : Code) (rests : List Code) → is_last k ≡ false → 10 * length rests ≡ due_of k rests
due_same k rests e = by (is_last k) e
  where
    by : (b : Bool) → b ≡ false → 10 * length rests ≡ (if b then 0 else 10 * length rests)
    by true e = absurd (let z : ⊥ = cc in z)
    by false e = refl

-- in the same procedure, where so much is left, and other branches are around
pub kept_with : (program : Program) (f f' : FlatState program.meaning.Cast) (world world' : WorldState) (h h' : Heap)
    (waiting : List LowWaiting) (size : ℕ) (rests rests' : List Code) (words new : Locals) (code k : Code)
    (left due : ℕ)
    → is_last code ≡ false
    → code_price program.setting.procs size code + codes_price program.setting.procs size rests
    + (due + 10 * length rests') ≤ left + budget_of program f + 10 * length rests
    → h'.words ≤ h.words + asks_of program f
    → Kept program f f' 0 (left_of program.setting (at world h waiting size rests words code))
    (at world h waiting size rests words code) left due (at world' h' waiting size rests' new k)
kept_with program f f' world world' h h' waiting size rests rests' words new code k left due begins le asked =
    record { asked = asked; paid = by_ended f'.ended }
  where
    by_ended : (o : Option (Ending Verdict)) → code_price program.setting.procs size code
        + codes_price program.setting.procs size rests
        + zero_once_ended o (due + (due_of k rests' + waiting_dues waiting))
        ≤ left + budget_of program f + (0 + (due_of code rests + waiting_dues waiting))
    by_ended None =
        let x = due_most k rests' in let y = due_is code rests begins in omega (arith, le, x, y)
    by_ended (Some e) = let y = due_is code rests begins in omega (arith, le, y)

-- where a turn does nothing, and only what is due for a return has changed
pub kept_here : (program : Program) (f f' : FlatState program.meaning.Cast) (own due : ℕ) (t : LowState)
    → due ≤ own + budget_of program f → Kept program f f' own (left_of program.setting t) t
    (left_of program.setting t) due t
kept_here program f f' own due t le = record {
  asked = omega arith;
  paid =
      by_ended f'.ended (left_of program.setting t) (left_of program.setting t + budget_of program f + (own + dues t))
      (due + dues t) (omega (arith, le));
}
  where
    by_ended : (o : Option (Ending Verdict)) (c d n : ℕ) → c + n ≤ d → c + zero_once_ended o n ≤ d
    by_ended None c d n le = le
    by_ended (Some e) c d n le = omega (arith, le)

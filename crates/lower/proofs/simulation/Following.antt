-- The run over words follows that of the numbered procedures, and the scheme's test holds at each of its moments.
use Rattle.std.proofs.Common.{◌≡◌, ◌⊎◌, ◌<◌, ◌∙◌, zero, inl, inr, ℕ, suc, ◌+◌, ◌≤◌, List, [], Some}
use Rattle.std.proofs.Common.{None}
use Rattle.std.proofs.Common.{true, refl, sym, ap, subst, arith, Option, slice_get}
use Rattle.grift_base.specs.World.{WorldState}
use Rattle.grift_base.specs.declared.verdicts.Verdict.{Verdict}
use Rattle.run_laws.specs.Runs.{Any, FollowsBy, NeverWrong}
use Rattle.run_laws.specs.Machines.{Go, Machine, Alike, OnTheWay, StopsAt, Reaches}
use Rattle.run_laws.specs.Machines.{run}
use Rattle.run_laws.specs.Reductions.{machine_of, go_or_stop}
use Rattle.run_laws.proofs.Public.{by_step, reaches_weaken, unless_wrong_map, follows_by_behind}
use Rattle.run_laws.proofs.Public.{machine_never_wrong, reduction_and_machine_follow_each_other-machine}
use Rattle.machine_words.specs.Halts.{ending_of}
use Rattle.machine_words.specs.Memory.{Memory}
use Rattle.low_ir.specs.Procedures.{Code}
use Rattle.low_ir.specs.Run.{LowState, LowShown, low_machine, low_start, Waiting as LowWaiting}
use Rattle.cast_modes.specs.ValueSteps.{Own, Return, Entering}
use Rattle.flat_ir.specs.Bodies.{Proc}
use Rattle.flat_ir.specs.Closed.{takes_nothing}
use Rattle.flat_ir.specs.Counts.{flat_counting, flat_run_in}
use Rattle.flat_ir.specs.Machine.{FlatFocus, FlatFrame, FlatStore, FlatState, Inside, flat_start, first_world}
use Rattle.flat_ir.specs.Machine.{flat_turn, flat_state_at, entry_body, new_group}
use Rattle.low_ir.specs.Steps.{Locals}
use Rattle.cast_modes.specs.RunValues.{RunUnit}
use Rattle.cast_modes.specs.Counting.{Counted, Counts, uncounted}
use Rattle.lower.specs.CarriedValues.{CellsHeld}
use Rattle.lower.proofs.simulation.ShownAnswers.{true_false}
use Rattle.coercion_norm.specs.Held.{TypesStand}
use Rattle.coercion_norm.specs.Objects.{Object}
use Rattle.rt_cast.specs.Objects.{Holds}
use Rattle.low_ir.specs.Frames.{stack_room}
use Rattle.rt_cast.specs.States.{Heap, heap_of}
use Rattle.lower.specs.Storage.{Filled}
use Rattle.lowered_code.specs.Lowered.{entry_proc}
use Rattle.lower.specs.Relation.{Goes, Related}
use Rattle.lower.specs.Storage.{Passes}
use Rattle.run_laws.proofs.Public.{DoesAt, IndexedSimulation, follows_by_index}
use Rattle.lower.proofs.simulation.Served.{FillingAt, OnServed, Waits, Next, next_of}
use Rattle.flat_ir.specs.Counts.{flat_turn_wraps}
use Rattle.lower.proofs.simulation.Starts.{entered_flat, entered_low, first_filled, first_step, first_live}
use Rattle.lower.proofs.words.Steps.{at}
use Rattle.lower.proofs.simulation.Way.{mode_of}
use Rattle.lower.proofs.simulation.Way.{Program, R, Seen, Stopping, Way}
use Rattle.lower.proofs.simulation.Way.{size_of, Live, Over, Settled, after_wraps}
use Rattle.lower.proofs.simulation.Moves.{Does, DoesDue, st, runs_body, gave, gives, call_turn}
use Rattle.lower.proofs.simulation.Services.{OnTurn, Landing}
use Rattle.lower.proofs.simulation.Way.{Quietly, turn_room, turn_aim, dues, asks_of, budget_of}

module _ (program : Program) (typed : TypesStand program.l) where
  -- a turn of the numbered procedures, from a state that goes with one over words
  turn_from : (focus : FlatFocus program.meaning.Cast) (frames : List (FlatFrame program.meaning.Cast))
      (store : FlatStore program.meaning.Cast)
      (world : WorldState) (places : List ℕ) (objects : List Object) (h : Heap)
      → Filled program.meaning program.setting program.l program.number objects h
      → CellsHeld program.l program.setting.address program.procs program.meaning places objects h.memory places store
      → (waiting : List LowWaiting) (size : ℕ) (rests : List Code) (words : Locals) (code : Code) (due : ℕ)
      → Goes program.setting program.l program.run program.procs program.answer program.meaning places objects due focus
      frames
      (record { count = size; locals = words; code = code; rests = rests }) waiting
      → (own : ℕ) × (own ≤ due) × DoesDue program typed (st program typed focus frames store world)
      (flat_turn program.procs (mode_of program) store world focus frames)
      (flat_turn_wraps program.procs (mode_of program) focus frames) own (at world h waiting size rests words code)
  turn_from (Own (Inside body locals group)) frames store world places objects h filled cells waiting size rests words
      code due r = (
        0,
        omega arith,
        subst (λ c. Does program typed (st program typed (Own (Inside body locals group)) frames store world)
            (flat_turn program.procs (mode_of program) store world (Own (Inside body locals group)) frames)
            (flat_turn_wraps program.procs (mode_of program) (Own (Inside body locals group)) frames)
            (at world h waiting size rests words c)) (sym r.is)
            (runs_body program typed frames store world places objects h filled cells waiting size rests words locals
            group
            r.s r.count r.depth r.next body r.fits r.rest),
      )
  turn_from (Return v) frames store world places objects h filled cells waiting size rests words code due (inl g) = (
    0,
    omega arith,
    gave program typed frames store world places objects h filled cells waiting size rests words v code
        g,
  )
  turn_from (Return v) frames store world places objects h filled cells waiting size rests words code due
      (inr (g, le)) = (
        28,
        le,
        subst (λ c. DoesDue program typed (st program typed (Return v) frames store world)
            (flat_turn program.procs (mode_of program) store world (Return v) frames)
            (flat_turn_wraps program.procs (mode_of program) (Return v) frames) 28
            (at world h waiting size rests words c))
            (sym g.code)
            (gives program typed frames store world places objects h filled cells waiting size rests words v g.source
            g.w
            g.is g.carried g.callers),
      )
  turn_from (Entering v done todo) frames store world places objects h filled cells waiting size rests words code due
      e = (
        0,
        omega arith,
        subst (λ c. Does program typed (st program typed (Entering v done todo) frames store world)
            (flat_turn program.procs (mode_of program) store world (Entering v done todo) frames) 0
            (at world h waiting size rests words c)) (sym e.runs.is)
            (call_turn program typed frames store world places objects h filled cells waiting size rests words e.operand
            e.operands e.locals e.group e.runs.s e.runs.count e.runs.depth e.runs.next e.runs.fits e.runs.rest v done
            todo
            e.function e.arguments e.plain),
      )

  -- by what is due for a return
  abbrev DoesSome : FlatState program.meaning.Cast → ℕ → LowState → Type 0
  DoesSome f due t =
      (own : ℕ) × (own ≤ due)
      × DoesDue program typed f (flat_turn program.procs (mode_of program) f.store f.world f.focus f.frames)
      (flat_turn_wraps program.procs (mode_of program) f.focus f.frames) own t

  pub turn : (f : FlatState program.meaning.Cast) (due : ℕ) (t : LowState) → f.ended ≡ None
      → Related program.setting program.l program.run program.procs program.answer program.meaning f program.number due
      t
      → (own : ℕ) × (own ≤ due)
      × DoesDue program typed f (flat_turn program.procs (mode_of program) f.store f.world f.focus f.frames)
      (flat_turn_wraps program.procs (mode_of program) f.focus f.frames) own t
  turn f due t live r =
      subst (λ e. DoesSome (record {
        focus = f.focus;
        frames = f.frames;
        store = f.store;
        world = f.world;
        ended = e;
      }) due t) (sym live)
      (subst (λ w. DoesSome (st program typed f.focus f.frames f.store f.world) due
      (at w (heap_of t) t.waiting t.active.count t.active.rests t.active.locals t.active.code)) (sym r.world)
      (turn_from f.focus f.frames f.store f.world r.places r.objects (heap_of t) r.filled r.cells t.waiting
      t.active.count t.active.rests t.active.locals t.active.code due r.goes))

module _ (program : Program) (typed : TypesStand program.l) where
  -- ---- the simulation

  abbrev FlatCounted : Type 0
  FlatCounted = Counted (FlatState program.meaning.Cast)

  abbrev M : Machine FlatCounted Counts Verdict
  M = machine_of (flat_counting program.procs (mode_of program) program.told)

  abbrev N : Machine LowState LowShown Verdict
  N = low_machine ending_of program.setting

  -- the test holds of what is shown, and of the number of wrap steps
  abbrev K : LowShown → Counts → Type 0
  K shown counts = Passes program.meaning program.setting program.l shown counts.wraps

  abbrev here_at : FlatCounted → Program
  here_at s = after_wraps program s.wraps

  abbrev Rel : ℕ → FlatCounted → LowState → Type 0
  Rel j s t =
      (((due : ℕ) × Live (after_wraps program s.wraps) s.state due t) × (j ≡ size_of s.state))
      ⊎ (Over (after_wraps program s.wraps) s.state t
      ⊎ ((low : ℕ) × (i : ℕ) × (j ≡ suc (i + low)) × (room have before left : ℕ)
      × Waits program room low have before (suc i) left s.state s.wraps t))

  abbrev SomeRel : FlatCounted → LowState → Type 0
  SomeRel s t = (j : ℕ) × Rel j s t

  abbrev stepped : FlatCounted → FlatCounted
  stepped s = (flat_counting program.procs (mode_of program) program.told).step s

  abbrev wraps_in : FlatCounted → ℕ
  wraps_in s = flat_turn_wraps program.procs (mode_of program) s.state.focus s.state.frames

  seen_alike : (s : FlatCounted) (t : LowState) → t.world.output ≡ s.state.world.output
      → FillingAt program s.wraps t → Alike K M N s t
  seen_alike s t e filling = record { output = e; shown = filling }

  -- a turn in place
  on_way : (s : FlatCounted) → wraps_in s ≡ 0 → (base room : ℕ) (t : LowState)
      → Way (after_wraps program s.wraps) s.state (stepped s).state base room t → OnTheWay K Any M N s (stepped s) t
  on_way s none base room t (inl e, filling, fits) = (inl (seen_alike s t e.0 filling), tt)
  on_way s none base room t (inr e, filling, fits) =
      let more : s.wraps ≡ s.wraps + wraps_in s = omega (arith, none) in
      (inr (seen_alike (stepped s) t e.0 (subst (λ n. FillingAt program n t) more filling)), tt)

  lands_in : (s : FlatCounted) → wraps_in s ≡ 0 → (due : ℕ) (t : LowState)
      → R (after_wraps program s.wraps) (stepped s).state due t → Rel (size_of (stepped s).state) (stepped s) t
  lands_in s none due t r =
      let more : s.wraps ≡ s.wraps + wraps_in s = omega (arith, none) in by_way more r
    where
      by_way : s.wraps ≡ s.wraps + wraps_in s → R (after_wraps program s.wraps) (stepped s).state due t
          → Rel (size_of (stepped s).state) (stepped s) t
      by_way more (inl l) =
          inl ((due, subst (λ n. Live (after_wraps program n) (stepped s).state due t) more l), refl)
      by_way more (inr (inl o)) =
          inr (inl (subst (λ n. Over (after_wraps program n) (stepped s).state t) more o))
      by_way more (inr (inr z)) = absurd z

  -- a turn in which a procedure serves
  on_served : (s : FlatCounted) → (stepped s).state.world.output ≡ s.state.world.output
      → (limit room : ℕ) (t : LowState)
      → OnServed program s.state.world.output s.wraps (s.wraps + wraps_in s) limit room t
      → OnTheWay K Any M N s (stepped s) t
  on_served s silent limit room t o = by_filling o.filling
    where
      by_filling : FillingAt program s.wraps t ⊎ FillingAt program (s.wraps + wraps_in s) t
          → OnTheWay K Any M N s (stepped s) t
      by_filling (inl x) = (inl (seen_alike s t o.same x), tt)
      by_filling (inr x) = (inr (seen_alike (stepped s) t (o.same ∙ sym silent) x), tt)

  settled_in : (s : FlatCounted) (due : ℕ) (t : LowState)
      → Settled (after_wraps program s.wraps) s.state due t → SomeRel s t
  settled_in s due t (inl l) = (size_of s.state, inl ((due, l), refl))
  settled_in s due t (inr o) = (0, inr (inl o))

  waits_in : (s : FlatCounted) (t : LowState) (room low have before i left : ℕ)
      → Waits program room low have before i left s.state s.wraps t → SomeRel s t
  waits_in s t room low have before zero left (inl o) = (0, inr (inl o.0))
  waits_in s t room low have before zero left (inr x) = settled_in s x.0 t x.1
  waits_in s t room low have before (suc i) left x =
      (suc (i + low), inr (inr (low, i, refl, room, have, before, left, x)))

  abbrev Goes_on : ℕ → FlatCounted → LowState → Type 0
  Goes_on j s t =
      ((j' : ℕ) × (j' < j) × Rel j' (stepped s) t)
      ⊎ ((k : ℕ) × Reaches N (OnTheWay K Any M N s (stepped s)) (SomeRel (stepped s)) (suc k) t)

  -- steps that come to what the measure says
  by_count : (s : FlatCounted) (P Q : LowState → Type 0)
      → ((u : LowState) → P u → OnTheWay K Any M N s (stepped s) u) → ((u : LowState) → Q u → SomeRel (stepped s) u)
      → (j k : ℕ) (t : LowState) → Reaches N P Q k t
      → (k ≡ 0 → Q t → (j' : ℕ) × (j' < j) × Rel j' (stepped s) t) → Goes_on j s t
  by_count s P Q p q j zero t r none = inl (none refl r)
  by_count s P Q p q j (suc k) t r none =
      inr (k, reaches_weaken N P Q (OnTheWay K Any M N s (stepped s)) (SomeRel (stepped s)) p q (suc k) t r)

  from_live : (s : FlatCounted) (t : LowState) (w own : ℕ) → wraps_in s ≡ w
      → DoesDue (after_wraps program s.wraps) typed s.state
      (flat_turn program.procs (mode_of program) s.state.store s.state.world s.state.focus s.state.frames) w own t
      → Goes_on (size_of s.state) s t
  from_live s t w own e (inl (z, inl c)) =
      let none : wraps_in s ≡ 0 = e ∙ z in
      by_count s (Way (after_wraps program s.wraps) s.state (stepped s).state t.words (turn_room program t))
      (turn_aim (after_wraps program s.wraps) s.state (stepped s).state own c.0.0 t c.0.1.left)
      (λ u q. on_way s none t.words (turn_room program t) u q)
      (λ u q. (size_of (stepped s).state, lands_in s none q.0 u q.1)) (size_of s.state) c.0.1.steps t c.0.1.reach
      (λ k q. (size_of (stepped s).state, c.1, lands_in s none q.0 t q.1))
  from_live s t w own e (inl (z, inr m)) =
      let none : wraps_in s ≡ 0 = e ∙ z in
      by_count s (Way (after_wraps program s.wraps) s.state (stepped s).state t.words (turn_room program t))
      (turn_aim (after_wraps program s.wraps) s.state (stepped s).state own m.0 t m.1.0.left)
      (λ u q. on_way s none t.words (turn_room program t) u q)
      (λ u q. (size_of (stepped s).state, lands_in s none q.0 u q.1)) (size_of s.state) m.1.0.steps t m.1.0.reach
      (λ k q. absurd (let y = m.1.1 in omega (arith, y, k)))
  from_live s t w own e (inr served) =
      by_count s (OnTurn (after_wraps program s.wraps) typed s.state w t.words (turn_room program t))
      (Landing (after_wraps program s.wraps) typed s.state (turn_room program t) (own + dues t) served.1
      (stepped s).state w t.words served.3.0.left)
      (λ u q. on_served s served.0 (t.words + asks_of program s.state) (turn_room program t) u
      (subst (λ n. OnServed program s.state.world.output s.wraps (s.wraps + n) (t.words + asks_of program s.state)
      (turn_room program t) u)
      (sym e) q))
      (λ u q. waits_in (stepped s) u (turn_room program t) q.1.0 (own + dues t) served.1 q.1.1 served.3.0.left
      (subst (λ n. Waits program (turn_room program t) q.1.0 (own + dues t) served.1 q.1.1 served.3.0.left
      (stepped s).state (s.wraps + n) u)
      (sym e) q.1.2)) (size_of s.state) served.3.0.steps t served.3.0.reach
      (λ k q. absurd (let y = served.3.1 in omega (arith, y, k)))

  from_waits : (s : FlatCounted) (t : LowState) (room low have before i left : ℕ)
      → (next_of program s.state).world.output ≡ s.state.world.output
      → Next program (Waits program room low have before i) room low (i ≡ 0) s.state.world.output (next_of program
      s.state)
      (asks_of program s.state) (left + budget_of program s.state) s.wraps
      (s.wraps + wraps_in s) t → Goes_on (suc (i + low)) s t
  from_waits s t room low have before i left silent (inl o) = inl (0, omega arith, inr (inl o.0))
  from_waits s t room low have before zero left silent (inr c) =
      by_count s (OnServed program s.state.world.output s.wraps (s.wraps + wraps_in s)
      (t.words + asks_of program s.state) room)
      (λ u. (u.words ≤ t.words + asks_of program s.state)
      × Waits program room low have before 0 c.0.left (stepped s).state (s.wraps + wraps_in s) u)
      (λ u q. on_served s silent (t.words + asks_of program s.state) room u q)
      (λ u q. waits_in (stepped s) u room low have before 0 c.0.left q.1) (suc (0 + low)) c.0.steps t c.0.reach
      (λ k q. by_size k (c.1 refl) q.1)
    where
      by_size : c.0.steps ≡ 0 → (0 < c.0.steps) ⊎ (size_of (next_of program s.state) ≤ low)
          → Waits program room low have before 0 c.0.left (stepped s).state (s.wraps + wraps_in s) t
          → (j' : ℕ) × (j' < suc (0 + low)) × Rel j' (stepped s) t
      by_size k (inl lt) q = absurd (omega (arith, lt, k))
      by_size k (inr le) (inl o) = (0, omega arith, inr (inl o.0))
      by_size k (inr le) (inr (due, inl l, paid, fits)) =
          (size_of (stepped s).state, omega (arith, le), inl ((due, l), refl))
      by_size k (inr le) (inr (due, inr o, paid, fits)) = (0, omega arith, inr (inl o))
  from_waits s t room low have before (suc i) left silent (inr c) =
      by_count s (OnServed program s.state.world.output s.wraps (s.wraps + wraps_in s)
      (t.words + asks_of program s.state) room)
      (λ u. (u.words ≤ t.words + asks_of program s.state)
      × Waits program room low have before (suc i) c.0.left (stepped s).state (s.wraps + wraps_in s) u)
      (λ u q. on_served s silent (t.words + asks_of program s.state) room u q)
      (λ u q. waits_in (stepped s) u room low have before (suc i) c.0.left q.1) (suc (suc i + low)) c.0.steps t
      c.0.reach
      (λ k q. (suc (i + low), omega arith, inr (inr (low, i, refl, room, have, before, c.0.left, q.1))))

  over_does : (j : ℕ) (s : FlatCounted) (t : LowState)
      → Over (after_wraps program s.wraps) s.state t → DoesAt K Any M N Rel j s t (M.step s)
  over_does j s t o =
      subst (λ e. DoesAt K Any M N Rel j s t (go_or_stop e stepped s)) (sym o.is)
      (unless_wrong_map o.e
      (λ ends. (
        ends.steps,
        reaches_weaken N (Quietly (after_wraps program s.wraps) (Seen (after_wraps program s.wraps) s.state) t.words
            (stack_room t))
            (Quietly (after_wraps program s.wraps) (Stopping (after_wraps program s.wraps) s.state o.e) t.words
            (stack_room t))
            (OnTheWay K Any M N s s) (StopsAt K Any M N s s o.e)
            (λ u q. (inl (seen_alike s u q.0.output q.0.filling), tt))
            (λ u q. (
              (inl (seen_alike s u q.0.now.output q.0.now.filling), tt),
              (q.0.last, q.0.stops, seen_alike s q.0.last q.0.seen.output q.0.seen.filling, tt),
            )) ends.steps t ends.reach,
      )) o.ends)

  does : (j : ℕ) (s : FlatCounted) (t : LowState) → Rel j s t
      → DoesAt K Any M N Rel j s t (M.step s)
  does j s t (inl ((due, l), e)) =
      subst (λ o. DoesAt K Any M N Rel j s t (go_or_stop o stepped s)) (sym l.is)
      (subst (λ n. Goes_on n s t) (sym e)
      (let d = turn (after_wraps program s.wraps) typed s.state due t l.is l.related in
      from_live s t (wraps_in s) d.0 refl d.2))
  does j s t (inr (inl o)) = over_does j s t o
  does j s t (inr (inr (low, i, e, room, have, before, left, inl o))) = over_does j s t o.0
  does j s t (inr (inr (low, i, e, room, have, before, left, inr x))) =
      subst (λ o. DoesAt K Any M N Rel j s t (go_or_stop o stepped s)) (sym x.0)
      (subst (λ n. Goes_on n s t) (sym e) (from_waits s t room low have before i left x.2 x.3))

  alike : (j : ℕ) (s : FlatCounted) (t : LowState) → Rel j s t
      → Alike K M N s t × Any (N.shown t) (M.shown s)
  alike j s t (inl ((due, l), e)) =
      (seen_alike s t (ap (λ w. w.output) l.related.world) (l.related.objects, l.related.filled), tt)
  alike j s t (inr (inl o)) = (seen_alike s t o.seen.output o.seen.filling, tt)
  alike j s t (inr (inr (low, i, e, room, have, before, left, inl o))) =
      (seen_alike s t o.0.seen.output o.0.seen.filling, tt)
  alike j s t (inr (inr (low, i, e, room, have, before, left, inr x))) = (seen_alike s t x.1.output x.1.filling, tt)

  simulation : IndexedSimulation K Any M N Rel
  simulation = record { alike = alike; does = does; still_allowed = λ b s h. tt }

  -- ---- the start

  module _ (entry : ℕ) (takes : takes_nothing (slice_get program.procs entry) ≡ true) (memory : Memory)
      (statics : Holds memory program.l.first program.l.statics) (fits : program.setting.region ≤ program.setting.top)
      (input : List ℕ) where
    abbrev s0 : FlatCounted
    s0 = uncounted (flat_start program.procs program.told entry input)

    abbrev t0 : LowState
    t0 = low_start program.setting (entry_proc entry program.answer) memory (first_world input)

    begun : (o : Option Proc) → slice_get program.procs entry ≡ o → takes_nothing o ≡ true
        → Reaches N (λ t. Alike K M N s0 t × Any (N.shown t) (M.shown s0)) (SomeRel s0) 1 t0
    begun None there e = true_false e
    begun (Some p) there e =
        let t1 = entered_low program memory statics fits input p in
        by_step N (λ t. Alike K M N s0 t × Any (N.shown t) (M.shown s0)) (SomeRel s0) 0 t0 (Go t1)
        (first_step program memory statics fits input entry p there e)
        (seen_alike s0 t0 refl ([], first_filled program memory statics fits input), tt)
        (subst (λ o. SomeRel (uncounted (flat_state_at program.procs program.told
        (Own (Inside (entry_body o) (λ level. RunUnit) (new_group 0 []))) [] [] (first_world input))) t1) (sym there)
        (settled_in (uncounted (entered_flat program memory statics fits input p)) 0 t1
        (inl (first_live program memory statics fits input entry p there e))))

    pub words_follow : NeverWrong (flat_run_in program.procs entry (mode_of program) program.told input)
        → FollowsBy (λ shown counts. Passes program.meaning program.setting program.l shown counts.wraps) Any
        (run (low_machine ending_of program.setting)
        (low_start program.setting (entry_proc entry program.answer) memory (first_world input)))
        (flat_run_in program.procs entry (mode_of program) program.told input)
    words_follow never =
        let counted = flat_counting program.procs (mode_of program) program.told in
        follows_by_behind
        (follows_by_index simulation s0 1 t0 (begun (slice_get program.procs entry) refl takes)
        (machine_never_wrong counted s0 never)) (reduction_and_machine_follow_each_other-machine counted s0 never)

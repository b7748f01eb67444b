-- Calls of the procedures of a scheme, from the code of a body.
use Rattle.std.proofs.Common.{◌≡◌, inl, inr, ℕ, zero, suc, ◌+◌, ◌<◌, List, [], ◌∷◌, ◌++◌, length, Some, refl}
use Rattle.std.proofs.Common.{sym, ap, ◌∙◌, subst, arith, slice_get}
use Rattle.grift_base.specs.World.{WorldState}
use Rattle.run_laws.specs.Machines.{Go}
use Rattle.run_laws.proofs.Public.{reaches_weaken}
use Rattle.machine_words.specs.Halts.{ending_of}
use Rattle.low_ir.specs.declared.code.LowSource.{LowSource}
use Rattle.low_ir.specs.Procedures.{Code, Call, Proc as LowProc}
use Rattle.low_ir.specs.Steps.{Locals, set_local}
use Rattle.low_ir.specs.Run.{Waiting as LowWaiting, LowState, words_of, code_step, entered}
use Rattle.cast_modes.specs.ValueSteps.{Own, Return, Entering}
use Rattle.coercion_norm.specs.Held.{TypesStand}
use Rattle.coercion_norm.specs.Objects.{Object}
use Rattle.flat_ir.specs.Machine.{FlatValue, FlatFrame, FlatFocus, FlatAfter, FlatState, FlatStore, Group}
use Rattle.flat_ir.specs.Machine.{flat_state_at}
use Rattle.lowered_code.specs.declared.numbering.Shape.{Shape}
use Rattle.low_ir.specs.Frames.{frame_room, waiting_room, stack_room}
use Rattle.rt_cast.specs.States.{Heap, heap_of}
use Rattle.lower.specs.Storage.{Filled}
use Rattle.lowered_code.specs.Emit.{Then}
use Rattle.lower.specs.CarriedValues.{CellsHeld}
use Rattle.lower.specs.Relation.{Falls}
use Rattle.lower.specs.SimulationServices.{StandsAs}
use Rattle.lower.specs.SchemeLaws.{Aim, OnWay, After, Goes, Returns, ReturnsAt}
use Rattle.lower.proofs.simulation.RelationKept.{word_here, word_other, rest_grown, callers_grown}
use Rattle.lower.proofs.words.Credits.{By, SomeBy, by_now, by_go, by_more, by_then_step, by_then_some, some_go}
use Rattle.lower.proofs.words.Credits.{some_more}
use Rattle.low_ir.specs.Prices.{CostsAtMost}
use Rattle.run_laws.specs.Machines.{Reaches}
use Rattle.lower.proofs.words.Steps.{at, waiting_for, lt_true, left_of, Goal, Moves, behind as step_behind}
use Rattle.lower.proofs.words.Services.{return_price}
use Rattle.low_ir.specs.Prices.{low_price, step_price, code_price, codes_price}
use Rattle.low_ir.specs.Procedures.{Return as ReturnCode}
use Rattle.std.proofs.Common.{◌≤◌, ◌*◌, le_refl, Option, None}
use Rattle.std.specs.Prelude.{◌-◌, max}
use Rattle.run_laws.specs.Runs.{Ending}
use Rattle.grift_base.specs.declared.verdicts.Verdict.{Verdict}
use Rattle.lower.proofs.words.Operations.{Touches}
use Rattle.lower.proofs.words.Services.{taken}
use Rattle.lower.proofs.simulation.Way.{Program, after_wraps, N, Settled, next_state, asks_of, budget_of}
use Rattle.lower.proofs.simulation.Way.{cost_of, dues}
use Rattle.lower.proofs.simulation.Way.{room_over, turn_room, stays_in, due_of, due_most, waiting_dues}
use Rattle.lower.proofs.simulation.Way.{zero_once_ended}
use Rattle.lower.proofs.simulation.Gives.{RestHere, CallersHere, given, word_for, code_for, due_for}
use Rattle.lower.proofs.simulation.Operations.{returned, due_little}
use Rattle.lower.proofs.simulation.Served.{OnServed, Waits, Next, Lands, SettledWith, served_on, next_more}
use Rattle.lower.proofs.simulation.Served.{until_ended}

pub kept_in_front : (xs ys : List ℕ) (i w : ℕ) → slice_get xs i ≡ Some w → slice_get (xs ++ ys) i ≡ Some w
kept_in_front [] ys i w e = cc
kept_in_front (x ∷ xs) ys zero w e = e
kept_in_front (x ∷ xs) ys (suc i) w e = kept_in_front xs ys i w e

-- where a procedure with few words was entered, frames take no more room than where it was called
pub entered_room : (s : LowState) (proc : LowProc) (ws : List ℕ) (more : ℕ) → proc.words ≤ 24
    → stack_room (entered s proc ws) ≤ stack_room s + more
entered_room s proc ws more small = by proc.words s.active.count (waiting_room s.waiting) small
  where
    by : (n m waits : ℕ) → n ≤ 24 → 1 + max 24 n + waits ≤ 1 + max 24 m + waits + more
    by n m waits le = omega (arith, le)

module _ (program : Program) (typed : TypesStand program.l) (f : FlatState program.meaning.Cast) where
  -- to where the numbered procedures are in f', after so many wrap steps, with so much left of the budgets, where there
  -- was so much to begin with, and so much was paid before the procedure was entered, with frames in this room
  abbrev pub Landed : ℕ → ℕ → ℕ → FlatState program.meaning.Cast → ℕ → ℕ → LowState → Type 0
  Landed room have before f' n left t = (low : ℕ) × (i : ℕ) × Waits program room low have before i left f' n t

  -- on the way of a turn that began after so many words, and makes so many wrap steps, with frames in this room
  abbrev pub OnTurn : ℕ → ℕ → ℕ → LowState → Type 0
  OnTurn w base room t =
      OnServed program f.world.output program.number (program.number + w) (base + asks_of program f) room t

  abbrev pub Landing : ℕ → ℕ → ℕ → FlatState program.meaning.Cast → ℕ → ℕ → ℕ → LowState → Type 0
  Landing room have before f' w base left t =
      (t.words ≤ base + asks_of program f) × Landed room have before f' (program.number + w) left t

  -- the same at a state in the procedure in which the turn began, after as many words, and where the turn came to x
  abbrev pub OnTurnAt : ℕ → LowState → LowState → Type 0
  OnTurnAt w t = OnTurn w t.words (turn_room program t)

  abbrev pub LandingAt : ℕ → ℕ → FlatAfter program.meaning.Cast → ℕ → LowState → ℕ → LowState → Type 0
  LandingAt have before x w t = Landing (turn_room program t) have before (next_state program f x) w t.words

  -- for a turn that came to x, the run over words makes a step at least, by what its budget allows and what was paid
  -- before the procedure was entered
  abbrev pub Served : FlatAfter program.meaning.Cast → ℕ → ℕ → LowState → Type 0
  Served x w own start =
      ((next_state program f x).world.output ≡ f.world.output)
      × (before : ℕ) × (before ≤ 556)
      × SomeBy program.setting (OnTurnAt w start) (LandingAt (own + dues start) before x w start) 0
      (before + budget_of program f) start

  -- at a call of the procedure, whose price is p, in code where no less than a floor is left behind it
  abbrev pub Calling : ℕ → ℕ → ℕ → FlatAfter program.meaning.Cast → ℕ → LowState → Type 0
  Calling floor have before x w t =
      (p : ℕ) × (p + floor ≤ left_of program.setting t)
      × SomeBy program.setting (OnTurnAt w t) (LandingAt have before x w t) 0 (p + budget_of program f) t

  -- a goal of code before it, told what is come to by so much
  abbrev serving_goal : (ℕ → LowState → Type 0) → ℕ → Goal
  serving_goal By_so floor = record {
    extra = 0;
    floor = floor;
    holds = λ left t. (p : ℕ) × (p + floor ≤ left) × By_so (p + budget_of program f) t;
    least = λ left t q. let le = q.1 in omega (arith, le);
  }

  -- such a call, or what code makes in place
  abbrev pub calling_goal : ℕ → ℕ → ℕ → FlatAfter program.meaning.Cast → ℕ → ℕ → ℕ → Goal
  calling_goal floor have before x w base room =
      serving_goal (By program.setting (OnTurn w base room) (Landing room have before (next_state program f x) w base)
      0) floor

  -- the same with a step at least
  abbrev pub starting_goal : ℕ → ℕ → ℕ → FlatAfter program.meaning.Cast → ℕ → ℕ → ℕ → Goal
  starting_goal floor have before x w base room =
      serving_goal (SomeBy program.setting (OnTurn w base room)
      (Landing room have before (next_state program f x) w base) 0) floor

  -- from code that comes to a call, by some step at least
  pub some_calls : (floor have before : ℕ) (x : FlatAfter program.meaning.Cast) (w : ℕ) (t : LowState)
      → Moves program.setting (OnTurnAt w t) (calling_goal floor have before x w t.words (turn_room program t)) t
      → Calling floor have before x w t
  some_calls floor have before x w t m = by_steps m.comes.steps m.some m.comes.cheap m.comes.reach
    where
      c : By program.setting (OnTurnAt w t) (calling_goal floor have before x w t.words (turn_room program t)).holds
          floor (left_of program.setting t + 0) t
      c = m.comes

      by_steps : (k : ℕ) → 0 < k → CostsAtMost ending_of program.setting k t m.comes.price
          → Reaches (N program) (OnTurnAt w t)
          (λ u. (p : ℕ) × (p + floor ≤ m.comes.left)
          × By program.setting (OnTurnAt w t) (LandingAt have before x w t) 0 (p + budget_of program f) u) k t
          → Calling floor have before x w t
      by_steps zero lt cheap r = absurd (omega (arith, lt))
      by_steps (suc k) lt cheap r =
          let within = m.comes.within in
          let least = m.comes.least in
          let over = m.comes.left - floor in (
            m.comes.price + (m.comes.left - floor),
            omega (arith, within, least),
            some_more program.setting (OnTurnAt w t) (LandingAt have before x w t) 0
                (m.comes.price + (m.comes.left - floor + budget_of program f))
                (m.comes.price + (m.comes.left - floor) + budget_of program f) t (omega arith)
                (by_then_step program.setting (OnTurnAt w t) (LandingAt have before x w t) 0 (OnTurnAt w t)
                (λ u. (p : ℕ) × (p + floor ≤ m.comes.left)
                × By program.setting (OnTurnAt w t) (LandingAt have before x w t) 0
                (p + budget_of program f) u) (λ u o. o) k m.comes.price (m.comes.left - floor + budget_of program f) t
                (omega arith) cheap r
                (λ u q. by_more program.setting (OnTurnAt w t) (LandingAt have before x w t) 0
                (q.0 + budget_of program f) (m.comes.left - floor + budget_of program f) u
                (let le = q.1 in omega (arith, le)) q.2)),
          )

  -- from code behind which there is some step
  pub later_calls : (floor have before : ℕ) (x : FlatAfter program.meaning.Cast) (w : ℕ) (t : LowState)
      → By program.setting (OnTurnAt w t) (starting_goal floor have before x w t.words (turn_room program t)).holds
      floor (left_of program.setting t + 0) t → Calling floor have before x w t
  later_calls floor have before x w t c =
      let within = c.within in
      let least = c.least in (
        c.price + (c.left - floor),
        omega (arith, within, least),
        some_more program.setting (OnTurnAt w t) (LandingAt have before x w t) 0
            (c.price + (c.left - floor + budget_of program f)) (c.price + (c.left - floor) + budget_of program f) t
            (omega arith)
            (by_then_some program.setting (OnTurnAt w t) (LandingAt have before x w t) 0 (OnTurnAt w t)
            (λ u. (p : ℕ) × (p + floor ≤ c.left)
            × SomeBy program.setting (OnTurnAt w t) (LandingAt have before x w t) 0
            (p + budget_of program f) u) (λ u o. o) c.steps c.price (c.left - floor + budget_of program f) t
            (omega arith)
            c.cheap c.reach
            (λ u q. some_more program.setting (OnTurnAt w t) (LandingAt have before x w t) 0
            (q.0 + budget_of program f) (c.left - floor + budget_of program f) u
            (let le = q.1 in omega (arith, le)) q.2)),
      )

  -- less is enough
  pub lower_floor : (floor less have before : ℕ) (x : FlatAfter program.meaning.Cast) (w : ℕ) (t : LowState)
      → less ≤ floor → Calling floor have before x w t → Calling less have before x w t
  lower_floor floor less have before x w t le c = (c.0, let z = c.1 in omega (arith, z, le), c.2)

  -- it is come to
  pub calls_now : (floor have before : ℕ) (x : FlatAfter program.meaning.Cast) (w : ℕ) (t : LowState)
      → Calling floor have before x w t
      → By program.setting (OnTurnAt w t) (calling_goal floor have before x w t.words (turn_room program t)).holds floor
      (left_of program.setting t + 0) t
  calls_now floor have before x w t c =
      by_more program.setting (OnTurnAt w t) (calling_goal floor have before x w t.words (turn_room program t)).holds
      floor (left_of program.setting t) (left_of program.setting t + 0) t (omega arith)
      (by_now program.setting (OnTurnAt w t) (calling_goal floor have before x w t.words (turn_room program t)).holds
      floor (left_of program.setting t) t (let z = c.1 in omega (arith, z)) (c.0, c.1, c.2.0))

  pub starts_now : (floor have before : ℕ) (x : FlatAfter program.meaning.Cast) (w : ℕ) (t : LowState)
      → Calling floor have before x w t
      → By program.setting (OnTurnAt w t) (starting_goal floor have before x w t.words (turn_room program t)).holds
      floor (left_of program.setting t + 0) t
  starts_now floor have before x w t c =
      by_more program.setting (OnTurnAt w t) (starting_goal floor have before x w t.words (turn_room program t)).holds
      floor (left_of program.setting t) (left_of program.setting t + 0) t (omega arith)
      (by_now program.setting (OnTurnAt w t) (starting_goal floor have before x w t.words (turn_room program t)).holds
      floor (left_of program.setting t) t (let z = c.1 in omega (arith, z)) c)

  -- from where the turn began
  pub is_served : (floor own before : ℕ) (x : FlatAfter program.meaning.Cast) (w : ℕ) (t : LowState)
      → (next_state program f x).world.output ≡ f.world.output → before ≤ 556
      → left_of program.setting t ≤ before + floor → Calling floor (own + dues t) before x w t → Served x w own t
  is_served floor own before x w t silent small le c = (
    silent,
    before,
    small,
    some_more program.setting (OnTurnAt w t) (LandingAt (own + dues t) before x w t) 0
        (c.0 + budget_of program f) (before + budget_of program f) t (let z = c.1 in omega (arith, z, le)) c.2,
  )

  -- a procedure that was entered goes to where it lands
  pub landing : (x : FlatAfter program.meaning.Cast) (w low have before i base room : ℕ) (t : LowState)
      → base ≡ t.words
      → Next program (Waits program room low have before i) room low (i ≡ 0) f.world.output (next_state program f x)
      (asks_of program f) (budget_of program f) program.number (program.number + w) t
      → By program.setting (OnTurn w base room) (Landing room have before (next_state program f x) w base) 0
      (budget_of program f) t
  landing x w low have before zero base room t same (inl o) =
      by_now program.setting (OnTurn w base room) (Landing room have before (next_state program f x) w base) 0
      (budget_of program f) t
      (omega arith) (omega (arith, same), (low, zero, inl o))
  landing x w low have before (suc i) base room t same (inl o) =
      by_now program.setting (OnTurn w base room) (Landing room have before (next_state program f x) w base) 0
      (budget_of program f) t
      (omega arith) (omega (arith, same), (low, suc i, inl o))
  landing x w low have before i base room t same (inr c) = record {
    steps = c.0.steps;
    price = c.0.price;
    left = c.0.left;
    within = c.0.within;
    least = omega arith;
    cheap = c.0.cheap;
    reach = reaches_weaken (N program)
        (OnServed program f.world.output program.number (program.number + w) (t.words + asks_of program f) room)
        (λ u. (u.words ≤ t.words + asks_of program f)
        × Waits program room low have before i c.0.left (next_state program f x) (program.number + w) u)
        (OnTurn w base room)
        (Landing room have before (next_state program f x) w base c.0.left)
        (λ u o. record {
          same = o.same;
          filling = o.filling;
          asked = let z = o.asked in omega (arith, z, same);
          room = o.room;
        })
        (λ u q. (let z = q.0 in omega (arith, z, same), (low, i, q.1))) c.0.steps t c.0.reach;
  }

  -- a step into a procedure that serves
  pub serve_step : (c : LowState) (same_world : f.world ≡ c.world) (room low have before : ℕ)
      → stack_room c + 25 * (1 + program.meaning.serving program.l) ≤ room
      → (aim : Aim program.meaning program.setting program.l program.procs program.casts program.measured)
      → ((focus : FlatFocus program.meaning.Cast) (frames : List (FlatFrame program.meaning.Cast))
      (store : FlatStore program.meaning.Cast) (n left : ℕ) (t : LowState)
      → stack_room t ≤ stack_room c + 25 * (1 + program.meaning.serving program.l) → aim focus frames store n left t
      → Lands program room c.world.output n low have before left
      (flat_state_at program.procs program.told focus frames store c.world) t)
      → (x : FlatAfter program.meaning.Cast) (w i : ℕ) (t te : LowState) → (N program).step t ≡ Go te
      → te.words ≡ t.words → OnTurn w t.words room t
      → OnWay program.meaning program.setting program.l program.procs program.casts program.measured c te 0
      program.number program.number te
      → After program.meaning program.setting program.l program.procs program.casts program.measured c
      (Goes program.meaning program.setting program.l program.procs program.casts program.measured c aim i) x
      (cost_of program f) 0 program.number w te
      → SomeBy program.setting (OnTurn w t.words room) (Landing room have before (next_state program f x) w t.words) 0
      (low_price program.setting.procs t + budget_of program f) t
  serve_step c same_world room low have before enough aim lands x w i t te step words on begins a =
      some_go program.setting (OnTurn w t.words room) (Landing room have before (next_state program f x) w t.words) 0
      (budget_of program f) (low_price program.setting.procs t + budget_of program f) t te step
      (le_refl (low_price program.setting.procs t + budget_of program f)) on
      (landing x w low have before i t.words room te (sym words)
      (subst (λ z. Next program (Waits program room low have before i) room low (i ≡ 0) z.output
      (next_state program f x)
      (asks_of program f) (budget_of program f) program.number (program.number + w) te) (sym same_world)
      (next_more program (Waits program room low have before i) room low (i ≡ 0) c.world.output (next_state program f x)
      (asks_of program f) (0 + (cost_of program f).budget) (budget_of program f) program.number (program.number + w) te
      (omega arith)
      (served_on program c room low have before enough aim lands i x (cost_of program f) 0 program.number w f same_world
      te begins a).1)))

  module _ (places : List ℕ) (objects : List Object) (h : Heap)
      (filled : Filled program.meaning program.setting program.l program.number objects h)
      (cells : CellsHeld program.l program.setting.address program.procs program.meaning places objects h.memory places
      f.store) (waiting : List LowWaiting) (size : ℕ) (rests : List Code) (words : Locals) (s : Shape)
      (count depth : ℕ) (group : Group program.meaning.Cast) (next : Then)
      (rest : RestHere program places objects waiting s count size group depth f.frames next rests words)
      (less : word_for program places objects s next < size) where
    abbrev d : ℕ
    d = word_for program places objects s next

    abbrev k : Code
    k = code_for program places objects s next

    -- a call, behind which a code stands that comes to k; so much is left of the budgets for what comes behind it
    module _ (falls : ℕ) (kk : Code) (rr : List Code)
        (behind : Falls falls kk rr (code_for program places objects s next) rests) (new : Locals)
        (touches : Touches s (word_for program places objects s next) words new) (leaves have before : ℕ)
        (little : 28 + 10 * falls ≤ leaves)
        (enough : 56 + 10 * falls + 10 * length rests + waiting_dues waiting + before ≤ leaves + have) where
      abbrev pub caller : LowState
      caller = at f.world h (waiting_for d size rr new kk ∷ waiting) size rr new kk

      -- where it returns, frames are in the room of the turn
      returns_in : (t : LowState)
          → stack_room t ≤ stack_room caller + 25 * (1 + program.meaning.serving program.l)
          → stack_room t ≤ room_over program size waiting
      returns_in t le =
          by (stack_room t) (frame_room size) (waiting_room waiting) (25 * (1 + program.meaning.serving program.l)) le
        where
          by : (n own waits serving : ℕ) → n ≤ own + (own + waits) + serving → n ≤ own + waits + own + serving
          by n own waits serving le = omega (arith, le)

      -- so many branches end
      fall : (n : ℕ) (c : Code) (r : List Code) → Falls n c r (code_for program places objects s next) rests
          → (P : LowState → Type 0) (H : ℕ → LowState → Type 0) (world : WorldState) (h' : Heap) (locals : Locals)
          (credit : ℕ) → ((code : Code) (r' : List Code) → P (at world h' waiting size r' locals code))
          → H credit (at world h' waiting size rests locals (code_for program places objects s next))
          → By program.setting P H 0 (10 * n + credit) (at world h' waiting size r locals c)
      fall zero c r b P H world h' locals credit p q =
          by_more program.setting P H 0 credit (10 * 0 + credit) (at world h' waiting size r locals c) (omega arith)
          (by_now program.setting P H 0 credit (at world h' waiting size r locals c) (omega arith)
          (subst (λ x. H credit (at world h' waiting size r locals x)) (sym b.0)
          (subst (λ x. H credit (at world h' waiting size x locals (code_for program places objects s next))) (sym b.1)
          q)))
      fall (suc n) c [] b P H world h' locals credit p q = absurd b
      fall (suc n) c (x ∷ r) b P H world h' locals credit p q =
          by_go program.setting P H 0 (10 * n + credit) (10 * suc n + credit)
          (at world h' waiting size (x ∷ r) locals c)
          (at world h' waiting size r locals x)
          (ap (λ z. code_step ending_of program.setting z (at world h' waiting size (x ∷ r) locals c)) b.0)
          (let e = ap (step_price program.setting.procs size) b.0 in omega (arith, e))
          (p c (x ∷ r)) (fall n x r b.1 P H world h' locals credit p q)

      lands_at : (u : FlatValue program.meaning.Cast) (store : FlatStore program.meaning.Cast) (n left : ℕ)
          (t : LowState)
          → stack_room t ≤ stack_room caller + 25 * (1 + program.meaning.serving program.l) → leaves ≤ left
          → ReturnsAt program.meaning program.setting program.l program.procs program.casts program.measured caller
          places objects u store n t
          → Lands program (room_over program size waiting) f.world.output n 0 have before left
          (flat_state_at program.procs program.told (Return u) f.frames store f.world) t
      lands_at u store n left t fits le q = record { comes = came.0; some = inl came.1 }
        where
          P : LowState → Type 0
          P = OnServed program f.world.output n n t.words (room_over program size waiting)

          H : ℕ → LowState → Type 0
          H left u' =
              (u'.words ≤ t.words)
              × SettledWith program (room_over program size waiting) have before left
              (flat_state_at program.procs program.told (Return u) f.frames store f.world) n u'

          last : LowState
          last = at t.world (heap_of t) waiting size rr (set_local d q.word new) kk

          step : (N program).step t ≡ Go last
          step =
              let a = q.is in
              let b = q.waits in
              let c = lt_true d size less in
              ap (λ z. code_step ending_of program.setting z t) q.code ∙ rw (a, b, c) refl

          on : (x : LowState) → x.world ≡ f.world → heap_of x ≡ heap_of t → stack_room x ≤ room_over program size
              waiting
              → P x
          on x e g in_room = record {
            same = ap (λ w. w.output) e;
            filling = inl (
              objects ++ q.more,
              subst (λ y. Filled program.meaning program.setting program.l n (objects ++ q.more) y) (sym g)
                  q.here.filled,
            );
            asked = let z = ap (λ y. y.words) g in omega (arith, z);
            room = in_room;
          }

          -- what is left behind the return and the ends of branches
          over : ℕ
          over = left - (28 + 10 * falls)

          settled : Settled (after_wraps program n) (flat_state_at program.procs program.told (Return u) f.frames store
              f.world) (due_for program places objects next)
              (at f.world (heap_of t) waiting size rests (set_local d q.word new) k)
          settled =
              let rest' = rest_grown program.setting program.l program.run program.procs program.answer program.meaning
              program.laws places (places ++ q.cells) (kept_in_front places q.cells) objects q.more
              (CallersHere program places objects waiting)
              (CallersHere program (places ++ q.cells) (objects ++ q.more) waiting)
              (λ frames c. callers_grown program.setting program.l program.run program.procs program.answer
              program.meaning program.laws places (places ++ q.cells) (kept_in_front places q.cells) objects q.more
              waiting frames c) s count size group depth f.frames next rests words rest in
              returned (after_wraps program n) typed (places ++ q.cells) (objects ++ q.more) (heap_of t) f.world
              q.here.filled store f.frames q.here.cells u waiting size rests (set_local d q.word new) k
              (due_for program places objects next)
              (given (after_wraps program n) (places ++ q.cells) (objects ++ q.more) waiting s count size group depth
              f.frames next rests words (set_local d q.word new) u q.word rest' q.carried (word_here d q.word new)
              (λ j ne side. word_other d q.word new j ne ∙ touches j ne side))

          kept : (o : Option (Ending Verdict)) → zero_once_ended o (due_for program places objects next
              + (due_of k rests + waiting_dues waiting)) + before ≤ left - (28 + 10 * falls) + have
          kept None =
              let z = due_most k rests in
              let y = due_little program places objects next in omega (arith, enough, le, z, y)
          kept (Some e) = omega (arith, enough, le)

          came : SomeBy program.setting (OnServed program f.world.output n n t.words (room_over program size waiting))
              (λ left u'. (u'.words ≤ t.words)
              × SettledWith program (room_over program size waiting) have before left
              (flat_state_at program.procs program.told (Return u) f.frames store f.world) n u') 0 left t
          came =
              some_go program.setting P H 0 (10 * falls + over) left t last step
              (let z = return_price program.setting.procs t.active.count q.source in
              let e = ap (step_price program.setting.procs t.active.count) q.code in
              spare e z)
              (on t q.same refl (returns_in t fits)) (subst (λ z. By program.setting P H 0 (10 * falls + over)
              (at z (heap_of t) waiting size rr (set_local d q.word new) kk)) (sym q.same)
              (fall falls kk rr behind P H f.world (heap_of t) (set_local d q.word new) over
              (λ code r'. on (at f.world (heap_of t) waiting size r' (set_local d q.word new) code) refl refl
              (stays_in program size waiting)) (
                le_refl t.words,
                (
                  due_for program places objects next,
                  settled,
                  kept (flat_state_at program.procs program.told (Return u) f.frames store f.world).ended,
                  until_ended (flat_state_at program.procs program.told (Return u) f.frames store f.world).ended
                      (stack_room (at f.world (heap_of t) waiting size rests (set_local d q.word new) k))
                      (room_over program size waiting) (stays_in program size waiting),
                ),
              )))
            where
              spare : low_price program.setting.procs t
                  ≡ step_price program.setting.procs t.active.count (ReturnCode q.source)
                  → step_price program.setting.procs t.active.count (ReturnCode q.source) ≤ 28
                  → low_price program.setting.procs t + (10 * falls + (left - (28 + 10 * falls))) ≤ left
              spare e z =
                  let n = room le in omega (arith, e, z, n)
                where
                  room : leaves ≤ left → 28 + 10 * falls ≤ left
                  room le = omega (arith, le, little)

      lands : (focus : FlatFocus program.meaning.Cast) (frames : List (FlatFrame program.meaning.Cast))
          (store : FlatStore program.meaning.Cast) (n left : ℕ) (t : LowState)
          → stack_room t ≤ stack_room caller + 25 * (1 + program.meaning.serving program.l)
          → Returns program.meaning program.setting program.l program.procs program.casts program.measured caller leaves
          places objects f.frames focus frames store n left t
          → Lands program (room_over program size waiting) f.world.output n 0 have before left
          (flat_state_at program.procs program.told focus frames store f.world) t
      lands (Return u) frames store n left t fits q =
          subst (λ fs. Lands program (room_over program size waiting) f.world.output n 0 have before left
          (flat_state_at program.procs program.told (Return u) fs store f.world) t)
          (sym q.0) (lands_at u store n left t fits q.1 q.2)
      lands (Own place) frames store n left t fits q = absurd q
      lands (Entering g done todo) frames store n left t fits q = absurd q

      pub called : (x : FlatAfter program.meaning.Cast) (w number : ℕ) (args : List LowSource) (ws : List ℕ)
          (proc : LowProc) (params : ℕ) → words_of new args ≡ Some ws → StandsAs program.setting number proc params
          → length ws ≡ params → (i : ℕ)
          → After program.meaning program.setting program.l program.procs program.casts program.measured caller
          (Goes program.meaning program.setting program.l program.procs program.casts program.measured caller
          (Returns program.meaning program.setting program.l program.procs program.casts program.measured caller leaves
          places objects f.frames) i) x (cost_of program f) 0 program.number w (entered caller proc ws)
          → Calling (code_price program.setting.procs size kk + codes_price program.setting.procs size rr) have before
          x w
          (at f.world h waiting size rr new (Call d number args kk))
      called x w number args ws proc params are stands long i a = (
        low_price program.setting.procs t,
        step_behind program.setting size rr (Call d number args kk) kk,
        serve_step caller refl (room_over program size waiting) 0 have before
            (same_room (frame_room size) (waiting_room waiting) (25 * (1 + program.meaning.serving program.l)))
            (Returns program.meaning program.setting program.l program.procs program.casts program.measured caller
            leaves places objects f.frames) lands x w i t te step refl (record {
              same = refl;
              filling = inl (objects, filled);
              asked = omega arith;
              room = stays_in program size waiting;
            }) (record {
              objects = objects;
              filled = inl filled;
              same = refl;
              room = entered_room caller proc ws (25 * (1 + program.meaning.serving program.l)) stands.small;
              asked = omega arith;
            }) a,
      )
        where
          t : LowState
          t = at f.world h waiting size rr new (Call d number args kk)

          te : LowState
          te = entered caller proc ws

          same_room : (own waits serving : ℕ) → own + (own + waits) + serving ≤ own + waits + own + serving
          same_room own waits serving = omega arith

          step : (N program).step (at f.world h waiting size rr new (Call d number args kk))
              ≡ Go (entered caller proc ws)
          step =
              let there = stands.there in
              let few = taken program.setting number params proc ws stands long in
              rw (are, there, few) refl

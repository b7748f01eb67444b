-- A procedure of the scheme goes on with what a function gave that it called.
use Rattle.std.proofs.Common.{◌≡◌, inl, inr, ℕ, suc, ◌<◌, ◌≤◌, List, [], ◌∷◌, ◌++◌, Some, refl}
use Rattle.std.proofs.Common.{sym, subst, arith}
use Rattle.grift_base.specs.World.{WorldState}
use Rattle.run_laws.specs.Machines.{Go}
use Rattle.low_ir.specs.declared.code.LowSource.{LowSource}
use Rattle.low_ir.specs.Procedures.{Code, Return as ReturnCode}
use Rattle.low_ir.specs.Steps.{Locals}
use Rattle.low_ir.specs.Run.{Waiting as LowWaiting, LowState, word_of, with_local}
use Rattle.cast_modes.specs.ValueSteps.{Own, Return, Entering, CastFrame, casts_onto, decision_wraps}
use Rattle.coercion_norm.specs.Held.{TypesStand}
use Rattle.coercion_norm.specs.Objects.{Object}
use Rattle.flat_ir.specs.Counts.{decision_at}
use Rattle.flat_ir.specs.Machine.{FlatValue, FlatFrame, FlatFocus, FlatAfter, FlatState, FlatStore, flat_cast}
use Rattle.flat_ir.specs.Machine.{flat_state_at}
use Rattle.low_ir.specs.Frames.{frame_room, waiting_room, stack_room}
use Rattle.rt_cast.specs.States.{Heap, heap_of}
use Rattle.lower.specs.Storage.{Filled}
use Rattle.lower.specs.CarriedValues.{CellsHeld}
use Rattle.lower.specs.SchemeLaws.{Goes, Returns, ReturnsAt, Answers, resumed_leaves}
use Rattle.lower.proofs.simulation.RelationKept.{callers_grown}
use Rattle.lower.proofs.words.Credits.{by_now, some_more}
use Rattle.lower.proofs.words.Steps.{at, lt_true}
use Rattle.lower.proofs.words.Services.{return_price}
use Rattle.low_ir.specs.Prices.{low_price}
use Rattle.run_laws.specs.Runs.{Ending}
use Rattle.grift_base.specs.declared.verdicts.Verdict.{Verdict}
use Rattle.std.proofs.Common.{◌+◌, ◌*◌, ap, Option, None, le_refl}
use Rattle.lower.proofs.simulation.Way.{Program, N, mode_of, next_state, after_wraps, Settled, size_of}
use Rattle.lower.proofs.simulation.Way.{frames_weight}
use Rattle.lower.proofs.simulation.Way.{room_over, stays_in, cost_of, budget_of, dues, due_of, waiting_dues}
use Rattle.lower.proofs.simulation.Way.{zero_once_ended}
use Rattle.lower.proofs.simulation.Gives.{CarriedHere, CallersHere}
use Rattle.lower.proofs.simulation.Operations.{returned}
use Rattle.lower.proofs.simulation.Served.{OnServed, Lands, SettledWith, silent_after, until_ended}
use Rattle.lower.proofs.simulation.Services.{Served, OnTurn, Landing, serve_step, kept_in_front}

module _ (program : Program) (typed : TypesStand program.l) (store : FlatStore program.meaning.Cast)
    (world : WorldState)
    (places : List ℕ) (objects : List Object) (h : Heap)
    (filled : Filled program.meaning program.setting program.l program.number objects h)
    (cells : CellsHeld program.l program.setting.address program.procs program.meaning places objects h.memory places
    store) (us : List LowWaiting) (u : LowWaiting) (size : ℕ) (rests : List Code) (words : Locals)
    (v : FlatValue program.meaning.Cast) (source : LowSource) (w : ℕ) (is : word_of words source ≡ Some w)
    (carried : CarriedHere program places objects v w) (cast : program.meaning.Cast)
    (results : List program.meaning.Cast) (base : List (FlatFrame program.meaning.Cast))
    (resumes : program.meaning.Resumes program.setting program.l objects u (cast ∷ results))
    (callers : CallersHere program places objects us base) where
  abbrev pub f : FlatState program.meaning.Cast
  f = flat_state_at program.procs program.told (Return v) (CastFrame cast ∷ casts_onto results base) store world

  abbrev pub after : FlatAfter program.meaning.Cast
  after = flat_cast program.procs (mode_of program) store world v cast (casts_onto results base)

  abbrev pub wraps : ℕ
  wraps = decision_wraps (decision_at program.procs (mode_of program) (Some cast) v)

  -- the state before the word came in, with the procedure that waited for it
  abbrev c : LowState
  c = at world h us u.rest.count u.rest.rests u.rest.locals u.rest.code

  abbrev room : ℕ
  room = room_over program size (u ∷ us)

  enough : stack_room c + 25 * (1 + program.meaning.serving program.l) ≤ room
  enough = by (frame_room size) (frame_room u.rest.count) (waiting_room us)
      (25 * (1 + program.meaning.serving program.l))
    where
      by : (own other waits serving : ℕ) → other + waits + serving ≤ own + (other + waits) + own + serving
      by own other waits serving = omega arith

  light : (x : FlatValue program.meaning.Cast) (k : List (FlatFrame program.meaning.Cast))
      (store' : FlatStore program.meaning.Cast)
      → size_of (flat_state_at program.procs program.told (Return x) k store' world) ≤ suc (frames_weight k)
  light x [] store' = omega arith
  light x (frame ∷ k) store' = omega arith

  abbrev have : ℕ
  have = 28 + dues (at world h (u ∷ us) size rests words (ReturnCode source))

  lands_at : (x : FlatValue program.meaning.Cast) (store' : FlatStore program.meaning.Cast) (n left : ℕ) (t : LowState)
      → stack_room t ≤ stack_room c + 25 * (1 + program.meaning.serving program.l) → resumed_leaves ≤ left
      → ReturnsAt program.meaning program.setting program.l program.procs program.casts program.measured c places
      objects
      x store' n t
      → Lands program room world.output n (suc (frames_weight base)) have 28 left
      (flat_state_at program.procs program.told (Return x) base store' world) t
  lands_at x store' n left t fits le q = record {
    comes = by_now program.setting (OnServed program world.output n n t.words room)
        (λ left u. (u.words ≤ t.words) × SettledWith program room have 28 left
        (flat_state_at program.procs program.told (Return x) base store' world) n u) 0 left t (omega arith) (
          le_refl t.words,
          (
            28,
            settled,
            kept (flat_state_at program.procs program.told (Return x) base store' world).ended,
            until_ended (flat_state_at program.procs program.told (Return x) base store' world).ended (stack_room t)
                room (omega (arith, fits, enough)),
          ),
        );
    some = inr (light x base store');
  }
    where
      settled : Settled (after_wraps program n) (flat_state_at program.procs program.told (Return x) base store' world)
          28 t
      settled =
          subst (λ z. Settled (after_wraps program n)
          (flat_state_at program.procs program.told (Return x) base store' world) 28
          (at z (heap_of t) t.waiting t.active.count t.active.rests t.active.locals t.active.code)) (sym q.same)
          (returned (after_wraps program n) typed (places ++ q.cells) (objects ++ q.more)
          (heap_of t) world q.here.filled
          store' base q.here.cells x t.waiting t.active.count t.active.rests t.active.locals t.active.code 28 (inr (
            record {
              source = q.source;
              w = q.word;
              code = q.code;
              is = q.is;
              carried = q.carried;
              callers = subst (λ ws. CallersHere program (places ++ q.cells) (objects ++ q.more) ws base) (sym q.waits)
                  (callers_grown program.setting program.l program.run program.procs program.answer program.meaning
                  program.laws places (places ++ q.cells) (kept_in_front places q.cells) objects q.more us base
                  callers);
            },
            le_refl 28,
          )))

      kept : (o : Option (Ending Verdict)) → zero_once_ended o (28 + (due_of t.active.code t.active.rests
          + waiting_dues t.waiting)) + 28 ≤ left + have
      kept None =
          let z = ap (λ k. due_of k t.active.rests) q.code in
          let y = ap waiting_dues q.waits in omega (arith, le, z, y)
      kept (Some e) = omega (arith, le)

  lands : (focus : FlatFocus program.meaning.Cast) (frames : List (FlatFrame program.meaning.Cast))
      (store' : FlatStore program.meaning.Cast) (n left : ℕ) (t : LowState)
      → stack_room t ≤ stack_room c + 25 * (1 + program.meaning.serving program.l)
      → Returns program.meaning program.setting program.l program.procs program.casts program.measured c resumed_leaves
      places objects base focus frames store' n left t
      → Lands program room world.output n (suc (frames_weight base)) have 28 left
      (flat_state_at program.procs program.told focus frames store' world) t
  lands (Return x) frames store' n left t fits q =
      subst (λ fs. Lands program room world.output n (suc (frames_weight base)) have 28 left
      (flat_state_at program.procs program.told (Return x) fs store' world) t) (sym q.0)
      (lands_at x store' n left t fits q.1 q.2)
  lands (Own place) frames store' n left t fits q = absurd q
  lands (Entering g done todo) frames store' n left t fits q = absurd q

  pub resumed : Served program typed f after wraps 28 (at world h (u ∷ us) size rests words (ReturnCode source))
  resumed = (
    silent_after program c (Goes program.meaning program.setting program.l program.procs program.casts
        program.measured c
        (Returns program.meaning program.setting program.l program.procs program.casts program.measured c resumed_leaves
        places objects base) law.1.0)
        f refl after (cost_of program f) 0 program.number wraps
        (record c { active = with_local u.answer w u.rest }) law.1.1,
    28,
    omega arith,
    some_more program.setting (OnTurn program typed f wraps h.words room)
        (Landing program typed f room have 28 (next_state program f after) wraps h.words) 0
        (low_price program.setting.procs (at world h (u ∷ us) size rests words (ReturnCode source)) + budget_of
        program f)
        (28 + budget_of program f) (at world h (u ∷ us) size rests words (ReturnCode source))
        (let z = return_price program.setting.procs size source in omega (arith, z))
        (serve_step program typed f c refl room (suc (frames_weight base)) have 28 enough
        (Returns program.meaning program.setting program.l program.procs program.casts program.measured c resumed_leaves
        places objects base) lands
        after wraps law.1.0 (at world h (u ∷ us) size rests words (ReturnCode source))
        (record c { active = with_local u.answer w u.rest }) step refl
        (record {
          same = refl;
          filling = inl (objects, filled);
          asked = omega arith;
          room = stays_in program size (u ∷ us);
        }) (record {
          objects = objects;
          filled = inl filled;
          same = refl;
          room = omega arith;
          asked = omega arith;
        }) law.1.1),
  )
    where
      law : (u.answer < u.rest.count)
          × Answers program.meaning program.setting program.l program.procs program.casts program.measured c
          resumed_leaves places objects base after (cost_of program f)
          program.number wraps (record c { active = with_local u.answer w u.rest })
      law = program.serves.calling.goes_on c program.number places objects store
          (record { filled = filled; cells = cells }) base u cast results resumes v w carried

      step : (N program).step (at world h (u ∷ us) size rests words (ReturnCode source))
          ≡ Go (record c { active = with_local u.answer w u.rest })
      step =
          let e = is in
          let less = lt_true u.answer u.rest.count law.0 in
          rw (e, less) refl

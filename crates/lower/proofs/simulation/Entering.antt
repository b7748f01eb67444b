-- A function that a procedure of the scheme calls is entered.
use Rattle.std.proofs.Common.{◌≡◌, inl, inr, ℕ, suc, ◌+◌, ◌≤◌, List, [], ◌∷◌, ◌++◌, length, Some, true, refl}
use Rattle.std.proofs.Common.{sym, ap, ◌∙◌, subst, arith, ◌*◌, Bool, false, Option, None, le_refl}
use Rattle.std.specs.Prelude.{slice_get, ◌==◌, ◌&&◌, nat_le, ◌-◌, if◌then◌else◌}
use Rattle.run_laws.specs.Machines.{Go}
use Rattle.machine_words.specs.Halts.{ending_of}
use Rattle.low_ir.specs.declared.code.LowSource.{LowSource}
use Rattle.low_ir.specs.Procedures.{Code, Proc as LowProc}
use Rattle.low_ir.specs.Prices.{low_price, step_price}
use Rattle.low_ir.specs.Steps.{Locals, no_locals}
use Rattle.low_ir.specs.Run.{Waiting as LowWaiting, LowState, bind, code_step, word_of, words_of, and_more}
use Rattle.cast_modes.specs.ValueSteps.{Own, Return, Entering}
use Rattle.coercion_norm.specs.Held.{TypesStand}
use Rattle.coercion_norm.specs.Objects.{Object}
use Rattle.flat_ir.specs.Bodies.{Proc}
use Rattle.flat_ir.specs.Machine.{FlatCode, FlatValue, FlatValues, FlatFrame, FlatFocus, FlatState, FlatStore, Group}
use Rattle.flat_ir.specs.Machine.{Inside}
use Rattle.flat_ir.specs.Machine.{locals_of, flat_state_at}
use Rattle.flat_ir.specs.Levels.{levels}
use Rattle.low_ir.specs.Frames.{stack_room}
use Rattle.rt_cast.specs.States.{heap_of}
use Rattle.lowered_code.specs.Lowered.{low_proc}
use Rattle.lower.specs.SchemeLaws.{Calls, CallsAt, call_leaves}
use Rattle.lower.specs.Meanings.{is_last}
use Rattle.lower.proofs.heap.Objects.{none_some, same_some}
use Rattle.lower.proofs.heap.CarriedLater.{as_many}
use Rattle.lower.proofs.simulation.RelationKept.{callers_grown}
use Rattle.lower.proofs.words.Credits.{by_now, some_go}
use Rattle.lower.proofs.words.Steps.{at}
use Rattle.lower.proofs.words.EmitPrices.{sources_most, source_most, slot_most}
use Rattle.lower.proofs.simulation.Groups.{proc_is_closed}
use Rattle.lower.proofs.simulation.Way.{Program, after_wraps, N, due_of, due_most, waiting_dues}
use Rattle.lower.proofs.simulation.Gives.{CallersHere, levels_above}
use Rattle.lower.proofs.simulation.Calls.{entered, own_of, proc_at}
use Rattle.lower.proofs.simulation.Served.{OnServed, Lands, SettledWith}
use Rattle.lower.proofs.simulation.Services.{kept_in_front}

words_long : (locals : Locals) (sources : List LowSource) (ws : List ℕ) → words_of locals sources ≡ Some ws
    → length sources ≡ length ws
words_long locals [] [] e = refl
words_long locals [] (w ∷ ws) e = absurd (let z : ⊥ = cc in z)
words_long locals (a ∷ sources) ws e =
    by (word_of locals a) (words_of locals sources) ws refl e (λ xs f. words_long locals sources xs f)
  where
    by : (x : Option ℕ) (xs : Option (List ℕ)) (ws : List ℕ) → words_of locals sources ≡ xs
        → and_more x xs ≡ Some ws
        → ((ys : List ℕ) → words_of locals sources ≡ Some ys → length sources ≡ length ys)
        → suc (length sources) ≡ length ws
    by None xs ws f e ih = none_some e
    by (Some x) None ws f e ih = none_some e
    by (Some x) (Some xs) ws f e ih = ap suc (ih xs f) ∙ ap length (same_some (x ∷ xs) ws e)

due_none : (k : Code) (rests : List Code) → is_last k ≡ true → due_of k rests ≡ 0
due_none k rests e = by (is_last k) e
  where
    by : (b : Bool) → b ≡ true → (if b then 0 else 10 * length rests) ≡ 0
    by true e = refl
    by false e = absurd (let z : ⊥ = cc in z)

pub takes_all : (program : Program) (k : ℕ) (p : Proc) → slice_get program.procs k ≡ Some p → (w : ℕ) (ws : List ℕ)
    → length ws ≡ p.params
    → ((length (w ∷ ws) == suc p.params)
    && (nat_le (suc p.params) 8 && nat_le (suc p.params) (levels p.params p.body + 10))) ≡ true
takes_all program k p there w ws long =
    let cl = proc_is_closed program.procs program.closed k p there in
    let p6 = cl.params in
    let above = levels_above p.params p.body in
    all_true (suc (length ws)) (suc p.params) (levels p.params p.body + 10) (omega (arith, long)) (omega (arith, p6))
    (omega (arith, above))
  where
    all_true : (n m k : ℕ) → n ≡ m → m ≤ 8 → m ≤ k → ((n == m) && (nat_le m 8 && nat_le m k)) ≡ true
    all_true n m k e x y = grind (arith, e, x, y)

module _ (program : Program) (typed : TypesStand program.l) (f : FlatState program.meaning.Cast) (places : List ℕ)
    (objects : List Object) (s : LowState) (same_world : s.world ≡ f.world)
    (callers : CallersHere program places objects s.waiting f.frames) (room have before : ℕ)
    (in_room : stack_room s + 25 * (1 + program.meaning.serving program.l) ≤ room)
    (enough : 174 + waiting_dues s.waiting + before ≤ call_leaves + have) where
  enters_at : (code : FlatCode) (captured : FlatValues program.meaning.Cast)
      (vs : List (FlatValue program.meaning.Cast)) (p : Proc)
      → slice_get program.procs (code.first + code.place) ≡ Some p → length vs ≡ p.params
      → (frames : List (FlatFrame program.meaning.Cast)) (store : FlatStore program.meaning.Cast) (n left : ℕ)
      (t : LowState) → stack_room t ≤ stack_room s + 25 * (1 + program.meaning.serving program.l) → call_leaves ≤ left
      → CallsAt program.meaning program.setting program.l program.procs program.casts program.measured s places objects
      code captured vs f.frames frames store n t
      → Lands program room f.world.output n 0 have before left (flat_state_at program.procs program.told
      (Own (Inside p.body (locals_of vs) (record { first = code.first; captured = captured }))) frames store f.world) t
  enters_at code captured vs p there long frames store n left t fits le q =
      let came = some_go program.setting P H 0 (left - 174) left t last step spare on
      (by_now program.setting P H 0 (left - 174) last (omega arith) (
        le_refl t.words,
        (
          0,
          inl (record {
            is = refl;
            related = record {
              places = places ++ q.cells;
              objects = objects ++ q.more;
              filled = q.here.filled;
              cells = q.here.cells;
              world = q.same ∙ same_world;
              goes =
                  entered (after_wraps program n) f* (places ++ q.cells) (objects ++ q.more) (heap_of t) q.here.filled
                  q.here.cells p group vs q.own q.words (waits ∷ t.waiting) frames (code.first + code.place) there
                  (own_of program (places ++ q.cells) (objects ++ q.more) code.first code.place captured p there q.own
                  q.function) q.arguments long (inr (inr (
                    q.cast,
                    q.results,
                    f.frames,
                    q.frames_are,
                    q.resumes,
                    subst (λ ws. CallersHere program (places ++ q.cells) (objects ++ q.more) ws f.frames) (sym q.waits)
                        (callers_grown program.setting program.l program.run program.procs program.answer
                        program.meaning
                        program.laws places (places ++ q.cells) (kept_in_front places q.cells) objects q.more s.waiting
                        f.frames callers),
                  )));
            };
          }),
          kept,
          omega arith,
        ),
      )) in
      record { comes = came.0; some = inl came.1 }
    where
      group : Group program.meaning.Cast
      group = record { first = code.first; captured = captured }

      f* : FlatState program.meaning.Cast
      f* = flat_state_at program.procs program.told
          (Own (Inside p.body (locals_of vs) (record { first = code.first; captured = captured }))) frames store f.world

      P : LowState → Type 0
      P = OnServed program f.world.output n n t.words room

      H : ℕ → LowState → Type 0
      H left u = (u.words ≤ t.words) × SettledWith program room have before left f* n u

      low : LowProc
      low = low_proc program.run p

      waits : LowWaiting
      waits = record { rest = record t.active { code = q.rest }; answer = q.d }

      last : LowState
      last = at t.world (heap_of t) (record { rest = record t.active { code = q.rest }; answer = q.d } ∷ t.waiting)
          (low_proc program.run p).words [] (bind 0 (q.own ∷ q.words) no_locals) (low_proc program.run p).code

      on : P t
      on = record {
        same = ap (λ w. w.output) (q.same ∙ same_world);
        filling = inl (objects ++ q.more, q.here.filled);
        asked = le_refl t.words;
        room = omega (arith, fits, in_room);
      }

      -- seven words at most are handed on
      spare : low_price program.setting.procs t + (left - 174) ≤ left
      spare =
          let price = ap (step_price program.setting.procs t.active.count) q.is in
          let x = sources_most q.sources in
          let y = source_most q.at in
          let z = slot_most q.d in
          let m = words_long t.active.locals q.sources (q.own ∷ q.words) q.handed in
          let many = as_many program.l program.setting.address program.procs program.meaning program.laws
          (places ++ q.cells) (objects ++ q.more) vs q.words q.arguments in
          let c = (proc_is_closed program.procs program.closed (code.first + code.place) p there).params in
          omega (arith, price, x, y, z, m, many, long, c, le)

      -- the procedure that waits ends no branches
      kept : 0 + (due_of low.code [] + (due_of q.rest t.active.rests + waiting_dues t.waiting)) + before
          ≤ left - 174 + have
      kept =
          let x = due_most low.code [] in
          let y = due_none q.rest t.active.rests (program.laws.resumes_elsewhere program.setting program.l
          (objects ++ q.more) waits (q.cast ∷ q.results) q.resumes) in
          let z = ap waiting_dues q.waits in
          omega (arith, enough, le, x, y, z)

      step : (N program).step t ≡ Go last
      step =
          let a = q.address in
          let b = q.handed in
          let c = proc_at program (code.first + code.place) (low_proc program.run p)
          (program.stand (code.first + code.place) p there) in
          let many = as_many program.l program.setting.address program.procs program.meaning program.laws
          (places ++ q.cells) (objects ++ q.more) vs q.words q.arguments in
          let d = takes_all program (code.first + code.place) p there q.own q.words (omega (arith, many, long)) in
          ap (λ z. code_step ending_of program.setting z t) q.is ∙ rw (a, b, c, d) refl

  pub enters : (focus : FlatFocus program.meaning.Cast) (frames : List (FlatFrame program.meaning.Cast))
      (store : FlatStore program.meaning.Cast) (n left : ℕ) (t : LowState)
      → stack_room t ≤ stack_room s + 25 * (1 + program.meaning.serving program.l)
      → Calls program.meaning program.setting program.l program.procs program.casts program.measured s places objects
      f.frames focus frames store n left t
      → Lands program room f.world.output n 0 have before left
      (flat_state_at program.procs program.told focus frames store f.world) t
  enters (Own (Inside body locals group)) frames store n left t fits q =
      subst (λ b. Lands program room f.world.output n 0 have before left
      (flat_state_at program.procs program.told (Own (Inside b locals group)) frames
      store f.world) t) (sym q.6)
      (subst (λ ls. Lands program room f.world.output n 0 have before left
      (flat_state_at program.procs program.told (Own (Inside q.3.body ls group)) frames
      store f.world) t) (sym q.7)
      (subst (λ g. Lands program room f.world.output n 0 have before left
      (flat_state_at program.procs program.told
      (Own (Inside q.3.body (locals_of q.2) g)) frames store f.world) t) (sym q.8)
      (enters_at q.0 q.1 q.2 q.3 q.4 q.5 frames store n left t fits q.9 q.10)))
  enters (Return v) frames store n left t fits q = absurd q
  enters (Entering g done todo) frames store n left t fits q = absurd q

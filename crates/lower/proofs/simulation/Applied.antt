-- Calls of functions in wrappers.
use Rattle.std.proofs.Common.{◌≡◌, inl, inr, ℕ, zero, suc, ◌+◌, ◌^◌, ◌%◌, ◌≤◌, List, [], ◌∷◌, length, Some, None}
use Rattle.std.proofs.Common.{◌≢◌, true, false, Option, refl, sym, ap, ap₂, ◌∙◌, subst, arith}
use Rattle.std.specs.Prelude.{◌&&◌, nat_le}
use Rattle.run_laws.specs.Machines.{Go}
use Rattle.low_ir.specs.declared.code.LowSource.{LowSource}
use Rattle.low_ir.specs.declared.code.LowSource.TheVariants.{Word}
use Rattle.low_ir.specs.Procedures.{Code, Done, Load, TailCall, TailCallAt, CallAt, Call as CallOf}
use Rattle.low_ir.specs.Steps.{Locals}
use Rattle.low_ir.specs.Run.{Waiting as LowWaiting, LowState, word_of, words_of, and_more, entered}
use Rattle.cast_modes.specs.RunValues.{RunWrap, Pending, plain, all_plain, in_row}
use Rattle.cast_modes.specs.ValueSteps.{Entering, onto, pendings_onto}
use Rattle.coercion_norm.specs.Held.{TypesStand}
use Rattle.coercion_norm.specs.Objects.{Object}
use Rattle.flat_ir.specs.declared.code.Operand.{Operand}
use Rattle.flat_ir.specs.declared.code.Operand.TheVariants.{Local, Captured, Sibling, Int, Bool as BoolCase}
use Rattle.flat_ir.specs.declared.code.Operand.TheVariants.{Unit as UnitCase}
use Rattle.flat_ir.specs.Bodies.{Call}
use Rattle.flat_ir.specs.Closed.{operand_bound, operands_bound}
use Rattle.flat_ir.specs.Machine.{FlatCode, FlatValue, FlatAfter, FlatState, Group}
use Rattle.flat_ir.specs.Machine.{value, values, flat_turn}
use Rattle.flat_ir.specs.Machine.{Locals as FlatLocals}
use Rattle.lowered_code.specs.declared.numbering.Shape.{Shape}
use Rattle.low_ir.specs.Frames.{frame_room, waiting_room}
use Rattle.rt_cast.specs.States.{Heap}
use Rattle.lowered_code.specs.Numbering.{operand_word, test_word}
use Rattle.lowered_code.specs.Emit.{Then, ToCaller, Into, emit, call, call_by, is_sibling, found, found_all}
use Rattle.lowered_code.specs.Emit.{apply_words}
use Rattle.lowered_code.specs.Emit.{source_at}
use Rattle.lower.specs.CarriedValues.{AreCarried}
use Rattle.lower.specs.Relation.{Fits, NoCasts, pending_values}
use Rattle.lower.specs.SchemeLaws.{Goes, Calls, Serves, at_or_zero, call_leaves}
use Rattle.lower.proofs.words.Scene.{Fills, CellsStand}
use Rattle.lower.proofs.heap.Objects.{none_some, same_some}
use Rattle.lower.proofs.heap.CarriedLater.{as_many}
use Rattle.lower.proofs.simulation.RelationKept.{SameNamed, rest_same, rest_branch}
use Rattle.lower.proofs.words.Steps.{at, falls_through, waiting_for, left_of}
use Rattle.low_ir.specs.Prices.{low_price, codes_price}
use Rattle.std.proofs.Common.{◌*◌}
use Rattle.flat_ir.specs.FlatTally.{act_cost}
use Rattle.lower.proofs.words.EmitPrices.{call_price_all, call_body_begins, then_price}
use Rattle.lower.proofs.words.Operands.{Changes, ChangesFrom, and_true, both_words, found_all_same}
use Rattle.lower.proofs.words.Operands.{same_besides}
use Rattle.lower.proofs.words.Operands.{value_carried, values_carried}
use Rattle.lower.proofs.words.Services.{taken}
use Rattle.lower.proofs.simulation.Way.{Program, N, mode_of, prices_of, next_state, cost_of, dues, due_is}
use Rattle.lower.proofs.simulation.Way.{waiting_dues}
use Rattle.lower.proofs.simulation.Way.{room_over, turn_room, stays_in}
use Rattle.lower.proofs.simulation.Gives.{CarriedHere, RestHere, CallersHere}
use Rattle.lower.proofs.simulation.Served.{silent_after}
use Rattle.lower.proofs.simulation.Services.{OnTurn, Calling, Served, calling_goal, calls_now, is_served}
use Rattle.lower.proofs.simulation.Services.{serve_step}
use Rattle.lower.proofs.simulation.Services.{entered_room}
use Rattle.lower.proofs.simulation.Casts.{serving_scene, as_it_was}
use Rattle.lower.proofs.simulation.Serving.{after_fetching, not_of_kind, wrapped_there}
use Rattle.lower.proofs.simulation.Entering.{enters}
use Rattle.lower.proofs.simulation.RelationKept.{Named, OwnName, LowName, HighName}

-- ---- words of sources by their places

pub and_more_parts : (x : Option ℕ) (xs : Option (List ℕ)) (w : ℕ) (ws : List ℕ) → and_more x xs ≡ Some (w ∷ ws)
    → (x ≡ Some w) × (xs ≡ Some ws)
and_more_parts None xs w ws e = none_some e
and_more_parts (Some y) None w ws e = none_some e
and_more_parts (Some y) (Some ys) w ws e = (
  ap Some (head_same y w ys ws (same_some (y ∷ ys) (w ∷ ws) e)),
  ap Some (tail_same y w ys ws (same_some (y ∷ ys) (w ∷ ws) e)),
)
  where
    head_same : (x y : ℕ) (xs ys : List ℕ) → (x ∷ xs) ≡ (y ∷ ys) → x ≡ y
    head_same x y xs ys e = cc

    tail_same : (x y : ℕ) (xs ys : List ℕ) → (x ∷ xs) ≡ (y ∷ ys) → xs ≡ ys
    tail_same x y xs ys e = cc

and_more_none : (x : Option ℕ) (xs : Option (List ℕ)) → and_more x xs ≡ Some [] → ⊥
and_more_none None xs e = none_some e
and_more_none (Some y) None e = none_some e
and_more_none (Some y) (Some ys) e = clash y ys (same_some (y ∷ ys) [] e)
  where
    clash : (y : ℕ) (ys : List ℕ) → (y ∷ ys) ≡ [] → ⊥
    clash y ys e = cc

pub source_word : (locals : Locals) (xs : List LowSource) (ws : List ℕ) (i : ℕ) → words_of locals xs ≡ Some ws
    → word_of locals (source_at xs i) ≡ Some (at_or_zero ws i)
source_word locals [] [] i e = refl
source_word locals [] (w ∷ ws) i e = absurd (clash w ws (same_some [] (w ∷ ws) e))
  where
    clash : (y : ℕ) (ys : List ℕ) → [] ≡ (y ∷ ys) → ⊥
    clash y ys e = cc
source_word locals (x ∷ xs) [] i e = absurd (and_more_none (word_of locals x) (words_of locals xs) e)
source_word locals (x ∷ xs) (w ∷ ws) zero e = (and_more_parts (word_of locals x) (words_of locals xs) w ws e).0
source_word locals (x ∷ xs) (w ∷ ws) (suc i) e =
    source_word locals xs ws i (and_more_parts (word_of locals x) (words_of locals xs) w ws e).1

-- ---- arguments without casts

plain_again : {C : Type 0} (todo : List (Pending C FlatCode)) → NoCasts todo → todo ≡ all_plain (pending_values todo)
plain_again [] e = refl
plain_again (p ∷ todo) e =
    ap₂ (λ x xs. x ∷ xs) (ap (λ cs. record { value = p.value; casts = cs }) e.0) (plain_again todo e.1)

pub all_plain_onto : {C : Type 0} (done : List (FlatValue C)) (todo : List (Pending C FlatCode)) → NoCasts todo
    → pendings_onto done todo ≡ all_plain (onto done (pending_values todo))
all_plain_onto [] todo e = plain_again todo e
all_plain_onto (v ∷ done) todo e = all_plain_onto done (plain v ∷ todo) (refl, e)

-- ---- the call

module _ (program : Program) (typed : TypesStand program.l)
    (f : FlatState program.meaning.Cast) (places : List ℕ) (objects : List Object) (h : Heap)
    (filled : Fills program objects h) (cells : CellsStand program places objects h f.store)
    (waiting : List LowWaiting) (size : ℕ) (rests : List Code) (words : Locals) (s : Shape) (count depth : ℕ)
    (group : Group program.meaning.Cast) (locals : FlatLocals program.meaning.Cast) (fo : Operand) (os : List Operand)
    (next : Then)
    (fits : Fits program.setting program.l program.run program.procs program.answer program.meaning places objects s
    count size group depth locals words (Call fo os))
    (rest : RestHere program places objects waiting s count size group depth f.frames next rests words)
    (wide : s.params + 10 ≤ size) (u : FlatValue program.meaning.Cast) (cast : program.meaning.Cast)
    (function : value locals group fo ≡ RunWrap u cast) (six : s.params ≤ 6)
    (cost_is : act_cost program.procs (mode_of program) (prices_of program) ≡ cost_of program f) where
  abbrev pub entering : FlatAfter program.meaning.Cast
  entering =
      flat_turn program.procs (mode_of program) f.store f.world
      (Entering (RunWrap u cast) [] (all_plain (values locals group os))) f.frames

  abbrev a : LowSource
  a = found s (operand_word s 0) fo

  parts : (operand_bound s.captured count depth fo ≡ true)
      × ((operands_bound s.captured count depth os && nat_le (length os) 6) ≡ true)
  parts = and_true (operand_bound s.captured count depth fo)
      (operands_bound s.captured count depth os && nat_le (length os) 6) fits.bound

  few : length os ≤ 6
  few =
      let z = (and_true (operands_bound s.captured count depth os) (nat_le (length os) 6) parts.1).1 in grind (arith, z)

  all_bound : (operand_bound s.captured count depth fo && operands_bound s.captured count depth os) ≡ true
  all_bound =
      let x = parts.0 in
      let y = (and_true (operands_bound s.captured count depth os) (nat_le (length os) 6) parts.1).0 in
      rw (x, y) refl

  long : length (values locals group os) ≡ length os
  long = values_long os
    where
      values_long : (os : List Operand) → length (values locals group os) ≡ length os
      values_long [] = refl
      values_long (o ∷ os) = ap suc (values_long os)

  -- the procedure's law, from any state with this storage
  law : (waits : List LowWaiting) (n : ℕ) (rr : List Code) (now : Locals) (code : Code) (w : ℕ) (ws : List ℕ)
      → CarriedHere program places objects (RunWrap u cast) w
      → AreCarried program.l program.setting.address program.procs program.meaning places objects
      (in_row (values locals group os)) ws
      → Serves program.meaning program.setting program.l program.procs program.casts program.measured
      (at f.world h waits n rr now code)
      (Calls program.meaning program.setting program.l program.procs program.casts program.measured
      (at f.world h waits n rr now code)
      places objects f.frames) entering (cost_of program f) program.number 0
      (entered (at f.world h waits n rr now code) program.serves.calling.proc
      (w ∷ at_or_zero ws 0 ∷ at_or_zero ws 1 ∷ at_or_zero ws 2 ∷ at_or_zero ws 3 ∷ at_or_zero ws 4 ∷ at_or_zero ws 5
      ∷ length ws ∷ []))
  law waits n rr now code w ws carried all =
      subst (λ cost. Serves program.meaning program.setting program.l program.procs program.casts
      program.measured (at f.world h waits n rr now code)
      (Calls program.meaning program.setting program.l program.procs program.casts program.measured
      (at f.world h waits n rr now code) places objects f.frames) entering cost program.number 0
      (entered (at f.world h waits n rr now code) program.serves.calling.proc
      (w ∷ at_or_zero ws 0 ∷ at_or_zero ws 1 ∷ at_or_zero ws 2 ∷ at_or_zero ws 3 ∷ at_or_zero ws 4 ∷ at_or_zero ws 5
      ∷ length ws ∷ []))) cost_is
      (program.serves.calling.calls (at f.world h waits n rr now code) program.number places objects f.store
      (record { filled = filled; cells = cells }) f.frames u cast w carried (values locals group os) ws all
      (omega (arith, long, few)))

  abbrev handed : ℕ → List ℕ → List ℕ
  handed w ws =
      w ∷ at_or_zero ws 0 ∷ at_or_zero ws 1 ∷ at_or_zero ws 2 ∷ at_or_zero ws 3 ∷ at_or_zero ws 4 ∷ at_or_zero ws 5
      ∷ length ws ∷ []

  apply_handed : (now : Locals) (w : ℕ) (ws : List ℕ)
      → AreCarried program.l program.setting.address program.procs program.meaning places objects
      (in_row (values locals group os)) ws → words_of now (a ∷ found_all s 1 os) ≡ Some (w ∷ ws)
      → words_of now (apply_words a (found_all s 1 os)) ≡ Some (handed w ws)
  apply_handed now w ws all are =
      let both = and_more_parts (word_of now a) (words_of now (found_all s 1 os)) w ws are in
      let many = as_many program.l program.setting.address program.procs program.meaning program.laws places objects
      (values locals group os) ws all in
      let found_long : length (found_all s 1 os) ≡ length os = all_found 1 os in
      let count_is : length (found_all s 1 os) % 2 ^ 64 ≡ length ws = omega (arith, found_long, many, long, few) in
      let from : (i : ℕ) → word_of now (source_at (found_all s 1 os) i) ≡ Some (at_or_zero ws i) =
      λ i. source_word now (found_all s 1 os) ws i both.1 in
      both_words (word_of now a) _ w _ both.0
      (both_words _ _ _ _ (from 0) (both_words _ _ _ _ (from 1) (both_words _ _ _ _ (from 2)
      (both_words _ _ _ _ (from 3) (both_words _ _ _ _ (from 4) (both_words _ _ _ _ (from 5)
      (both_words _ _ _ _ (ap Some count_is) refl)))))))
    where
      all_found : (i : ℕ) (os : List Operand) → length (found_all s i os) ≡ length os
      all_found i [] = refl
      all_found i (o ∷ os) = ap suc (all_found (suc i) os)

  -- the words that names lie in
  not_test : (j : ℕ) → Named s depth j → j ≢ test_word s
  not_test j (OwnName e) = λ z. omega (arith, z, e)
  not_test j (LowName p q) = λ z. omega (arith, z, q)
  not_test j (HighName p q) = λ z. omega (arith, z, p)

  abbrev start : LowState
  start = at f.world h waiting size rests words (emit program.run s (Call fo os) next)

  abbrev have : ℕ
  have = 0 + dues start

  -- where the value goes: what is left behind the call
  abbrev floor_for : Then → ℕ
  floor_for next' = then_price program.setting.procs size s six next' + codes_price program.setting.procs size rests

  abbrev M : ℕ → LowState → Type 0
  M floor t = Calling program typed f floor have 556 entering 0 t

  on : (rr : List Code) (now : Locals) (code : Code)
      → OnTurn program typed f 0 h.words (room_over program size waiting) (at f.world h waiting size rr now code)
  on rr now code = record {
    same = refl;
    filling = inl (objects, filled);
    asked = omega arith;
    room = stays_in program size waiting;
  }

  -- the procedure is entered from a state, for whose callers others wait
  enters_apply : (waits : List LowWaiting) (n : ℕ) (rr : List Code) (now : Locals) (code : Code) (w : ℕ) (ws : List ℕ)
      → CarriedHere program places objects (RunWrap u cast) w
      → AreCarried program.l program.setting.address program.procs program.meaning places objects
      (in_row (values locals group os)) ws → CallersHere program places objects waits f.frames
      → 174 + waiting_dues waits + 556 ≤ call_leaves + have → (t : LowState) (floor : ℕ)
      → frame_room n + waiting_room waits + 25 * (1 + program.meaning.serving program.l) ≤ turn_room program t
      → low_price program.setting.procs t + floor ≤ left_of program.setting t → t.words ≡ h.words
      → (N program).step t ≡ Go (entered (at f.world h waits n rr now code) program.serves.calling.proc (handed w ws))
      → OnTurn program typed f 0 t.words (turn_room program t) t → M floor t
  enters_apply waits n rr now code w ws carried all callers enough t floor in_room paid same step calm =
      let c = at f.world h waits n rr now code in
      let z = law waits n rr now code w ws carried all in (
        low_price program.setting.procs t,
        paid,
        serve_step program typed f c refl (turn_room program t) 0 have 556 in_room
            (Calls program.meaning program.setting program.l program.procs program.casts program.measured c places
            objects
            f.frames)
            (λ focus frames store m left v fits q. enters program typed f places objects c refl callers
            (turn_room program t) have 556 in_room enough focus frames store m left v fits q) entering 0 z.0 t
            (entered c program.serves.calling.proc (handed w ws)) step (sym same) calm (record {
              objects = objects;
              filled = inl filled;
              same = refl;
              room = entered_room c program.serves.calling.proc (handed w ws)
                  (25 * (1 + program.meaning.serving program.l)) program.serves.calling.stands.small;
              asked = omega arith;
            }) z.1,
      )

  -- what the procedures that serve take has room above this one, and above the same one again
  enough_room : frame_room size + waiting_room waiting + 25 * (1 + program.meaning.serving program.l)
      ≤ room_over program size waiting
  enough_room = by (frame_room size) (waiting_room waiting) (25 * (1 + program.meaning.serving program.l))
    where
      by : (own waits serving : ℕ) → own + waits + serving ≤ own + waits + own + serving
      by own waits serving = omega arith

  enough_above : frame_room size + (frame_room size + waiting_room waiting)
      + 25 * (1 + program.meaning.serving program.l) ≤ room_over program size waiting
  enough_above = by (frame_room size) (waiting_room waiting) (25 * (1 + program.meaning.serving program.l))
    where
      by : (own waits serving : ℕ) → own + (own + waits) + serving ≤ own + waits + own + serving
      by own waits serving = omega arith

  due_begun : 10 * length rests + waiting_dues waiting ≤ have
  due_begun =
      let z = due_is (emit program.run s (Call fo os) next) rests (call_body_begins program.run s fo os next) in
      omega (arith, z)

  -- where the test changes its own word, the operands are found as before
  still_found : (now last : Locals) → Changes (test_word s) now last
      → words_of last (a ∷ found_all s 1 os) ≡ words_of now (a ∷ found_all s 1 os)
  still_found now last more =
      found_all_same (serving_scene program typed f places entering 0 0 0 0 h.words (room_over program size waiting))
      f.world h (as_it_was program f h.words) objects filled waiting size (stays_in program size waiting) rests s count
      group depth locals (fo ∷ os) 0 all_bound (omega (arith, few)) now last more

  by_next : (next' : Then)
      → RestHere program places objects waiting s count size group depth f.frames next' rests words → (w : ℕ)
      (ws : List ℕ) (now : Locals) → CarriedHere program places objects (RunWrap u cast) w
      → AreCarried program.l program.setting.address program.procs program.meaning places objects
      (in_row (values locals group os)) ws → words_of now (a ∷ found_all s 1 os) ≡ Some (w ∷ ws)
      → SameNamed s depth words now
      → M (floor_for next') (at f.world h waiting size rests now (call program.run s a (found_all s 1 os) next'))
  by_next ToCaller r w ws now carried all are same =
      not_of_kind program typed f places objects h filled waiting size rests s count depth group locals wide entering 0
      (floor_for ToCaller) have 556 a w 1 (Load (test_word s) a 8 (TailCallAt (Word (test_word s))
      (a ∷ found_all s 1 os))) Done
      (TailCall program.run.apply (apply_words a (found_all s 1 os))) now (omega arith) (λ z. omega (arith, z))
      (λ z. omega (arith, z)) (and_more_parts (word_of now a) (words_of now (found_all s 1 os)) w ws are).0
      (wrapped_there program places objects u cast [] w carried)
      (λ last more.
      let still = still_found now last more ∙ are in
      falls_through program.setting (OnTurn program typed f 0 h.words (room_over program size waiting))
      (calling_goal program typed f (floor_for ToCaller) have 556 entering 0 h.words
      (room_over program size waiting))
      on
      (calls_now program typed f (floor_for ToCaller) have 556 entering 0
      (at f.world h waiting size rests last (TailCall program.run.apply (apply_words a (found_all s 1 os))))
      (enters_apply waiting size rests last (TailCall program.run.apply (apply_words a (found_all s 1 os))) w ws carried
      all r (omega (arith, due_begun)) (at f.world h waiting size rests last
      (TailCall program.run.apply (apply_words a (found_all s 1 os))))
      (floor_for ToCaller) enough_room (omega arith) refl
      (let e = apply_handed last w ws all still in
      let there = program.serves.calling.stands.there in
      let fine = taken program.setting program.run.apply 8 program.serves.calling.proc (handed w ws)
      program.serves.calling.stands refl
      in rw (e, there, fine) refl)
      (on rests last (TailCall program.run.apply (apply_words a (found_all s 1 os)))))))
  by_next (Into d k) r w ws now carried all are same =
      not_of_kind program typed f places objects h filled waiting size rests s count depth group locals wide entering 0
      (floor_for (Into d k)) have 556 a w 1 (Load (test_word s) a 8 (CallAt d (Word (test_word s))
      (a ∷ found_all s 1 os) Done))
      (CallOf d program.run.apply (apply_words a (found_all s 1 os)) Done) k now (omega arith) (λ z. omega (arith, z))
      (λ z. omega (arith, z)) (and_more_parts (word_of now a) (words_of now (found_all s 1 os)) w ws are).0
      (wrapped_there program places objects u cast [] w carried)
      (λ last more.
      let still = still_found now last more ∙ are in
      let named : SameNamed s depth words last = λ j n. more j (not_test j n) ∙ same j n in
      calls_now program typed f (floor_for (Into d k)) have 556 entering 0
      (at f.world h waiting size (k ∷ rests) last
      (CallOf d program.run.apply (apply_words a (found_all s 1 os)) Done))
      (enters_apply (waiting_for d size (k ∷ rests) last Done ∷ waiting) size (k ∷ rests) last Done w ws carried all
      (inr (inl (
        s,
        count,
        group,
        depth,
        rest_branch program.setting program.l program.run program.procs program.answer program.meaning program.laws
            places objects (CallersHere program places objects waiting) s count size group depth f.frames d k rests last
            (rest_same program.setting program.l program.run program.procs program.answer program.meaning program.laws
            places objects (CallersHere program places objects waiting) s count size group depth f.frames (Into d k)
            rests words last named r),
      ))) (omega (arith, due_begun))
      (at f.world h waiting size (k ∷ rests) last
      (CallOf d program.run.apply (apply_words a (found_all s 1 os)) Done)) (floor_for (Into d k)) enough_above
      (omega arith) refl
      (let e = apply_handed last w ws all still in
      let there = program.serves.calling.stands.there in
      let fine = taken program.setting program.run.apply 8 program.serves.calling.proc (handed w ws)
      program.serves.calling.stands refl
      in rw (e, there, fine) refl)
      (on (k ∷ rests) last (CallOf d program.run.apply (apply_words a (found_all s 1 os)) Done))))

  -- the function is none of the group, since those have no wrappers
  no_sibling : is_sibling fo ≡ false
  no_sibling = by fo function
    where
      by : (o : Operand) → value locals group o ≡ RunWrap u cast → is_sibling o ≡ false
      by (Local level) e = refl
      by (Captured i) e = refl
      by (Sibling i) e = let z : ⊥ = cc in absurd z
      by (Int n) e = refl
      by (BoolCase b) e = refl
      by UnitCase e = refl

  by_kind : (w : ℕ) (ws : List ℕ) (now : Locals) → CarriedHere program places objects (RunWrap u cast) w
      → AreCarried program.l program.setting.address program.procs program.meaning places objects
      (in_row (values locals group os)) ws → words_of now (a ∷ found_all s 1 os) ≡ Some (w ∷ ws)
      → SameNamed s depth words now
      → M (floor_for next)
      (at f.world h waiting size rests now (call_by program.run (is_sibling fo) s a (found_all s 1 os) next))
  by_kind w ws now carried all are same =
      subst (λ bare. M (floor_for next) (at f.world h waiting size rests now
      (call_by program.run bare s a (found_all s 1 os) next)))
      (sym no_sibling) (by_next next rest w ws now carried all are same)

  carried_all : (ws : List ℕ)
      × AreCarried program.l program.setting.address program.procs program.meaning places objects
      (in_row (values locals group os)) ws
  carried_all =
      values_carried (serving_scene program typed f places entering 0 0 0 0 h.words (room_over program size waiting))
      f.world h (as_it_was program f h.words) objects filled waiting size (stays_in program size waiting) rests s count
      group depth locals os (and_true (operands_bound s.captured count depth os) (nat_le (length os) 6) parts.1).0 words
      fits.knows

  pub call_served : Served program typed f entering 0 0
      (at f.world h waiting size rests words (emit program.run s (Call fo os) next))
  call_served =
      is_served program typed f (floor_for next) 0 556 entering 0 start silent (omega arith)
      (let z = call_price_all program.setting.procs size s six program.run fo os few next in omega (arith, z))
      (after_fetching program typed f places objects h filled waiting size rests s count depth group locals wide
      entering 0
      (floor_for next) have 556 (fo ∷ os) words (call_by program.run (is_sibling fo) s a (found_all s 1 os) next)
      all_bound (omega (arith, few)) fits.knows
      (λ ws now carried are changed. fetched ws now carried are changed))
    where
      silent : (next_state program f entering).world.output ≡ f.world.output
      silent =
          let t = at f.world h waiting size rests words (emit program.run s (Call fo os) next) in
          let c = value_carried (serving_scene program typed f places entering 0 0 0 0 h.words
          (room_over program size waiting)) f.world h
          (as_it_was program f h.words) objects filled waiting
          size (stays_in program size waiting) rests s count group depth locals fo parts.0 words fits.knows in
          let own = subst (λ v. CarriedHere program places objects v c.0) function c.1 in
          let cs = carried_all in
          let z = law waiting size rests words (emit program.run s (Call fo os) next) c.0 cs.0 own cs.1 in
          silent_after program t (Goes program.meaning program.setting program.l program.procs program.casts
          program.measured t
          (Calls program.meaning program.setting program.l program.procs program.casts program.measured t places objects
          f.frames)
          z.0) f refl entering (cost_of program f) 0 program.number 0
          (entered t program.serves.calling.proc (handed c.0 cs.0)) z.1

      fetched : (all : List ℕ) (now : Locals)
          → AreCarried program.l program.setting.address program.procs program.meaning places objects
          (in_row (values locals group (fo ∷ os))) all
          → words_of now (found_all s 0 (fo ∷ os)) ≡ Some all
          → ChangesFrom (operand_word s 0) (length (fo ∷ os)) words now
          → M (floor_for next)
          (at f.world h waiting size rests now (call_by program.run (is_sibling fo) s a (found_all s 1 os) next))
      fetched [] now carried are changed = absurd carried
      fetched (w ∷ ws) now carried are changed =
          by_kind w ws now (subst (λ v. CarriedHere program places objects v w) function carried.0) carried.1
          are (same_besides s depth (operand_word s 0) (length (fo ∷ os)) words now (omega arith) (omega (arith, few))
          changed)

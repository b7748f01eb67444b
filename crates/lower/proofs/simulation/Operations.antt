-- The turns of operations: moves, tuples and their parts.
use Rattle.std.proofs.Common.{◌≡◌, inl, inr, ℕ, ◌+◌, ◌<◌, ◌≤◌, List, [], ◌∷◌, ◌++◌, Some, None}
use Rattle.std.proofs.Common.{true}
use Rattle.std.proofs.Common.{refl, sym, ap₂, subst, arith, Option, ℤ, pos, negsuc}
use Rattle.std.specs.Prelude.{slice_get}
use Rattle.grift_base.specs.World.{WorldState}
use Rattle.low_ir.specs.Procedures.{Code, Return as ReturnCode}
use Rattle.low_ir.specs.Steps.{Locals}
use Rattle.low_ir.specs.Run.{LowState, Waiting as LowWaiting}
use Rattle.cast_modes.specs.RunValues.{RunTuple, RunWrap, RunInt, RunBool, RunUnit, RunFun, RunLoc, RunInject}
use Rattle.cast_modes.specs.RunValues.{in_row}
use Rattle.cast_modes.specs.RunValues.{row_list}
use Rattle.cast_modes.specs.ValueSteps.{Return, On, NoNext, on_some}
use Rattle.flat_ir.specs.declared.code.Operand.{Operand}
use Rattle.flat_ir.specs.declared.code.Operation.{Operation}
use Rattle.flat_ir.specs.declared.code.Operation.TheVariants.{Move, Tuple, Proj}
use Rattle.flat_ir.specs.Bodies.{Give}
use Rattle.flat_ir.specs.Closed.{operation_bound}
use Rattle.flat_ir.specs.Machine.{FlatValue, FlatValues, FlatFrame, FlatState, FlatStore, FlatAfter, Group}
use Rattle.flat_ir.specs.Machine.{Locals as FlatLocals, flat_state_at, value, values, flat_proj}
use Rattle.coercion_norm.specs.Held.{TypesStand}
use Rattle.coercion_norm.specs.Objects.{Object}
use Rattle.rt_cast.specs.States.{Heap}
use Rattle.lower.specs.Storage.{Filled}
use Rattle.lowered_code.specs.declared.numbering.Shape.{Shape}
use Rattle.lowered_code.specs.Numbering.{operand_word}
use Rattle.lowered_code.specs.Emit.{Then, ToCaller, Into, give, perform, found}
use Rattle.lower.specs.CarriedValues.{CellsHeld}
use Rattle.lower.specs.Relation.{Fits, entry_waiting}
use Rattle.lower.proofs.heap.CarriedLater.{cells_later, cells_below}
use Rattle.lower.proofs.simulation.RelationKept.{rest_later, callers_later}
use Rattle.lower.proofs.words.Steps.{at, here, Goal, left_of}
use Rattle.flat_ir.specs.Closed.{operand_bound}
use Rattle.lower.proofs.words.Scene.{Scene}
use Rattle.lower.proofs.words.Operands.{fetch_reads, value_carried, and_true}
use Rattle.lower.proofs.words.EmitPrices.{fetch_price, computing_near, move_price, tuple_price, proj_price}
use Rattle.lower.proofs.words.EmitPrices.{perform_begins}
use Rattle.low_ir.specs.Prices.{code_price, codes_price}
use Rattle.flat_ir.specs.Closed.{operands_bound}
use Rattle.std.proofs.Common.{le_refl, length, ◌≤◌, ◌&&◌, suc}
use Rattle.std.specs.Prelude.{nat_le}
use Rattle.lower.proofs.words.Operations.{Touches, moves, makes_tuple, takes_part}
use Rattle.lower.proofs.simulation.Way.{room_over, stays_in}
use Rattle.lower.proofs.simulation.Way.{Settled, settled, wrong_over}
use Rattle.lower.proofs.simulation.Way.{mode_of}
use Rattle.lower.proofs.simulation.Way.{Program, R, Follows, FollowsFrom, next_state, Way, turn_goal, Allowed}
use Rattle.lower.proofs.simulation.Way.{scene_for, kept_by, kept_here, at_start, asks_of, budget_of, due_of}
use Rattle.lower.proofs.simulation.Way.{waiting_dues, zero_once_ended, FollowsBy, arrives}
use Rattle.run_laws.specs.Runs.{Ending}
use Rattle.grift_base.specs.declared.verdicts.Verdict.{Verdict}
use Rattle.lower.proofs.simulation.Gives.{CarriedHere, RestHere, CallersHere, given, word_for, code_for}
use Rattle.lower.proofs.simulation.Gives.{word_fits}
use Rattle.lower.proofs.simulation.Gives.{Fitting, due_for, GoesHere, living}
use Rattle.lower.proofs.simulation.ShownAnswers.{answered}
use Rattle.cast_modes.specs.ValueSteps.{CastFrame, casts_onto}

-- where a return is next, no branches around it are ended
returned_kept : (o : Option (Ending Verdict)) (code k rests own waits budget : ℕ) → code + 28 ≤ k + budget
    → code + rests + zero_once_ended o (28 + (0 + waits)) ≤ k + rests + budget + (0 + (own + waits))
returned_kept None code k rests own waits budget le = omega (arith, le)
returned_kept (Some e) code k rests own waits budget le = omega (arith, le)

-- what is due behind a value's place
pub due_little : (program : Program) (places : List ℕ) (objects : List Object) (next : Then)
    → due_for program places objects next ≤ 28
due_little program places objects ToCaller = le_refl 28
due_little program places objects (Into d k) = omega arith

-- wherever the turn is, no more words were taken than it asks for
pub still_asked : (program : Program) (f f' : FlatState program.meaning.Cast) (world : WorldState) (base words : ℕ)
    → Allowed program f f' base world words → words ≤ base + asks_of program f
still_asked program f f' world base words (inl a) = a.1
still_asked program f f' world base words (inr a) = let le = a.1 in omega (arith, le)

-- a turn that has no next one
pub goes_wrong : (program : Program) (f : FlatState program.meaning.Cast) (places : List ℕ) (objects : List Object)
    (h : Heap)
    → Filled program.meaning program.setting program.l program.number objects h → (waiting : List LowWaiting) (size : ℕ)
    (rests : List Code)
    (words : Locals) (code : Code) → Follows program f NoNext (at f.world h waiting size rests words code)
goes_wrong program f places objects h filled waiting size rests words code =
    let t = at f.world h waiting size rests words code in
    here program.setting (Way program f (next_state program f NoNext) h.words (room_over program size waiting))
    (turn_goal program f (next_state program f NoNext) t) t (
      0,
      inr (inl (wrong_over program (next_state program f NoNext) t refl
          (record { output = refl; filling = (objects, filled) }))),
      kept_here program f (next_state program f NoNext) 0 0 t (omega arith),
    )

-- where so much was due
pub wrong_by : (program : Program) (f : FlatState program.meaning.Cast) (own : ℕ) (places : List ℕ)
    (objects : List Object) (h : Heap)
    → Filled program.meaning program.setting program.l program.number objects h → (waiting : List LowWaiting) (size : ℕ)
    (rests : List Code)
    (words : Locals) (code : Code) → FollowsBy program f NoNext own (at f.world h waiting size rests words code)
wrong_by program f own places objects h filled waiting size rests words code =
    let t = at f.world h waiting size rests words code in
    let f' = next_state program f NoNext in (
      left_of program.setting t,
      arrives program f f' h.words (room_over program size waiting) own (left_of program.setting t) t
          (left_of program.setting t) t (
            0,
            inr (inl (wrong_over program f' t refl (record { output = refl; filling = (objects, filled) }))),
            kept_here program f f' own 0 t (omega arith),
          ),
    )

-- where an operation of a body gives its value: to which of the procedure's words, of which there are enough, and what
-- is done behind it
pub record Giving (size : ℕ) (s : Shape) : Type 0 where
  pub wide : s.params + 10 ≤ size
  pub d : ℕ
  pub less : d < size
  pub k : Code

module _ (program : Program) (typed : TypesStand program.l) where
  module _ (places : List ℕ) (objects : List Object) (h : Heap) (world : WorldState)
      (filled : Filled program.meaning program.setting program.l program.number objects h)
      (store : FlatStore program.meaning.Cast) (frames : List (FlatFrame program.meaning.Cast))
      (cells : CellsHeld program.l program.setting.address program.procs program.meaning places objects h.memory places
      store)
      (v : FlatValue program.meaning.Cast) (waiting : List LowWaiting) (size : ℕ) (rests : List Code) (words : Locals)
      (code : Code) (due : ℕ) where
    abbrev returning : List (FlatFrame program.meaning.Cast) → FlatState program.meaning.Cast
    returning frames = flat_state_at program.procs program.told (Return v) frames store world

    -- a value that is given or returned goes with the value of the numbered procedures
    pub returned : GoesHere program places objects due (Return v) frames waiting size rests words code
        → Settled program (returning frames) due (at world h waiting size rests words code)
    returned goes = by_frames frames goes
      where
        by_frames : (fs : List (FlatFrame program.meaning.Cast))
            → GoesHere program places objects due (Return v) fs waiting size rests words code
            → Settled program (returning fs) due (at world h waiting size rests words code)
        by_frames (frame ∷ fs) goes =
            inl (living program places objects h (returning (frame ∷ fs)) refl filled cells waiting size rests words
            code
            due goes)
        by_frames [] (inl gave) = absurd gave.rest
        by_frames [] (inr (gives, le)) = by_callers waiting gives.callers
          where
            by_callers : (ws : List LowWaiting) → CallersHere program places objects ws []
                → Settled program (returning []) due (at world h ws size rests words code)
            by_callers [] c = absurd c
            by_callers (w ∷ ws) (inl e) =
                subst (λ k. Settled program (returning []) due (at world h (w ∷ ws) size rests words k))
                (sym gives.code)
                (subst (λ us. Settled program (returning []) due
                (at world h us size rests words (ReturnCode gives.source))) (sym (both w ws e.2 e.1))
                (answered program typed places objects h world filled store v size rests words gives.source gives.w
                gives.is gives.carried due))
              where
                both : (w : LowWaiting) (ws : List LowWaiting) → w ≡ entry_waiting program.answer → ws ≡ []
                    → (w ∷ ws) ≡ entry_waiting program.answer ∷ []
                both w ws p q = ap₂ (λ x y. x ∷ y) p q
            by_callers (w ∷ ws) (inr (inl r)) = absurd r.4
            by_callers (w ∷ ws) (inr (inr r)) = absurd (let z : ⊥ = none r.0 r.1 r.2 r.3 in z)
              where
                none : (cast : program.meaning.Cast) (casts : List program.meaning.Cast)
                    (base : List (FlatFrame program.meaning.Cast)) → [] ≡ CastFrame cast ∷ casts_onto casts base → ⊥
                none cast casts base e = cc

    pub settle : GoesHere program places objects due (Return v) frames waiting size rests words code
        → R program (returning frames) due (at world h waiting size rests words code)
    settle goes =
        settled program (returning frames) due (at world h waiting size rests words code) (returned goes)

  -- a turn in which an operation of a body gives a value
  module _ (f : FlatState program.meaning.Cast) (places : List ℕ) (objects : List Object) (h : Heap)
      (filled : Filled program.meaning program.setting program.l program.number objects h)
      (cells : CellsHeld program.l program.setting.address program.procs program.meaning places objects h.memory places
      f.store)
      (waiting : List LowWaiting) (size : ℕ) (rests : List Code) (words : Locals) (s : Shape) (count depth : ℕ)
      (group : Group program.meaning.Cast) (locals : FlatLocals program.meaning.Cast) (operation : Operation)
      (next : Then)
      (fits : Fits program.setting program.l program.run program.procs program.answer program.meaning places objects s
      count
      size group depth locals words (Give operation))
      (rest : RestHere program places objects waiting s count size group depth f.frames next rests words) where
    pub room : s.params + 10 ≤ size
    room = let a = fits.params in let b = fits.room in omega (arith, a, b)

    pub word_less : word_for program places objects s next < size
    word_less = by_next next rest
      where
        by_next : (next : Then) → RestHere program places objects waiting s count size group depth f.frames next
            rests words
            → word_for program places objects s next < size
        by_next ToCaller r = omega (arith, room)
        by_next (Into d k) r =
            word_fits program places objects waiting s count size group depth f.frames d k rests words r

    abbrev pub giving : Giving size s
    giving = record {
      wide = room;
      d = word_for program places objects s next;
      less = word_less;
      k = code_for program places objects s next;
    }

    -- the turn comes to a value
    abbrev pub after : FlatValue program.meaning.Cast → FlatAfter program.meaning.Cast
    after v = On (Return v) f.frames f.store f.world

    abbrev pub Turns : FlatValue program.meaning.Cast → Code → Type 0
    Turns v code = Follows program f (after v) (at f.world h waiting size rests words code)

    -- the state in which the turn began, by its code
    abbrev pub start_of : Code → LowState
    start_of code = at f.world h waiting size rests words code

    abbrev pub goal_of : Code → FlatValue program.meaning.Cast → Goal
    goal_of code v = turn_goal program f (next_state program f (after v)) (start_of code)

    abbrev pub scene_of : Code → FlatValue program.meaning.Cast → Scene
    scene_of code v =
        scene_for program f (next_state program f (after v)) h.words (room_over program size waiting) (goal_of code v)
        places

    abbrev pub FittingHere : Then → Code → Type 0
    FittingHere next code = Fitting program places objects f s size next code

    pub put : (code : Code) → FittingHere next code → (v : FlatValue program.meaning.Cast) (w : ℕ) (new : Locals)
        → CarriedHere program places objects v w
        → new (word_for program places objects s next) ≡ Some w
        → Touches s (word_for program places objects s next) words new
        → FollowsFrom program f (after v) (at f.world h waiting size rests words code)
        (at f.world h waiting size rests new (code_for program places objects s next))
    put code fitting v w new c e touches =
        here program.setting (Way program f (next_state program f (after v)) h.words (room_over program size waiting))
        (turn_goal program f (next_state program f (after v)) (at f.world h waiting size rests words code))
        (at f.world h waiting size rests new (code_for program places objects s next)) (
          due_for program places objects next,
          settle places objects h f.world filled f.store f.frames cells v waiting size rests new
              (code_for program places objects s next) (due_for program places objects next)
              (given program places objects waiting s count size group depth f.frames next rests words new v w rest c e
              touches),
          kept_by program f (next_state program f (after v)) f.world f.world h h waiting size rests words new code
              (code_for program places objects s next) (due_for program places objects next) fitting.begins fitting.paid
              (omega arith),
        )

    -- in the world as it was, and with the words that there were
    pub as_before : (code : Code) (v : FlatValue program.meaning.Cast) → (scene_of code v).allowed f.world h.words
    as_before code v = at_start program f (next_state program f (after v)) f.world h.words refl

    pub move_turns : (o : Operand) → operand_bound s.captured count depth o ≡ true → s.params ≤ 6
        → 64 ≤ budget_of program f → Turns (value locals group o) (give program.run s (Move o) next)
    move_turns o bound six enough = by_next next rest word_less put
      where
        v : FlatValue program.meaning.Cast
        v = value locals group o

        by_next : (next : Then) → RestHere program places objects waiting s count size group depth f.frames next
            rests words
            → word_for program places objects s next < size
            → ((code : Code) → FittingHere next code → (v : FlatValue program.meaning.Cast) (w : ℕ) (new : Locals)
            → CarriedHere program places objects v w
            → new (word_for program places objects s next) ≡ Some w
            → Touches s (word_for program places objects s next) words new
            → FollowsFrom program f (after v) (at f.world h waiting size rests words code)
            (at f.world h waiting size rests new (code_for program places objects s next)))
            → Turns (value locals group o) (give program.run s (Move o) next)
        by_next ToCaller r lt put =
            let k = ReturnCode (found s (operand_word s 0) o) in
            let code = give program.run s (Move o) ToCaller in
            let dear = fetch_price program.setting.procs size s six (operand_word s 0)
            (computing_near program.setting.procs size s six 0 (omega arith)) o k in
            fetch_reads (scene_of code (value locals group o)) f.world h (as_before code (value locals group o))
            objects filled waiting size (stays_in program size waiting) rests s count
            group depth locals o (operand_word s 0) bound (omega (arith, room)) words fits.knows k
            (λ w new carried is changed.
            here program.setting (Way program f (next_state program f (after (value locals group o))) h.words
            (room_over program size waiting))
            (goal_of code (value locals group o))
            (at f.world h waiting size rests new k) (
              28,
              settle places objects h f.world filled f.store f.frames cells (value locals group o) waiting size rests
                  new k 28 (inr (
                    record {
                      source = found s (operand_word s 0) o;
                      w = w;
                      code = refl;
                      is = is;
                      carried = carried;
                      callers = r;
                    },
                    le_refl 28,
                  )),
              record {
                asked = omega arith;
                paid = returned_kept (next_state program f (after
                    (value locals group o))).ended (code_price program.setting.procs size code)
                    (code_price program.setting.procs size k) (codes_price program.setting.procs size rests)
                    (due_of code rests) (waiting_dues waiting) (budget_of program f) (omega (arith, dear, enough));
              },
            ))
        by_next (Into d k) r lt put =
            let code = give program.run s (Move o) (Into d k) in
            let dear = move_price program.setting.procs size s six program.run d o k in
            moves (scene_of code (value locals group o)) f.world h (as_before code (value locals group o)) objects
            filled waiting size (stays_in program size waiting) rests s count group
            depth locals room words fits.knows o d bound lt k
            (λ w new carried e touches. put code (record {
              begins = perform_begins program.run s d (Move o) k;
              paid = omega (arith, dear, enough);
            }) (value locals group o) w new carried e touches)

    pub tuple_turns : (os : List Operand) → operation_bound s.captured count depth (Tuple os) ≡ true
        → s.params ≤ 6 → 500 ≤ budget_of program f → suc (length os) ≤ asks_of program f
        → Turns (RunTuple (in_row (values locals group os)))
        (perform program.run s (word_for program places objects s next) (Tuple os)
        (code_for program places objects s next))
    tuple_turns os bound six enough asked =
        let d = word_for program places objects s next in
        let k = code_for program places objects s next in
        let code = perform program.run s d (Tuple os) k in
        let parts = and_true (operands_bound s.captured count depth os) (nat_le 1 (length os) && nat_le (length os) 8)
        bound in
        let sizes = and_true (nat_le 1 (length os)) (nat_le (length os) 8) parts.1 in
        let most : length os ≤ 8 = grind (arith, sizes.1) in
        let dear = tuple_price program.setting.procs size s six program.run d os most k in
        let little = due_little program places objects next in
        makes_tuple (scene_of code (RunTuple (in_row (values locals group os)))) f.world h
        (as_before code (RunTuple (in_row (values locals group os)))) objects filled waiting
        size (stays_in program size waiting) rests s count group depth locals room words fits.knows os
        (word_for program places objects s next) bound
        word_less (code_for program places objects s next) (inl (refl, omega (arith, asked)))
        (omega (arith, dear, enough))
        (λ more h' filled' below still w new carried e touches.
        let v = RunTuple (in_row (values locals group os)) in
        let cells' = cells_later program.l program.setting.address program.procs program.meaning program.laws places
        objects more h'.memory
        places f.store (cells_below program.l program.setting.address program.procs program.meaning program.laws places
        objects
        program.setting program.placed h filled h'.memory below places f.store cells) in
        let rest' = rest_later program.setting program.l program.run program.procs program.answer program.meaning
        program.laws places objects
        more (CallersHere program places objects waiting) (CallersHere program places (objects ++ more) waiting)
        (λ frames c. callers_later program.setting program.l program.run program.procs program.answer program.meaning
        program.laws places
        objects more waiting frames c) s count size group depth f.frames next rests words rest in
        here program.setting (Way program f (next_state program f (after v)) h.words (room_over program size waiting))
        (goal_of code v)
        (at f.world h' waiting size rests new k) (
          due_for program places objects next,
          settle places (objects ++ more) h' f.world filled' f.store f.frames cells' v waiting size rests new k
              (due_for program places objects next)
              (given program places (objects ++ more) waiting s count size group depth f.frames next rests words new v w
              rest' carried e touches),
          kept_by program f (next_state program f (after v)) f.world f.world h h' waiting size rests words new code k
              (due_for program places objects next) (perform_begins program.run s d (Tuple os) k)
              (omega (arith, dear, little, enough))
              (still_asked program f (next_state program f (after v)) f.world h.words h'.words still),
        ))

    pub part_turns : (o : Operand) (i : ℤ) → operand_bound s.captured count depth o ≡ true
        → s.params ≤ 6 → 500 ≤ budget_of program f
        → ((u : FlatValue program.meaning.Cast) (cast : program.meaning.Cast) → value locals group o ≡ RunWrap u cast
        → ⊥)
        → Follows program f (flat_proj program.procs (mode_of program) f.store f.world
        (value locals group o) i f.frames)
        (at f.world h waiting size rests words (perform program.run s (word_for program places objects s next)
        (Proj o i) (code_for program places objects s next)))
    part_turns o i bound six enough bare =
        by_value (value locals group o) i refl (value_carried (scene_of (code i) RunUnit) f.world h
        (as_before (code i) RunUnit) objects filled
        waiting size (stays_in program size waiting) rests s count group depth locals o bound words fits.knows)
      where
        code : ℤ → Code
        code i = perform program.run s (word_for program places objects s next) (Proj o i)
            (code_for program places objects s next)

        by_part : (vs : FlatValues program.meaning.Cast) (i : ℕ) → value locals group o ≡ RunTuple vs
            → (part : Option (FlatValue program.meaning.Cast)) → slice_get (row_list vs) i ≡ part
            → Follows program f (on_some part (λ v. On (Return v) f.frames f.store f.world))
            (at f.world h waiting size rests words (code (pos i)))
        by_part vs i is None e = goes_wrong program f places objects h filled waiting size rests words (code (pos i))
        by_part vs i is (Some v) e =
            let d = word_for program places objects s next in
            let k = code_for program places objects s next in
            let dear = proj_price program.setting.procs size s six program.run d o (pos i) k in
            let little = due_little program places objects next in
            takes_part (scene_of (code (pos i)) v) f.world h (as_before (code (pos i)) v) objects filled waiting size
            (stays_in program size waiting) rests s count group depth locals
            room words fits.knows o i (word_for program places objects s next) bound word_less
            (code_for program places objects s next) vs v is e
            (λ w new carried e touches. put (code (pos i)) (record {
              begins = perform_begins program.run s d (Proj o (pos i)) k;
              paid = omega (arith, dear, little, enough);
            }) v w new carried e touches)

        by_value : (u : FlatValue program.meaning.Cast) (i : ℤ) → value locals group o ≡ u
            → (w : ℕ) × CarriedHere program places objects u w
            → Follows program f (flat_proj program.procs (mode_of program) f.store f.world u i f.frames)
            (at f.world h waiting size rests words (code i))
        by_value (RunTuple vs) (pos i) is c = by_part vs i is (slice_get (row_list vs) i) refl
        by_value (RunTuple vs) (negsuc i) is c = goes_wrong program f places objects h filled waiting size rests
            words (code (negsuc i))
        by_value (RunWrap u cast) i is c = absurd (bare u cast is)
        by_value (RunInt n) i is c = goes_wrong program f places objects h filled waiting size rests words (code i)
        by_value (RunBool b) i is c = goes_wrong program f places objects h filled waiting size rests words (code i)
        by_value RunUnit i is c = goes_wrong program f places objects h filled waiting size rests words (code i)
        by_value (RunFun function captured) i is c = goes_wrong program f places objects h filled waiting size rests
            words (code i)
        by_value (RunLoc cell is_vector) i is c = goes_wrong program f places objects h filled waiting size rests
            words (code i)
        by_value (RunInject u kept) i is c = goes_wrong program f places objects h filled waiting size rests words
            (code i)

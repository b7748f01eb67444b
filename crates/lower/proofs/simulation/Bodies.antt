-- The turns of bodies: branches, lets, groups of functions, and values that a body waits for.
use Rattle.std.proofs.Common.{◌≡◌, inl, ℕ, zero, suc, ◌+◌, ◌<◌, ◌≤◌, List, [], ◌∷◌, ◌++◌, Some}
use Rattle.std.proofs.Common.{true, length, refl, sym, ap, ◌∙◌, subst, arith, false, eqb-true, le_refl}
use Rattle.std.specs.Prelude.{slice_get, ◌==◌, ◌&&◌}
use Rattle.low_ir.specs.Procedures.{Code, Done}
use Rattle.low_ir.specs.Steps.{Locals}
use Rattle.low_ir.specs.Run.{Active, Waiting as LowWaiting, LowState, word_of}
use Rattle.cast_modes.specs.RunValues.{RunTuple, RunWrap, RunInt, RunBool, RunUnit, RunFun, RunLoc, RunInject}
use Rattle.cast_modes.specs.ValueSteps.{Own, On, NoNext, OwnFrame}
use Rattle.run_laws.specs.Machines.{Go}
use Rattle.flat_ir.specs.declared.code.Operand.{Operand}
use Rattle.flat_ir.specs.Bodies.{Body, Choose, LetBody, LetGroup}
use Rattle.flat_ir.specs.Closed.{operand_bound, operands_bound, body_bound, begins_group}
use Rattle.flat_ir.specs.Machine.{FlatValue, FlatFrame, FlatState, FlatAfter, Group, Locals as FlatLocals}
use Rattle.flat_ir.specs.Machine.{Inside, Waiting, flat_state_at, value, values, flat_choose, new_group, set_group}
use Rattle.flat_ir.specs.Machine.{set_local as set_flat}
use Rattle.flat_ir.specs.Levels.{levels}
use Rattle.coercion_norm.specs.Held.{TypesStand}
use Rattle.coercion_norm.specs.Objects.{Object}
use Rattle.low_ir.specs.Frames.{frame_room, waiting_room}
use Rattle.rt_cast.specs.States.{Heap}
use Rattle.lower.specs.Storage.{Filled}
use Rattle.lowered_code.specs.declared.numbering.Shape.{Shape}
use Rattle.lowered_code.specs.Numbering.{own_word, operand_word, local_word}
use Rattle.lowered_code.specs.Emit.{Then, ToCaller, Into, emit, found, choose, group_words}
use Rattle.lowered_code.specs.Lowered.{low_proc}
use Rattle.lower.specs.CarriedValues.{CellsHeld, IsMember}
use Rattle.lower.specs.Relation.{Falls, Fits, Knows, Gave}
use Rattle.lower.proofs.heap.CarriedLater.{cells_later, cells_below}
use Rattle.lower.proofs.simulation.RelationKept.{rest_later, callers_later, rest_same, rest_branch}
use Rattle.lower.proofs.simulation.RelationKept.{rest_deeper}
use Rattle.lower.proofs.simulation.RelationKept.{knows_same}
use Rattle.lower.proofs.simulation.RelationKept.{knows_later, knows_more, SameNamed, OwnName, Between}
use Rattle.lower.proofs.simulation.RelationKept.{free_other}
use Rattle.lower.proofs.heap.Groups.{group_objects}
use Rattle.lower.proofs.words.Credits.{By, by_go, by_more}
use Rattle.lower.proofs.words.EmitPrices.{fetch_price, computing_near, source_most, number_most, slot_most}
use Rattle.lower.proofs.words.EmitPrices.{choose_body_begins, group_body_begins, group_price}
use Rattle.low_ir.specs.declared.code.LowSource.TheVariants.{Number}
use Rattle.low_ir.specs.Prices.{step_price, code_price, codes_price}
use Rattle.low_ir.specs.Procedures.{Done, If}
use Rattle.machine_words.specs.declared.conditions.Cond.TheVariants.{Ne}
use Rattle.std.specs.Prelude.{max, ◌-◌, ◌*◌}
use Rattle.lower.proofs.words.Steps.{at, here, Calm, Goal, left_of}
use Rattle.lower.proofs.words.Scene.{Scene}
use Rattle.lower.proofs.words.Operands.{fetch_reads, and_true, Changes}
use Rattle.lower.proofs.words.Groups.{makes_group}
use Rattle.lower.proofs.simulation.Groups.{begins_so, all_members}
use Rattle.lower.proofs.simulation.Way.{room_over, turn_room, stays_in}
use Rattle.lower.proofs.simulation.Way.{mode_of, N}
use Rattle.lower.proofs.simulation.Way.{Program, Follows, Live, Kept, next_state, Way, scene_for, turn_goal}
use Rattle.lower.proofs.simulation.Way.{turn_aim}
use Rattle.lower.proofs.simulation.Way.{kept_by, kept_with, kept_here, at_start, asks_of, budget_of, dues}
use Rattle.lower.proofs.simulation.Way.{due_of}
use Rattle.lower.proofs.simulation.Way.{due_most, arrives, floor_of}
use Rattle.lower.proofs.simulation.Gives.{CarriedHere, RestHere, CallersHere, levels_above, living}
use Rattle.lower.proofs.simulation.Operations.{goes_wrong, still_asked}

module _ (program : Program) where
  -- a body goes on
  pub running : (places : List ℕ) (objects : List Object) (h : Heap) (f : FlatState program.meaning.Cast)
      → Filled program.meaning program.setting program.l program.number objects h
      → CellsHeld program.l program.setting.address program.procs program.meaning places objects h.memory places f.store
      → (body : Body) (locals : FlatLocals program.meaning.Cast) (group : Group program.meaning.Cast)
      (frames : List (FlatFrame program.meaning.Cast))
      (waiting : List LowWaiting) (size : ℕ) (rests : List Code) (words : Locals) (s : Shape) (count depth : ℕ)
      (next : Then)
      → Fits program.setting program.l program.run program.procs program.answer program.meaning places objects s count
      size
      group depth locals words body
      → RestHere program places objects waiting s count size group depth frames next rests words
      → Live program (flat_state_at program.procs program.told (Own (Inside body locals group)) frames f.store f.world)
      0 (at f.world h waiting size rests words (emit program.run s body next))
  running places objects h f filled cells body locals group frames waiting size rests words s count depth next fits
      rest =
      living program places objects h (flat_state_at program.procs program.told (Own (Inside body locals group)) frames
      f.store f.world) refl filled cells waiting size rests words (emit program.run s body next) 0
      (record { s = s; count = count; depth = depth; next = next; is = refl; fits = fits; rest = rest })

  module _ (typed : TypesStand program.l) (f : FlatState program.meaning.Cast) (places : List ℕ) (objects : List Object)
      (h : Heap) (filled : Filled program.meaning program.setting program.l program.number objects h)
      (cells : CellsHeld program.l program.setting.address program.procs program.meaning places objects h.memory places
      f.store)
      (waiting : List LowWaiting) (size : ℕ) where
    abbrev FitsHere : Shape → ℕ → Group program.meaning.Cast → ℕ → FlatLocals program.meaning.Cast → Locals → Body
        → Type 0
    FitsHere s count group depth locals words body = Fits program.setting program.l program.run program.procs
        program.answer program.meaning places objects s count size group depth locals words body

    module _ (rests : List Code) (words : Locals) (s : Shape) (count depth : ℕ) (group : Group program.meaning.Cast)
        (locals : FlatLocals program.meaning.Cast) (next : Then)
        (rest : RestHere program places objects waiting s count size group depth f.frames next rests words) where
      -- ---- branches

      module _ (o : Operand) (a b : Body) (fits : FitsHere s count group depth locals words (Choose o a b))
          (six : s.params ≤ 6) (enough : 500 ≤ budget_of program f) where
        abbrev after : Body → FlatAfter program.meaning.Cast
        after body = On (Own (Inside body locals group)) f.frames f.store f.world

        abbrev start : LowState
        start = at f.world h waiting size rests words (emit program.run s (Choose o a b) next)

        abbrev goal_of : Body → Goal
        goal_of body = turn_goal program f (next_state program f (after body)) start

        abbrev scene_of : Body → Scene
        scene_of body =
            scene_for program f (next_state program f (after body)) h.words (room_over program size waiting)
            (goal_of body) places

        as_before : (body : Body) → (scene_of body).allowed f.world h.words
        as_before body = at_start program f (next_state program f (after body)) f.world h.words refl

        abbrev calm_of : (body : Body)
            → Calm program.setting (Way program f (next_state program f (after body)) h.words
            (room_over program size waiting))
            (goal_of body) size waiting f.world h
        calm_of body rests locals code = (
          at_start program f (next_state program f (after body)) f.world h.words refl,
          (objects, filled),
          stays_in program size waiting,
        )

        parts : (operand_bound s.captured count depth o ≡ true)
            × (body_bound program.procs s.captured count depth a ≡ true)
            × (body_bound program.procs s.captured count depth b ≡ true)
        parts =
            let x = and_true (operand_bound s.captured count depth o)
            (body_bound program.procs s.captured count depth a && body_bound program.procs s.captured count depth b)
            fits.bound in
            let y = and_true (body_bound program.procs s.captured count depth a)
            (body_bound program.procs s.captured count depth b) x.1 in
            (x.0, y.0, y.1)

        same_new : (new : Locals) → Changes (operand_word s 0) words new → SameNamed s depth words new
        same_new new changed j named =
            changed j (free_other s depth (operand_word s 0) j (Between (omega arith) (omega arith)) named)

        fits_branch : (body : Body) → body_bound program.procs s.captured count depth body ≡ true
            → levels depth body + 10 ≤ size → (new : Locals) → Changes (operand_word s 0) words new
            → FitsHere s count group depth locals new body
        fits_branch body bound room new changed = record {
          bound = bound;
          params = fits.params;
          few = fits.few;
          room = room;
          knows =
              knows_same program.setting program.l program.run program.procs program.answer program.meaning program.laws
              places objects s
              count group depth locals words new (same_new new changed) fits.knows;
        }

        fits_one : (new : Locals) → Changes (operand_word s 0) words new → FitsHere s count group depth locals new a
        fits_one = fits_branch a parts.1 (let z = fits.room in omega (arith, z))

        fits_other : (new : Locals) → Changes (operand_word s 0) words new → FitsHere s count group depth locals new b
        fits_other = fits_branch b parts.2 (let z = fits.room in omega (arith, z))

        rest_new : (next : Then) → RestHere program places objects waiting s count size group depth f.frames next
            rests words
            → (new : Locals) → Changes (operand_word s 0) words new
            → RestHere program places objects waiting s count size group depth f.frames next rests new
        rest_new next rest new changed =
            rest_same program.setting program.l program.run program.procs program.answer program.meaning program.laws
            places objects
            (CallersHere program places objects waiting) s count size group depth f.frames next rests words new
            (same_new new changed) rest

        -- what a test leaves, where either branch may be taken
        abbrev behind_test : Code → Code → Code → ℕ
        behind_test one other k =
            max (code_price program.setting.procs size one) (code_price program.setting.procs size other)
            + code_price program.setting.procs size k + codes_price program.setting.procs size rests

        abbrev testing : Then → Code
        testing next =
            choose program.run (found s (operand_word s 0) o) (emit program.run s a) (emit program.run s b) next

        abbrev starting : Then → LowState
        starting next = at f.world h waiting size rests words (emit program.run s (Choose o a b) next)

        abbrev least_of : Then → ℕ
        least_of next = floor_of program f 0 (left_of program.setting (starting next)) (starting next)

        abbrev Aimed : Then → Body → ℕ → LowState → Type 0
        Aimed next body = (turn_goal program f (next_state program f (after body)) (starting next)).holds

        -- from the test on
        abbrev Tests : Then → Body → Locals → Type 0
        Tests next body new =
            By program.setting (Way program f (next_state program f (after body)) h.words
            (room_over program size waiting)) (Aimed next body)
            (floor_of program f 0 (left_of program.setting (starting next)) (starting next))
            (left_of program.setting (at f.world h waiting size rests new (testing next)) + 0)
            (at f.world h waiting size rests new (testing next))

        test_paid : (n x y k r : ℕ) → n + (max x y + k + r) ≤ n + max x y + k + r + 0
        test_paid n x y k r = omega arith

        -- the state behind the test is within the budget
        tested_kept : (next : Then) (body : Body) (one other k : Code) (rests' : List Code) (new : Locals) (c : Code)
            (left : ℕ) → testing next ≡ If Ne (found s (operand_word s 0) o) (Number 0) one other k
            → length rests' ≤ suc (length rests) → behind_test one other k ≤ 10 + left
            → Kept program f (next_state program f (after body)) 0 (left_of program.setting (starting next))
            (starting next) left 0
            (at f.world h waiting size rests' new c)
        tested_kept next body one other k rests' new c left is long le =
            let dear = fetch_price program.setting.procs size s six (operand_word s 0)
            (computing_near program.setting.procs size s six 0 (omega arith)) o (testing next) in
            let source = source_most (found s (operand_word s 0) o) in
            let same : code_price program.setting.procs size (testing next)
            ≡ code_price program.setting.procs size (If Ne (found s (operand_word s 0) o) (Number 0) one other k) =
            ap (λ c. code_price program.setting.procs size c) is in
            kept_with program f (next_state program f (after body)) f.world f.world h h waiting size rests rests' words
            new (emit program.run s (Choose o a b) next) c left 0 (choose_body_begins program.run s o a b next)
            (omega (arith, dear, source, same, long, le, enough)) (omega arith)

        -- the test goes to the branch whose body this is, with the code behind it
        goes_in : (next next' : Then) (body : Body) (one other k : Code) (new : Locals)
            → testing next ≡ If Ne (found s (operand_word s 0) o) (Number 0) one other k
            → (N program).step (at f.world h waiting size rests new (testing next))
            ≡ Go (at f.world h waiting size (k ∷ rests) new (emit program.run s body next'))
            → FitsHere s count group depth locals new body
            → RestHere program places objects waiting s count size group depth f.frames next' (k ∷ rests) new
            → Tests next body new
        goes_in next next' body one other k new is step fits rest =
            let t = at f.world h waiting size rests new (testing next) in
            let u = at f.world h waiting size (k ∷ rests) new (emit program.run s body next') in
            by_go program.setting (Way program f (next_state program f (after body)) h.words
            (room_over program size waiting)) (Aimed next body) (least_of next) (behind_test one other k)
            (left_of program.setting t + 0) t u step
            (subst (λ c. step_price program.setting.procs size c + behind_test one other k
            ≤ code_price program.setting.procs size c + codes_price program.setting.procs size rests + 0) (sym is)
            (test_paid (step_price program.setting.procs size (If Ne (found s (operand_word s 0) o) (Number 0) one other
            k)) (code_price program.setting.procs size one) (code_price program.setting.procs size other)
            (code_price program.setting.procs size k) (codes_price program.setting.procs size rests)))
            (calm_of body rests new (testing next))
            (arrives program f (next_state program f (after body)) h.words (room_over program size waiting) 0
            (left_of program.setting (starting next)) (starting next) (behind_test one other k) u (
              0,
              inl (running places objects h f filled cells body locals group f.frames waiting size (k ∷ rests) new s
                  count depth next' fits rest),
              tested_kept next body one other k (k ∷ rests) new (emit program.run s body next')
                  (behind_test one other k)
                  is (le_refl (suc (length rests))) (omega arith),
            ))

        -- what stands behind a branch is left for its end
        branch_rest : (d : ℕ) (k : Code) → RestHere program places objects waiting s count size group depth f.frames
            (Into d k) rests words
            → (new : Locals) → Changes (operand_word s 0) words new
            → RestHere program places objects waiting s count size group depth f.frames (Into d Done) (k ∷ rests) new
        branch_rest d k rest new changed =
            rest_branch program.setting program.l program.run program.procs program.answer program.meaning program.laws
            places objects (CallersHere program places objects waiting) s count size group depth f.frames d k rests new
            (rest_new (Into d k) rest new changed)

        takes_one : (next : Then) → RestHere program places objects waiting s count size group depth f.frames next
            rests words
            → (new : Locals) → Changes (operand_word s 0) words new
            → word_of new (found s (operand_word s 0) o) ≡ Some 1 → Tests next a new
        takes_one ToCaller rest new changed is =
            goes_in ToCaller ToCaller a (emit program.run s a ToCaller) Done (emit program.run s b ToCaller) new refl
            (rw is refl) (fits_one new changed) (rest_new ToCaller rest new changed)
        takes_one (Into d k) rest new changed is =
            goes_in (Into d k) (Into d Done) a (emit program.run s a (Into d Done)) (emit program.run s b (Into d Done))
            k new refl (rw is refl) (fits_one new changed) (branch_rest d k rest new changed)

        takes_other : (next : Then) → RestHere program places objects waiting s count size group depth f.frames next
            rests words
            → (new : Locals) → Changes (operand_word s 0) words new
            → word_of new (found s (operand_word s 0) o) ≡ Some 0 → Tests next b new
        takes_other ToCaller rest new changed is =
            let one = emit program.run s a ToCaller in
            let k = emit program.run s b ToCaller in
            let mid = at f.world h waiting size (k ∷ rests) new Done in
            let u = at f.world h waiting size rests new k in
            let left = max (code_price program.setting.procs size one) 10 - 10
            + code_price program.setting.procs size k + codes_price program.setting.procs size rests in
            let here : Way program f (next_state program f (after b)) h.words (room_over program size waiting) mid =
            calm_of b (k ∷ rests) new Done in
            by_go program.setting (Way program f (next_state program f (after b)) h.words
            (room_over program size waiting)) (Aimed ToCaller b)
            (least_of ToCaller)
            (behind_test one Done k) (left_of program.setting (at f.world h waiting size rests new (testing ToCaller))
            + 0)
            (at f.world h waiting size rests new (testing ToCaller)) mid (rw is refl)
            (test_paid (step_price program.setting.procs size (testing ToCaller))
            (code_price program.setting.procs size one) 10 (code_price program.setting.procs size k)
            (codes_price program.setting.procs size rests)) here
            (by_go program.setting (Way program f (next_state program f (after b)) h.words
            (room_over program size waiting)) (Aimed ToCaller b)
            (least_of ToCaller)
            left (behind_test one Done k) mid u refl
            (fallen (code_price program.setting.procs size one) (code_price program.setting.procs size k)
            (codes_price program.setting.procs size rests)) here
            (arrives program f (next_state program f (after b)) h.words (room_over program size waiting) 0
            (left_of program.setting (starting ToCaller))
            (starting ToCaller) left u (
              0,
              inl (running places objects h f filled cells b locals group f.frames waiting size rests new s count depth
                  ToCaller (fits_other new changed) (rest_new ToCaller rest new changed)),
              tested_kept ToCaller b one Done k rests new k left refl (omega arith)
                  (fell (code_price program.setting.procs size one) (code_price program.setting.procs size k)
                  (codes_price program.setting.procs size rests)),
            )))
          where
            fallen : (x k r : ℕ) → 10 + (max x 10 - 10 + k + r) ≤ max x 10 + k + r
            fallen x k r = grind arith

            fell : (x k r : ℕ) → max x 10 + k + r ≤ 10 + (max x 10 - 10 + k + r)
            fell x k r = grind arith
        takes_other (Into d k) rest new changed is =
            goes_in (Into d k) (Into d Done) b (emit program.run s a (Into d Done)) (emit program.run s b (Into d Done))
            k new refl (rw is refl) (fits_other new changed) (branch_rest d k rest new changed)

        abbrev branching : Code
        branching = emit program.run s (Choose o a b) next

        pub branch_turns : Follows program f (flat_choose program.procs (mode_of program) f.store f.world
            (value locals group o) a b locals group f.frames)
            (at f.world h waiting size rests words (emit program.run s (Choose o a b) next))
        branch_turns = by_value (value locals group o) refl
          where
            lt : operand_word s 0 < size
            lt = let x = fits.params in let y = fits.room in let z = levels_above depth a in omega (arith, x, y, z)

            -- the test is fetched, and takes this branch
            by_test : (body : Body) (bit : ℕ)
                → ((w : ℕ) → CarriedHere program places objects (value locals group o) w → w ≡ bit)
                → ((new : Locals) → Changes (operand_word s 0) words new
                → word_of new (found s (operand_word s 0) o) ≡ Some bit → Tests next body new)
                → Follows program f (after body) (at f.world h waiting size rests words branching)
            by_test body bit carries takes =
                fetch_reads (scene_of body) f.world h (as_before body) objects filled waiting size
                (stays_in program size waiting) rests s count group depth locals o (operand_word s 0) parts.0 lt words
                fits.knows
                (choose program.run (found s (operand_word s 0) o) (emit program.run s a) (emit program.run s b) next)
                (λ w new carried found_is changed. takes new changed (found_is ∙ ap Some (carries w carried)))

            wrong : Follows program f NoNext (at f.world h waiting size rests words branching)
            wrong = goes_wrong program f places objects h filled waiting size rests words branching

            by_value : (v : FlatValue program.meaning.Cast) → value locals group o ≡ v
                → Follows program f
                (flat_choose program.procs (mode_of program) f.store f.world v a b locals group f.frames)
                (at f.world h waiting size rests words (emit program.run s (Choose o a b) next))
            by_value (RunBool true) is =
                by_test a 1 (λ w carried. subst (λ v. CarriedHere program places objects v w) is carried)
                (takes_one next rest)
            by_value (RunBool false) is =
                by_test b 0 (λ w carried. subst (λ v. CarriedHere program places objects v w) is carried)
                (takes_other next rest)
            by_value (RunInt n) is = wrong
            by_value RunUnit is = wrong
            by_value (RunFun function captured) is = wrong
            by_value (RunTuple values) is = wrong
            by_value (RunLoc cell is_vector) is = wrong
            by_value (RunWrap u cast) is = wrong
            by_value (RunInject u kept) is = wrong

      -- ---- lets

      pub let_turns : (slot : ℕ) (inner body : Body)
          → FitsHere s count group depth locals words (LetBody slot inner body)
          → Follows program f
          (On (Own (Inside inner locals group)) (OwnFrame (Waiting slot body locals group) ∷ f.frames) f.store f.world)
          (at f.world h waiting size rests words (emit program.run s (LetBody slot inner body) next))
      let_turns slot inner body fits =
          let x = and_true (slot == depth)
          (body_bound program.procs s.captured count depth inner
          && body_bound program.procs s.captured count (suc depth) body) fits.bound in
          let y = and_true (body_bound program.procs s.captured count depth inner)
          (body_bound program.procs s.captured count (suc depth) body) x.1 in
          let same : slot ≡ depth = eqb-true slot depth x.0 in
          let room = fits.room in
          let f' = flat_state_at program.procs program.told (Own (Inside inner locals group))
          (OwnFrame (Waiting slot body locals group) ∷ f.frames) f.store f.world in
          let t = at f.world h waiting size rests words (emit program.run s (LetBody slot inner body) next) in
          here program.setting (Way program f f' h.words (turn_room program t)) (turn_goal program f f' t) t (
            0,
            inl
                (running places objects h f filled cells inner locals group
                (OwnFrame (Waiting slot body locals group) ∷ f.frames) waiting size rests words s count depth
                (Into (local_word s slot) (emit program.run s body next)) (record {
                  bound = y.0;
                  params = fits.params;
                  few = fits.few;
                  room = omega (arith, room);
                  knows = fits.knows;
                }) (
                  record {
                    params = let z = fits.params in omega (arith, z, same);
                    few = fits.few;
                    deep = omega (arith, same);
                    word = refl;
                    same = refl;
                    bound = subst (λ n. body_bound program.procs s.captured count (suc n) body ≡ true) (sym same) y.1;
                    room = subst (λ n. levels (suc n) body + 10 ≤ size) (sym same) (omega (arith, room));
                    knows =
                        subst (λ n. Knows program.setting program.l program.run program.procs program.answer
                        program.meaning
                        places
                        objects s count group n locals words) (sym same) fits.knows;
                  },
                  next,
                  rests,
                  0,
                  (refl, refl),
                  subst (λ n. RestHere program places objects waiting s count size group n f.frames next rests words)
                      (sym same) rest,
                )),
            kept_here program f f' 0 0 t (omega arith),
          )

      -- ---- groups of functions

      group_floor : (step whole behind budget due : ℕ) → step ≤ budget
          → whole + behind - (budget + (0 + due)) ≤ whole - step + behind
      group_floor step whole behind budget due le = omega (arith, le)

      pub group_turns : (slot first many : ℕ) (captured : List Operand) (body : Body)
          → FitsHere s count group depth locals words (LetGroup slot first many captured body) → s.params ≤ 6
          → 896 + 64 * (2 * many + length captured) ≤ budget_of program f
          → 2 * many + length captured ≤ asks_of program f
          → Follows program f
          (On (Own (Inside body (set_group locals slot many (new_group first (values locals group captured))) group))
          f.frames f.store f.world)
          (at f.world h waiting size rests words (emit program.run s (LetGroup slot first many captured body) next))
      group_turns slot first zero captured body fits six enough asked =
          let x = and_true (slot == depth) (begins_group (slice_get program.procs first) zero (length captured)
          && (operands_bound s.captured count depth captured
          && body_bound program.procs s.captured count (depth + zero) body)) fits.bound in
          let y = and_true (begins_group (slice_get program.procs first) zero (length captured))
          (operands_bound s.captured count depth captured
          && body_bound program.procs s.captured count (depth + zero) body) x.1 in
          let b = begins_so program.procs program.closed first zero (length captured) y.0 in
          let some = b.some in absurd (omega (arith, some))
      group_turns slot first (suc others) captured body fits six enough asked =
          let x = and_true (slot == depth) (begins_group (slice_get program.procs first) (suc others) (length captured)
          && (operands_bound s.captured count depth captured
          && body_bound program.procs s.captured count (depth + suc others) body)) fits.bound in
          let y = and_true (begins_group (slice_get program.procs first) (suc others) (length captured))
          (operands_bound s.captured count depth captured
          && body_bound program.procs s.captured count (depth + suc others) body) x.1 in
          let z = and_true (operands_bound s.captured count depth captured)
          (body_bound program.procs s.captured count (depth + suc others) body) y.1 in
          let same : slot ≡ depth = eqb-true slot depth x.0 in
          let b = begins_so program.procs program.closed first (suc others) (length captured) y.0 in
          let members : (place : ℕ) → place < suc others
          → IsMember program.procs first (suc others) (length captured) place = λ place lt.
          all_members program.procs program.closed first (suc others) (length captured) place lt b.member in
          let narrow = program.narrow (first + 0) b.member.proc b.member.there in
          let params = fits.params in
          let room = fits.room in
          let above = levels_above (depth + suc others) body in
          let cap = b.member.captured_is in
          let grp = b.member.group_is in
          let f' = next_state program f (On (Own (Inside body (set_group locals slot (suc others)
          (new_group first (values locals group captured))) group)) f.frames f.store f.world) in
          let code = emit program.run s (LetGroup slot first (suc others) captured body) next in
          let start = at f.world h waiting size rests words code in
          let k = emit program.run s body next in
          let dear = group_price program.setting.procs size s six slot first (suc others) captured k in
          makes_group (scene_for program f f' h.words (room_over program size waiting) (turn_goal program f f' start)
          places) f.world h
          (at_start program f f' f.world h.words refl) objects filled waiting size (stays_in program size waiting)
          rests s count group slot locals (omega (arith, same, params)) (omega (arith, same, room, above)) words
          (subst (λ n. Knows program.setting program.l program.run program.procs program.answer program.meaning places
          objects s
          count group n locals words) (sym same) fits.knows) first others captured
          (subst (λ n. operands_bound s.captured count n captured ≡ true) (sym same) z.0)
          (omega (arith, same, room, above)) (omega (arith, narrow.0, cap)) (omega (arith, narrow.1, grp))
          (λ j lt. let m = members j lt in (low_proc program.run m.proc, program.stand (first + j) m.proc m.there))
          program.addresses.small members (inl (refl, omega (arith, asked)))
          (emit program.run s body next)
          (group_floor (step_price program.setting.procs size code) (code_price program.setting.procs size code)
          (codes_price program.setting.procs size rests) (budget_of program f) (dues start)
          (let x = number_most (group_words (length captured) others) in
          let y = slot_most (local_word s slot) in omega (arith, x, y, enough)))
          (λ cs h' now made.
          let more = group_objects program.setting.address first others cs in
          let kn = knows_later program.setting program.l program.run program.procs program.answer program.meaning
          program.laws places objects
          more s count group depth locals words fits.knows in
          here program.setting (Way program f f' h.words (room_over program size waiting)) (turn_goal program f f'
          start)
          (at f.world h' waiting size rests now k) (
            0,
            inl
                (running places (objects ++ more) h' f made.all_filled
                (cells_later program.l program.setting.address program.procs program.meaning program.laws places
                objects more
                h'.memory places
                f.store (cells_below program.l program.setting.address program.procs program.meaning program.laws places
                objects program.setting
                program.placed h filled h'.memory made.below places f.store cells)) body
                (set_group locals slot (suc others) (new_group first (values locals group captured))) group f.frames
                waiting
                size rests now s count (slot + suc others) next (record {
                  bound =
                      subst (λ n. body_bound program.procs s.captured count (n + suc others) body ≡ true)
                      (sym same) z.1;
                  params = omega (arith, same, params);
                  few = fits.few;
                  room = subst (λ n. levels (n + suc others) body + 10 ≤ size) (sym same) room;
                  knows = record {
                    own = kn.own;
                    own_is = made.same own_word (OwnName refl) ∙ kn.own_is;
                    own_group = kn.own_group;
                    local = made.local;
                  };
                })
                (rest_deeper program.setting program.l program.run program.procs program.answer program.meaning
                program.laws
                places
                (objects ++ more) (CallersHere program places (objects ++ more) waiting) s count size group slot
                (slot + suc others) f.frames next rests now (omega arith)
                (rest_same program.setting program.l program.run program.procs program.answer program.meaning
                program.laws
                places (objects ++ more)
                (CallersHere program places (objects ++ more) waiting) s count size group slot f.frames next rests
                words now
                made.same
                (rest_later program.setting program.l program.run program.procs program.answer program.meaning
                program.laws
                places objects more
                (CallersHere program places objects waiting) (CallersHere program places (objects ++ more) waiting)
                (λ frames c. callers_later program.setting program.l program.run program.procs program.answer
                program.meaning
                program.laws places
                objects more waiting frames c) s count size group slot f.frames next rests words
                (subst (λ n. RestHere program places objects waiting s count size group n f.frames next rests words)
                (sym same) rest))))),
            kept_by program f f' f.world f.world h h' waiting size rests words now code k 0
                (group_body_begins program.run s slot first others captured body next)
                (omega (arith, dear, enough)) (still_asked program f f' f.world h.words h'.words made.asked),
          ))

    -- ---- values that a body waits for

    -- the ends of branches are gone through, at 10 for each
    fall : (P : LowState → Type 0) (H : ℕ → LowState → Type 0) (floor : ℕ)
        → ((rests : List Code) (words : Locals) (code : Code) → P (at f.world h waiting size rests words code))
        → (n : ℕ) (k : Code) (rests : List Code)
        (k' : Code) (rests' : List Code) (words : Locals) (credit : ℕ) → Falls n k rests k' rests'
        → By program.setting P H floor credit (at f.world h waiting size rests' words k')
        → By program.setting P H floor (10 * n + credit) (at f.world h waiting size rests words k)
    fall P H floor calm zero k rests k' rests' words credit e c =
        by_more program.setting P H floor credit (10 * 0 + credit) (at f.world h waiting size rests words k)
        (omega arith)
        (subst (λ x. By program.setting P H floor credit (at f.world h waiting size rests words x)) (sym e.0)
        (subst (λ x. By program.setting P H floor credit (at f.world h waiting size x words k')) (sym e.1) c))
    fall P H floor calm (suc n) k [] k' rests' words credit e c = absurd e
    fall P H floor calm (suc n) k (r ∷ rests) k' rests' words credit e c =
        subst (λ x. By program.setting P H floor (10 * suc n + credit) (at f.world h waiting size (r ∷ rests) words x))
        (sym e.0)
        (by_go program.setting P H floor (10 * n + credit) (10 * suc n + credit)
        (at f.world h waiting size (r ∷ rests) words Done) (at f.world h waiting size rests words r) refl (omega arith)
        (calm (r ∷ rests) words Done)
        (fall P H floor calm n r rests k' rests' words credit e.1 c))

    -- as many branches as ends are gone through are around no more
    fallen_rests : (n : ℕ) (k : Code) (rests : List Code) (k' : Code) (rests' : List Code) → Falls n k rests k' rests'
        → 10 * n + 10 * length rests' ≤ 10 * length rests
    fallen_rests zero k rests k' rests' e = let z = ap length e.1 in omega (arith, z)
    fallen_rests (suc n) k [] k' rests' e = absurd e
    fallen_rests (suc n) k (r ∷ rests) k' rests' e =
        let z = fallen_rests n r rests k' rests' e.1 in omega (arith, z)

    dues_fall : (n : ℕ) (k : Code) (rests : List Code) (k' : Code) (rests' : List Code) → Falls n k rests k' rests'
        → 10 * n + due_of k' rests' ≤ due_of k rests
    dues_fall zero k rests k' rests' e =
        subst (λ x. 10 * 0 + due_of x rests' ≤ due_of k rests) e.0
        (subst (λ x. 10 * 0 + due_of k x ≤ due_of k rests) e.1 (omega arith))
    dues_fall (suc n) k [] k' rests' e = absurd e
    dues_fall (suc n) k (r ∷ rests) k' rests' e =
        subst (λ x. 10 * suc n + due_of k' rests' ≤ due_of x (r ∷ rests)) (sym e.0)
        (let z = fallen_rests n r rests k' rests' e.1 in let y = due_most k' rests' in omega (arith, z, y))

    abbrev waited : ℕ → Body → FlatLocals program.meaning.Cast → Group program.meaning.Cast
        → FlatValue program.meaning.Cast → List (FlatFrame program.meaning.Cast)
        → FlatAfter program.meaning.Cast
    waited slot body locals group v frames =
        On (Own (Inside body (set_flat locals slot v) group)) frames f.store f.world

    pub gave_turns : (slot : ℕ) (body : Body) (locals : FlatLocals program.meaning.Cast)
        (group : Group program.meaning.Cast)
        (frames : List (FlatFrame program.meaning.Cast)) (v : FlatValue program.meaning.Cast) (active : Active)
        → Gave program.setting program.l program.run program.procs program.answer program.meaning places objects v
        (OwnFrame (Waiting slot body locals group) ∷ frames) active waiting
        → active.count ≡ size
        → (n : ℕ) × ((own whole room : ℕ) (start : LowState) → start.words ≡ h.words
        → frame_room size + waiting_room waiting ≤ room
        → whole + dues (at f.world h waiting size active.rests active.locals active.code)
        ≤ 10 * n + budget_of program f + (own + dues start)
        → By program.setting (Way program f (next_state program f (waited slot body locals group v frames)) start.words
        room)
        (turn_aim program f (next_state program f (waited slot body locals group v frames)) own whole start)
        (floor_of program f own whole start) (10 * n)
        (at f.world h waiting size active.rests active.locals active.code))
    gave_turns slot body locals group frames v active g sized =
        let r = g.rest in
        let words = active.locals in
        let s = g.s in
        let f' = next_state program f (waited slot body locals group v frames) in
        let d_is : g.d ≡ local_word s slot = r.0.word in
        let place : words (local_word s slot) ≡ Some g.w = ap words (sym d_is) ∙ g.is in
        let fits : Fits program.setting program.l program.run program.procs program.answer program.meaning places
        objects s
        g.count size group (suc slot) (set_flat locals slot v) words body = record {
          bound = r.0.bound;
          params = let z = r.0.params in omega (arith, z);
          few = r.0.few;
          room = let z = r.0.room in omega (arith, z, sized);
          knows =
              knows_more program.setting program.l program.run program.procs program.answer program.meaning program.laws
              places objects s
              g.count group slot locals words v g.w place g.carried
              (subst (λ x. Knows program.setting program.l program.run program.procs program.answer program.meaning
              places
              objects s g.count x slot locals words) (sym r.0.same) r.0.knows);
        } in
        let u = at f.world h waiting size r.2 words (emit program.run s body r.1) in
        let live : Live program f' 0 u =
        running places objects h f filled cells body (set_flat locals slot v) group frames waiting size r.2 words s
        g.count (suc slot) r.1 fits
        (rest_deeper program.setting program.l program.run program.procs program.answer program.meaning program.laws
        places objects
        (CallersHere program places objects waiting) s g.count size group slot (suc slot) frames r.1 r.2 words
        (omega arith)
        (subst (λ n. RestHere program places objects waiting s g.count n group slot frames r.1 r.2 words) sized
        (subst (λ x. RestHere program places objects waiting s g.count active.count x slot frames r.1 r.2 words)
        (sym r.0.same) r.5))) in (
          r.3,
          λ own whole room start same fits_room le.
              let here : Way program f f' start.words room (at f.world h waiting size active.rests active.locals
              active.code) =
              (inl (refl, omega (arith, same)), (objects, filled), fits_room) in
              subst (λ c. By program.setting (Way program f f' start.words room) (turn_aim program f f' own whole start)
              (floor_of program f own whole start) c
              (at f.world h waiting size active.rests active.locals active.code)) (omega arith)
              (fall (Way program f f' start.words room) (turn_aim program f f' own whole start)
              (floor_of program f own whole start)
              (λ rests locals code. (inl (refl, omega (arith, same)), (objects, filled), fits_room)) r.3 active.code
              active.rests
              (emit program.run s body r.1) r.2 words 0 r.4
              (arrives program f f' start.words room own whole start 0 u (
                0,
                inl live,
                record {
                  asked = omega (arith, same);
                  paid =
                      let z = dues_fall r.3 active.code active.rests (emit program.run s body r.1) r.2 r.4 in
                      omega (arith, z, le);
                },
              ))),
        )

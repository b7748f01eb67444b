-- The turns of calls.
use Rattle.std.proofs.Common.{◌≡◌, ◌≢◌, ◌⊎◌, inl, inr, ℕ, zero, suc, ◌+◌, ◌*◌, ◌<◌, ◌≤◌, List, [], ◌∷◌}
use Rattle.std.proofs.Common.{Bool, Some, None, true, false, length, refl, sym, ap, ◌∙◌, subst, arith, Option}
use Rattle.std.proofs.Common.{ne_eqb, eq-eqb}
use Rattle.std.specs.Prelude.{slice_get, ◌==◌, ◌&&◌, nat_le, if◌then◌else◌}
use Rattle.low_ir.specs.declared.code.LowSource.TheVariants.{Word}
use Rattle.low_ir.specs.Procedures.{Code, Done, Load, TailCall, TailCallAt, CallAt, Call as CallOf, Proc as LowProc}
use Rattle.low_ir.specs.Steps.{Locals, no_locals, set_local}
use Rattle.low_ir.specs.Run.{Waiting as LowWaiting, LowState, word_of, words_of, and_more, bind, proc_from}
use Rattle.cast_modes.specs.RunValues.{RunFun}
use Rattle.cast_modes.specs.RunValues.{in_row}
use Rattle.cast_modes.specs.RunValues.{row_list}
use Rattle.cast_modes.specs.ValueSteps.{Own, On}
use Rattle.flat_ir.specs.declared.code.Operand.{Operand}
use Rattle.flat_ir.specs.Bodies.{Call, Proc}
use Rattle.flat_ir.specs.Closed.{operand_bound, operands_bound}
use Rattle.flat_ir.specs.Machine.{FlatValue, FlatValues, FlatFrame, FlatState, FlatAfter, Group}
use Rattle.flat_ir.specs.Machine.{Locals as FlatLocals, Inside, value, values}
use Rattle.flat_ir.specs.Machine.{locals_of, or_unit}
use Rattle.flat_ir.specs.Levels.{levels}
use Rattle.coercion_norm.specs.Objects.{Object, Fixed}
use Rattle.rt_cast.specs.States.{Heap}
use Rattle.lower.specs.Storage.{Filled}
use Rattle.lowered_code.specs.declared.numbering.Shape.{Shape}
use Rattle.lowered_code.specs.Numbering.{test_word, operand_word, local_word, function_offset}
use Rattle.lowered_code.specs.Emit.{Then, ToCaller, Into, emit, found, found_all, call, call_bare, call_by, is_sibling}
use Rattle.lowered_code.specs.Emit.{of_kind}
use Rattle.lowered_code.specs.Emit.{apply_words}
use Rattle.lowered_code.specs.Lowered.{low_proc, shape_of}
use Rattle.coercion_norm.specs.Held.{There}
use Rattle.std.proofs.Common.{le_refl}
use Rattle.lower.specs.CarriedValues.{CellsHeld, IsMember, AreCarried, IsGroup}
use Rattle.lower.specs.Relation.{Fits, OwnGroup, Runs}
use Rattle.lower.proofs.heap.Objects.{none_some, same_some}
use Rattle.lower.proofs.heap.Filled.{WordThere, word_there, header_there}
use Rattle.lower.proofs.heap.CarriedLater.{as_many, carried_at, function_there}
use Rattle.lower.proofs.simulation.RelationKept.{rest_same, rest_branch, word_here, word_other, local_low}
use Rattle.lower.proofs.simulation.RelationKept.{SameNamed}
use Rattle.lower.proofs.simulation.RelationKept.{Named, OwnName, LowName, HighName}
use Rattle.lower.proofs.words.Steps.{at, Comes, Moves, here, moves_later, loads, loads_first, tail_calls_at}
use Rattle.lower.proofs.words.Steps.{calls_at}
use Rattle.lower.proofs.words.Steps.{waiting_for, first_to, left_of, Calm, Goal}
use Rattle.lower.proofs.words.Scene.{Scene}
use Rattle.lower.proofs.words.Operands.{fetch_all_reads, and_true, Changes, ChangesFrom, found_all_same}
use Rattle.lower.proofs.words.Operands.{same_besides}
use Rattle.lower.proofs.words.Operations.{is_of_kind}
use Rattle.lower.proofs.simulation.Groups.{proc_is_closed}
use Rattle.lower.proofs.simulation.Way.{room_over, stays_in}
use Rattle.lower.proofs.simulation.Way.{Program, next_state, Way, Allowed, scene_for, turn_goal, at_start}
use Rattle.lower.proofs.simulation.Way.{budget_of}
use Rattle.lower.proofs.simulation.Way.{dues, due_most, due_is, waiting_dues}
use Rattle.lower.proofs.words.EmitPrices.{call_price_all, call_body_begins, then_price}
use Rattle.low_ir.specs.Prices.{code_price, codes_price}
use Rattle.lower.proofs.simulation.Gives.{CarriedHere, RestHere, CallersHere, levels_above, living}

-- ---- the words that a procedure takes

bind_below : (ws : List ℕ) (from i : ℕ) (words : Locals) → i < from → bind from ws words i ≡ words i
bind_below [] from i words lt = refl
bind_below (w ∷ ws) from i words lt =
    bind_below ws (suc from) i (set_local from w words) (omega (arith, lt))
    ∙ word_other from w words i (λ e. omega (arith, e, lt))

bind_at : (ws : List ℕ) (from j i w : ℕ) (words : Locals) → slice_get ws j ≡ Some w → i ≡ from + j
    → bind from ws words i ≡ Some w
bind_at [] from j i w words e is = none_some e
bind_at (x ∷ ws) from zero i w words e is =
    bind_below ws (suc from) i (set_local from x words) (omega (arith, is))
    ∙ (ap (set_local from x words) (here_is is) ∙ (word_here from x words ∙ e))
  where
    here_is : i ≡ from + zero → i ≡ from
    here_is q = omega (arith, q)
bind_at (x ∷ ws) from (suc j) i w words e is =
    bind_at ws (suc from) j i w (set_local from x words) e (omega (arith, is))

row_back : {C : Type 0} (vs : List (FlatValue C)) → row_list (in_row vs) ≡ vs
row_back [] = refl
row_back (v ∷ vs) = ap (λ l. v ∷ l) (row_back vs)

values_long : {C : Type 0} (locals : FlatLocals C) (group : Group C) (os : List Operand)
    → length (values locals group os) ≡ length os
values_long locals group [] = refl
values_long locals group (o ∷ os) = ap suc (values_long locals group os)

-- the procedure with a code address
proc_found : (address : ℕ → ℕ) (at k j : ℕ) (ps : List LowProc) (p : LowProc) → slice_get ps j ≡ Some p
    → address (k + j) ≡ at → ((i : ℕ) → i < j → address (k + i) ≢ at) → proc_from address at k ps ≡ Some p
proc_found address at k j [] p e is apart = none_some e
proc_found address at k zero (q ∷ ps) p e is apart =
    let n : k + 0 ≡ k = omega arith in
    ap (λ b. if b then Some q else proc_from address at (suc k) ps)
    (eq-eqb (address k) at (ap address (sym n) ∙ is))
    ∙ e
proc_found address at k (suc j) (q ∷ ps) p e is apart =
    let n : k + 0 ≡ k = omega arith in
    let m : k + suc j ≡ suc k + j = omega arith in
    ap (λ b. if b then Some q else proc_from address at (suc k) ps)
    (ne_eqb (address k) at (λ z. apart 0 (omega arith) (ap address n ∙ z)))
    ∙ proc_found address at (suc k) j ps p e (ap address (sym m) ∙ is)
    (λ i lt z. let r : k + suc i ≡ suc k + i = omega arith in apart (suc i) (omega (arith, lt)) (ap address r ∙ z))

get_some : {A : Type 0} (xs : List A) (i j : ℕ) (a : A) → slice_get xs j ≡ Some a → i < j
    → (b : A) × (slice_get xs i ≡ Some b)
get_some [] i j a e lt = none_some e
get_some (x ∷ xs) zero j a e lt = (x, refl)
get_some (x ∷ xs) (suc i) zero a e lt = absurd (omega (arith, lt))
get_some (x ∷ xs) (suc i) (suc j) a e lt = get_some xs i j a e (omega (arith, lt))

module _ (program : Program) where
  -- a code address is that of one procedure
  pub proc_at : (k : ℕ) (p : LowProc) → slice_get program.setting.procs k ≡ Some p
      → proc_from program.setting.address (program.setting.address k) 0 program.setting.procs ≡ Some p
  proc_at k p e =
      let n : 0 + k ≡ k = omega arith in
      proc_found program.setting.address (program.setting.address k) 0 k program.setting.procs p e
      (ap program.setting.address n)
      (λ i lt z.
      let m : 0 + i ≡ i = omega arith in
      let q = get_some program.setting.procs i k p e lt in
      let same : i ≡ k = program.addresses.once i k q.0 p q.1 e (ap program.setting.address (sym m) ∙ z) in
      omega (arith, same, lt))

  module _ (places : List ℕ) (objects : List Object) where
    -- the procedure that was entered with these words runs, where they know its names
    pub runs_first : (k : ℕ) (p : Proc) (group : Group program.meaning.Cast) (locals : FlatLocals program.meaning.Cast)
        (own : ℕ) (ws : List ℕ) (waiting : List LowWaiting) (frames : List (FlatFrame program.meaning.Cast))
        → slice_get program.procs k ≡ Some p
        → ((p.captured ≡ 0) × (p.group ≡ 0)) ⊎ OwnGroup program.setting program.l program.run program.procs
        program.answer program.meaning places objects (shape_of p) p.group group own
        → ((i : ℕ) → i < p.params → (w : ℕ) × (bind 0 (own ∷ ws) no_locals (local_word (shape_of p) i) ≡ Some w)
        × CarriedHere program places objects (locals i) w)
        → CallersHere program places objects waiting frames
        → Runs program.setting program.l program.run program.procs program.answer program.meaning places objects p.body
        locals group frames (record {
          count = levels p.params p.body + 10;
          locals = bind 0 (own ∷ ws) no_locals;
          code = (low_proc program.run p).code;
          rests = [];
        }) waiting
    runs_first k p group locals own ws waiting frames there own_group local callers =
        let c = proc_is_closed program.procs program.closed k p there in
        record {
          s = shape_of p;
          count = p.group;
          depth = p.params;
          next = ToCaller;
          is = refl;
          fits = record {
            bound = c.bound;
            params = le_refl p.params;
            few = c.params;
            room = le_refl (levels p.params p.body + 10);
            knows = record {
              own = own;
              own_is = bind_at (own ∷ ws) 0 0 0 own no_locals refl refl;
              own_group = own_group;
              local = local;
            };
          };
          rest = callers;
        }

    -- a function that is carried by a word is the one at its place of the group there
    module _ (first place : ℕ) (captured : FlatValues program.meaning.Cast) (p : Proc)
        (there : slice_get program.procs (first + place) ≡ Some p) (w : ℕ)
        (c : CarriedHere program places objects (RunFun (record { first = first; place = place }) captured) w) where
      member : IsMember program.procs first c.1 (length c.2) place
      member = c.5.members place c.4

      proc_same : member.proc ≡ p
      proc_same = same_some member.proc p (sym member.there ∙ there)

      pub own_of : OwnGroup program.setting program.l program.run program.procs program.answer program.meaning places
          objects (shape_of p) p.group (record { first = first; captured = captured }) w
      own_of = record {
        leader = c.0;
        words = c.2;
        is = c.3 ∙ ap (λ n. c.0 + function_offset (length c.2) n)
            (sym (ap (λ q. q.place) (sym proc_same) ∙ member.place_is));
        long = ap (λ q. q.captured) (sym proc_same) ∙ member.captured_is;
        inside = (let x = ap (λ q. q.place) (sym proc_same) ∙ member.place_is in
            let y = ap (λ q. q.group) (sym proc_same) ∙ member.group_is in let z = c.4 in omega (arith, x, y, z));
        stands = subst (λ n. IsGroup program.l program.setting.address program.procs program.meaning places objects
            first c.0 n c.2) (sym (ap (λ q. q.group) (sym proc_same) ∙ member.group_is)) c.5;
        carried = c.6;
      }

  module _ (f : FlatState program.meaning.Cast) (places : List ℕ) (objects : List Object)
      (h : Heap) (filled : Filled program.meaning program.setting program.l program.number objects h)
      (cells : CellsHeld program.l program.setting.address program.procs program.meaning places objects h.memory places
      f.store)
    where
      -- a value is about to be returned to, or the body goes on, of the procedure that was entered with these words
      pub entered : (p : Proc) (group : Group program.meaning.Cast) (vs : List (FlatValue program.meaning.Cast))
          (own : ℕ) (ws : List ℕ)
          (waiting : List LowWaiting) (frames : List (FlatFrame program.meaning.Cast)) (k : ℕ)
          → slice_get program.procs k ≡ Some p
          → OwnGroup program.setting program.l program.run program.procs program.answer program.meaning places objects
          (shape_of p) p.group group own
          → AreCarried program.l program.setting.address program.procs program.meaning places objects (in_row vs) ws
          → length vs ≡ p.params → CallersHere program places objects waiting frames
          → Runs program.setting program.l program.run program.procs program.answer program.meaning places objects
          p.body
          (locals_of vs) group frames (record {
            count = levels p.params p.body + 10;
            locals = bind 0 (own ∷ ws) no_locals;
            code = (low_proc program.run p).code;
            rests = [];
          }) waiting
      entered p group vs own ws waiting frames k there g carried long callers =
          runs_first places objects k p group (locals_of vs) own ws waiting frames there (inr g) at_level callers
        where
          many : length ws ≡ length vs
          many =
              as_many program.l program.setting.address program.procs program.meaning program.laws places objects vs ws
              carried

          at_level : (i : ℕ) → i < p.params → (w : ℕ)
              × (bind 0 (own ∷ ws) no_locals (local_word (shape_of p) i) ≡ Some w)
              × CarriedHere program places objects (locals_of vs i) w
          at_level i lt =
              let z = carried_at program.l program.setting.address program.procs program.meaning program.laws places
              objects (in_row vs) ws i
              carried (omega (arith, lt, long, many)) in
              let low = local_low (shape_of p) i lt in (
                z.0,
                ap (bind 0 (own ∷ ws) no_locals) low
                    ∙ bind_at (own ∷ ws) 0 (suc i) (suc i) z.0 no_locals z.1 (omega arith),
                subst (λ l. CarriedHere program places objects (or_unit (slice_get l i)) z.0) (row_back vs) z.2,
              )

      module _ (waiting : List LowWaiting) (size : ℕ) (rests : List Code) (words : Locals) (s : Shape)
          (count depth : ℕ) (group : Group program.meaning.Cast) (locals : FlatLocals program.meaning.Cast)
          (next : Then)
          (rest : RestHere program places objects waiting s count size group depth f.frames next rests words)
          (fo : Operand) (os : List Operand)
          (fits : Fits program.setting program.l program.run program.procs program.answer program.meaning places objects
          s count
          size group depth locals words (Call fo os)) (six : s.params ≤ 6) (enough : 800 ≤ budget_of program f) where
        parts : (operand_bound s.captured count depth fo ≡ true)
            × (operands_bound s.captured count depth os ≡ true) × (nat_le (length os) 6 ≡ true)
        parts =
            let x = and_true (operand_bound s.captured count depth fo)
            (operands_bound s.captured count depth os && nat_le (length os) 6) fits.bound in
            let y = and_true (operands_bound s.captured count depth os) (nat_le (length os) 6) x.1 in
            (x.0, y.0, y.1)

        room : s.params + 10 ≤ size
        room = let a = fits.params in let b = fits.room in omega (arith, a, b)

        few : length os ≤ 6
        few = at_most (length os) 6 parts.2
          where
            at_most : (a b : ℕ) → nat_le a b ≡ true → a ≤ b
            at_most a b h = grind (arith, h)

        -- a function is called whose procedure is there and takes so many arguments
        module _ (first place : ℕ) (captured : FlatValues program.meaning.Cast) (p : Proc)
            (function : value locals group fo ≡ RunFun (record { first = first; place = place }) captured)
            (there : slice_get program.procs (first + place) ≡ Some p)
            (long : length (values locals group os) ≡ p.params) where
          abbrev after : FlatAfter program.meaning.Cast
          after = On (Own (Inside p.body (locals_of (values locals group os))
              (record { first = first; captured = captured }))) f.frames f.store f.world

          abbrev f' : FlatState program.meaning.Cast
          f' = next_state program f after

          abbrev start : LowState
          start = at f.world h waiting size rests words (emit program.run s (Call fo os) next)

          abbrev P : LowState → Type 0
          P = Way program f f' h.words (room_over program size waiting)

          abbrev Q : Goal
          Q = turn_goal program f f' start

          as_before : Allowed program f f' h.words f.world h.words
          as_before = at_start program f f' f.world h.words refl

          abbrev scene : Scene
          scene = scene_for program f f' h.words (room_over program size waiting) Q places

          abbrev Going : LowState → Type 0
          Going t = Moves program.setting P Q t

          -- the whole call costs no more in its own procedure
          abbrev Cheap : Then → Type 0
          Cheap next' =
              code_price program.setting.procs size (emit program.run s (Call fo os) next)
              ≤ 556 + then_price program.setting.procs size s six next'

          calm : Calm program.setting P Q size waiting f.world h
          calm rests locals code = (as_before, (objects, filled), stays_in program size waiting)

          -- what stands at the address of the function
          module _ (w : ℕ) (ws : List ℕ) (now : Locals)
              (c : CarriedHere program places objects
              (RunFun (record { first = first; place = place }) captured) w)
              (carried : AreCarried program.l program.setting.address program.procs program.meaning places objects
              (in_row (values locals group os)) ws)
              (same : SameNamed s depth words now)
              (are : words_of now (found s (operand_word s 0) fo ∷ found_all s 1 os) ≡ Some (w ∷ ws)) where
            abbrev low : LowProc
            low = low_proc program.run p

            stands : (rest : List ℕ) × There program.l objects (c.0 + function_offset (length c.2) place)
                (Fixed (1 + 4294967296 * suc (length rest)) (program.setting.address (first + place) ∷ rest))
            stands =
                function_there program.l program.setting.address program.procs program.meaning program.laws places
                objects program.setting
                program.placed h filled first c.0 c.1 place c.2 c.4 c.5

            at_word : There program.l objects w
                (Fixed (1 + 4294967296 * suc (length stands.0)) (program.setting.address (first + place) ∷ stands.0))
            at_word = subst (λ n. There program.l objects n (Fixed (1 + 4294967296 * suc (length stands.0))
                (program.setting.address (first + place) ∷ stands.0))) (sym c.3) stands.1

            takes : ((length (w ∷ ws) == low.params) && (nat_le low.params 8 && nat_le low.params low.words)) ≡ true
            takes =
                let m = as_many program.l program.setting.address program.procs program.meaning program.laws places
                objects
                (values locals group os) ws carried in
                let cl = proc_is_closed program.procs program.closed (first + place) p there in
                let p6 = cl.params in
                let above = levels_above p.params p.body in
                all_true (suc (length ws)) (suc p.params) (levels p.params p.body + 10) (omega (arith, m, long))
                (omega (arith, p6)) (omega (arith, above))
              where
                all_true : (n m k : ℕ) → n ≡ m → m ≤ 8 → m ≤ k → ((n == m) && (nat_le m 8 && nat_le m k)) ≡ true
                all_true n m k e x y = grind (arith, e, x, y)

            due_begun : 10 * length rests + waiting_dues waiting ≤ dues start
            due_begun =
                let z = due_is (emit program.run s (Call fo os) next) rests
                (call_body_begins program.run s fo os next) in
                omega (arith, z)

            -- the procedure was entered
            inside : (waiting' : List LowWaiting) (left : ℕ) → CallersHere program places objects waiting' f.frames
                → left_of program.setting start + waiting_dues waiting' ≤ left + budget_of program f + dues start
                → Q.holds left (at f.world h waiting' low.words [] (bind 0 (w ∷ ws) no_locals) low.code)
            inside waiting' left callers le = (
              0,
              inl (living program places objects h f' refl filled cells waiting' low.words []
                  (bind 0 (w ∷ ws) no_locals) low.code 0
                  (entered p (record { first = first; captured = captured }) (values locals group os) w ws waiting'
                  f.frames (first + place) there
                  (own_of places objects first place captured p there w c) carried long callers)),
              record {
                asked = omega arith;
                paid = let z = due_most low.code [] in omega (arith, le, z);
              },
            )

            first_word : (x : Option ℕ) (xs : Option (List ℕ)) → and_more x xs ≡ Some (w ∷ ws) → x ≡ Some w
            first_word None xs e = none_some e
            first_word (Some y) None e = none_some e
            first_word (Some y) (Some ys) e = ap Some (head_same y w ys ws (same_some (y ∷ ys) (w ∷ ws) e))
              where
                head_same : (x y : ℕ) (xs ys : List ℕ) → (x ∷ xs) ≡ (y ∷ ys) → x ≡ y
                head_same x y xs ys e = cc

            both_bound : (operand_bound s.captured count depth fo && operands_bound s.captured count depth os) ≡ true
            both_bound = let x = parts.0 in let y = parts.1 in rw (x, y) refl

            still : (last : Locals) → Changes (test_word s) now last
                → words_of last (found s (operand_word s 0) fo ∷ found_all s 1 os) ≡ Some (w ∷ ws)
            still last changed =
                found_all_same scene f.world h as_before objects filled waiting size (stays_in program size waiting)
                rests s count group depth locals
                (fo ∷ os) 0 both_bound (omega (arith, few)) now last changed
                ∙ are

            found_is : (last : Locals) → Changes (test_word s) now last
                → word_of last (found s (operand_word s 0) fo) ≡ Some w
            found_is last changed =
                first_word (word_of last (found s (operand_word s 0) fo)) (words_of last (found_all s 1 os))
                (still last changed)

            abbrev code_address : ℕ
            code_address = program.setting.address (first + place)

            code_there : WordThere program.meaning program.setting program.l program.placed h.memory (w + 8)
                code_address
            code_there =
                word_there program.meaning program.setting program.l program.placed objects h filled w
                (1 + 4294967296 * suc (length stands.0)) (code_address ∷ stands.0) at_word 1 code_address (w + 8) refl
                (omega arith)

            head_there : WordThere program.meaning program.setting program.l program.placed h.memory w
                (1 + 4294967296 * suc (length stands.0))
            head_there = header_there program.meaning program.setting program.l program.placed objects h filled w
                (Fixed (1 + 4294967296 * suc (length stands.0)) (code_address ∷ stands.0)) at_word

            again : (last : Locals) → Changes (test_word s) now last
                → Changes (test_word s) now (set_local (test_word s) code_address last)
            again last changed j ne = word_other (test_word s) code_address last j ne ∙ changed j ne

            at_code : proc_from program.setting.address code_address 0 program.setting.procs ≡ Some low
            at_code = proc_at (first + place) low (program.stand (first + place) p there)

            kind_tested : (one other k : Code)
                → ((last : Locals) → Changes (test_word s) now last
                → Comes program.setting P Q (at f.world h waiting size (k ∷ rests) last one))
                → Going (at f.world h waiting size rests now
                (of_kind s (found s (operand_word s 0) fo) 1 one other k))
            kind_tested one other k go =
                is_of_kind scene f.world h as_before objects filled waiting size (stays_in program size waiting) rests
                s count group depth locals room
                words fits.knows (found s (operand_word s 0) fo) w 1 (suc (length stands.0)) one other k now
                (omega arith)
                (found_is now (λ j ne. refl)) head_there go

            code_loaded : (rests' : List Code) (last : Locals) → Changes (test_word s) now last → (k : Code)
                → Comes program.setting P Q
                (at f.world h waiting size rests' (set_local (test_word s) code_address last) k)
                → Comes program.setting P Q
                (at f.world h waiting size rests' last (Load (test_word s) (found s (operand_word s 0) fo) 8 k))
            code_loaded rests' last changed k c =
                loads program.setting P Q calm w code_address (found_is last changed)
                code_there.may code_there.is (let z = code_there.end in omega arith) (omega (arith, room)) c

            first_loaded : (k : Code)
                → Comes program.setting P Q (at f.world h waiting size rests
                (set_local (test_word s) code_address now) k)
                → Going (at f.world h waiting size rests now (Load (test_word s) (found s (operand_word s 0) fo) 8 k))
            first_loaded k c =
                loads_first program.setting P Q calm w code_address
                (found_is now (λ j ne. refl)) code_there.may code_there.is (let z = code_there.end in omega arith)
                (omega (arith, room)) c

            test_apart : (j : ℕ) → Named s depth j → j ≢ test_word s
            test_apart j (OwnName e) = λ z. omega (arith, z, e)
            test_apart j (LowName p q) = λ z. omega (arith, z, q)
            test_apart j (HighName p q) = λ z. omega (arith, z, p)

            -- what is no proxy is not asked for its kind
            goes_bare : (next' : Then) → Cheap next'
                → RestHere program places objects waiting s count size group depth f.frames next' rests
                words
                → Going (at f.world h waiting size rests now
                (call_bare s (found s (operand_word s 0) fo) (found_all s 1 os) next'))
            goes_bare ToCaller dear r =
                first_loaded (TailCallAt (Word (test_word s)) (found s (operand_word s 0) fo ∷ found_all s 1 os))
                (tail_calls_at program.setting P Q calm code_address (w ∷ ws) low
                (word_here (test_word s) code_address now)
                (still (set_local (test_word s) code_address now) (again now (λ j ne. refl))) at_code takes
                (inside waiting (codes_price program.setting.procs size rests) r
                (omega (arith, dear, enough, due_begun))))
            goes_bare (Into d k) dear r =
                let words' = set_local (test_word s) code_address now in
                let changed = again now (λ j ne. refl) in
                let named : SameNamed s depth words words' = λ j n. changed j (test_apart j n) ∙ same j n in
                first_loaded (CallAt d (Word (test_word s)) (found s (operand_word s 0) fo ∷ found_all s 1 os) k)
                (calls_at program.setting P Q calm code_address (w ∷ ws) low
                (word_here (test_word s) code_address now) (still words' changed) at_code takes
                (inside (waiting_for d size rests words' k ∷ waiting)
                (code_price program.setting.procs size k + codes_price program.setting.procs size rests) (inr (inl (
                  s,
                  count,
                  group,
                  depth,
                  rest_same program.setting program.l program.run program.procs program.answer program.meaning
                      program.laws places objects (CallersHere program places objects waiting) s count size group depth
                      f.frames (Into d k) rests words words' named r,
                ))) (let z = due_most k rests in omega (arith, dear, enough, due_begun, z))))

            goes_on : (next' : Then) → Cheap next'
                → RestHere program places objects waiting s count size group depth f.frames next' rests
                words
                → Going (at f.world h waiting size rests now
                (call program.run s (found s (operand_word s 0) fo) (found_all s 1 os) next'))
            goes_on ToCaller dear r =
                kind_tested (Load (test_word s) (found s (operand_word s 0) fo) 8
                (TailCallAt (Word (test_word s)) (found s (operand_word s 0) fo ∷ found_all s 1 os))) Done
                (TailCall program.run.apply (apply_words (found s (operand_word s 0) fo) (found_all s 1 os)))
                (λ last changed. code_loaded _ last changed
                (TailCallAt (Word (test_word s)) (found s (operand_word s 0) fo ∷ found_all s 1 os))
                (tail_calls_at program.setting P Q calm code_address (w ∷ ws) low
                (word_here (test_word s) code_address last)
                (still (set_local (test_word s) code_address last) (again last changed)) at_code takes
                (inside waiting (codes_price program.setting.procs size
                (TailCall program.run.apply (apply_words (found s (operand_word s 0) fo) (found_all s 1 os)) ∷ rests)) r
                (omega (arith, dear, enough, due_begun)))))
            goes_on (Into d k) dear r =
                kind_tested (Load (test_word s) (found s (operand_word s 0) fo) 8
                (CallAt d (Word (test_word s)) (found s (operand_word s 0) fo ∷ found_all s 1 os) Done))
                (CallOf d program.run.apply (apply_words (found s (operand_word s 0) fo) (found_all s 1 os)) Done) k
                (λ last changed.
                let words' = set_local (test_word s) code_address last in
                let named : SameNamed s depth words words' =
                λ j n. again last changed j (test_apart j n) ∙ same j n in
                code_loaded (k ∷ rests) last changed
                (CallAt d (Word (test_word s)) (found s (operand_word s 0) fo ∷ found_all s 1 os) Done)
                (calls_at program.setting P Q calm code_address (w ∷ ws) low
                (word_here (test_word s) code_address last) (still words' (again last changed)) at_code takes
                (inside (waiting_for d size (k ∷ rests) words' Done ∷ waiting)
                (code_price program.setting.procs size Done + codes_price program.setting.procs size (k ∷ rests))
                (inr (inl (
                  s,
                  count,
                  group,
                  depth,
                  rest_branch program.setting program.l program.run program.procs program.answer program.meaning
                      program.laws places objects
                      (CallersHere program places objects waiting) s count size group depth f.frames d k rests words'
                      (rest_same program.setting program.l program.run program.procs program.answer program.meaning
                      program.laws places
                      objects
                      (CallersHere program places objects waiting) s count size group depth f.frames (Into d k) rests
                      words words' named r),
                ))) (omega (arith, dear, enough, due_begun)))))

            goes_by : (bare : Bool) (next' : Then) → Cheap next'
                → RestHere program places objects waiting s count size group depth f.frames next' rests
                words
                → Going (at f.world h waiting size rests now
                (call_by program.run bare s (found s (operand_word s 0) fo) (found_all s 1 os) next'))
            goes_by true next' dear r = goes_bare next' dear r
            goes_by false next' dear r = goes_on next' dear r

          pub call_goes : Going (at f.world h waiting size rests words (emit program.run s (Call fo os) next))
          call_goes =
              let m = fetch_all_reads (scene_for program f f' h.words (room_over program size waiting)
              (first_to program.setting P Q) places) f.world h as_before objects filled waiting
              size (stays_in program size waiting) rests s count group depth locals (fo ∷ os) 0 bound_all
              (omega (arith, few)) room words fits.knows
              (call_by program.run (is_sibling fo) s (found s (operand_word s 0) fo) (found_all s 1 os) next)
              (λ all now carried are changed. fetched all now carried are changed) in
              moves_later program.setting P Q
              (at f.world h waiting size rests words (emit program.run s (Call fo os) next)) m
            where
              bound_all : (operand_bound s.captured count depth fo && operands_bound s.captured count depth os) ≡ true
              bound_all = let x = parts.0 in let y = parts.1 in rw (x, y) refl

              fetched : (all : List ℕ) (now : Locals)
                  → AreCarried program.l program.setting.address program.procs program.meaning places objects
                  (in_row (values locals group (fo ∷ os))) all
                  → words_of now (found_all s 0 (fo ∷ os)) ≡ Some all
                  → ChangesFrom (operand_word s 0) (length (fo ∷ os)) words now
                  → Comes program.setting P (first_to program.setting P Q) (at f.world h waiting size rests now
                  (call_by program.run (is_sibling fo) s (found s (operand_word s 0) fo) (found_all s 1 os) next))
              fetched [] now carried are changed = absurd carried
              fetched (w ∷ ws) now carried are changed =
                  let u = at f.world h waiting size rests now
                  (call_by program.run (is_sibling fo) s (found s (operand_word s 0) fo) (found_all s 1 os) next) in
                  let m : Going u =
                  goes_by w ws now
                  (subst (λ v. CarriedHere program places objects v w) function carried.0) carried.1
                  (same_besides s depth (operand_word s 0) (length (fo ∷ os)) words now (omega arith)
                  (omega (arith, few)) changed) are (is_sibling fo) next
                  (call_price_all program.setting.procs size s six program.run fo os few next) rest in
                  here program.setting P (first_to program.setting P Q) u (
                    m,
                    le_refl (left_of program.setting u),
                    let x = m.comes.within in let y = m.comes.least in omega (arith, x, y),
                  )

-- Parts of tuples in wrappers, and of values in Dyn, which a procedure of the scheme gives.
use Rattle.std.proofs.Common.{◌≡◌, ◌⊎◌, inl, inr, ℕ, ℤ, pos, negsuc, ◌+◌, ◌*◌, ◌^◌, ◌%◌, ◌<◌, ◌≤◌, List, [], ◌∷◌}
use Rattle.std.proofs.Common.{Option, Some}
use Rattle.std.proofs.Common.{None, Bool, true, false, refl, sym, ap, ◌∙◌, subst, arith, mod-eq_of_lt}
use Rattle.std.specs.Prelude.{◌&&◌, nat_lt, if◌then◌else◌}
use Rattle.std.specs.Int.{w64, cast_unsigned, int_wrap}
use Rattle.low_ir.specs.declared.code.LowSource.{LowSource}
use Rattle.low_ir.specs.declared.code.LowSource.TheVariants.{Number}
use Rattle.low_ir.specs.Procedures.{Code, Done, Load, Call}
use Rattle.low_ir.specs.Steps.{Locals}
use Rattle.low_ir.specs.Run.{Waiting as LowWaiting, LowState, word_of, words_of, and_more, entered}
use Rattle.cast_modes.specs.RunValues.{RunWrap, in_row}
use Rattle.cast_modes.specs.ValueSteps.{run_proj_dyn}
use Rattle.coercion_norm.specs.Held.{TypesStand}
use Rattle.coercion_norm.specs.Objects.{Object}
use Rattle.flat_ir.specs.declared.code.Operand.{Operand}
use Rattle.flat_ir.specs.declared.code.Operation.{Operation}
use Rattle.flat_ir.specs.Bodies.{Give}
use Rattle.flat_ir.specs.Closed.{operand_bound}
use Rattle.flat_ir.specs.Machine.{FlatValue, FlatAfter, FlatState, Group, value, values, flat_proj, flat_arity}
use Rattle.flat_ir.specs.Machine.{flat_entered}
use Rattle.flat_ir.specs.Machine.{Locals as FlatLocals}
use Rattle.lowered_code.specs.declared.numbering.Shape.{Shape}
use Rattle.rt_cast.specs.States.{Heap}
use Rattle.lowered_code.specs.Numbering.{operand_word, test_word}
use Rattle.lowered_code.specs.Emit.{Then, perform, part, found, fetch_all, found_all, of_kind}
use Rattle.lower.specs.CarriedValues.{AreCarried}
use Rattle.lower.specs.Relation.{Fits, Falls}
use Rattle.lower.specs.SchemeLaws.{Goes, Returns, Answers, part_leaves}
use Rattle.lower.specs.Meanings.{IsWrapper}
use Rattle.lower.proofs.words.Scene.{Fills, CellsStand}
use Rattle.lower.proofs.heap.Objects.{none_some, same_some}
use Rattle.lower.proofs.words.Steps.{at, waiting_for}
use Rattle.lower.proofs.words.EmitPrices.{perform_begins, proj_price, dyn_price, dyn_begins}
use Rattle.low_ir.specs.Prices.{code_price, codes_price}
use Rattle.flat_ir.specs.declared.code.Operation.TheVariants.{Proj}
use Rattle.flat_ir.specs.FlatTally.{act_cost}
use Rattle.lower.specs.Meanings.{is_last}
use Rattle.std.proofs.Common.{length}
use Rattle.lower.proofs.words.Operands.{value_carried, Changes, ChangesFrom, both_words, found_all_same}
use Rattle.lower.proofs.words.Operations.{Touches, not_computed}
use Rattle.lower.proofs.simulation.Way.{Program, mode_of, prices_of, next_state, cost_of, waiting_dues}
use Rattle.lower.proofs.simulation.Way.{due_same}
use Rattle.lower.proofs.simulation.Way.{room_over, stays_in}
use Rattle.lower.proofs.simulation.Gives.{CarriedHere, RestHere, word_for, code_for}
use Rattle.lower.proofs.simulation.Operations.{giving}
use Rattle.lower.proofs.simulation.Served.{silent_after}
use Rattle.lower.proofs.simulation.Services.{Calling, Served, called, is_served, lower_floor, calls_now}
use Rattle.lower.proofs.simulation.Casts.{serving_scene, as_it_was}
use Rattle.lower.proofs.simulation.Serving.{after_fetching, not_of_kind, wrapped_there}

pub one_word : (x : Option ℕ) (w : ℕ) → and_more x (Some []) ≡ Some (w ∷ []) → x ≡ Some w
one_word None w e = none_some e
one_word (Some y) w e = ap Some (head_same y w (same_some (y ∷ []) (w ∷ []) e))
  where
    head_same : (x y : ℕ) → (x ∷ []) ≡ (y ∷ []) → x ≡ y
    head_same x y e = cc

module _ (program : Program) (typed : TypesStand program.l)
    (f : FlatState program.meaning.Cast) (places : List ℕ) (objects : List Object) (h : Heap)
    (filled : Fills program objects h) (cells : CellsStand program places objects h f.store)
    (waiting : List LowWaiting) (size : ℕ) (rests : List Code) (words : Locals) (s : Shape) (count depth : ℕ)
    (group : Group program.meaning.Cast) (locals : FlatLocals program.meaning.Cast) (operation : Operation)
    (o : Operand)
    (next : Then)
    (fits : Fits program.setting program.l program.run program.procs program.answer program.meaning places objects s
    count size group depth locals words (Give operation))
    (rest : RestHere program places objects waiting s count size group depth f.frames next rests words)
    (bound : operand_bound s.captured count depth o ≡ true) (six : s.params ≤ 6) where
  open (giving program typed f places objects h filled cells waiting size rests words s count depth group locals
      operation next fits rest) use {wide, d, less, k}

  abbrev a : LowSource
  a = found s (operand_word s 0) o

  abbrev v : FlatValue program.meaning.Cast
  v = value locals group o

  abbrev floor : ℕ
  floor = code_price program.setting.procs size k + codes_price program.setting.procs size rests

  abbrev have : ℕ
  have = 0 + (10 * length rests + waiting_dues waiting)

  abbrev Calls : FlatAfter program.meaning.Cast → LowState → Type 0
  Calls x t = Calling program typed f floor have 194 x 0 t

  abbrev t0 : LowState
  t0 = at f.world h waiting size rests words (perform program.run s d operation k)

  carried_now : (w : ℕ) × CarriedHere program places objects (value locals group o) w
  carried_now =
      value_carried (serving_scene program typed f places (flat_proj program.procs (mode_of program) f.store f.world
      (value locals group o) (pos 0) f.frames) 0 0 0 0 h.words (room_over program size waiting)) f.world h
      (as_it_was program f h.words) objects filled waiting size (stays_in program size waiting) rests s count group
      depth locals o bound words fits.knows

  touched_all : (new : Locals) → ChangesFrom (operand_word s 0) 1 words new
      → Touches s (word_for program places objects s next) words new
  touched_all new changed j ne side = changed j (by_side side)
    where
      by_side : (j ≤ s.params) ⊎ (s.params + 10 ≤ j) → (j < operand_word s 0) ⊎ (operand_word s 0 + 1 ≤ j)
      by_side (inl p) = inl (omega (arith, p))
      by_side (inr p) = inr (omega (arith, p))

  touched_more : (new last : Locals) → ChangesFrom (operand_word s 0) 1 words new → Changes (test_word s) new last
      → Touches s (word_for program places objects s next) words last
  touched_more new last changed more j ne side =
      more j (not_computed s (test_word s) j (omega arith) (omega arith) side)
      ∙ touched_all new changed j ne side

  all_bound : (operand_bound s.captured count depth o && true) ≡ true
  all_bound = rw bound refl

  -- the procedure's law, from any state with this storage
  abbrev Lawful : FlatAfter program.meaning.Cast → ℕ → ℕ → ℕ → Type 0
  Lawful x part_word which label =
      (waits : List LowWaiting) (n : ℕ) (rr : List Code) (now : Locals) (code : Code) (w : ℕ)
      → CarriedHere program places objects (value locals group o) w
      → Answers program.meaning program.setting program.l program.procs program.casts program.measured
      (at f.world h waits n rr now code) part_leaves places objects f.frames x (cost_of program f) program.number 0
      (entered (at f.world h waits n rr now code) program.serves.parts.proc (w ∷ part_word ∷ which ∷ label ∷ []))

  silent : (x : FlatAfter program.meaning.Cast) (part_word which label : ℕ) → Lawful x part_word which label
      → (next_state program f x).world.output ≡ f.world.output
  silent x part_word which label law =
      let z = law waiting size rests words (perform program.run s d operation k) carried_now.0 carried_now.1 in
      silent_after program t0 (Goes program.meaning program.setting program.l program.procs program.casts
      program.measured t0
      (Returns program.meaning program.setting program.l program.procs program.casts program.measured t0 part_leaves
      places objects f.frames)
      z.0) f refl x (cost_of program f) 0 program.number 0
      (entered t0 program.serves.parts.proc (carried_now.0 ∷ part_word ∷ which ∷ label ∷ [])) z.1

  -- the call of the procedure, whatever stands behind it
  calls_part : (x : FlatAfter program.meaning.Cast) (part_word which label : ℕ) → Lawful x part_word which label
      → (args : List LowSource) (behind : Code) (rr : List Code) (falls : ℕ) → falls ≤ 1
      → Falls falls behind rr (code_for program places objects s next) rests
      → (new : Locals) → Touches s (word_for program places objects s next) words new → (w : ℕ)
      → CarriedHere program places objects (value locals group o) w
      → words_of new args ≡ Some (w ∷ part_word ∷ which ∷ label ∷ [])
      → Calling program typed f (code_price program.setting.procs size behind
      + codes_price program.setting.procs size rr) have 194 x 0
      (at f.world h waiting size rr new (Call d program.run.project args behind))
  calls_part x part_word which label law args behind rr falls one fall new touches w carried are =
      let z = law (waiting_for d size rr new behind ∷ waiting) size rr new behind w carried in
      called program typed f places objects h filled cells waiting size rests words s count depth group next rest
      less falls behind rr fall new touches part_leaves have 194 (omega (arith, one)) (omega (arith, one)) x 0
      program.run.project args (w ∷ part_word ∷ which ∷ label ∷ [])
      program.serves.parts.proc 4 are program.serves.parts.stands refl z.0 z.1

  -- the turn is served, where its code costs no more
  part_is_served : (x : FlatAfter program.meaning.Cast) (code : Code) → is_last code ≡ false
      → code_price program.setting.procs size code ≤ 194 + code_price program.setting.procs size k
      → (next_state program f x).world.output ≡ f.world.output
      → Calling program typed f floor have 194 x 0 (at f.world h waiting size rests words code)
      → Served program typed f x 0 0 (at f.world h waiting size rests words code)
  part_is_served x code begins dear silent c =
      is_served program typed f floor 0 194 x 0 (at f.world h waiting size rests words code) silent (omega arith)
      (omega (arith, dear))
      (subst (λ n. Calling program typed f floor (0 + (n + waiting_dues waiting)) 194 x 0
      (at f.world h waiting size rests words code)) (due_same code rests begins) c)

  arguments : (new : Locals) (w part_word which label : ℕ) (n m l : ℕ) → word_of new a ≡ Some w
      → n % 2 ^ 64 ≡ part_word → m % 2 ^ 64 ≡ which → l % 2 ^ 64 ≡ label
      → words_of new (a ∷ Number n ∷ Number m ∷ Number l ∷ []) ≡ Some (w ∷ part_word ∷ which ∷ label ∷ [])
  arguments new w part_word which label n m l is e f g =
      both_words (word_of new a) (words_of new (Number n ∷ Number m ∷ Number l ∷ [])) w
      (part_word ∷ which ∷ label ∷ []) is
      (both_words (Some (n % 2 ^ 64)) (words_of new (Number m ∷ Number l ∷ [])) part_word (which ∷ label ∷ [])
      (ap Some e) (both_words (Some (m % 2 ^ 64)) (words_of new (Number l ∷ [])) which (label ∷ []) (ap Some f)
      (both_words (Some (l % 2 ^ 64)) (Some []) label [] (ap Some g) refl)))

  -- ---- a part of a value in Dyn

  module _ (i : ℤ) (label : ℕ) (small : label < 2 ^ 64) (in_range : int_wrap w64 i ≡ i)
      (cost_is : (prices_of program).part ≡ cost_of program f) where
    abbrev pub dyn_after : FlatAfter program.meaning.Cast
    dyn_after =
        run_proj_dyn (mode_of program) (flat_arity program.procs) (flat_entered program.procs) f.store f.world
        (value locals group o) i label f.frames

    dyn_law : Lawful dyn_after (cast_unsigned w64 i % 2 ^ 64) 0 label
    dyn_law waits n rr now code w carried =
        subst (λ cost. Answers program.meaning program.setting program.l program.procs program.casts
        program.measured (at f.world h waits n rr now code) part_leaves places objects f.frames dyn_after cost
        program.number 0 (entered (at f.world h waits n rr now code) program.serves.parts.proc
        (w ∷ cast_unsigned w64 i % 2 ^ 64 ∷ 0 ∷ label ∷ []))) cost_is
        (program.serves.parts.gives_dyn (at f.world h waits n rr now code) program.number places objects f.store
        (record { filled = filled; cells = cells }) f.frames (value locals group o) w carried i label small in_range)

    pub dyn_part_served : Served program typed f dyn_after 0 0
        (at f.world h waiting size rests words (fetch_all s 0 (o ∷ [])
        (Call d program.run.project
        (a ∷ Number (cast_unsigned w64 i) ∷ Number 0 ∷ Number label ∷ []) k)))
    dyn_part_served =
        part_is_served dyn_after (fetch_all s 0 (o ∷ [])
        (Call d program.run.project (a ∷ Number (cast_unsigned w64 i) ∷ Number 0 ∷ Number label ∷ []) k))
        (dyn_begins program.run s d o i label k) (dyn_price program.setting.procs size s six program.run d o i label k)
        (silent dyn_after (cast_unsigned w64 i % 2 ^ 64) 0 label dyn_law)
        (after_fetching program typed f places objects h filled waiting size rests s count depth group locals wide
        dyn_after 0 floor have 194 (o ∷ []) words
        (Call d program.run.project (a ∷ Number (cast_unsigned w64 i) ∷ Number 0 ∷ Number label ∷ []) k) all_bound
        (omega arith) fits.knows
        (λ ws new carried are changed. by_words ws new carried are changed))
      where
        by_words : (ws : List ℕ) (new : Locals)
            → AreCarried program.l program.setting.address program.procs program.meaning places objects
            (in_row (values locals group (o ∷ []))) ws → words_of new (found_all s 0 (o ∷ [])) ≡ Some ws
            → ChangesFrom (operand_word s 0) 1 words new
            → Calling program typed f floor have 194 dyn_after 0
            (at f.world h waiting size rests new (Call d program.run.project
            (a ∷ Number (cast_unsigned w64 i) ∷ Number 0 ∷ Number label ∷ []) k))
        by_words [] new carried are changed = absurd carried
        by_words (w ∷ x ∷ ws) new carried are changed = absurd carried.1
        by_words (w ∷ []) new carried are changed =
            calls_part dyn_after (cast_unsigned w64 i % 2 ^ 64) 0 label dyn_law
            (a ∷ Number (cast_unsigned w64 i) ∷ Number 0 ∷ Number label ∷ []) k rests 0 (omega arith) (refl, refl) new
            (touched_all new changed) w carried.0
            (arguments new w (cast_unsigned w64 i % 2 ^ 64) 0 label (cast_unsigned w64 i) 0 label
            (one_word (word_of new a) w are) refl refl (mod-eq_of_lt small))

  -- ---- a part of a tuple in wrappers

  module _ (i : ℤ) (u : FlatValue program.meaning.Cast) (cast : program.meaning.Cast)
      (wrapped : value locals group o ≡ RunWrap u cast)
      (cost_is : act_cost program.procs (mode_of program) (prices_of program) ≡ cost_of program f) where
    abbrev pub part_after : FlatAfter program.meaning.Cast
    part_after = flat_proj program.procs (mode_of program) f.store f.world (value locals group o) i f.frames

    part_law : Lawful part_after (cast_unsigned w64 i % 2 ^ 64) 1 0
    part_law waits n rr now code w carried =
        subst (λ cost. Answers program.meaning program.setting program.l program.procs program.casts
        program.measured (at f.world h waits n rr now code) part_leaves places objects f.frames part_after cost
        program.number 0 (entered (at f.world h waits n rr now code) program.serves.parts.proc
        (w ∷ cast_unsigned w64 i % 2 ^ 64 ∷ 1 ∷ 0 ∷ []))) cost_is
        (subst (λ v. Answers program.meaning program.setting program.l program.procs program.casts
        program.measured (at f.world h waits n rr now code) part_leaves places objects f.frames
        (flat_proj program.procs (mode_of program) f.store f.world v i f.frames)
        (act_cost program.procs (mode_of program) (prices_of program)) program.number 0
        (entered (at f.world h waits n rr now code) program.serves.parts.proc
        (w ∷ cast_unsigned w64 i % 2 ^ 64 ∷ 1 ∷ 0 ∷ []))) (sym wrapped)
        (program.serves.parts.gives (at f.world h waits n rr now code) program.number places objects f.store
        (record { filled = filled; cells = cells }) f.frames u cast w
        (subst (λ v. CarriedHere program places objects v w) wrapped carried) i 0))

    is_wrapper : (w : ℕ) → CarriedHere program places objects (value locals group o) w → IsWrapper program.l objects w
    is_wrapper w c =
        wrapped_there program places objects u cast [] w
        (subst (λ z. CarriedHere program places objects z w) wrapped c)

    pub part_served : Served program typed f part_after 0 0
        (at f.world h waiting size rests words (fetch_all s 0 (o ∷ []) (part program.run s d a i k)))
    part_served =
        part_is_served part_after (fetch_all s 0 (o ∷ []) (part program.run s d a i k))
        (perform_begins program.run s d (Proj o i) k) (proj_price program.setting.procs size s six program.run d o i k)
        (silent part_after (cast_unsigned w64 i % 2 ^ 64) 1 0 part_law)
        (after_fetching program typed f places objects h filled waiting size rests s count depth group locals wide
        part_after 0 floor have 194 (o ∷ []) words (part program.run s d a i k) all_bound (omega arith) fits.knows
        (λ ws new carried are changed. by_words ws new carried are changed))
      where
        At : Locals → Code → LowState
        At new code = at f.world h waiting size rests new code

        M : LowState → Type 0
        M = Calling program typed f floor have 194 part_after 0

        direct : (new : Locals) (w : ℕ) → CarriedHere program places objects (value locals group o) w
            → word_of new a ≡ Some w → ChangesFrom (operand_word s 0) 1 words new
            → M (At new (Call d program.run.project
            (a ∷ Number (cast_unsigned w64 i) ∷ Number 1 ∷ Number 0 ∷ []) k))
        direct new w carried is changed =
            calls_part part_after (cast_unsigned w64 i % 2 ^ 64) 1 0 part_law
            (a ∷ Number (cast_unsigned w64 i) ∷ Number 1 ∷ Number 0 ∷ []) k rests 0 (omega arith) (refl, refl) new
            (touched_all new changed) w carried
            (arguments new w (cast_unsigned w64 i % 2 ^ 64) 1 0 (cast_unsigned w64 i) 1 0 is refl refl refl)

        tested : (n : ℕ) → i ≡ pos n → (new : Locals) (w : ℕ)
            → CarriedHere program places objects (value locals group o) w
            → words_of new (found_all s 0 (o ∷ [])) ≡ Some (w ∷ []) → ChangesFrom (operand_word s 0) 1 words new
            → M (At new (of_kind s a 4 (Load d a (8 + 8 * n) Done)
            (Call d program.run.project (a ∷ Number n ∷ Number 1 ∷ Number 0 ∷ []) Done) k))
        tested n e new w carried are changed =
            not_of_kind program typed f places objects h filled waiting size rests s count depth group locals wide
            part_after 0 floor have 194 a w 4 (Load d a (8 + 8 * n) Done)
            (Call d program.run.project (a ∷ Number n ∷ Number 1 ∷ Number 0 ∷ []) Done) k new (omega arith)
            (λ z. omega (arith, z)) (λ z. omega (arith, z)) (one_word (word_of new a) w are) (is_wrapper w carried)
            (λ last more.
            let still : word_of last a ≡ Some w =
            one_word (word_of last a) w
            (found_all_same (serving_scene program typed f places part_after 0 0 0 0 h.words
            (room_over program size waiting)) f.world h
            (as_it_was program f h.words) objects filled waiting
            size (stays_in program size waiting) rests s count group depth locals (o ∷ []) 0 all_bound (omega arith) new
            last more ∙ are) in
            let part_word : n % 2 ^ 64 ≡ cast_unsigned w64 i % 2 ^ 64 = ap (λ z. cast_unsigned w64 z % 2 ^ 64) (sym e)
            in
            let t = at f.world h waiting size (k ∷ rests) last
            (Call d program.run.project (a ∷ Number n ∷ Number 1 ∷ Number 0 ∷ []) Done) in
            calls_now program typed f floor have 194 part_after 0 t
            (lower_floor program typed f (10 + floor) floor have 194 part_after 0 t (omega arith)
            (calls_part part_after (cast_unsigned w64 i % 2 ^ 64) 1 0 part_law
            (a ∷ Number n ∷ Number 1 ∷ Number 0 ∷ []) Done (k ∷ rests) 1 (omega arith) (refl, (refl, refl)) last
            (touched_more new last changed more) w carried
            (arguments last w (cast_unsigned w64 i % 2 ^ 64) 1 0 n 1 0 still part_word refl refl))))

        by_number : (j : ℤ) → i ≡ j → (new : Locals) (w : ℕ)
            → CarriedHere program places objects (value locals group o) w
            → words_of new (found_all s 0 (o ∷ [])) ≡ Some (w ∷ []) → ChangesFrom (operand_word s 0) 1 words new
            → M (At new (part program.run s d a j k))
        by_number (pos n) e new w carried are changed = by_test (nat_lt n 8)
          where
            by_test : (b : Bool) → M (At new (
                if b then of_kind s a 4 (Load d a (8 + 8 * n) Done)
                (Call d program.run.project (a ∷ Number n ∷ Number 1 ∷ Number 0 ∷ []) Done) k
                else Call d program.run.project (a ∷ Number (cast_unsigned w64 (pos n)) ∷ Number 1 ∷ Number 0 ∷ []) k))
            by_test true = tested n e new w carried are changed
            by_test false =
                subst (λ z. M (At new (Call d program.run.project
                (a ∷ Number (cast_unsigned w64 z) ∷ Number 1 ∷ Number 0 ∷ []) k))) e
                (direct new w carried (one_word (word_of new a) w are) changed)
        by_number (negsuc n) e new w carried are changed =
            subst (λ z. M (At new (Call d program.run.project
            (a ∷ Number (cast_unsigned w64 z) ∷ Number 1 ∷ Number 0 ∷ []) k))) e
            (direct new w carried (one_word (word_of new a) w are) changed)

        by_words : (ws : List ℕ) (new : Locals)
            → AreCarried program.l program.setting.address program.procs program.meaning places objects
            (in_row (values locals group (o ∷ []))) ws → words_of new (found_all s 0 (o ∷ [])) ≡ Some ws
            → ChangesFrom (operand_word s 0) 1 words new → M (At new (part program.run s d a i k))
        by_words [] new carried are changed = absurd carried
        by_words (w ∷ x ∷ ws) new carried are changed = absurd carried.1
        by_words (w ∷ []) new carried are changed = by_number i refl new w carried.0 are changed

-- The turns of casts, which a procedure of the scheme makes, or code in place.
use Rattle.std.proofs.Common.{◌≡◌, inl, inr, ℕ, ◌+◌, ◌^◌, ◌%◌, ◌<◌, ◌≤◌, Bool, true, false, List, [], ◌∷◌, Option, Some}
use Rattle.std.proofs.Common.{None, refl, ap, ◌∙◌, arith, mod-eq_of_lt}
use Rattle.std.specs.Prelude.{◌==◌, if◌then◌else◌, slice_get}
use Rattle.machine_words.specs.declared.conditions.Cond.TheVariants.{Eq}
use Rattle.object_layout.specs.DynWords.{is_narrow, tagged}
use Rattle.low_ir.specs.Operations.{compute}
use Rattle.low_ir.specs.declared.code.WordOp.{WordOp}
use Rattle.low_ir.specs.declared.code.WordOp.TheVariants.{Add as Plus, And, Sll, Sra}
use Rattle.low_ir.specs.declared.code.LowSource.{LowSource}
use Rattle.low_ir.specs.declared.code.LowSource.TheVariants.{Word, Number}
use Rattle.low_ir.specs.Procedures.{Code, Compute, Done, If}
use Rattle.low_ir.specs.Steps.{Locals, set_local}
use Rattle.low_ir.specs.Run.{Waiting as LowWaiting, LowState, word_of, words_of, entered}
use Rattle.cast_modes.specs.ValueSteps.{on_some, decision_wraps}
use Rattle.coercion_norm.specs.Held.{TypesStand}
use Rattle.coercion_norm.specs.Objects.{Object}
use Rattle.flat_ir.specs.declared.code.Operand.{Operand}
use Rattle.flat_ir.specs.declared.code.Operation.TheVariants.{Cast}
use Rattle.flat_ir.specs.Bodies.{Give}
use Rattle.flat_ir.specs.Counts.{decision_at}
use Rattle.flat_ir.specs.Machine.{FlatValue, FlatAfter, FlatState, Group, value, flat_cast}
use Rattle.flat_ir.specs.Machine.{Locals as FlatLocals}
use Rattle.lowered_code.specs.declared.numbering.Shape.{Shape}
use Rattle.lowered_code.specs.declared.served.Tag.{Tag}
use Rattle.lowered_code.specs.declared.served.CastWay.{CastWay}
use Rattle.lowered_code.specs.declared.served.CastWay.TheVariants.{Called, IntoDyn, OutOfDyn}
use Rattle.rt_cast.specs.States.{Heap}
use Rattle.lowered_code.specs.Numbering.{operand_word, test_word}
use Rattle.lowered_code.specs.CastWays.{tag_number, way_at, in_place}
use Rattle.lowered_code.specs.Emit.{Then, perform, found, cast_word, call_cast, make_cast}
use Rattle.lower.specs.Relation.{Fits, Falls}
use Rattle.lower.proofs.heap.CarriedLater.{carried_small}
use Rattle.lower.proofs.simulation.RelationKept.{word_here, word_other}
use Rattle.lower.proofs.words.Arithmetic.{tag_small, tag_few, tag_added, tag_test, narrow_test}
use Rattle.lower.proofs.words.Scene.{Scene, Fills, CellsStand}
use Rattle.lower.proofs.words.Credits.{by_now, by_more}
use Rattle.lower.proofs.words.Steps.{at, Comes, Calm, Goal, left_of, computes, computes_first}
use Rattle.low_ir.specs.Prices.{code_price, codes_price, step_price}
use Rattle.std.proofs.Common.{◌*◌, length, sym, subst}
use Rattle.flat_ir.specs.FlatTally.{cast_cost}
use Rattle.lower.proofs.words.EmitPrices.{perform_begins, cast_price, slot_most, slot_near, source_most}
use Rattle.lower.proofs.words.EmitPrices.{test_near}
use Rattle.lower.proofs.words.EmitPrices.{tag_small as tag_small_price}
use Rattle.lower.proofs.words.Steps.{if_true, if_false}
use Rattle.lower.proofs.words.Operands.{fetch_reads, value_carried, Changes, ChangesFrom, both_words}
use Rattle.lower.proofs.words.Operands.{found_same}
use Rattle.lower.proofs.words.Operands.{same_besides}
use Rattle.lower.proofs.words.Operations.{Touches, beside, not_computed}
use Rattle.lower.proofs.simulation.Way.{scene_with}
use Rattle.lower.proofs.simulation.Way.{Program, mode_of, prices_of, next_state, asks_of, budget_of, cost_of}
use Rattle.lower.proofs.simulation.Way.{dues}
use Rattle.lower.proofs.simulation.Way.{due_is, room_over, stays_in}
use Rattle.lower.proofs.simulation.Way.{waiting_dues}
use Rattle.lower.proofs.simulation.Gives.{RestHere, word_for, code_for}
use Rattle.lower.proofs.simulation.Operations.{room, giving}
use Rattle.lower.proofs.simulation.Served.{silent_after}
use Rattle.lower.specs.SchemeLaws.{After, Goes, Returns, GivesInPlace, cast_leaves}
use Rattle.lower.proofs.simulation.Services.{OnTurn, Landing, Calling, Served, calling_goal, starting_goal}
use Rattle.lower.proofs.simulation.Services.{some_calls}
use Rattle.lower.proofs.simulation.Services.{later_calls}
use Rattle.lower.proofs.simulation.Services.{is_served, lower_floor, calls_now, starts_now, called, caller}
use Rattle.lower.proofs.simulation.Tags.{put_in_place}
use Rattle.lower.proofs.words.Scene.{Carries}

-- what lemmas on code are told, where a procedure serves for a turn that came to x and began after so many words, and
-- frames have this room
abbrev pub serving_scene : (program : Program) → TypesStand program.l → (f : FlatState program.meaning.Cast) → List ℕ
    → FlatAfter program.meaning.Cast → ℕ → ℕ → ℕ → ℕ → ℕ → ℕ → Scene
serving_scene program typed f places x w floor have before base room =
    scene_with program places (OnTurn program typed f w base room)
    (starting_goal program typed f floor have before x w base room)
    (λ world words. (world.output ≡ f.world.output) × (words ≤ base + asks_of program f)) room
    (λ world h objects filled ok count waiting fits rests locals code. record {
      same = ok.0;
      filling = inl (objects, filled);
      asked = ok.1;
      room = fits;
    })

-- nothing has happened yet
pub as_it_was : (program : Program) (f : FlatState program.meaning.Cast) (base : ℕ)
    → (f.world.output ≡ f.world.output) × (base ≤ base + asks_of program f)
as_it_was program f base = (refl, omega arith)

module _ (program : Program) (typed : TypesStand program.l)
    (f : FlatState program.meaning.Cast) (places : List ℕ) (objects : List Object) (h : Heap)
    (filled : Fills program objects h) (cells : CellsStand program places objects h f.store)
    (waiting : List LowWaiting) (size : ℕ) (rests : List Code) (words : Locals) (s : Shape) (count depth : ℕ)
    (group : Group program.meaning.Cast) (locals : FlatLocals program.meaning.Cast) (o : Operand) (number : ℕ)
    (next : Then)
    (fits : Fits program.setting program.l program.run program.procs program.answer program.meaning places objects s
    count size group depth locals words (Give (Cast o number)))
    (rest : RestHere program places objects waiting s count size group depth f.frames next rests words)
    (six : s.params ≤ 6) where
  open (giving program typed f places objects h filled cells waiting size rests words s count depth group locals
      (Cast o number) next fits rest) use {wide, d, less, k}

  abbrev a : LowSource
  a = found s (operand_word s 0) o

  abbrev v : FlatValue program.meaning.Cast
  v = value locals group o

  abbrev way : CastWay
  way = way_at (slice_get program.run.ways number)

  abbrev code : Code
  code = perform program.run s (word_for program places objects s next) (Cast o number)
      (code_for program places objects s next)

  abbrev pub casts_to : Option program.meaning.Cast → FlatAfter program.meaning.Cast
  casts_to row =
      on_some row (λ c. flat_cast program.procs (mode_of program) f.store f.world (value locals group o) c f.frames)

  -- where there is such a row, its cast is made
  module _ (c : program.meaning.Cast) (e : (mode_of program).row number ≡ Some c)
      (cost_is : cost_of program f ≡ cast_cost program.procs (mode_of program) (prices_of program) (Some c)
      (value locals group o)) where
    abbrev x : FlatAfter program.meaning.Cast
    x = casts_to (Some c)

    abbrev w : ℕ
    w = decision_wraps (decision_at program.procs (mode_of program) (Some c) (value locals group o))

    abbrev start : LowState
    start = at f.world h waiting size rests words code

    abbrev floor : ℕ
    floor = code_price program.setting.procs size k + codes_price program.setting.procs size rests

    abbrev have : ℕ
    have = 0 + dues start

    abbrev scene : Scene
    scene = serving_scene program typed f places (casts_to (Some c)) w floor have 174 h.words
        (room_over program size waiting)

    abbrev P : LowState → Type 0
    P = OnTurn program typed f w h.words (room_over program size waiting)

    abbrev Q : Goal
    Q = calling_goal program typed f floor have 174 (casts_to (Some c)) w h.words (room_over program size waiting)

    calm : Calm program.setting P Q size waiting f.world h
    calm rr now code = record {
      same = refl;
      filling = inl (objects, filled);
      asked = omega arith;
      room = stays_in program size waiting;
    }

    abbrev Calls : LowState → Type 0
    Calls t = Calling program typed f floor have 174 (casts_to (Some c)) w t

    enough : (n : ℕ) → n ≤ 1 → 56 + 10 * n + 10 * length rests + waiting_dues waiting + 174 ≤ cast_leaves + have
    enough n le =
        let z = due_is code rests (perform_begins program.run s d (Cast o number) k) in omega (arith, z, le)

    enough_in_place : 67 + 10 * length rests + waiting_dues waiting + 174 ≤ cast_leaves + have
    enough_in_place = let z = due_is code rests (perform_begins program.run s d (Cast o number) k) in omega (arith, z)

    -- by the procedure
    module _ (falls : ℕ) (one_at_most : falls ≤ 1) (behind : Code) (rr : List Code)
        (fall : Falls falls behind rr k rests)
        (y : ℕ) (new : Locals)
        (carried : Carries scene objects v y) (is : word_of new a ≡ Some y)
        (touched : Touches s (word_for program places objects s next) words new) where
      calls : Calling program typed f (code_price program.setting.procs size behind
          + codes_price program.setting.procs size rr) have 174 (casts_to (Some c)) w
          (at f.world h waiting size rr new (call_cast program.run d a number behind))
      calls =
          let wc = cast_word (slice_get program.run.cast_at number) in
          let second : Some (wc % 2 ^ 64) ≡ Some wc = ap Some (mod-eq_of_lt (program.serves.words number c e)) in
          let handed = both_words (word_of new a) (words_of new (Number wc ∷ [])) y (wc ∷ []) is
          (both_words (Some (wc % 2 ^ 64)) (Some []) wc [] second refl) in
          let here_now = caller program typed f places objects h filled cells waiting size rests words s count depth
          group next rest less falls behind rr fall new touched cast_leaves have 174 (omega (arith, one_at_most))
          (enough falls one_at_most) in
          let z = program.serves.casting.makes here_now program.number places objects f.store
          (record { filled = filled; cells = cells }) f.frames number c e v y carried in
          called program typed f places objects h filled cells waiting size rests words s count depth group next rest
          less falls behind rr fall new touched cast_leaves have 174 (omega (arith, one_at_most))
          (enough falls one_at_most) (casts_to (Some c)) w program.run.cast (a ∷ Number wc ∷ [])
          (y ∷ wc ∷ []) program.serves.casting.proc 2 handed program.serves.casting.stands refl z.0
          (subst (λ cost. After program.meaning program.setting program.l program.procs program.casts program.measured
          here_now (Goes program.meaning program.setting program.l program.procs program.casts program.measured
          here_now (Returns program.meaning program.setting program.l program.procs program.casts program.measured
          here_now cast_leaves places objects f.frames) z.0) (casts_to (Some c)) cost 0 program.number w
          (entered here_now program.serves.casting.proc (y ∷ wc ∷ []))) (sym cost_is) z.1)

    -- the word of the operand is there
    module _ (y : ℕ) (new : Locals) (carried : Carries scene objects v y) (is : word_of new a ≡ Some y)
        (changed : Changes (operand_word s 0) words new) where
      touched : Touches s (word_for program places objects s next) words new
      touched j ne side = changed j (not_computed s (operand_word s 0) j (omega arith) (omega arith) side)

      small : y < 2 ^ 64
      small = carried_small program.l program.setting.address program.procs program.meaning program.laws places objects
          program.setting program.placed h filled v y carried

      -- words to compute in behind it may change
      module _ (last : Locals) (more : ChangesFrom (operand_word s 1) 8 new last) where
        stays : word_of last a ≡ Some y
        stays =
            found_same scene f.world h (as_it_was program f h.words) objects filled waiting size
            (stays_in program size waiting) rests s count group
            depth locals o
            (operand_word s 0) fits.bound new last
            (same_besides s depth (operand_word s 1) 8 new last (omega arith) (omega arith) more)
            (more (operand_word s 0) (inl (omega arith))) ∙ is

        touches : Touches s (word_for program places objects s next) words last
        touches j ne side =
            more j (beside s (operand_word s 1) 8 j (omega arith) (omega arith) side) ∙ touched j ne side

        other : Comes program.setting P Q
            (at f.world h waiting size (k ∷ rests) last (call_cast program.run d a number Done))
        other =
            calls_now program typed f floor have 174 (casts_to (Some c)) w
            (at f.world h waiting size (k ∷ rests) last (call_cast program.run d a number Done))
            (lower_floor program typed f (10 + floor) floor have 174 (casts_to (Some c)) w
            (at f.world h waiting size (k ∷ rests) last (call_cast program.run d a number Done)) (omega arith)
            (calls 1 (omega arith) Done (k ∷ rests) (refl, (refl, refl)) y last carried stays touches))

        -- in place
        one : (op : WordOp) (b b' : LowSource) (m n word : ℕ) → word_of last b ≡ Some m → word_of last b' ≡ Some n
            → compute op m n ≡ word → in_place way y ≡ Some word
            → step_price program.setting.procs size (Compute op d b b' Done) ≤ 29
            → Comes program.setting P Q (at f.world h waiting size (k ∷ rests) last (Compute op d b b' Done))
        one op b b' m n word first second made law cheap =
            let z = program.serves.made_in_place (at f.world h waiting size (k ∷ rests) last (Compute op d b b' Done))
            program.number places objects f.store (record { filled = filled; cells = cells }) f.frames number c e v y
            carried word law in
            let t = at f.world h waiting size (k ∷ rests) last (Compute op d b b' Done) in
            by_more program.setting P Q.holds floor (left_of program.setting t) (left_of program.setting t + 0) t
            (omega arith)
            (by_now program.setting P Q.holds floor (left_of program.setting t) t (omega arith) (
              0,
              omega arith,
              by_more program.setting P (Landing program typed f (room_over program size waiting) have 174
                  (next_state program f (casts_to (Some c))) w
                  h.words) 0 (budget_of program f) (0 + budget_of program f) t (omega arith)
                  (put_in_place program typed f places objects h filled waiting size rests words s count depth group
                  next
                  rest less op b b' last touches m n word first second made have 174 cheap
                  enough_in_place (casts_to (Some c)) w z.0
                  (subst (λ cost. After program.meaning program.setting program.l program.procs program.casts
                  program.measured t (Goes program.meaning program.setting program.l program.procs program.casts
                  program.measured t (GivesInPlace program.meaning program.setting program.l program.procs
                  program.casts program.measured t places objects f.frames word) z.0) (casts_to (Some c)) cost 0
                  program.number w t) (sym cost_is) z.1)),
            ))

      -- where the code of a way begins
      abbrev made : CastWay → LowState
      made z = at f.world h waiting size rests new (make_cast program.run s d a number z k)

      into_dyn : (tag : Tag) → way ≡ IntoDyn tag → Calls (made (IntoDyn tag))
      into_dyn tag is_so =
          some_calls program typed f floor have 174 (casts_to (Some c)) w (made (IntoDyn tag))
          (computes_first program.setting P Q calm y 3 up is refl refl (omega (arith, wide))
          (computes program.setting P Q calm up 3 back (word_here t up new) refl refl (omega (arith, wide))
          (by_width (is_narrow y) refl)))
        where
          t : ℕ
          t = test_word s

          u : ℕ
          u = operand_word s 1

          up : ℕ
          up = compute Sll y 3

          back : ℕ
          back = compute Sra (compute Sll y 3) 3

          first : Locals
          first = set_local (test_word s) (compute Sll y 3) new

          second : Locals
          second = set_local (operand_word s 1) (compute Sra (compute Sll y 3) 3) first

          more : ChangesFrom (operand_word s 1) 8 new second
          more j (inl p) =
              word_other (operand_word s 1) back first j (λ z. omega (arith, z, p))
              ∙ word_other (test_word s) up new j (λ z. omega (arith, z, p))
          more j (inr p) =
              word_other (operand_word s 1) back first j (λ z. omega (arith, z, p))
              ∙ word_other (test_word s) up new j (λ z. omega (arith, z, p))

          shifted : second (test_word s) ≡ Some (compute Sll y 3)
          shifted = word_other (operand_word s 1) back first (test_word s) (λ z. omega (arith, z)) ∙ word_here t up new

          by_width : (b : Bool) → is_narrow y ≡ b → Comes program.setting P Q (at f.world h waiting size rests second
              (If Eq (Word (operand_word s 1)) a (Compute Plus d (Word (test_word s)) (Number (tag_number tag)) Done)
              (call_cast program.run d a number Done) k))
          by_width true q =
              if_true program.setting P Q calm back y (word_here u back first) (stays second more)
              (narrow_test y small ∙ q)
              (one second more Plus (Word t) (Number (tag_number tag)) up (tag_number tag) (tagged (tag_number tag) y)
              shifted (ap Some (tag_small tag)) (tag_added y (tag_number tag) (tag_few tag))
              (ap (λ z. in_place z y) is_so ∙ ap (λ b. if b then Some (tagged (tag_number tag) y) else None) q)
              (let z = slot_most d in
              let r = slot_near t (test_near program.setting.procs size s six) in
              let g = tag_small_price tag in omega (arith, z, r, g)))
          by_width false q =
              if_false program.setting P Q calm back y (word_here u back first) (stays second more)
              (narrow_test y small ∙ q) (other second more)

      out_of_dyn : (tag : Tag) → way ≡ OutOfDyn tag → Calls (made (OutOfDyn tag))
      out_of_dyn tag is_so =
          some_calls program typed f floor have 174 (casts_to (Some c)) w (made (OutOfDyn tag))
          (computes_first program.setting P Q calm y 7 bits is refl refl (omega (arith, wide))
          (by_tag (y % 8 == tag_number tag) refl))
        where
          bits : ℕ
          bits = compute And y 7

          last : Locals
          last = set_local (test_word s) (compute And y 7) new

          more : ChangesFrom (operand_word s 1) 8 new last
          more j (inl p) = word_other (test_word s) bits new j (λ z. omega (arith, z, p))
          more j (inr p) = word_other (test_word s) bits new j (λ z. omega (arith, z, p))

          by_tag : (b : Bool) → (y % 8 == tag_number tag) ≡ b → Comes program.setting P Q
              (at f.world h waiting size rests last (If Eq (Word (test_word s)) (Number (tag_number tag))
              (Compute Sra d a (Number 3) Done) (call_cast program.run d a number Done) k))
          by_tag true q =
              if_true program.setting P Q calm bits (tag_number tag % 2 ^ 64) (word_here (test_word s) bits new) refl
              (tag_test y tag ∙ q)
              (one last more Sra a (Number 3) y 3 (compute Sra y 3) (stays last more) refl refl
              (ap (λ z. in_place z y) is_so ∙ ap (λ b. if b then Some (compute Sra y 3) else None) q)
              (let z = slot_most d in let r = source_most a in omega (arith, z, r)))
          by_tag false q =
              if_false program.setting P Q calm bits (tag_number tag % 2 ^ 64) (word_here (test_word s) bits new) refl
              (tag_test y tag ∙ q) (other last more)

      by_way : (z : CastWay) → way ≡ z → Calls (made z)
      by_way Called q = calls 0 (omega arith) k rests (refl, refl) y new carried is touched
      by_way (IntoDyn tag) q = into_dyn tag q
      by_way (OutOfDyn tag) q = out_of_dyn tag q

    moves : Calls (at f.world h waiting size rests words code)
    moves =
        later_calls program typed f floor have 174 (casts_to (Some c)) w (at f.world h waiting size rests words code)
        (fetch_reads scene f.world h (as_it_was program f h.words) objects filled waiting size
        (stays_in program size waiting) rests s count group depth
        locals o
        (operand_word s 0) fits.bound (omega (arith, wide)) words fits.knows (make_cast program.run s d a number way k)
        (λ y new carried is changed.
        starts_now program typed f floor have 174 (casts_to (Some c)) w
        (at f.world h waiting size rests new (make_cast program.run s d a number way k))
        (by_way y new carried is changed way refl)))

    silent : (next_state program f (casts_to (Some c))).world.output ≡ f.world.output
    silent =
        let t = at f.world h waiting size rests words code in
        let y = value_carried scene f.world h (as_it_was program f h.words) objects filled waiting size
        (stays_in program size waiting) rests s count
        group depth locals o
        fits.bound words fits.knows in
        let z = program.serves.casting.makes t program.number places objects f.store
        (record { filled = filled; cells = cells }) f.frames number c e v y.0 y.1 in
        silent_after program t (Goes program.meaning program.setting program.l program.procs program.casts
        program.measured t
        (Returns program.meaning program.setting program.l program.procs program.casts program.measured t cast_leaves
        places objects f.frames)
        z.0) f refl (casts_to (Some c)) (cast_cost program.procs (mode_of program) (prices_of program) (Some c) v) 0
        program.number w
        (entered t program.serves.casting.proc (y.0 ∷ cast_word (slice_get program.run.cast_at number) ∷ [])) z.1

    pub cast_served : Served program typed f (casts_to (Some c))
        (decision_wraps (decision_at program.procs (mode_of program) (Some c) (value locals group o))) 0
        (at f.world h waiting size rests words (perform program.run s (word_for program places objects s next)
        (Cast o number) (code_for program places objects s next)))
    cast_served =
        is_served program typed f floor 0 174 (casts_to (Some c)) w start silent (omega arith)
        (let z = cast_price program.setting.procs size s six program.run d o number k in omega (arith, z)) moves

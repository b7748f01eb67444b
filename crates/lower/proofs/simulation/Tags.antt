-- What code has made of a word in place is put into the word that takes the cast's value.
use Rattle.std.proofs.Common.{◌≡◌, inl, ℕ, ◌+◌, ◌<◌, List, ◌∷◌, Some, refl, sym, ◌∙◌, subst, arith}
use Rattle.run_laws.specs.Machines.{Go}
use Rattle.low_ir.specs.declared.code.LowSource.{LowSource}
use Rattle.low_ir.specs.declared.code.WordOp.{WordOp}
use Rattle.low_ir.specs.Operations.{compute}
use Rattle.low_ir.specs.Procedures.{Code, Done, Compute}
use Rattle.low_ir.specs.Steps.{Locals, set_local}
use Rattle.low_ir.specs.Run.{Waiting as LowWaiting, LowState, word_of}
use Rattle.cast_modes.specs.ValueSteps.{Own, Return, Entering}
use Rattle.coercion_norm.specs.Held.{TypesStand}
use Rattle.coercion_norm.specs.Objects.{Object}
use Rattle.flat_ir.specs.Machine.{FlatValue, FlatFrame, FlatFocus, FlatAfter, FlatState, FlatStore, Group}
use Rattle.flat_ir.specs.Machine.{flat_state_at}
use Rattle.lowered_code.specs.declared.numbering.Shape.{Shape}
use Rattle.low_ir.specs.Frames.{frame_room, waiting_room, stack_room}
use Rattle.rt_cast.specs.States.{Heap, heap_of}
use Rattle.lower.specs.Storage.{Filled}
use Rattle.lowered_code.specs.Emit.{Then}
use Rattle.lower.specs.SchemeLaws.{Here, OnWay, After, Goes, GivesInPlace, cast_leaves}
use Rattle.lower.proofs.simulation.RelationKept.{word_here, word_other}
use Rattle.lower.proofs.words.Steps.{at, lt_true}
use Rattle.lower.proofs.words.Credits.{By, SomeBy, by_now, by_go, some_go}
use Rattle.low_ir.specs.Prices.{step_price}
use Rattle.std.proofs.Common.{◌≤◌, ◌*◌, length, Option, None, le_refl}
use Rattle.std.specs.Prelude.{◌-◌}
use Rattle.run_laws.specs.Runs.{Ending}
use Rattle.grift_base.specs.declared.verdicts.Verdict.{Verdict}
use Rattle.lower.proofs.words.Operations.{Touches}
use Rattle.lower.proofs.simulation.Way.{Program, after_wraps, N, Settled, next_state, asks_of, budget_of}
use Rattle.lower.proofs.simulation.Way.{cost_of}
use Rattle.lower.proofs.simulation.Way.{room_over, stays_in, due_of, due_most, waiting_dues, zero_once_ended}
use Rattle.lower.proofs.simulation.Gives.{CarriedHere, RestHere, given, word_for, code_for, due_for}
use Rattle.lower.proofs.simulation.Operations.{returned, due_little}
use Rattle.lower.proofs.simulation.Served.{OnServed, Waits, Lands, SettledWith, served_on, next_more}
use Rattle.lower.proofs.simulation.Served.{until_ended}
use Rattle.lower.proofs.simulation.Services.{OnTurn, Landing, landing}

module _ (program : Program) (typed : TypesStand program.l) (f : FlatState program.meaning.Cast) (places : List ℕ)
    (objects : List Object) (h : Heap)
    (filled : Filled program.meaning program.setting program.l program.number objects h)
    (waiting : List LowWaiting) (size : ℕ) (rests : List Code) (words : Locals) (s : Shape) (count depth : ℕ)
    (group : Group program.meaning.Cast) (next : Then)
    (rest : RestHere program places objects waiting s count size group depth f.frames next rests words)
    (less : word_for program places objects s next < size)
    (op : WordOp) (a b : LowSource) (new : Locals) (touches : Touches s (word_for program places objects s next) words
    new) (y z word : ℕ) (first : word_of new a ≡ Some y) (second : word_of new b ≡ Some z)
    (made : compute op y z ≡ word) (have before : ℕ)
    (cheap : step_price program.setting.procs size
    (Compute op (word_for program places objects s next) a b Done) ≤ 29)
    (enough : 67 + 10 * length rests + waiting_dues waiting + before ≤ cast_leaves + have) where
  abbrev d : ℕ
  d = word_for program places objects s next

  abbrev k : Code
  k = code_for program places objects s next

  -- at the end of a branch, the word is made
  abbrev pub maker : LowState
  maker = at f.world h waiting size (k ∷ rests) new (Compute op d a b Done)

  abbrev last : Locals
  last = set_local d word new

  abbrev Aimed : FlatFocus program.meaning.Cast → List (FlatFrame program.meaning.Cast)
      → FlatStore program.meaning.Cast → ℕ → ℕ → LowState → Type 0
  Aimed = GivesInPlace program.meaning program.setting program.l program.procs program.casts program.measured maker
      places objects f.frames word

  lands_at : (u : FlatValue program.meaning.Cast) (store : FlatStore program.meaning.Cast) (n left : ℕ)
      → cast_leaves ≤ left
      → Here program.meaning program.setting program.l program.procs program.casts program.measured places objects store
      n (heap_of maker) → CarriedHere program places objects u word
      → Lands program (room_over program size waiting) f.world.output n 0 have before left
      (flat_state_at program.procs program.told (Return u) f.frames store f.world) maker
  lands_at u store n left le stands carried = record { comes = came.0; some = inl came.1 }
    where
      P : LowState → Type 0
      P = OnServed program f.world.output n n maker.words (room_over program size waiting)

      H : ℕ → LowState → Type 0
      H left v =
          (v.words ≤ maker.words)
          × SettledWith program (room_over program size waiting) have before left
          (flat_state_at program.procs program.told (Return u) f.frames store f.world) n v

      on : (rr : List Code) (locals : Locals) (code : Code) → P (at f.world h waiting size rr locals code)
      on rr locals code = record {
        same = refl;
        filling = inl (objects, stands.filled);
        asked = le_refl h.words;
        room = stays_in program size waiting;
      }

      step : (N program).step maker ≡ Go (at f.world h waiting size (k ∷ rests) last Done)
      step = let lt = lt_true d size less in rw (first, second, made, lt) refl

      settled : Settled (after_wraps program n) (flat_state_at program.procs program.told (Return u) f.frames store
          f.world) (due_for program places objects next) (at f.world h waiting size rests last k)
      settled =
          returned (after_wraps program n) typed places objects h f.world stands.filled store f.frames stands.cells u
          waiting size rests last k (due_for program places objects next)
          (given (after_wraps program n) places objects waiting s count size group depth f.frames next rests words last
          u word rest carried (word_here d word new) (λ j ne side. word_other d word new j ne ∙ touches j ne side))

      kept : (o : Option (Ending Verdict)) → zero_once_ended o (due_for program places objects next
          + (due_of k rests + waiting_dues waiting)) + before ≤ left - 39 + have
      kept None =
          let z = due_most k rests in
          let y = due_little program places objects next in omega (arith, enough, le, z, y)
      kept (Some e) = omega (arith, enough, le)

      came : SomeBy program.setting (OnServed program f.world.output n n maker.words (room_over program size waiting))
          (λ left v. (v.words ≤ maker.words)
          × SettledWith program (room_over program size waiting) have before left
          (flat_state_at program.procs program.told (Return u) f.frames store f.world) n v) 0 left maker
      came =
          some_go program.setting P H 0 (10 + (left - 39)) left maker (at f.world h waiting size (k ∷ rests) last Done)
          step (omega (arith, cheap, le)) (on (k ∷ rests) new (Compute op d a b Done))
          (by_go program.setting P H 0 (left - 39) (10 + (left - 39)) (at f.world h waiting size (k ∷ rests) last Done)
          (at f.world h waiting size rests last k) refl (le_refl (10 + (left - 39)))
          (on (k ∷ rests) last Done)
          (by_now program.setting P H 0 (left - 39) (at f.world h waiting size rests last k) (omega arith) (
            le_refl h.words,
            (
              due_for program places objects next,
              settled,
              kept (flat_state_at program.procs program.told (Return u) f.frames store f.world).ended,
              until_ended (flat_state_at program.procs program.told (Return u) f.frames store f.world).ended
                  (stack_room (at f.world h waiting size rests last k)) (room_over program size waiting)
                  (stays_in program size waiting),
            ),
          )))

  lands : (focus : FlatFocus program.meaning.Cast) (frames : List (FlatFrame program.meaning.Cast))
      (store : FlatStore program.meaning.Cast) (n left : ℕ) (t : LowState)
      → stack_room t ≤ stack_room maker + 25 * (1 + program.meaning.serving program.l)
      → Aimed focus frames store n left t → Lands program (room_over program size waiting) f.world.output n 0 have
      before left (flat_state_at program.procs program.told focus frames store f.world) t
  lands (Return u) frames store n left t fits q =
      subst (λ fs. Lands program (room_over program size waiting) f.world.output n 0 have before left
      (flat_state_at program.procs program.told (Return u) fs store f.world) t)
      (sym q.1)
      (subst (λ v. Lands program (room_over program size waiting) f.world.output n 0 have before left
      (flat_state_at program.procs program.told (Return u) f.frames store f.world) v)
      (sym q.0) (lands_at u store n left q.2 q.3 q.4))
  lands (Own place) frames store n left t fits q = absurd q
  lands (Entering g done todo) frames store n left t fits q = absurd q

  begins : OnWay program.meaning program.setting program.l program.procs program.casts program.measured maker maker
      0 program.number program.number maker
  begins = record {
    objects = objects;
    filled = inl filled;
    same = refl;
    room = omega arith;
    asked = omega arith;
  }

  room_left : stack_room maker + 25 * (1 + program.meaning.serving program.l) ≤ room_over program size waiting
  room_left = by (frame_room size) (waiting_room waiting) (25 * (1 + program.meaning.serving program.l))
    where
      by : (own waits serving : ℕ) → own + waits + serving ≤ own + waits + own + serving
      by own waits serving = omega arith

  -- so the turns of a cast that is made in place are gone along
  pub put_in_place : (x : FlatAfter program.meaning.Cast) (w i : ℕ)
      → After program.meaning program.setting program.l program.procs program.casts program.measured maker
      (Goes program.meaning program.setting program.l program.procs program.casts program.measured maker
      (GivesInPlace program.meaning program.setting program.l program.procs program.casts program.measured maker places
      objects f.frames word)
      i) x (cost_of program f) 0 program.number w maker
      → By program.setting (OnTurn program typed f w h.words (room_over program size waiting))
      (Landing program typed f (room_over program size waiting) have before (next_state program f x) w h.words) 0
      (budget_of program f) maker
  put_in_place x w i law =
      landing program typed f x w 0 have before i h.words (room_over program size waiting) maker refl
      (next_more program (Waits program (room_over program size waiting) 0 have before i)
      (room_over program size waiting) 0 (i ≡ 0) f.world.output (next_state program f x)
      (asks_of program f) (0 + (cost_of program f).budget) (budget_of program f) program.number (program.number + w)
      maker (omega arith)
      (served_on program maker (room_over program size waiting) 0 have before room_left Aimed lands i x
      (cost_of program f) 0 program.number w f refl maker
      begins law).1)

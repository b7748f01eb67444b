-- How procedures of this scheme walk in a turn of the numbered procedures: steps of their own, within the turn's
-- budget, and where they end.
use Rattle.std.proofs.Common.{◌≡◌, inl, ℕ, ◌+◌, ◌*◌, ◌-◌, ◌≤◌, true, List, []}
use Rattle.std.proofs.Common.{length, Some, refl, sym, ap, ◌∙◌, subst, arith, slice_get}
use Rattle.std.specs.Prelude.{◌==◌, ◌&&◌, nat_le, if◌then◌else◌}
use Rattle.grift_base.specs.declared.environment.TheConstants.{BLAME_CALL}
use Rattle.grift_base.specs.World.{WorldState}
use Rattle.grift_base.specs.EnvironmentCall.{environment_call}
use Rattle.grift_base.specs.declared.places.Pos.{Pos}
use Rattle.grift_base.specs.declared.verdicts.Verdict.TheVariants.{Blame, Trap as TrapVerdict}
use Rattle.grift_base.specs.declared.verdicts.Trap.TheVariants.{Index}
use Rattle.grift_base.specs.declared.worlds.EnvEffect.TheVariants.{Blamed, Refused}
use Rattle.run_laws.specs.Runs.{Verdict as EndsWith}
use Rattle.core_calc.specs.Account.{Measures}
use Rattle.low_ir.specs.declared.code.LowSource.{LowSource}
use Rattle.low_ir.specs.declared.code.LowSource.TheVariants.{Word, Number}
use Rattle.low_ir.specs.Procedures.{Code, Environment, Return, TailCall, Proc as LowProc}
use Rattle.low_ir.specs.Steps.{Locals, no_locals}
use Rattle.low_ir.specs.Run.{Setting, LowState, words_of, bind}
use Rattle.cast_modes.specs.Modes.{TypeCast}
use Rattle.coercion_norm.specs.Objects.{Object}
use Rattle.coercion_norm.specs.Held.{Layout}
use Rattle.flat_ir.specs.Bodies.{Proc}
use Rattle.low_ir.specs.Frames.{stack_room, waiting_room}
use Rattle.rt_cast.specs.States.{Heap, heap_of}
use Rattle.low_ir.specs.Codes.{trap_code}
use Rattle.lower.specs.Storage.{Filled}
use Rattle.lower.specs.SchemeLaws.{OnWay, StopsNow, Walks}
use Rattle.lower.proofs.Public.{By, by_go, by_weaken}
use Rattle.lower.proofs.Public.{calls_blame, in_front}
use Rattle.lower.proofs.Public.{at, Comes, Calm, Goal, left_of, goes_last, lt_true}
use Rattle.piled_scheme.specs.Piling.{piled_meaning}

-- storage, the world and what waits are as in another state
abbrev pub IsQuiet : LowState → LowState → Type 0
IsQuiet s te = (heap_of te ≡ heap_of s) × (te.world ≡ s.world) × (te.waiting ≡ s.waiting) × (te.active.count ≤ 24)

module _ (setting : Setting) (l : Layout) (procs : List Proc) (casts : List TypeCast) (m : Measures)
    (s : LowState) where
  abbrev pub Way : LowState → ℕ → ℕ → ℕ → LowState → Type 0
  Way t asks n n' u = OnWay piled_meaning setting l procs casts m s t asks n n' u

  abbrev pub HasRoom : LowState → Type 0
  HasRoom u = stack_room u ≤ stack_room s + 25 * (1 + 1)

  pub room_of : (u : LowState) → u.waiting ≡ s.waiting → u.active.count ≤ 24 → HasRoom u
  room_of u waits few = let a = ap waiting_room waits in omega (arith, a, few)

  pub on_way : (t u : LowState) (asks n n' : ℕ) (objects : List Object)
      → Filled piled_meaning setting l n objects (heap_of u) → u.world ≡ s.world → u.waiting ≡ s.waiting
      → u.active.count ≤ 24 → u.words ≤ t.words + asks → Way t asks n n' u
  on_way t u asks n n' objects filled same waits few asked = record {
    objects = objects;
    filled = inl filled;
    same = same;
    room = room_of u waits few;
    asked = asked;
  }

  pub quiet_way : (objects : List Object) (te : LowState) → IsQuiet s te → (n : ℕ)
      → Filled piled_meaning setting l n objects (heap_of s) → Way te 0 n n te
  quiet_way objects te q n filled =
      on_way te te 0 n n objects (subst (Filled piled_meaning setting l n objects) (sym q.0) filled) q.1 q.2 q.3
      (omega arith)

  -- so it is wherever a procedure of 24 words at most is, over the same storage
  pub calm_at : (t : LowState) (asks n n' : ℕ) (Q : Goal) (objects : List Object) (h : Heap)
      → Filled piled_meaning setting l n objects h → h.words ≤ t.words + asks → (count : ℕ) → count ≤ 24
      → Calm setting (Way t asks n n') Q count s.waiting s.world h
  calm_at t asks n n' Q objects h filled asked count few rests locals code =
      on_way t (at s.world h s.waiting count rests locals code) asks n n' objects filled refl refl few asked

  -- a turn that begins in t comes to where X holds of every credit that is no less
  abbrev pub goal : LowState → ℕ → ℕ → (ℕ → LowState → Type 0) → Goal
  goal t asks need X = record {
    extra = 0;
    floor = 0;
    holds = λ left u. (u.words ≤ t.words + asks) × HasRoom u × ((credit : ℕ) → need ≤ credit → X credit u);
    least = λ left u q. omega arith;
  }

  -- a walk at no more than a price, which the credit covers with what is to be left
  pub walks_by : (t : LowState) (asks credit price need n n' : ℕ) (X : ℕ → LowState → Type 0)
      → By setting (Way t asks n n') (goal t asks need X).holds 0 price t → price + need ≤ credit
      → Walks piled_meaning setting l procs casts m s asks credit n n' X t
  walks_by t asks credit price need n n' X c le =
      let w = c.within in (
        c.steps,
        c.price,
        credit - c.price,
        omega (arith, w, le),
        c.cheap,
        by_weaken setting (Way t asks n n') (goal t asks need X).holds 0 (Way t asks n n')
            (λ left u. (u.words ≤ t.words + asks) × HasRoom u × X (credit - c.price) u) price t (λ u p. p)
            (λ left u q. (q.0, q.1, q.2 (credit - c.price) (omega (arith, w, le)))) c,
      )

  -- the same where the price is what is left to pay of the procedure
  pub walks : (t : LowState) (asks credit need n n' : ℕ) (X : ℕ → LowState → Type 0)
      → Comes setting (Way t asks n n') (goal t asks need X) t → left_of setting t + need ≤ credit
      → Walks piled_meaning setting l procs casts m s asks credit n n' X t
  walks t asks credit need n n' X c le =
      walks_by t asks credit (left_of setting t + 0) need n n' X c (omega (arith, le))

  -- a turn without steps
  pub stays : (t : LowState) (asks credit n n' : ℕ) (X : ℕ → LowState → Type 0) → HasRoom t → X credit t
      → Walks piled_meaning setting l procs casts m s asks credit n n' X t
  stays t asks credit n n' X room x = (0, 0, credit, omega arith, omega arith, (omega arith, room, x))

  -- ---- another procedure is entered in the place of this one

  module _ (t : LowState) (asks n n' : ℕ) (Q : Goal) {world : WorldState} {h : Heap}
      {count : ℕ} (calm : Calm setting (Way t asks n n') Q count s.waiting world h) {rests : List Code}
      {locals : Locals} where
    pub tail_calls : {number : ℕ} {args : List LowSource} (ws : List ℕ) (p : LowProc) → words_of locals args ≡ Some ws
        → slice_get setting.procs number ≡ Some p
        → ((length ws == p.params) && (nat_le p.params 8 && nat_le p.params p.words)) ≡ true → Q.floor ≡ 0
        → Q.holds 0 (at world h s.waiting p.words [] (bind 0 ws no_locals) p.code)
        → Comes setting (Way t asks n n') Q (at world h s.waiting count rests locals (TailCall number args))
    tail_calls {number = number} {args = args} ws p e there few none q =
        goes_last setting (Way t asks n n') Q (at world h s.waiting count rests locals (TailCall number args))
        (at world h s.waiting p.words [] (bind 0 ws no_locals) p.code) 0 (rw (e, there, few) refl) (omega arith)
        (calm rests locals (TailCall number args)) q

    -- and goes on from its beginning
    pub tail_calls_on : {number : ℕ} {args : List LowSource} (ws : List ℕ) (p : LowProc) (credit : ℕ)
        → words_of locals args ≡ Some ws → slice_get setting.procs number ≡ Some p
        → ((length ws == p.params) && (nat_le p.params 8 && nat_le p.params p.words)) ≡ true
        → credit ≤ Q.extra
        → By setting (Way t asks n n') Q.holds Q.floor credit
        (at world h s.waiting p.words [] (bind 0 ws no_locals) p.code)
        → Comes setting (Way t asks n n') Q (at world h s.waiting count rests locals (TailCall number args))
    tail_calls_on {number = number} {args = args} ws p credit e there few le c =
        by_go setting (Way t asks n n') Q.holds Q.floor credit
        (left_of setting (at world h s.waiting count rests locals (TailCall number args)) + Q.extra)
        (at world h s.waiting count rests locals (TailCall number args))
        (at world h s.waiting p.words [] (bind 0 ws no_locals) p.code) (rw (e, there, few) refl) (omega (arith, le))
        (calm rests locals (TailCall number args)) c

  -- ---- where a run stops

  -- the next step blames the label in word 3
  pub blames : (n label : ℕ) (place : Pos) → slice_get setting.labels label ≡ Some place → (objects : List Object)
      (h : Heap) → Filled piled_meaning setting l n objects h → (rests : List Code) (locals : Locals)
      → locals 3 ≡ Some label
      → StopsNow piled_meaning setting l procs casts m s n (EndsWith (Blame place))
      (at s.world h s.waiting 6 rests locals (Environment 3 (Word 3) (Number 0) 4 5 (Return (Number 0))))
  blames n label place found objects h filled rests locals is = record {
    last = at s.world h s.waiting 6 rests locals (Return (Number 0));
    stops =
        (let t = at s.world h s.waiting 6 rests locals (Environment 3 (Word 3) (Number 0) 4 5 (Return (Number 0))) in
        let inside = lt_true label (length setting.labels) (in_front setting.labels [] label place found) in
        let called : environment_call BLAME_CALL label 0 (length setting.labels) s.world
        ≡ record { effect = Blamed label; world = s.world } =
        calls_blame label 0 (length setting.labels) s.world
        ∙ ap (λ z. record { effect = if z then Blamed label else Refused; world = s.world }) inside in
        rw (is, called, found) refl);
    here = (objects, filled);
    after = (objects, filled);
    same = refl;
    same_after = refl;
  }

  -- the next step traps for an index outside
  pub traps : (n : ℕ) (objects : List Object) (h : Heap) → Filled piled_meaning setting l n objects h
      → (rests : List Code) (locals : Locals)
      → StopsNow piled_meaning setting l procs casts m s n (EndsWith (TrapVerdict Index))
      (at s.world h s.waiting 6 rests locals (trap_code Index 4 5))
  unfolding environment_call
  traps n objects h filled rests locals = record {
    last = at s.world h s.waiting 6 rests locals (Return (Number 0));
    stops = refl;
    here = (objects, filled);
    after = (objects, filled);
    same = refl;
    same_after = refl;
  }

-- The run with environments and piled casts follows the calculus.
use Rattle.std.proofs.Common.{◌≡◌, ◌⊎◌, inl, inr, ℕ, ◌<◌, List, [], ◌∷◌, Option, Some, None, refl, sym, ap, ◌∙◌}
use Rattle.std.proofs.Common.{subst}
use Rattle.std.specs.Prelude.{option_map, true, if◌then◌else◌}
use Rattle.run_laws.specs.Runs.{Ending, Wrong, Run, NeverWrong, FollowsBy, Any}
use Rattle.run_laws.specs.Meters.{Metered, unspent, SpendSame}
use Rattle.run_laws.proofs.Public.{Alone, Both, Over, Lockstep, paid, charged, lockstep_follows}
use Rattle.run_laws.specs.Reductions.{Reduction, reduction_run}
use Rattle.grift_base.specs.World.{WorldState}
use Rattle.grift_base.specs.Types.{TypeRows}
use Rattle.grift_base.specs.declared.places.Pos.{Pos}
use Rattle.grift_base.specs.declared.verdicts.Verdict.{Verdict}
use Rattle.core_calc.specs.Terms.{Term, as_value}
use Rattle.core_calc.specs.Outcome.{Outcome, Goes, Blames, Traps, Stuck, inside}
use Rattle.core_calc.specs.Step.{step}
use Rattle.core_calc.specs.Account.{StepKind, kind_at, kind_of_step}
use Rattle.core_calc.specs.Calculus.{shown_value, CalcEnd, Answered, Blamed, Trapped, NoStep, CalcState, start}
use Rattle.core_calc.specs.Calculus.{state_of, state_after_step, ending_of, calculus}
use Rattle.core_calc.proofs.Public.{nothing_put_in}
use Rattle.cast_modes.specs.Modes.{TypeCast, piling}
use Rattle.cast_modes.specs.RunValues.{shown}
use Rattle.cast_modes.specs.ValueSteps.{CastFrame, Own, Return, Entering, On, BlameOf, TrapOf, NoNext}
use Rattle.cast_modes.specs.AnswerTypes.{Told, fits_type}
use Rattle.coer_core.specs.Terms.{RowTerm, core_of}
use Rattle.coer_core.specs.Counts.{wraps_of_turn, wraps_of_step, kind_wraps}
use Rattle.coer_core.specs.Machine.{code_arity, Eval, turn, ended_at, ending_at, state_at, after_turn, running}
use Rattle.coer_core.specs.Machine.{run_start}
use Rattle.coer_core.specs.Machine.{CoerFocus}
use Rattle.coer_core.specs.Tally.{turn_kind, kind_of_turn, made_wraps}
use Rattle.coer_core.proofs.Plugging.{Steps, plug_step}
use Rattle.coer_core.proofs.Relation.{cast_term, sub, Is, Plugged, TermOf, size_of}
use Rattle.coer_core.proofs.Unload.{PiledValue, PiledStore, PiledFrame, PiledAfter, PiledState, value_of}
use Rattle.coer_core.proofs.Unload.{store_of, shown_same}
use Rattle.coer_core.proofs.Matching.{Matched, Fit}
use Rattle.coer_core.proofs.Moves.{IsOfKind, Silently, Stepping, Moves, eval_moves, FitFrame, back_moves, enter_moves}
use Rattle.coer_core.proofs.KindsOfTurns.{turn_wraps_made}

-- what keeps every cast at a value that it fits, along the calculus: typing does
pub record Keeps (types : TypeRows) (rows : List TypeCast) (labels : List Pos) (answer : ℕ)
    (Good : CalcState → Type 0) : Type 0 where
  pub steps : (c : CalcState) → Good c → c.ended ≡ None → Good ((calculus types labels).step c)
  pub casts : (k : List PiledFrame) (v : PiledValue) (cast : TypeCast) (h whole : Term) (store : PiledStore)
      (world : WorldState) → Good (state_of whole (store_of rows store) world) → Plugged rows k (cast_term h cast) whole
      → Is rows h v → Fit types rows store world v cast
  pub answers : (v : PiledValue) (whole : Term) (store : PiledStore) (world : WorldState)
      → Good (state_of whole (store_of rows store) world) → Is rows whole v
      → fits_type code_arity types v answer ≡ true

-- an end without an answer
abbrev pub IsBlank : CalcEnd → Type 0
IsBlank (Answered shown) = ⊥
IsBlank _ = Unit {0}

module _ (types : TypeRows) (rows : List TypeCast) (labels : List Pos) (answer : ℕ) (Good : CalcState → Type 0)
    (keeps : Keeps types rows labels answer Good) where
  abbrev pub told : Told
  told = record { labels = labels; types = types; answer = answer }

  -- both go on
  pub record Going (c : CalcState) (s : PiledState) : Type 0 where
    pub focus : CoerFocus TypeCast
    pub frames : List PiledFrame
    pub store : PiledStore
    pub world : WorldState
    pub whole : Term
    pub stands : TermOf rows focus frames whole
    pub calc_state : c ≡ state_of whole (store_of rows store) world
    pub good : Good c
    pub run_state : s ≡ state_at focus frames store world

  -- both have ended without an answer
  pub record Ended (c : CalcState) (s : PiledState) : Type 0 where
    pub end : CalcEnd
    pub blank : IsBlank end
    pub first : c.ended ≡ Some end
    pub second : s.ended ≡ Some end
    pub output : c.world.output ≡ s.world.output

  abbrev pub R : CalcState → PiledState → Type 0
  R c s = Going c s ⊎ Ended c s

  abbrev pub M : Reduction CalcState CalcState Verdict
  M = calculus types labels

  abbrev pub N : Reduction PiledState PiledState Verdict
  N = running (piling types rows) told

  abbrev pub kind : PiledState → Option StepKind
  kind s = kind_of_turn (piling types rows) s

  -- a turn for which the calculus makes no step
  pub record Quiet (c : CalcState) (s : PiledState) : Type 0 where
    pub running : N.ending s ≡ None
    pub none : kind s ≡ None
    pub next : Going c (N.step s)
    pub less : size_of (N.step s).focus (N.step s).frames < size_of s.focus s.frames

  -- a turn that makes a step of the same kind
  pub record Acting (c : CalcState) (s : PiledState) : Type 0 where
    pub first : M.ending c ≡ None
    pub second : N.ending s ≡ None
    pub same : IsOfKind types rows s.store s.world (kind s) (kind_of_step types c)
    pub next : Going (M.step c) (N.step s) ⊎ (Ended (M.step c) (N.step s) × ((N.step s).frames ≡ s.frames))

  pub record Finished (c : CalcState) (s : PiledState) : Type 0 where
    pub ending : Ending Verdict
    pub first : M.ending c ≡ Some ending
    pub second : N.ending s ≡ Some ending

  abbrev pub Does : CalcState → PiledState → Type 0
  Does c s = Quiet c s ⊎ (Acting c s ⊎ Finished c s)

  no_ending : (f : CalcEnd → Ending Verdict) (o : Option CalcEnd) → o ≡ None → option_map f o ≡ None
  no_ending f o e = ap (option_map f) e

  ending_some : (o : Option CalcEnd) (end : CalcEnd) → o ≡ Some end
      → option_map (ending_of labels) o ≡ Some (ending_of labels end)
  ending_some o end e = ap (option_map (ending_of labels)) e

  blank_ending : (end : CalcEnd) (focus : CoerFocus TypeCast) → IsBlank end
      → ending_at told end focus ≡ ending_of labels end
  blank_ending (Answered shown) focus b = absurd b
  blank_ending _ focus b = refl

  module _ (focus : CoerFocus TypeCast) (frames : List PiledFrame) (store : PiledStore) (world : WorldState)
      (whole : Term) (unended : ended_at focus frames ≡ None)
      (fine : Good (state_of whole (store_of rows store) world)) where
    abbrev c : CalcState
    c = state_of whole (store_of rows store) world

    abbrev s : PiledState
    s = state_at focus frames store world

    abbrev w : Option StepKind
    w = turn_kind (piling types rows) focus frames

    alone : (k : List PiledFrame) (h : Term) (after : PiledAfter) → turn (piling types rows) store world focus frames
        ≡ after → Plugged rows k h whole → Silently types rows store world w (size_of focus frames) k h after → Does c s
    alone k h (On focus1 frames1 store1 world1) e p q =
        inl (record {
          running = no_ending (λ end. ending_at told end focus) (ended_at focus frames) unended;
          none = q.0;
          next = record {
            focus = focus1;
            frames = frames1;
            store = store1;
            world = world1;
            whole = whole;
            stands = q.4 whole p;
            calc_state =
                ap (λ x. state_of whole (store_of rows x) world) (sym q.1)
                ∙ ap (state_of whole (store_of rows store1)) (sym q.2);
            good = fine;
            run_state = ap (after_turn s) e;
          };
          less =
              subst (λ (x : PiledState). size_of x.focus x.frames < size_of focus frames) (sym (ap (after_turn s) e))
              q.3;
        })
    alone k h (BlameOf label) e p q = absurd q
    alone k h (TrapOf trap world1) e p q = absurd q
    alone k h NoNext e p q = absurd q

    abbrev Next : CalcState → PiledState → Type 0
    Next c1 s1 = Going c1 s1 ⊎ (Ended c1 s1 × (s1.frames ≡ frames))

    -- what the calculus's state and this one come to is related
    together : (k : List PiledFrame) (h : Term) (after : PiledAfter) (o : Outcome Term) (put : Term → Term)
        → ((term : Term) → Plugged rows k term (put term)) → Matched types rows store world k after o
        → Good (state_after_step c (inside put o)) → Next (state_after_step c (inside put o)) (after_turn s after)
    together k h (On focus1 frames1 store1 world1) (Goes h1 cells world2) put puts q gd =
        inl (record {
          focus = focus1;
          frames = frames1;
          store = store1;
          world = world1;
          whole = put h1;
          stands = q.2 (put h1) (puts h1);
          calc_state = ap (λ x. state_of (put h1) x world2) q.0 ∙ ap (state_of (put h1) (store_of rows store1)) q.1;
          good = gd;
          run_state = refl;
        })
    together k h (BlameOf label) (Blames other) put puts q gd =
        inr (
          record {
            end = Blamed label;
            blank = tt;
            first = ap (λ l. Some (Blamed l)) q;
            second = refl;
            output = refl;
          },
          refl,
        )
    together k h (TrapOf trap world1) (Traps other world2) put puts q gd =
        inr (
          record {
            end = Trapped trap;
            blank = tt;
            first = ap (λ t. Some (Trapped t)) q.0;
            second = refl;
            output = ap (λ (w : WorldState). w.output) q.1;
          },
          refl,
        )
    together k h NoNext Stuck put puts q gd =
        inr (record { end = NoStep; blank = tt; first = refl; second = refl; output = refl }, refl)
    together k h _ _ put puts q gd = absurd q

    both : (k : List PiledFrame) (h : Term) (after : PiledAfter) → turn (piling types rows) store world focus frames
        ≡ after → Plugged rows k h whole → Stepping types rows store world w k h after → Does c s
    both k h after e p q =
        let st : Steps rows types (store_of rows store) world (Plugged rows k) h whole =
        plug_step rows types (store_of rows store) world k h whole q.0 p in
        inr (inl (record {
          first = no_ending (ending_of labels) c.ended (ap (option_map (λ v. Answered (shown_value v))) st.none);
          second = no_ending (λ end. ending_at told end focus) (ended_at focus frames) unended;
          same = subst (λ x. IsOfKind types rows store world w (kind_at types x)) (sym st.redexes) q.1;
          next =
              subst (λ x. Next x (N.step s)) (sym (ap (state_after_step c) st.goes))
              (subst (λ x. Next (state_after_step c (inside st.put (step types (store_of rows store) world h))) x)
              (sym (ap (after_turn s) e)) (together k h after (step types (store_of rows store) world h) st.put st.puts
              q.2 (subst Good (ap (state_after_step c) st.goes)
              (keeps.steps c fine (ap (option_map (λ v. Answered (shown_value v))) st.none)))));
        }))

    moves_do : (k : List PiledFrame) (h : Term) (after : PiledAfter)
        → turn (piling types rows) store world focus frames ≡ after → Plugged rows k h whole
        → Moves types rows store world w (size_of focus frames) k h after → Does c s
    moves_do k h after e p (inl q) = alone k h after e p q
    moves_do k h after e p (inr q) = both k h after e p q

  -- a value that nothing waits for
  answers : (v : PiledValue) (store : PiledStore) (world : WorldState) (whole : Term)
      → fits_type code_arity types v answer ≡ true → as_value whole ≡ Some (value_of rows v)
      → Does (state_of whole (store_of rows store) world) (state_at (Return v) [] store world)
  answers v store world whole fit e =
      inr (inr (record {
        ending = ending_of labels (Answered (shown v));
        first =
            ap (λ o. option_map (ending_of labels) (option_map (λ x. Answered (shown_value x)) o)) e
            ∙ ap (λ a. Some (ending_of labels (Answered a))) (shown_same rows v);
        second = ap (λ b. Some (if b then ending_of labels (Answered (shown v)) else Wrong)) fit;
      }))

  fit_frame : (v : PiledValue) (frame : PiledFrame) (k : List PiledFrame) (h whole : Term) (store : PiledStore)
      (world : WorldState) → Good (state_of whole (store_of rows store) world) → Plugged rows (frame ∷ k) h whole
      → Is rows h v → FitFrame types rows store world v frame
  fit_frame v (CastFrame cast) k h whole store world g p e = keeps.casts k v cast h whole store world g p e
  fit_frame v _ k h whole store world g p e = tt

  going_does : (focus : CoerFocus TypeCast) (frames : List PiledFrame) (store : PiledStore) (world : WorldState)
      (whole : Term) → Good (state_of whole (store_of rows store) world) → TermOf rows focus frames whole
      → Does (state_of whole (store_of rows store) world) (state_at focus frames store world)
  going_does (Own (Eval term env)) frames store world whole gd t =
      moves_do (Own (Eval term env)) frames store world whole refl gd frames (sub rows term env)
      (turn (piling types rows) store world (Own (Eval term env)) frames) refl
      (subst (λ x. Plugged rows frames x whole) t.1 t.2) (eval_moves types rows store world term env frames)
  going_does (Return v) [] store world whole gd t =
      let e : as_value whole ≡ Some (value_of rows v) = subst (λ x. as_value x ≡ Some (value_of rows v)) t.2 t.1 in
      answers v store world whole (keeps.answers v whole store world gd e) e
  going_does (Return v) (frame ∷ frames) store world whole gd t =
      let b =
      back_moves types rows store world v frame frames t.0 whole (fit_frame v frame frames t.0 whole store world gd
      t.2 t.1) t.1 t.2 in
      moves_do (Return v) (frame ∷ frames) store world whole refl gd frames b.0
      (turn (piling types rows) store world (Return v) (frame ∷ frames)) refl b.1 b.2
  going_does (Entering f done todo) frames store world whole gd t =
      moves_do (Entering f done todo) frames store world whole refl gd frames _
      (turn (piling types rows) store world (Entering f done todo) frames) refl
      (subst (λ x. Plugged rows frames x whole) t.1.2.2.2 t.2) (enter_moves types rows store world f done todo frames
      t.1.0 t.1.2.0 t.1.2.2.0 t.1.1 t.1.2.1 t.1.2.2.1)

  pub does : (c : CalcState) (s : PiledState) → R c s → Does c s
  does c s (inl g) =
      subst (λ x. Does x s) (sym g.calc_state) (subst (Does (state_of g.whole (store_of rows g.store) g.world))
      (sym g.run_state) (going_does g.focus g.frames g.store g.world g.whole (subst Good g.calc_state g.good) g.stands))
  does c s (inr e) =
      inr (inr (record {
        ending = ending_of labels e.end;
        first = ending_some c.ended e.end e.first;
        second =
            ap (option_map (λ end. ending_at told end s.focus)) e.second ∙ ap Some (blank_ending e.end s.focus e.blank);
      }))

  pub alike : (c : CalcState) (s : PiledState) → R c s → s.world.output ≡ c.world.output
  alike c s (inl g) =
      ap (λ (x : PiledState). x.world.output) g.run_state ∙ sym (ap (λ (x : CalcState). x.world.output) g.calc_state)
  alike c s (inr e) = sym e.output

  -- the two are related after it
  pub next_related : (c : CalcState) (s : PiledState) → Acting c s → R (M.step c) (N.step s)
  next_related c s a = of a.next
    where
      of : Going (M.step c) (N.step s) ⊎ (Ended (M.step c) (N.step s) × ((N.step s).frames ≡ s.frames))
          → R (M.step c) (N.step s)
      of (inl g) = inl g
      of (inr e) = inr e.0

  -- where the two begin
  pub begin_related : (term : RowTerm) (input : List ℕ) → Good (start (core_of rows term) input)
      → R (start (core_of rows term) input) (run_start term input)
  begin_related term input fine =
      let world : WorldState = record { output = []; input = input; place = 0 } in
      inl (record {
        focus = Own (Eval term []);
        frames = [];
        store = [];
        world = world;
        whole = core_of rows term;
        stands = (core_of rows term, sym (nothing_put_in (core_of rows term)), refl);
        calc_state = refl;
        good = fine;
        run_state = refl;
      })

  -- ---- as many wrap steps

  abbrev work : CalcState → ℕ
  work = wraps_of_step types

  abbrev cost : PiledState → ℕ
  cost = wraps_of_turn (piling types rows)

  abbrev size : PiledState → ℕ
  size s = size_of s.focus s.frames

  cost_made : (s : PiledState) → cost s ≡ made_wraps (kind s)
  cost_made s = turn_wraps_made (piling types rows) s.focus s.frames

  same_wraps : (store : PiledStore) (world : WorldState) (w : Option StepKind) (other : StepKind)
      → IsOfKind types rows store world w other → made_wraps w ≡ kind_wraps other
  same_wraps store world None other e = sym (ap kind_wraps e)
  same_wraps store world (Some kind1) other e = sym (ap kind_wraps e)

  goes_along : (c : CalcState) (s : PiledState) → Does c s
      → Alone M N work cost R size c s ⊎ (Both M N work cost R size c s ⊎ Over M N work cost R size c s)
  goes_along c s (inl q) = inl (record {
    running = q.running;
    free = cost_made s ∙ ap made_wraps q.none;
    next = inl q.next;
    less = q.less;
  })
  goes_along c s (inr (inl a)) =
      inr (inl (record {
        first = a.first;
        second = a.second;
        same = cost_made s ∙ same_wraps s.store s.world (kind s) (kind_of_step types c) a.same;
        next = next_related c s a;
      }))
  goes_along c s (inr (inr o)) =
      inr (inr (record { ending = o.ending; first = o.first; second = o.second }))

  lockstep : Lockstep M N work cost R size
  lockstep = record { alike = alike; does = λ c s r. goes_along c s (does c s r) }

  -- the two runs, with the number of wrap steps so far
  abbrev pub calc_run : Term → List ℕ → Run (Metered CalcState) Verdict
  calc_run term input =
      reduction_run (paid M N work cost R size)
      (unspent (state_of term [] (record { output = []; input = input; place = 0 })))

  abbrev pub piled_run : RowTerm → List ℕ → Run (Metered PiledState) Verdict
  piled_run term input = reduction_run (charged M N work cost R size) (unspent (run_start term input))

  pub piled_follows : (term : RowTerm) (input : List ℕ) → Good (start (core_of rows term) input)
      → NeverWrong (calc_run (core_of rows term) input)
      → FollowsBy SpendSame Any (piled_run term input) (calc_run (core_of rows term) input)
  piled_follows term input fine nw =
      lockstep_follows M N work cost R size lockstep (start (core_of rows term) input) (run_start term input)
      (begin_related term input fine) nw

-- The procedures simulate the run with environments, in every mode, and what they count is bounded.
use Rattle.std.proofs.Common.{◌≡◌, inl, inr, ℕ, suc, ◌+◌, ◌*◌, ◌≤◌, Bool}
use Rattle.std.proofs.Common.{true}
use Rattle.std.proofs.Common.{false, List, [], ◌∷◌, length, Option, Some, None}
use Rattle.std.proofs.Common.{option_map}
use Rattle.std.proofs.Common.{refl, sym, ap, ap₂, ◌∙◌, subst, arith, le_refl, if◌then◌else◌}
use Rattle.run_laws.specs.Runs.{Ending, Any, Wrong, Exhausted, Verdict as EndsWith}
use Rattle.run_laws.specs.Machines.{Next, Go, Stop, Machine, Alike, UnlessWrong, Does}
use Rattle.run_laws.specs.Machines.{Simulation}
use Rattle.run_laws.specs.Reductions.{machine_of, go_or_stop}
use Rattle.run_laws.proofs.Public.{by_step}
use Rattle.grift_base.specs.World.{WorldState}
use Rattle.grift_base.specs.declared.verdicts.Verdict.{Verdict}
use Rattle.grift_base.specs.declared.verdicts.Verdict.TheVariants.{Answer as AnswerVerdict}
use Rattle.core_calc.specs.Calculus.{CalcEnd, Answered, NoStep}
use Rattle.cast_modes.specs.Modes.{Mode}
use Rattle.cast_modes.specs.RunValues.{shown}
use Rattle.cast_modes.specs.ValueSteps.{Own, Return, Entering}
use Rattle.cast_modes.specs.ValueSteps.{On}
use Rattle.cast_modes.specs.AnswerTypes.{Told}
use Rattle.cast_modes.specs.Counting.{Counted, Counts}
use Rattle.coer_core.specs.Machine.{CoerValue, CoerStore}
use Rattle.coer_core.specs.Machine.{CoerFrame, CoerFocus, CoerAfter}
use Rattle.coer_core.specs.Machine.{Eval}
use Rattle.coer_core.specs.Machine.{turn, RunState, ended_at, state_at, after_turn}
use Rattle.coer_core.specs.Machine.{ending_at}
use Rattle.coer_core.specs.Counts.{turn_words}
use Rattle.coer_core.specs.Counts.{turn_wraps}
use Rattle.coer_core.specs.Counts.{counting}
use Rattle.flat_ir.specs.Bodies.{Proc}
use Rattle.flat_ir.specs.Machine.{FlatStore, FlatFrame, FlatFocus, FlatAfter}
use Rattle.flat_ir.specs.Machine.{flat_turn}
use Rattle.flat_ir.specs.Machine.{FlatState, answer_at, flat_state_at, after_flat}
use Rattle.flat_ir.specs.Counts.{flat_turn_words, flat_turn_wraps}
use Rattle.flat_ir.specs.Counts.{flat_counting}
use Rattle.closure_convert.specs.Bounds.{CountsKept}
use Rattle.closure_convert.proofs.Relation.{Cells}
use Rattle.closure_convert.proofs.Relation.{FocusOn}
use Rattle.closure_convert.proofs.Agreeing.{same_shown, same_fits}
use Rattle.core_calc.specs.Account.{StepKind}
use Rattle.coer_core.specs.Tally.{kind_acts}
use Rattle.cast_modes.specs.Prices.{no_cost, Prices}
use Rattle.closure_convert.proofs.Moves.{measure, no_more_frames, Over, Pair, left_on, Moves, each_turn}

abbrev pub size : {C : Type 0} → Counted (RunState C) → ℕ
size m = measure m.state.ended m.state.focus m.state.frames

plus_none : (n : ℕ) → n + 0 ≡ n
plus_none n = omega arith

unless : {V : Type 0} {P : Type 0} (e : Ending V) → P → UnlessWrong e P
unless (EndsWith v) p = p
unless Exhausted p = p
unless Wrong p = tt

-- what turns cost doesn't matter here
plain_prices : (C : Type 0) → Prices StepKind C
plain_prices C = record {
  cast = λ cast shape. no_cost;
  part = no_cost;
  other = λ kind made functions. record { acts = kind_acts kind; asks = 0; budget = 0 };
}

plain_act : (C : Type 0) (kind : StepKind) (a b : ℕ) → ((plain_prices C).other (Some kind) a b).acts ≡ 1
unfolding plain_prices
plain_act C kind a b = refl

-- ---- states that go together, with what was counted

abbrev so_far : {S : Type 0} → ℕ → ℕ → ℕ → S → Counted S
so_far words turns wraps s = record { words = words; turns = turns; wraps = wraps; state = s }

module _ {C : Type 0} (procs : List Proc) (mode : Mode C) (told : Told) where
  abbrev pub M : Machine (Counted (RunState C)) Counts Verdict
  M = machine_of (counting mode told)

  abbrev pub N : Machine (Counted (FlatState C)) Counts Verdict
  N = machine_of (flat_counting procs mode told)

  abbrev pub Goes : Counted (RunState C) → Counted (FlatState C) → Type 0
  Goes m n =
      (n.wraps ≡ m.wraps) × (n.words ≤ m.words) × (n.turns ≤ 2 * m.turns) × Pair procs mode told m.state n.state

  abbrev Sim : Counted (RunState C) → Counted (FlatState C) → Next (Counted (RunState C)) Verdict → Type 0
  Sim m n x = Does CountsKept Any M N Goes size m n x

  -- the step of the procedures
  step_is : (cells : FlatStore C) (world : WorldState) (w1 t1 z : ℕ) (g : FlatFocus C) (others : List (FlatFrame C))
      (y : FlatAfter C) → answer_at procs told g others ≡ None → flat_turn procs mode cells world g others ≡ y
      → N.step (so_far w1 t1 z (flat_state_at procs told g others cells world))
      ≡ Go (so_far (w1 + flat_turn_words procs mode g others) (suc t1)
      (z + flat_turn_wraps procs mode g others)
      (after_flat procs told (flat_state_at procs told g others cells world) y))
  step_is cells world w1 t1 z g others y none e =
      let s = flat_state_at procs told g others cells world in
      ap (λ o. go_or_stop o (flat_counting procs mode told).step (so_far w1 t1 z s)) none
      ∙ ap (λ y. Go (so_far (w1 + flat_turn_words procs mode g others) (suc t1)
      (z + flat_turn_wraps procs mode g others) (after_flat procs told s y))) e

  -- with these words, turns and wrap steps of the first so far, and these words of the second
  module _ (store : CoerStore C) (world : WorldState) (cells : FlatStore C) (held : Cells procs mode store cells)
      (w t z w1 : ℕ) (few : w1 ≤ w) where
    abbrev S : CoerFocus C → List (CoerFrame C) → RunState C
    S focus k = state_at focus k store world

    abbrev T : FlatFocus C → List (FlatFrame C) → FlatState C
    T g others = flat_state_at procs told g others cells world

    abbrev SimAt : ℕ → CoerFocus C → List (CoerFrame C) → FlatFocus C → List (FlatFrame C) → CoerAfter C → Type 0
    SimAt t1 focus k g others x =
        Sim (so_far w t z (S focus k)) (so_far w1 t1 z (T g others))
        (Go (so_far (w + turn_words mode focus k) (suc t) (z + turn_wraps mode focus k) (after_turn (S focus k) x)))

    like : (t1 : ℕ) → t1 ≤ 2 * t + 1 → (focus : CoerFocus C) (k : List (CoerFrame C)) (g : FlatFocus C)
        (others : List (FlatFrame C)) → length others ≤ length k
        → Alike CountsKept M N (so_far w t z (S focus k)) (so_far w1 t1 z (T g others))
    like t1 soon focus k g others fr =
        record { output = refl; shown = record { wraps = refl; words = few; turns = soon; frames = fr } }

    abbrev Makes : Bool → ℕ → CoerFocus C → List (CoerFrame C) → FlatFocus C → List (FlatFrame C) → CoerAfter C → Type 0
    Makes once p focus k g others x =
        Moves procs mode told (plain_prices C) (plain_act C) store world cells held once p focus k g others x

    -- they make no turn, or one
    counts_once : (t1 p : ℕ) → t1 ≤ 2 * t + 1 → (focus : CoerFocus C) (k : List (CoerFrame C)) (g : FlatFocus C)
        (others : List (FlatFrame C)) (x : CoerAfter C) → Makes true p focus k g others x → SimAt t1 focus k g others x
    counts_once t1 p soon focus k g others x (inl m) =
        let free = m.free in
        (0, inr m.less, (omega (arith, free), omega (arith, few), omega (arith, soon), m.related))
    counts_once t1 p soon focus k g others x (inr (inl m)) = (
      1,
      inl (omega arith),
      by_step N _ _ 0 (so_far w1 t1 z (T g others)) (Go (so_far
          (w1 + flat_turn_words procs mode g others) (suc t1) (z + flat_turn_wraps procs mode g others)
          (after_flat procs told (T g others) m.y))) (step_is cells world w1 t1 z g others m.y m.none m.turn) (
            inl (like t1 soon focus k g others m.frames),
            tt,
          )
          (ap (λ n. z + n) m.wraps, (let asked = m.words in omega (arith, asked, few)), omega (arith, soon), m.related),
    )
    counts_once t1 p soon focus k g others x (inr (inr m)) = absurd m

    -- or also two
    counts_moves : (t1 p : ℕ) → t1 ≤ 2 * t → (focus : CoerFocus C) (k : List (CoerFrame C)) (g : FlatFocus C)
        (others : List (FlatFrame C)) (x : CoerAfter C) → Makes false p focus k g others x → SimAt t1 focus k g others x
    counts_moves t1 p start focus k g others x (inl m) =
        counts_once t1 p (omega (arith, start)) focus k g others x (inl m)
    counts_moves t1 p start focus k g others x (inr (inl m)) =
        counts_once t1 p (omega (arith, start)) focus k g others x (inr (inl m))
    counts_moves t1 p start focus k g others x (inr (inr (inl m))) =
        let a = flat_turn_words procs mode g others in
        let b = flat_turn_words procs mode m.g1 others in
        let q = flat_turn_wraps procs mode g others in
        let r = flat_turn_wraps procs mode m.g1 others in
        let mid = so_far (w1 + a) (suc t1) (z + q) (T m.g1 others) in
        let last = so_far (w1 + a + b) (suc (suc t1)) (z + q + r) (T (Return m.u) others) in
        let asked = m.words in
        let none_more = m.words1 in
        let free = m.free in
        let free1 = m.free1 in
        let calm = m.calm in (
          2,
          inl (omega arith),
          by_step N _ _ 1 (so_far w1 t1 z (T g others)) (Go mid)
              (step_is cells world w1 t1 z g others (On m.g1 others cells world) m.none m.turn)
              (inl (like t1 (omega (arith, start)) focus k g others m.frames), tt)
              (by_step N _ _ 0 mid (Go last)
              (step_is cells world (w1 + a) (suc t1) (z + q) m.g1 others (On (Return m.u) others cells world) m.none1
              m.turn1) (
                inr (record {
                  output = sym m.output;
                  shown = record {
                    wraps = omega (arith, free, calm);
                    words = omega (arith, asked, few);
                    turns = omega (arith, start);
                    frames = m.later_frames;
                  };
                }),
                tt,
              ) (
                omega (arith, free, free1, calm),
                omega (arith, asked, few, none_more),
                omega (arith, start),
                m.related,
              )),
        )
    counts_moves t1 p start focus k g others x (inr (inr (inr m))) =
        let sim = counts_once (suc t1) p (omega (arith, start)) focus k m.g1 m.others1 x m.next in
        let a = flat_turn_words procs mode g others in
        let q = flat_turn_wraps procs mode g others in
        let plain : Go (so_far (w1 + a) (suc t1) (z + q) (T m.g1 m.others1))
        ≡ Go (so_far w1 (suc t1) z (T m.g1 m.others1)) =
        ap₂ (λ a b. Go (so_far a (suc t1) b (T m.g1 m.others1)))
        (ap (λ n. w1 + n) m.words ∙ plus_none w1) (ap (λ n. z + n) m.wraps ∙ plus_none z) in (
          suc sim.0,
          inl (omega arith),
          by_step N _ _ sim.0 (so_far w1 t1 z (T g others))
              (Go (so_far w1 (suc t1) z (T m.g1 m.others1)))
              (step_is cells world w1 t1 z g others (On m.g1 m.others1 cells world) m.none m.turn ∙ plain)
              (inl (like t1 (omega (arith, start)) focus k g others m.frames), tt) sim.2,
        )

    module _ (t1 : ℕ) (start : t1 ≤ 2 * t) where
      turn_on : (focus : CoerFocus C) (k : List (CoerFrame C)) (g : FlatFocus C) (others : List (FlatFrame C))
          → ended_at focus k ≡ None → FocusOn procs mode focus k g others
          → SimAt t1 focus k g others (turn mode store world focus k)
      turn_on focus k g others live on =
          let p = left_on procs mode told focus k g others on in
          counts_moves t1 p start focus k g others (turn mode store world focus k)
          (each_turn procs mode told (plain_prices C) (plain_act C) store world cells held p focus k g others live on
          (le_refl p))

      -- the answer
      ends : (v : CoerValue C) (g : FlatFocus C) (others : List (FlatFrame C))
          → FocusOn procs mode (Return v) [] g others
          → Sim (so_far w t z (S (Return v) [])) (so_far w1 t1 z (T g others))
          (Stop (ending_at told (Answered (shown v)) (Return v)) (so_far w t z (S (Return v) [])))
      ends v g [] (inl h) =
          let i = h.0 in
          let s = so_far w t z (S (Return v) []) in
          let t2 = so_far w1 t1 z (T (Return i.u) []) in
          let step : N.step t2 ≡ Stop (ending_at told (Answered (shown v)) (Return v)) t2 =
          ap₂ (λ b a. Stop (if b then EndsWith (AnswerVerdict a) else Wrong) t2)
          (sym (same_fits procs told.types told.answer v i.u i.carries)) (sym (same_shown procs v i.u i.carries)) in
          let a = like t1 (omega (arith, start)) (Return v) [] (Return i.u) [] (omega arith) in
          subst (λ x. Sim s (so_far w1 t1 z (T x [])) (Stop (ending_at told (Answered (shown v)) (Return v)) s))
          (sym i.gives) (unless (ending_at told (Answered (shown v)) (Return v)) (0, ((inl a, tt), (t2, step, a, tt))))
      ends v g (other ∷ others) (inl h) = absurd h.1
      ends v g others (inr h) = absurd h

  -- ---- the simulation

  by_ending : (m : Counted (RunState C)) (n : Counted (FlatState C)) (o : Option CalcEnd) → m.state.ended ≡ o
      → Sim m n (go_or_stop (option_map (λ e. ending_at told e m.state.focus) o) (counting mode told).step m)
      → Sim m n (M.step m)
  by_ending m n o e sim =
      subst (λ x. Sim m n (go_or_stop (option_map (λ e. ending_at told e m.state.focus) x) (counting mode told).step m))
      (sym e) sim

  -- which states they are
  Sources : ℕ → ℕ → ℕ → ℕ → ℕ → RunState C → FlatState C → Type 0
  Sources w t z w1 t1 s u = Sim (so_far w t z s) (so_far w1 t1 z u) (M.step (so_far w t z s))

  live_at : (focus : CoerFocus C) (k : List (CoerFrame C)) (store : CoerStore C) (world : WorldState)
      (g : FlatFocus C) (others : List (FlatFrame C)) (cells : FlatStore C) (w t z w1 t1 : ℕ) → w1 ≤ w → t1 ≤ 2 * t
      → Cells procs mode store cells → FocusOn procs mode focus k g others
      → Sources w t z w1 t1 (state_at focus k store world) (flat_state_at procs told g others cells world)
  unfolding Sources
  live_at (Own (Eval term env)) k store world g others cells w t z w1 t1 few start held on =
      turn_on store world cells held w t z w1 few t1 start (Own (Eval term env)) k g others refl on
  live_at (Return v) [] store world g others cells w t z w1 t1 few start held on =
      ends store world cells held w t z w1 few t1 start v g others on
  live_at (Return v) (frame ∷ k) store world g others cells w t z w1 t1 few start held on =
      turn_on store world cells held w t z w1 few t1 start (Return v) (frame ∷ k) g others refl on
  live_at (Entering f done todo) k store world g others cells w t z w1 t1 few start held on =
      turn_on store world cells held w t z w1 few t1 start (Entering f done todo) k g others refl on

  over_does : (s : RunState C) (u : FlatState C) (w t z w1 t1 : ℕ) → w1 ≤ w → t1 ≤ 2 * t → Over procs mode told s u
      → Sources w t z w1 t1 s u
  unfolding Sources
  over_does s u w t z w1 t1 few start o =
      let m = so_far w t z s in
      let n = so_far w1 t1 z u in
      let a : Alike CountsKept M N m n = record {
        output = o.output;
        shown = record { wraps = refl; words = few; turns = omega (arith, start); frames = o.frames };
      } in
      let step : N.step n ≡ Stop (ending_at told o.e s.focus) n =
      ap (λ x. go_or_stop x (flat_counting procs mode told).step n) o.other in
      by_ending m n (Some o.e) o.ended (unless (ending_at told o.e s.focus) (0, ((inl a, tt), (n, step, a, tt))))

  does : (s : RunState C) (u : FlatState C) (w t z w1 t1 : ℕ) → w1 ≤ w → t1 ≤ 2 * t → Pair procs mode told s u
      → Sources w t z w1 t1 s u
  unfolding Sources
  does s u w t z w1 t1 few start (inl h) =
      let same : s ≡ state_at s.focus s.frames s.store s.world = ap (λ e. record {
        focus = s.focus;
        frames = s.frames;
        store = s.store;
        world = s.world;
        ended = e;
      }) h.ended in
      let same1 : u ≡ flat_state_at procs told u.focus u.frames u.store s.world = ap₂ (λ e x. record {
        focus = u.focus;
        frames = u.frames;
        store = u.store;
        world = x;
        ended = e;
      }) h.other h.world in
      subst (λ x. Sources w t z w1 t1 x u) (sym same)
      (subst (λ y. Sources w t z w1 t1 (state_at s.focus s.frames s.store s.world) y) (sym same1)
      (live_at s.focus s.frames s.store s.world u.focus u.frames u.store w t z w1 t1 few start h.cells h.on))
  does s u w t z w1 t1 few start (inr (inl h)) = over_does s u w t z w1 t1 few start h
  does s u w t z w1 t1 few start (inr (inr h)) =
      by_ending (so_far w t z s) (so_far w1 t1 z u) (Some NoStep) h.ended tt

  pub same_output : (s : RunState C) (u : FlatState C) → Pair procs mode told s u → u.world.output ≡ s.world.output
  same_output s u (inl h) = ap (λ x. x.output) h.world
  same_output s u (inr (inl h)) = h.output
  same_output s u (inr (inr h)) = h.output

  pub no_more : (s : RunState C) (u : FlatState C) → Pair procs mode told s u → length u.frames ≤ length s.frames
  no_more s u (inl h) = no_more_frames procs mode s.focus s.frames u.focus u.frames h.on
  no_more s u (inr (inl h)) = h.frames
  no_more s u (inr (inr h)) = h.frames

  pub simulation : Simulation CountsKept Any M N Goes size
  unfolding Sources
  simulation = record {
    alike = λ m n r. (
      record {
        output = same_output m.state n.state r.3;
        shown = record {
          wraps = r.0;
          words = r.1;
          turns = (let x = r.2 in omega (arith, x));
          frames = no_more m.state n.state r.3;
        };
      },
      tt,
    );
    does = λ m n r. subst (λ x. Sim m (so_far n.words n.turns x n.state) (M.step m)) (sym r.0)
        (does m.state n.state m.words m.turns m.wraps n.words n.turns r.1 r.2 r.3);
    still_allowed = λ b s l. tt;
  }

-- The run of the procedures keeps within the account of the term's run, in every mode.
use Rattle.std.proofs.Common.{◌≡◌, ◌⊎◌, inl, inr, ℕ, ◌+◌, ◌*◌, ◌≤◌, false, List, [], ◌∷◌, length}
use Rattle.std.proofs.Common.{Option, Some, None, option_map, refl, sym, ap, ap₂, ◌∙◌, subst, arith, le_refl}
use Rattle.std.proofs.Common.{if◌then◌else◌}
use Rattle.run_laws.specs.Runs.{Wrong, Verdict as EndsWith, NeverWrong}
use Rattle.run_laws.specs.Accounts.{FollowsWithin}
use Rattle.run_laws.specs.Reductions.{Reduction, moment_at, unless_ended, reduction_run}
use Rattle.run_laws.proofs.Public.{goes_within_after, goes_within_later, rounds_follow_within}
use Rattle.grift_base.specs.World.{WorldState}
use Rattle.grift_base.specs.declared.verdicts.Verdict.{Verdict}
use Rattle.grift_base.specs.declared.verdicts.Verdict.TheVariants.{Answer as AnswerVerdict}
use Rattle.core_calc.specs.Redex.{where_some}
use Rattle.core_calc.specs.Account.{StepKind}
use Rattle.core_calc.specs.Calculus.{CalcEnd, Answered, NoStep}
use Rattle.cast_modes.specs.Modes.{Mode}
use Rattle.cast_modes.specs.RunValues.{shown}
use Rattle.cast_modes.specs.ValueSteps.{Own, Return, Entering, On}
use Rattle.cast_modes.specs.AnswerTypes.{Told}
use Rattle.coer_core.specs.Machine.{CoerValue, CoerStore, CoerFrame, CoerFocus, CoerAfter, Eval, turn, RunState}
use Rattle.coer_core.specs.Machine.{ended_at, state_at, after_turn, ending_at, running}
use Rattle.coer_core.specs.Tally.{Tally, Tallied}
use Rattle.flat_ir.specs.Bodies.{Proc}
use Rattle.flat_ir.specs.Machine.{FlatStore, FlatFrame, FlatFocus, FlatAfter, FlatState, flat_turn, answer_at}
use Rattle.flat_ir.specs.Machine.{flat_state_at, after_flat, flat_running}
use Rattle.flat_ir.specs.FlatTally.{flat_cost, flat_atoms, FlatTally, FlatTallied, flat_tallying}
use Rattle.cast_modes.specs.Prices.{Cost, Prices}
use Rattle.closure_convert.specs.KeptTallies.{KeepsTally, PaysTally}
use Rattle.closure_convert.proofs.Relation.{Cells, FocusOn}
use Rattle.closure_convert.proofs.Agreeing.{same_shown, same_fits}
use Rattle.closure_convert.proofs.Moves.{measure, coer_cost, no_more_frames, Live, Pair, left, left_on}
use Rattle.closure_convert.proofs.Moves.{size_of}
use Rattle.closure_convert.proofs.Moves.{Stays, Steps, Moves, each_turn}

-- a run of the term whose turns cost so much
pub record Tallies {C : Type 0} (mode : Mode C) (told : Told) (prices : Prices StepKind C)
    (M : Reduction (Tallied C) Tally Verdict) : Type 0 where
  pub ending : (s : Tallied C) → M.ending s ≡ (running mode told).ending s.state
  pub output : (s : Tallied C) → M.output s ≡ s.state.world.output
  pub state : (s : Tallied C) → (M.step s).state ≡ (running mode told).step s.state
  pub acts : (s : Tallied C) → (M.step s).acts ≡ s.acts + (coer_cost mode prices s.state.focus s.state.frames).acts
  pub words : (s : Tallied C) → (M.step s).words ≡ s.words + (coer_cost mode prices s.state.focus s.state.frames).asks
  pub paid : (s : Tallied C) → (M.step s).paid ≡ s.paid + (coer_cost mode prices s.state.focus s.state.frames).budget
  pub shown_acts : (s : Tallied C) → (M.shown s).acts ≡ s.acts
  pub shown_words : (s : Tallied C) → (M.shown s).words ≡ s.words
  pub shown_asks : (s : Tallied C)
      → (M.shown s).asks ≡ where_some s.state.ended 0 (coer_cost mode prices s.state.focus s.state.frames).asks
  pub shown_frames : (s : Tallied C) → (M.shown s).frames ≡ length s.state.frames
  pub shown_paid : (s : Tallied C) → (M.shown s).paid ≡ s.paid

where_none : {A : Type 0} (o : Option A) (a : ℕ) → o ≡ None → where_some o 0 a ≡ a
where_none None a e = refl
where_none (Some x) a e = absurd (cc e)

where_ended : {A : Type 0} (o : Option A) (x : A) (a : ℕ) → o ≡ Some x → where_some o 0 a ≡ 0
where_ended None x a e = absurd (cc e)
where_ended (Some y) x a e = refl

-- ---- what rounds are, as the law of `run_laws` on them has it

abbrev result_of : {A B : Type 0} → (A → B) → Type 0
result_of {B = B} f = B

abbrev middle_of : {A B D E : Type 0} → (A × B × D → E) → Type 0
middle_of {B = B} f = B

module _ {C : Type 0} (procs : List Proc) (mode : Mode C) (told : Told) (prices : Prices StepKind C)
    (act : (kind : StepKind) (a b : ℕ) → (prices.other (Some kind) a b).acts ≡ 1)
    (M : Reduction (Tallied C) Tally Verdict) (tallies : Tallies mode told prices M) where
  abbrev pub N : Reduction (FlatTallied C) FlatTally Verdict
  N = flat_tallying procs mode prices told

  -- states that go together, with what was added up
  pub record Related (n : ℕ) (s : Tallied C) (t : FlatTallied C) : Type 0 where
    pub state : RunState C
    pub is : s.state ≡ state
    pub flat : FlatState C
    pub flat_is : t.state ≡ flat
    pub index : size_of procs mode told state ≡ n
    pub pair : Pair procs mode told state flat
    pub words : t.words ≤ s.words
    pub acts : t.acts ≤ s.acts
    pub atoms : t.atoms + left procs mode told pair ≤ s.acts + 1
    pub paid : t.paid ≤ s.paid + 64 * t.atoms

  abbrev GoesOn : ℕ → Tallied C → FlatTallied C → Type 0
  GoesOn n s t = result_of (goes_within_after M N KeepsTally PaysTally Related n 0 s s t refl)

  abbrev MetAt : FlatTallied C → Tallied C → Type 0
  MetAt t x = middle_of (goes_within_after M N KeepsTally PaysTally Related 0 1 x (M.step x) t)

  abbrev SeenAt : Tallied C → FlatTallied C → Type 0
  SeenAt s y = middle_of (goes_within_later M N KeepsTally PaysTally Related 0 1 s y (N.step y))

  module _ (store : CoerStore C) (world : WorldState) (cells : FlatStore C) (held : Cells procs mode store cells)
      (focus : CoerFocus C) (k : List (CoerFrame C)) (live : ended_at focus k ≡ None) (s : Tallied C)
      (e : s.state ≡ state_at focus k store world) where
    abbrev S : RunState C
    S = state_at focus k store world

    abbrev T : FlatFocus C → List (FlatFrame C) → FlatState C
    T g others = flat_state_at procs told g others cells world

    abbrev x : CoerAfter C
    x = turn mode store world focus k

    abbrev c : Cost
    c = coer_cost mode prices focus k

    runs : M.ending s ≡ None
    runs =
        tallies.ending s ∙ (ap (λ z. option_map (λ end. ending_at told end z.focus) z.ended) e
        ∙ ap (option_map (λ end. ending_at told end focus)) live)

    next_state : (M.step s).state ≡ after_turn S x
    next_state = tallies.state s ∙ ap (running mode told).step e

    next_acts : (M.step s).acts ≡ s.acts + c.acts
    next_acts = tallies.acts s ∙ ap (λ z. s.acts + (coer_cost mode prices z.focus z.frames).acts) e

    next_words : (M.step s).words ≡ s.words + c.asks
    next_words = tallies.words s ∙ ap (λ z. s.words + (coer_cost mode prices z.focus z.frames).asks) e

    next_paid : (M.step s).paid ≡ s.paid + c.budget
    next_paid = tallies.paid s ∙ ap (λ z. s.paid + (coer_cost mode prices z.focus z.frames).budget) e

    shown_asks : (M.shown s).asks ≡ c.asks
    shown_asks =
        tallies.shown_asks s ∙ (ap (λ z. where_some z.ended 0 (coer_cost mode prices z.focus z.frames).asks) e
        ∙ where_none (ended_at focus k) c.asks live)

    shown_frames : (M.shown s).frames ≡ length k
    shown_frames = tallies.shown_frames s ∙ ap (λ z. length z.frames) e

    same_output : M.output s ≡ world.output
    same_output = tallies.output s ∙ ap (λ z. z.world.output) e

    -- a state of the procedures, with what was added up
    module _ (t : FlatTallied C) (g : FlatFocus C) (others : List (FlatFrame C)) (e1 : t.state ≡ T g others) where
      abbrev d : Cost
      d = flat_cost procs mode prices g others

      going : answer_at procs told g others ≡ None → N.ending t ≡ None
      going none = ap (λ z. z.ended) e1 ∙ none

      flat_next : (y : FlatAfter C) → flat_turn procs mode cells world g others ≡ y
          → (N.step t).state ≡ after_flat procs told (T g others) y
      flat_next y turns = ap (flat_running procs mode told).step e1 ∙ ap (after_flat procs told (T g others)) turns

      flat_acts : (N.step t).acts ≡ t.acts + d.acts
      flat_acts = ap (λ z. t.acts + (flat_cost procs mode prices z.focus z.frames).acts) e1

      flat_more : (N.step t).atoms ≡ t.atoms + flat_atoms g
      flat_more = ap (λ z. t.atoms + flat_atoms z.focus) e1

      flat_words : (N.step t).words ≡ t.words + d.asks
      flat_words = ap (λ z. t.words + (flat_cost procs mode prices z.focus z.frames).asks) e1

      flat_paid : (N.step t).paid ≡ t.paid + d.budget + 64 * flat_atoms g
      flat_paid =
          ap (λ z. t.paid + (flat_cost procs mode prices z.focus z.frames).budget + 64 * flat_atoms z.focus) e1

      flat_asks : answer_at procs told g others ≡ None → (N.shown t).asks ≡ d.asks
      flat_asks none =
          ap (λ z. where_some z.ended 0 (flat_cost procs mode prices z.focus z.frames).asks) e1
          ∙ where_none (answer_at procs told g others) d.asks none

      flat_frames : (N.shown t).frames ≡ length others
      flat_frames = ap (λ z. length z.frames) e1

      flat_output : N.output t ≡ world.output
      flat_output = ap (λ z. z.world.output) e1

      -- what was added up so far, with so many names or constants to be charged to what was before
      module _ (n p : ℕ) (index : size_of procs mode told S ≡ n) (few : t.words ≤ s.words) (less : t.acts ≤ s.acts)
          (charged : t.atoms + p ≤ s.acts + 1) (pays : t.paid ≤ s.paid + 64 * t.atoms) where
        met : MetAt t s
        met =
            let a = tallies.shown_acts s in
            let b = tallies.shown_paid s in
            record { at = 0; output = flat_output ∙ sym same_output; allowed = omega (arith, a, b, charged, pays) }

        seen : answer_at procs told g others ≡ None → length others ≤ length k → d.asks ≤ c.asks → SeenAt s t
        seen none frames asks =
            let a = tallies.shown_acts s in
            let w = tallies.shown_words s in
            let q = shown_asks in
            let f = shown_frames in
            let r = flat_asks none in
            let h = flat_frames in
            record {
              at = 0;
              output = flat_output ∙ sym same_output;
              shown = record {
                acts = omega (arith, a, less);
                atoms = omega (arith, a, charged);
                reach = omega (arith, w, q, r, few, asks);
                asks = omega (arith, q, r, asks);
                frames = omega (arith, f, h, frames);
              };
            }

        -- the procedures make no turn, or one
        once : Stays procs mode told prices act store world cells held p focus k g others x
            ⊎ (Steps procs mode told prices act store world cells held p focus k g others x ⊎ ⊥) → GoesOn n s t
        once (inl m) =
            let le = m.less in
            let a = next_acts in
            let w = next_words in
            let b = next_paid in
            let o = m.atoms in
            inl (record {
              ways = record {
                first_steps = 1;
                second_steps = 0;
                s' = M.step s;
                t' = t;
                first = (runs, met, refl);
                second = refl;
              };
              left = size_of procs mode told (after_turn S x);
              related = record {
                state = after_turn S x;
                is = next_state;
                flat = T g others;
                flat_is = e1;
                index = refl;
                pair = m.related;
                words = omega (arith, w, few);
                acts = omega (arith, a, less);
                atoms = omega (arith, a, o, charged);
                paid = omega (arith, b, pays);
              };
              first_moves = inl (omega arith);
              second_moves = inr (omega (arith, le, index));
            })
        once (inr (inl m)) =
            let a = next_acts in
            let w = next_words in
            let b = next_paid in
            let a1 = flat_acts in
            let w1 = flat_words in
            let b1 = flat_paid in
            let h1 = flat_more in
            let o = m.atoms in
            let less_acts = m.pays.acts in
            let less_asks = m.pays.asks in
            let less_paid = m.pays.budget in
            inl (record {
              ways = record {
                first_steps = 1;
                second_steps = 1;
                s' = M.step s;
                t' = N.step t;
                first = (runs, met, refl);
                second = (going m.none, seen m.none m.frames m.pays.asks, refl);
              };
              left = size_of procs mode told (after_turn S x);
              related = record {
                state = after_turn S x;
                is = next_state;
                flat = after_flat procs told (T g others) m.y;
                flat_is = flat_next m.y m.turn;
                index = refl;
                pair = m.related;
                words = omega (arith, w, w1, few, less_asks);
                acts = omega (arith, a, a1, less, less_acts);
                atoms = omega (arith, a, h1, o, charged);
                paid = omega (arith, b, b1, h1, pays, less_paid);
              };
              first_moves = inl (omega arith);
              second_moves = inl (omega arith);
            })
        once (inr (inr m)) = absurd m

    -- the first's next moment
    after_one : reduction_run M s 1 ≡ moment_at M (M.step s)
    after_one = ap (λ o. moment_at M (unless_ended o M.step s)) runs

    module _ (t : FlatTallied C) (g : FlatFocus C) (others : List (FlatFrame C)) (e1 : t.state ≡ T g others)
        (n p : ℕ) (index : size_of procs mode told S ≡ n) (few : t.words ≤ s.words) (less : t.acts ≤ s.acts)
        (charged : t.atoms + p ≤ s.acts + 1) (pays : t.paid ≤ s.paid + 64 * t.atoms) where
      -- or also two
      moves : Moves procs mode told prices act store world cells held false p focus k g others x → GoesOn n s t
      moves (inl m) = once t g others e1 n p index few less charged pays (inl m)
      moves (inr (inl m)) = once t g others e1 n p index few less charged pays (inr (inl m))
      moves (inr (inr (inl m))) =
          let t1 = N.step t in
          let e2 : t1.state ≡ T m.g1 others = flat_next t g others e1 (On m.g1 others cells world) m.turn in
          let a = next_acts in
          let w = next_words in
          let b = next_paid in
          let a1 = flat_acts t g others e1 in
          let w1 = flat_words t g others e1 in
          let b1 = flat_paid t g others e1 in
          let h1 = flat_more t g others e1 in
          let a2 = flat_acts t1 m.g1 others e2 in
          let w2 = flat_words t1 m.g1 others e2 in
          let b2 = flat_paid t1 m.g1 others e2 in
          let h2 = flat_more t1 m.g1 others e2 in
          let none_acts = ap (λ (z : Cost). z.acts) m.pays1 in
          let none_asks = ap (λ (z : Cost). z.asks) m.pays1 in
          let none_paid = ap (λ (z : Cost). z.budget) m.pays1 in
          let o = m.atoms in
          let less_acts = m.pays.acts in
          let less_asks = m.pays.asks in
          let less_paid = m.pays.budget in
          let sa = tallies.shown_acts (M.step s) in
          let sw = tallies.shown_words (M.step s) in
          let sf = tallies.shown_frames (M.step s) ∙ ap (λ (z : RunState C). length z.frames) next_state in
          let r2 = flat_asks t1 m.g1 others e2 m.none1 in
          let f2 = flat_frames t1 m.g1 others e2 in
          let lf = m.later_frames in
          let seen1 : SeenAt s t1 = record {
            at = 1;
            output = flat_output t1 m.g1 others e2 ∙ (sym m.output ∙ (sym (ap (λ (z : RunState C). z.world.output)
                next_state) ∙ (sym (tallies.output (M.step s)) ∙ sym (ap (λ z. z.output) after_one))));
            shown = subst (λ z. KeepsTally (N.shown t1) z.shown) (sym after_one) (record {
              acts = omega (arith, sa, a, a1, less, less_acts);
              atoms = omega (arith, sa, a, h1, o, charged);
              reach = omega (arith, sw, w, w1, r2, none_asks, few, less_asks);
              asks = omega (arith, r2, none_asks);
              frames = omega (arith, sf, f2, lf);
            });
          } in
          inl (record {
            ways = record {
              first_steps = 1;
              second_steps = 2;
              s' = M.step s;
              t' = N.step t1;
              first = (runs, met t g others e1 n p index few less charged pays, refl);
              second = (
                going t g others e1 m.none,
                seen t g others e1 n p index few less charged pays m.none m.frames m.pays.asks,
                (going t1 m.g1 others e2 m.none1, seen1, refl),
              );
            };
            left = size_of procs mode told (after_turn S x);
            related = record {
              state = after_turn S x;
              is = next_state;
              flat = T (Return m.u) others;
              flat_is = flat_next t1 m.g1 others e2 (On (Return m.u) others cells world) m.turn1;
              index = refl;
              pair = m.related;
              words = omega (arith, w, w1, w2, none_asks, few, less_asks);
              acts = omega (arith, a, a1, a2, none_acts, less, less_acts);
              atoms = omega (arith, a, h1, h2, o, charged);
              paid = omega (arith, b, b1, h1, b2, h2, none_paid, pays, less_paid);
            };
            first_moves = inl (omega arith);
            second_moves = inl (omega arith);
          })
      moves (inr (inr (inr m))) =
          let t1 = N.step t in
          let e2 : t1.state ≡ T m.g1 m.others1 = flat_next t g others e1 (On m.g1 m.others1 cells world) m.turn in
          let a1 = flat_acts t g others e1 in
          let w1 = flat_words t g others e1 in
          let b1 = flat_paid t g others e1 in
          let h1 = flat_more t g others e1 in
          let none_acts = ap (λ (z : Cost). z.acts) m.pays in
          let none_asks = ap (λ (z : Cost). z.asks) m.pays in
          let none_paid = ap (λ (z : Cost). z.budget) m.pays in
          let no_atom = m.atoms in
          goes_within_later M N KeepsTally PaysTally Related n 1 s t t1 (
            going t g others e1 m.none,
            seen t g others e1 n p index few less charged pays m.none m.frames (omega (arith, none_asks)),
            refl,
          )
          (once t1 m.g1 m.others1 e2 n p index (omega (arith, w1, none_asks, few)) (omega (arith, a1, none_acts, less))
          (omega (arith, h1, no_atom, charged)) (omega (arith, b1, h1, none_paid, no_atom, pays)) m.next)

      goes_live : (on : FocusOn procs mode focus k g others) → left_on procs mode told focus k g others on ≡ p
          → GoesOn n s t
      goes_live on e2 =
          moves (each_turn procs mode told prices act store world cells held p focus k g others live on (subst
          (λ z. left_on procs mode told focus k g others on ≤ z) e2 (le_refl _)))

  -- ---- the answer, and what has ended

  module _ (n : ℕ) (s : Tallied C) (t : FlatTallied C) (r : Related n s t) where
    -- both have ended, in the same way
    ends : (o : CalcEnd) → r.state.ended ≡ Some o → r.flat.ended ≡ Some (ending_at told o r.state.focus)
        → r.flat.world.output ≡ r.state.world.output → length r.flat.frames ≤ length r.state.frames → GoesOn n s t
    ends o e e1 out frames =
        let a = tallies.shown_acts s in
        let w = tallies.shown_words s in
        let b = tallies.shown_paid s in
        let f = tallies.shown_frames s ∙ ap (λ (z : RunState C). length z.frames) r.is in
        let f1 = ap (λ (z : FlatState C). length z.frames) r.flat_is in
        let q1 : (N.shown t).asks ≡ 0 = where_ended t.state.ended (ending_at told o r.state.focus)
        (flat_cost procs mode prices t.state.focus t.state.frames).asks (ap (λ (z : FlatState C). z.ended) r.flat_is
        ∙ e1) in
        let few = r.words in
        let less = r.acts in
        let charged = r.atoms in
        let pays = r.paid in
        let same : N.output t ≡ M.output s = ap (λ (z : FlatState C). z.world.output) r.flat_is
        ∙ (out ∙ (sym (ap (λ (z : RunState C). z.world.output) r.is) ∙ sym (tallies.output s))) in
        inr (inl (record {
          ways = record {
            first_steps = 0;
            second_steps = 0;
            s' = s;
            t' = t;
            first = refl;
            second = refl;
          };
          ending = ending_at told o r.state.focus;
          first_ends = tallies.ending s ∙ (ap (λ (z : RunState C). (running mode told).ending z) r.is
              ∙ ap (option_map (λ end. ending_at told end r.state.focus)) e);
          second_ends = ap (λ (z : FlatState C). z.ended) r.flat_is ∙ e1;
          output = same;
          shown = record {
            acts = omega (arith, a, less);
            atoms = omega (arith, a, charged);
            reach = omega (arith, w, q1, few);
            asks = omega (arith, q1);
            frames = omega (arith, f, f1, frames);
          };
          allowed = omega (arith, a, b, charged, pays);
        }))

    -- the first has gone wrong
    wrong : r.state.ended ≡ Some NoStep → GoesOn n s t
    wrong e =
        inr (inr (inl (record {
          steps = 0;
          wrong = tallies.ending s ∙ (ap (λ (z : RunState C). (running mode told).ending z) r.is
              ∙ ap (option_map (λ end. ending_at told end r.state.focus)) e);
        })))

    -- a value that nothing waits for
    answers : (v : CoerValue C) (g : FlatFocus C) (others : List (FlatFrame C)) → FocusOn procs mode (Return v) [] g
        others → answer_at procs told g others ≡ Some (ending_at told (Answered (shown v)) (Return v))
    answers v g [] (inl h) =
        let i = h.0 in
        subst (λ z. answer_at procs told z [] ≡ Some (ending_at told (Answered (shown v)) (Return v))) (sym i.gives)
        (ap₂ (λ b a. Some (if b then EndsWith (AnswerVerdict a) else Wrong))
        (sym (same_fits procs told.types told.answer v i.u i.carries)) (sym (same_shown procs v i.u i.carries)))
    answers v g (other ∷ others) (inl h) = absurd h.1
    answers v g others (inr h) = absurd h

    module _ (h : Live procs mode told r.state r.flat) (charged : left procs mode told (inl h) ≡ left procs mode told
        r.pair) where
      is_state : s.state ≡ state_at r.state.focus r.state.frames r.state.store r.state.world
      is_state = r.is ∙ ap (λ e. record {
        focus = r.state.focus;
        frames = r.state.frames;
        store = r.state.store;
        world = r.state.world;
        ended = e;
      }) h.ended

      is_flat : t.state ≡ flat_state_at procs told r.flat.focus r.flat.frames r.flat.store r.state.world
      is_flat = r.flat_is ∙ ap₂ (λ e x. record {
        focus = r.flat.focus;
        frames = r.flat.frames;
        store = r.flat.store;
        world = x;
        ended = e;
      }) h.other h.world

      by_focus : (focus : CoerFocus C) (k : List (CoerFrame C)) → r.state.focus ≡ focus → r.state.frames ≡ k
          → ended_at focus k ≡ None → GoesOn n s t
      by_focus focus k e e1 live =
          let le = r.atoms in
          goes_live r.state.store r.state.world r.flat.store h.cells r.state.focus r.state.frames
          (ap₂ (λ a b. ended_at a b) e e1 ∙ live) s is_state t r.flat.focus r.flat.frames is_flat n
          (left procs mode told (inl h))
          (ap (λ o. measure o r.state.focus r.state.frames) (sym h.ended) ∙ r.index) r.words r.acts
          (omega (arith, le, charged)) r.paid h.on refl

      live_at : (focus : CoerFocus C) (k : List (CoerFrame C)) → r.state.focus ≡ focus → r.state.frames ≡ k
          → GoesOn n s t
      live_at (Own (Eval term env)) k e e1 = by_focus (Own (Eval term env)) k e e1 refl
      live_at (Return v) (frame ∷ k) e e1 = by_focus (Return v) (frame ∷ k) e e1 refl
      live_at (Entering f done todo) k e e1 = by_focus (Entering f done todo) k e e1 refl
      live_at (Return v) [] e e1 =
          let on : FocusOn procs mode (Return v) [] r.flat.focus r.flat.frames =
          subst (λ z. FocusOn procs mode (Return v) z r.flat.focus r.flat.frames) e1
          (subst (λ z. FocusOn procs mode z r.state.frames r.flat.focus r.flat.frames) e h.on) in
          ends (Answered (shown v)) (h.ended ∙ ap₂ (λ a b. ended_at a b) e e1)
          (h.other ∙ (answers v r.flat.focus r.flat.frames on
          ∙ ap (λ z. Some (ending_at told (Answered (shown v)) z)) (sym e)))
          (ap (λ (z : WorldState). z.output) h.world)
          (no_more_frames procs mode r.state.focus r.state.frames r.flat.focus r.flat.frames h.on)

    by_pair : (pair : Pair procs mode told r.state r.flat) → left procs mode told pair ≡ left procs mode told r.pair
        → GoesOn n s t
    by_pair (inl h) e = live_at h e r.state.focus r.state.frames refl refl
    by_pair (inr (inl h)) e = ends h.e h.ended h.other h.output h.frames
    by_pair (inr (inr h)) e = wrong h.ended

  goes : (n : ℕ) (s : Tallied C) (t : FlatTallied C) → Related n s t → GoesOn n s t
  goes n s t r = by_pair n s t r r.pair refl

  -- from such states the procedures keep within the account of the term's run
  pub keeps_tally : (n : ℕ) (s : Tallied C) (t : FlatTallied C) → Related n s t → NeverWrong (reduction_run M s)
      → FollowsWithin KeepsTally PaysTally (reduction_run N t) (reduction_run M s)
  keeps_tally n s t r never = rounds_follow_within M N KeepsTally PaysTally Related goes n s t r never

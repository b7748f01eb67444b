-- Runs whose turns have prices: what they asked for so far, and what they paid. A run that counts more is such a run.
use Rattle.std.proofs.Common.{◌≡◌, ⊎_elim, ℕ, zero, suc, ◌+◌, ◌<◌, ◌≤◌, List, [], ◌∷◌, length, Option}
use Rattle.std.proofs.Common.{Some, None, refl, ap, ◌∙◌, subst, arith}
use Rattle.std.specs.Prelude.{max}
use Rattle.std.proofs.Math.Nat.{max-le, le-max_left, le-max_right}
use Rattle.std.proofs.lemmas.Bool.{cases_lt}
use Rattle.run_laws.specs.Runs.{Ending}
use Rattle.run_laws.specs.Reductions.{Reduction, unless_ended, state_after}
use Rattle.run_laws.proofs.Public.{Along, goes_within_after, goes_within_later}
use Rattle.grift_base.specs.declared.verdicts.Verdict.{Verdict}
use Rattle.core_calc.specs.Redex.{where_some}
use Rattle.core_calc.specs.Account.{Measures}
use Rattle.cast_modes.specs.Modes.{Mode}
use Rattle.cast_modes.specs.ValueSteps.{CastFrame, Return}
use Rattle.cast_modes.specs.AnswerTypes.{Told}
use Rattle.coer_core.specs.Machine.{CoerValue, CoerFrame, RunState, running}
use Rattle.coer_core.specs.Tolls.{Toll, no_toll, one_toll, both_tolls, Price, kind_price}

-- a state with what was asked for and paid so far
pub record Priced (C : Type 0) : Type 0 where
  pub words : ℕ
  pub acts : ℕ
  pub paid : ℕ
  pub state : RunState C

abbrev pub priced : {C : Type 0} → ℕ → ℕ → ℕ → RunState C → Priced C
priced words acts paid state = record { words = words; acts = acts; paid = paid; state = state }

-- what is shown of it
pub record Prices : Type 0 where
  pub words : ℕ
  pub asks : ℕ
  pub acts : ℕ
  pub frames : ℕ
  pub paid : ℕ

-- the second run needs no more storage than the first, but for a frame
pub record NoMore (second first : Prices) : Type 0 where
  pub reach : second.words + second.asks ≤ first.words + first.asks
  pub asks : second.asks ≤ first.asks
  pub frames : second.frames ≤ first.frames + 1

-- it has made no more steps, and paid no more
pub record PaysNoMore (second first : Prices) : Type 0 where
  pub acts : second.acts ≤ first.acts
  pub paid : second.paid ≤ first.paid

-- of a cast the price goes by the value and the cast
pub record ByCast {C : Type 0} (price : Price C) : Type 0 where
  pub asks : (v : CoerValue C) (cast : C) (k : List (CoerFrame C))
      → price.asks (Return v) (CastFrame cast ∷ k) ≡ price.asks (Return v) (CastFrame cast ∷ [])
  pub acts : (v : CoerValue C) (cast : C) (k : List (CoerFrame C))
      → price.acts (Return v) (CastFrame cast ∷ k) ≡ price.acts (Return v) (CastFrame cast ∷ [])
  pub budget : (v : CoerValue C) (cast : C) (k : List (CoerFrame C))
      → price.budget (Return v) (CastFrame cast ∷ k) ≡ price.budget (Return v) (CastFrame cast ∷ [])

pub kinds_by_cast : {C : Type 0} (mode : Mode C) (m : Measures) → ByCast (kind_price mode m)
kinds_by_cast mode m = record { asks = λ v cast k. refl; acts = λ v cast k. refl; budget = λ v cast k. refl }

module _ {C : Type 0} (mode : Mode C) (told : Told) (price : Price C) where
  abbrev pub asks_of : RunState C → ℕ
  asks_of s = price.asks s.focus s.frames

  abbrev pub acts_of : RunState C → ℕ
  acts_of s = price.acts s.focus s.frames

  abbrev pub budget_of : RunState C → ℕ
  budget_of s = price.budget s.focus s.frames

  abbrev pub pricing : Reduction (Priced C) Prices Verdict
  pricing = record {
    step =
        λ s. priced (s.words + asks_of s.state) (s.acts + acts_of s.state) (s.paid + budget_of s.state)
        ((running mode told).step s.state);
    ending = λ s. (running mode told).ending s.state;
    output = λ s. (running mode told).output s.state;
    shown =
        λ s. record {
          words = s.words;
          asks = where_some s.state.ended 0 (asks_of s.state);
          acts = s.acts;
          frames = length s.state.frames;
          paid = s.paid;
        };
  }

  -- ---- what some turns ask for and pay

  abbrev pub path_toll : ℕ → RunState C → Toll
  path_toll zero s = no_toll
  path_toll (suc i) s =
      both_tolls (one_toll (asks_of s) (acts_of s) (budget_of s) (length s.frames))
      (path_toll i ((running mode told).step s))

  abbrev pub turn_toll : RunState C → Toll
  turn_toll s = one_toll (asks_of s) (acts_of s) (budget_of s) (length s.frames)

  -- one turn asks for no more than all
  pub most_less : (i : ℕ) (s : RunState C) → (path_toll i s).most ≤ (path_toll i s).asks
  most_less zero s = omega arith
  most_less (suc i) s =
      let le = most_less i ((running mode told).step s) in max-le (omega arith) (omega (arith, le))

  -- of turns and then others
  pub record Joined (i n l : ℕ) (s s1 : RunState C) : Type 0 where
    pub most_first : (path_toll i s).most ≤ (path_toll l s).most
    pub most_second : (path_toll n s1).most ≤ (path_toll l s).most
    pub acts : (path_toll i s).acts + (path_toll n s1).acts ≤ (path_toll l s).acts
    pub budget : (path_toll i s).budget + (path_toll n s1).budget ≤ (path_toll l s).budget
    pub frames : (path_toll n s1).frames ≤ (path_toll l s).frames

  pub path_then : (P : RunState C → Type 0) (i n l : ℕ) (s s1 : RunState C) → Along (running mode told) P i s s1
      → l ≡ i + n → Joined i n l s s1
  path_then P zero n l s s1 a e =
      let f : n ≡ l = omega (arith, e) in
      subst (λ x. Joined 0 n l s x) a (subst (λ z. Joined 0 n z s s) f (record {
        most_first = omega arith;
        most_second = omega arith;
        acts = omega arith;
        budget = omega arith;
        frames = omega arith;
      }))
  path_then P (suc i) n zero s s1 a e = absurd (omega (arith, e))
  path_then P (suc i) n (suc l) s s1 a e =
      let rest = path_then P i n l ((running mode told).step s) s1 a.2 (omega (arith, e)) in
      let first = rest.most_first in
      let second = rest.most_second in
      let acts = rest.acts in
      let budget = rest.budget in
      let frames = rest.frames in
      let asked = le-max_right (asks_of s) (path_toll l ((running mode told).step s)).most in
      let own = le-max_left (asks_of s) (path_toll l ((running mode told).step s)).most in
      let long = le-max_right (length s.frames) (path_toll l ((running mode told).step s)).frames in
      record {
        most_first = max-le own (omega (arith, asked, first));
        most_second = omega (arith, asked, second);
        acts = omega (arith, acts);
        budget = omega (arith, budget);
        frames = omega (arith, long, frames);
      }

  -- a state on the way, from these words and this budget on, with at most so many words asked for and frames
  pub record OnTheWay (P : RunState C → Type 0) (words acts paid most frames : ℕ) (x : Priced C) : Type 0 where
    pub keeps : P x.state
    pub words_grow : words ≤ x.words
    pub acts_grow : acts ≤ x.acts
    pub paid_grows : paid ≤ x.paid
    pub words_most : x.words + asks_of x.state ≤ most
    pub frames_most : length x.state.frames ≤ frames

  -- turns of the run are turns with prices
  pub priced_along : (P : RunState C → Type 0) (words acts paid most frames : ℕ) (i : ℕ) (s s' : RunState C)
      → Along (running mode told) P i s s' → (w a p w' a' p' : ℕ) → words ≤ w → acts ≤ a → paid ≤ p
      → w + (path_toll i s).asks ≤ most → (path_toll i s).frames ≤ frames → w' ≡ w + (path_toll i s).asks
      → a' ≡ a + (path_toll i s).acts → p' ≡ p + (path_toll i s).budget
      → Along pricing (OnTheWay P words acts paid most frames) i (priced w a p s) (priced w' a' p' s')
  priced_along P words acts paid most frames zero s s' along w a p w' a' p' lw la lp lm lf ew ea ep =
      let e : w ≡ w' = omega (arith, ew) in
      let f : a ≡ a' = omega (arith, ea) in
      let g : p ≡ p' = omega (arith, ep) in
      ap (λ z. priced z a p s) e ∙ ap (λ z. priced w' z p s) f ∙ ap (λ z. priced w' a' z s) g
      ∙ ap (priced w' a' p') along
  priced_along P words acts paid most frames (suc i) s s' along w a p w' a' p' lw la lp lm lf ew ea ep =
      let rest = path_toll i ((running mode told).step s) in
      let inner : rest.frames ≤ frames =
      let r = le-max_right (length s.frames) rest.frames in omega (arith, r, lf) in (
        along.0,
        record {
          keeps = along.1;
          words_grow = lw;
          acts_grow = la;
          paid_grows = lp;
          words_most = omega (arith, lm);
          frames_most = here (length s.frames) rest.frames lf;
        },
        priced_along P words acts paid most frames i ((running mode told).step s) s' along.2 (w + asks_of s)
            (a + acts_of s) (p + budget_of s) w' a' p' (omega (arith, lw)) (omega (arith, la)) (omega (arith, lp))
            (omega (arith, lm)) inner (omega (arith, ew)) (omega (arith, ea)) (omega (arith, ep)),
      )
    where
      here : (a b : ℕ) → max a b ≤ frames → a ≤ frames
      here a b le = omega (arith, le)

  -- where something is asked for on the way, there is a state that asks for the most
  pub peak_along : (P : RunState C → Type 0) (i : ℕ) (s s' : RunState C) → Along (running mode told) P i s s'
      → 0 < (path_toll i s).most
      → (at : ℕ) × (x : RunState C) × Along (running mode told) P at s x × ((running mode told).ending x ≡ None) × P x
      × ((path_toll i s).most ≤ asks_of x)
  peak_along P zero s s' a lt = absurd (omega (arith, lt))
  peak_along P (suc i) s s' a lt =
      ⊎_elim (λ less. later less (peak_along P i ((running mode told).step s) s' a.2 (omega (arith, less))))
      (λ le. (0, s, refl, a.0, a.1, max-le (omega arith) le))
      (cases_lt (asks_of s) (path_toll i ((running mode told).step s)).most)
    where
      later : asks_of s < (path_toll i ((running mode told).step s)).most
          → (at : ℕ) × (x : RunState C) × Along (running mode told) P at ((running mode told).step s) x
          × ((running mode told).ending x ≡ None) × P x
          × ((path_toll i ((running mode told).step s)).most ≤ asks_of x)
          → (at : ℕ) × (x : RunState C) × Along (running mode told) P at s x × ((running mode told).ending x ≡ None)
          × P x × ((path_toll (suc i) s).most ≤ asks_of x)
      later less b =
          let le = b.5 in (suc b.0, b.1, (a.0, a.1, b.2), b.3, b.4, max-le (omega (arith, less, le)) le)

  -- ---- the states of the run

  same_state : (o : Option (Ending Verdict)) (s : Priced C)
      → (unless_ended o pricing.step s).state ≡ unless_ended o (running mode told).step s.state
  same_state (Some e) s = refl
  same_state None s = refl

  pub state_priced : (i : ℕ) (s : Priced C)
      → (state_after pricing s i).state ≡ state_after (running mode told) s.state i
  state_priced zero s = refl
  state_priced (suc i) s =
      let o : Option (Ending Verdict) = (running mode told).ending s.state in
      state_priced i (unless_ended o pricing.step s) ∙ ap (λ t. state_after (running mode told) t i) (same_state o s)

-- ---- what rounds are, as the laws of `run_laws` on them have it

abbrev result_of : {A B : Type 0} → (A → B) → Type 0
result_of {B = B} f = B

abbrev middle_of : {A B D E : Type 0} → (A × B × D → E) → Type 0
middle_of {B = B} f = B

module _ {S T A B : Type 0} (M : Reduction S A Verdict) (N : Reduction T B Verdict) (K L : B → A → Type 0)
    (R : ℕ → S → T → Type 0) where
  abbrev pub Goes : ℕ → S → T → Type 0
  Goes i s t = result_of (goes_within_after M N K L R i 0 s s t refl)

  -- the second comes to a state of the first, having paid what L allows
  abbrev pub Met : T → S → Type 0
  Met t x = middle_of (goes_within_after M N K L R 0 1 x (M.step x) t)

  -- a state of the second is seen as a moment of the first
  abbrev pub Seen : S → T → Type 0
  Seen s y = middle_of (goes_within_later M N K L R 0 1 s y (N.step y))

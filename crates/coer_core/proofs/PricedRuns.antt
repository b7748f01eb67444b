-- What holds of runs with prices holds of those that count more, and of those that count nothing.
use Rattle.std.proofs.Common.{◌≡◌, inl, inr, ℕ, zero, suc, Option, Some, None, refl, sym, ap, ◌∙◌, subst}
use Rattle.run_laws.specs.Runs.{Ending, Run, EndsAs, HasVerdictOf, NeverWrong, Follows, FollowsBy, Any, Reached}
use Rattle.run_laws.specs.Runs.{Moment}
use Rattle.run_laws.specs.Accounts.{FollowsWithin}
use Rattle.run_laws.specs.Reductions.{Reduction, unless_ended, state_after, reduction_run}
use Rattle.run_laws.proofs.Public.{follows_of}
use Rattle.grift_base.specs.declared.verdicts.Verdict.{Verdict}
use Rattle.cast_modes.specs.Modes.{Mode}
use Rattle.cast_modes.specs.AnswerTypes.{Told}
use Rattle.coer_core.specs.Machine.{RunState, running}
use Rattle.coer_core.specs.Tally.{Tally, Tallied}
use Rattle.coer_core.specs.MergedTally.{NoMoreStorage, NoMoreSpent}
use Rattle.coer_core.specs.Tolls.{Price}
use Rattle.coer_core.proofs.Counting.{SameMoments, follows_as, followed_as}
use Rattle.coer_core.proofs.Priced.{Priced, priced, Prices, NoMore, PaysNoMore, pricing, state_priced}

-- what follows within an account follows
pub follows_of_within : {A B V : Type 0} {K L : A → B → Type 0} {X : Run A V} {Y : Run B V} → FollowsWithin K L X Y
    → Follows X Y
follows_of_within {A = A} {B = B} {V = V} {K = K} {L = L} {X = X} {Y = Y} f = follows_of by
  where
    by : FollowsBy Any Any X Y
    by = record {
      back = λ i. let b = f.back i in (b.0, (record { output = b.1.0.output; shown = tt }, b.1.1));
      forth = λ i. let b = f.forth i in (b.0, tt, b.2);
    }

module _ {C : Type 0} (mode : Mode C) (told : Told) (price : Price C) where
  pub priced_moments : (s : Priced C)
      → SameMoments (reduction_run (pricing mode told price) s) (reduction_run (running mode told) s.state)
  priced_moments s i =
      let e = state_priced mode told price i s in (
        ap (λ (t : RunState C). (running mode told).output t) e,
        ap (λ (t : RunState C). (running mode told).ending t) e,
      )

  pub priced_never_wrong : (s : Priced C) → NeverWrong (reduction_run (running mode told) s.state)
      → NeverWrong (reduction_run (pricing mode told price) s)
  priced_never_wrong s nw i e = nw i (sym (priced_moments s i).1 ∙ e)

  -- ---- a run that counts more

  abbrev pub prices_of : Tally → Prices
  prices_of tally =
      record {
        words = tally.words;
        asks = tally.asks;
        acts = tally.acts;
        frames = tally.frames;
        paid = tally.paid;
      }

  abbrev pub less : Tallied C → Priced C
  less s = priced s.words s.acts s.paid s.state

  -- the reduction makes the same steps, and shows the same of words, acts, frames and budgets
  pub record CountsMore (T : Reduction (Tallied C) Tally Verdict) : Type 0 where
    pub step : (s : Tallied C) → less (T.step s) ≡ (pricing mode told price).step (less s)
    pub ending : (s : Tallied C) → T.ending s ≡ (running mode told).ending s.state
    pub output : (s : Tallied C) → T.output s ≡ (running mode told).output s.state
    pub shown : (s : Tallied C) → prices_of (T.shown s) ≡ (pricing mode told price).shown (less s)

  module _ (T : Reduction (Tallied C) Tally Verdict) (more : CountsMore T) where
    same_step : (o : Option (Ending Verdict)) (s : Tallied C)
        → less (unless_ended o T.step s) ≡ unless_ended o (pricing mode told price).step (less s)
    same_step (Some e) s = refl
    same_step None s = more.step s

    less_after : (i : ℕ) (s : Tallied C)
        → less (state_after T s i) ≡ state_after (pricing mode told price) (less s) i
    less_after zero s = refl
    less_after (suc i) s =
        less_after i (unless_ended (T.ending s) T.step s)
        ∙ ap (λ o. state_after (pricing mode told price) (less (unless_ended o T.step s)) i) (more.ending s)
        ∙ ap (λ t. state_after (pricing mode told price) t i) (same_step ((running mode told).ending s.state) s)

    pub tally_moments : (s : Tallied C)
        → SameMoments (reduction_run T s) (reduction_run (pricing mode told price) (less s))
    tally_moments s i =
        let e = less_after i s in (
          more.output (state_after T s i) ∙ ap (λ (t : Priced C). (pricing mode told price).output t) e,
          more.ending (state_after T s i) ∙ ap (λ (t : Priced C). (pricing mode told price).ending t) e,
        )

    pub tally_shown : (s : Tallied C) (i : ℕ)
        → prices_of (reduction_run T s i).shown ≡ (reduction_run (pricing mode told price) (less s) i).shown
    tally_shown s i =
        more.shown (state_after T s i) ∙ ap (λ (t : Priced C). (pricing mode told price).shown t) (less_after i s)

-- ---- one run against another

module _ {C D : Type 0} (m : Mode C) (n : Mode D) (told : Told) (price : Price C) (price1 : Price D) (s : Priced C)
    (t : Priced D)
    (keeps : FollowsWithin NoMore PaysNoMore (reduction_run (pricing n told price1) t)
    (reduction_run (pricing m told price) s)) where
  pub plain_follows : Follows (reduction_run (running n told) t.state) (reduction_run (running m told) s.state)
  plain_follows =
      follows_as (reduction_run (running n told) t.state) (reduction_run (pricing n told price1) t)
      (reduction_run (running m told) s.state)
      (λ i. (sym (priced_moments n told price1 t i).0, sym (priced_moments n told price1 t i).1))
      (followed_as (reduction_run (pricing m told price) s) (reduction_run (running m told) s.state)
      (reduction_run (pricing n told price1) t) (priced_moments m told price s) (follows_of_within keeps))

module _ {C D : Type 0} (m : Mode C) (n : Mode D) (told : Told) (price : Price C) (price1 : Price D)
    (S : Reduction (Tallied C) Tally Verdict) (T : Reduction (Tallied D) Tally Verdict)
    (more : CountsMore m told price S) (more1 : CountsMore n told price1 T) (s : Tallied C) (t : Tallied D)
    (keeps : FollowsWithin NoMore PaysNoMore (reduction_run (pricing n told price1) (less n told price1 t))
    (reduction_run (pricing m told price) (less m told price s))) where
  reached_as : {A B A' B' : Type 0} (x : Moment A Verdict) (y : Moment B Verdict) (x' : Moment A' Verdict)
      (y' : Moment B' Verdict) → (x'.output ≡ x.output) × (x'.ending ≡ x.ending)
      → (y'.output ≡ y.output) × (y'.ending ≡ y.ending) → Reached Any x y → Reached Any x' y'
  reached_as x y x' y' e f (inl out) = inl (e.1 ∙ out)
  reached_as x y x' y' e f (inr r) =
      inr (
        record { output = e.0 ∙ r.0.output ∙ sym f.0; shown = tt },
        subst (λ z. HasVerdictOf x'.ending z) (sym f.1) (subst (λ z. HasVerdictOf z y.ending) (sym e.1) r.1),
      )

  storage_as : (a b : Tally) → NoMore (prices_of n told price1 a) (prices_of m told price b) → NoMoreStorage a b
  storage_as a b k = record { reach = k.reach; asks = k.asks; frames = k.frames }

  spent_as : (a b : Tally) → PaysNoMore (prices_of n told price1 a) (prices_of m told price b) → NoMoreSpent a b
  spent_as a b k = record { acts = k.acts; paid = k.paid }

  pub tallies_keep : FollowsWithin NoMoreStorage NoMoreSpent (reduction_run T t) (reduction_run S s)
  tallies_keep = record {
    back =
        λ i. let b = keeps.back i in
        let x = tally_moments n told price1 T more1 t i in
        let y = tally_moments m told price S more s b.0 in (
          b.0,
          (
            record {
              output = x.0 ∙ b.1.0.output ∙ sym y.0;
              shown =
                  storage_as (reduction_run T t i).shown (reduction_run S s b.0).shown
                  (subst (λ z. NoMore z (prices_of m told price (reduction_run S s b.0).shown))
                  (sym (tally_shown n told price1 T more1 t i))
                  (subst (NoMore (reduction_run (pricing n told price1) (less n told price1 t) i).shown)
                  (sym (tally_shown m told price S more s b.0)) b.1.0.shown));
            },
            subst (λ z. EndsAs (reduction_run T t i).ending z) (sym y.1)
                (subst (λ z. EndsAs z (reduction_run (pricing m told price) (less m told price s) b.0).ending)
                (sym x.1) b.1.1),
          ),
        );
    forth =
        λ i. let b = keeps.forth i in
        let x = tally_moments n told price1 T more1 t b.0 in
        let y = tally_moments m told price S more s i in (
          b.0,
          spent_as (reduction_run T t b.0).shown (reduction_run S s i).shown
              (subst (λ z. PaysNoMore z (prices_of m told price (reduction_run S s i).shown))
              (sym (tally_shown n told price1 T more1 t b.0))
              (subst (PaysNoMore (reduction_run (pricing n told price1) (less n told price1 t) b.0).shown)
              (sym (tally_shown m told price S more s i)) b.1)),
          reached_as (reduction_run (pricing n told price1) (less n told price1 t) b.0)
              (reduction_run (pricing m told price) (less m told price s) i) (reduction_run T t b.0)
              (reduction_run S s i) x y b.2,
        );
  }

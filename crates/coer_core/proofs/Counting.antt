-- A counted run is the run itself, with what was counted beside it.
use Rattle.std.proofs.Common.{◌≡◌, inl, inr, ⊎_elim, ℕ, zero, suc, Option, Some, None, refl, sym, ap, ◌∙◌}
use Rattle.std.proofs.Common.{length, subst}
use Rattle.run_laws.specs.Runs.{Ending, Moment, Run, IsPrefix, EndsAs, HasVerdictOf, Backed}
use Rattle.run_laws.specs.Runs.{Reached}
use Rattle.run_laws.specs.Runs.{Follows, FollowsBy, Any}
use Rattle.run_laws.specs.Reductions.{Reduction, unless_ended, state_after, moment_at, reduction_run}
use Rattle.run_laws.specs.Meters.{Metered, metered_reduction, SpendSame}
use Rattle.grift_base.specs.declared.verdicts.Verdict.{Verdict}
use Rattle.core_calc.specs.Calculus.{CalcState}
use Rattle.cast_modes.specs.Modes.{Mode}
use Rattle.cast_modes.specs.AnswerTypes.{Told}
use Rattle.cast_modes.specs.Counting.{Counted}
use Rattle.cast_modes.proofs.Public.{counting_changes_no_state}
use Rattle.coer_core.specs.Machine.{RunState, running}
use Rattle.coer_core.specs.Counts.{words_of_turn, wraps_of_turn, counting, SameWraps}

-- two runs have the same output and the same ending after each number of steps
abbrev pub SameMoments : {A B V : Type 0} → Run A V → Run B V → Type 0
SameMoments X Y = (n : ℕ) → ((X n).output ≡ (Y n).output) × ((X n).ending ≡ (Y n).ending)

module _ {A B D V : Type 0} (X : Run A V) (Y : Run B V) (Z : Run D V) where
  -- a run with the same moments follows as well
  pub follows_as : SameMoments X Y → Follows Y Z → Follows X Z
  follows_as same f = record {
    back =
        λ m. let b = f.back m in
        (b.0, (same m).0 ∙ b.1, subst (λ e. EndsAs e (Z b.0).ending) (sym (same m).1) b.2);
    forth =
        λ n. let b = f.forth n in (
          b.0,
          ⊎_elim (λ e. inl ((same b.0).1 ∙ e)) (λ r. inr (
            subst (λ o. IsPrefix (Z n).output o) (sym (same b.0).0) r.0,
            subst (λ e. HasVerdictOf e (Z n).ending) (sym (same b.0).1) r.1,
          )) b.1,
        );
  }

  -- and it is followed as well
  pub followed_as : SameMoments X Y → Follows Z X → Follows Z Y
  followed_as same f = record {
    back =
        λ m. let b = f.back m in
        (b.0, b.1 ∙ (same b.0).0, subst (λ e. EndsAs (Z m).ending e) (same b.0).1 b.2);
    forth =
        λ n. let b = f.forth n in (
          b.0,
          ⊎_elim (λ e. inl e) (λ r. inr (
            subst (λ o. IsPrefix o (Z b.0).output) (same n).0 r.0,
            subst (λ e. HasVerdictOf (Z b.0).ending e) (same n).1 r.1,
          )) b.1,
        );
  }

module _ {C : Type 0} (mode : Mode C) (told : Told) where
  abbrev wrapping : Reduction (Metered (RunState C)) (Metered (RunState C)) Verdict
  wrapping = metered_reduction (wraps_of_turn mode) (running mode told)

  -- the wrap steps alone
  abbrev wraps_only : Counted (RunState C) → Metered (RunState C)
  wraps_only s = record { spent = s.wraps; rest = s.state }

  same_step : (o : Option (Ending Verdict)) (s : Counted (RunState C))
      → wraps_only (unless_ended o (counting mode told).step s) ≡ unless_ended o wrapping.step (wraps_only s)
  same_step (Some e) s = refl
  same_step None s = refl

  pub counted_after : (n : ℕ) (s : Counted (RunState C))
      → wraps_only (state_after (counting mode told) s n) ≡ state_after wrapping (wraps_only s) n
  counted_after zero s = refl
  counted_after (suc n) s =
      let o : Option (Ending Verdict) = (running mode told).ending s.state in
      counted_after n (unless_ended o (counting mode told).step s)
      ∙ ap (λ t. state_after wrapping t n) (same_step o s)

  pub counted_moments : (s : Counted (RunState C))
      → SameMoments (reduction_run (counting mode told) s) (reduction_run (running mode told) s.state)
  counted_moments s n =
      let e =
      counting_changes_no_state (running mode told) (words_of_turn mode) (wraps_of_turn mode)
      (λ state. length state.frames) n s in (
        ap (λ (t : RunState C). (running mode told).output t) e,
        ap (λ (t : RunState C). (running mode told).ending
            t) e,
      )

  backed_counted : (s : Counted (RunState C)) (y : Moment (Metered CalcState) Verdict)
      → Backed SpendSame (moment_at wrapping (wraps_only s)) y → Backed SameWraps (moment_at (counting mode told) s) y
  backed_counted s y b = (record { output = b.0.output; shown = b.0.shown }, b.1)

  reached_counted : (s : Counted (RunState C)) (y : Moment (Metered CalcState) Verdict)
      → Reached SpendSame (moment_at wrapping (wraps_only s)) y
      → Reached SameWraps (moment_at (counting mode told) s) y
  reached_counted s y (inl e) = inl e
  reached_counted s y (inr r) = inr (record { output = r.0.output; shown = r.0.shown }, r.1)

  pub follows_counted : (Y : Run (Metered CalcState) Verdict) (s : Counted (RunState C))
      → FollowsBy SpendSame Any (reduction_run wrapping (wraps_only s)) Y
      → FollowsBy SameWraps Any (reduction_run (counting mode told) s) Y
  follows_counted Y s f = record {
    back =
        λ m. let b = f.back m in (
          b.0,
          backed_counted (state_after (counting mode told) s m) (Y b.0)
              (subst (λ t. Backed SpendSame (moment_at wrapping t) (Y b.0)) (sym (counted_after m s)) b.1),
        );
    forth =
        λ n. let b = f.forth n in (
          b.0,
          tt,
          reached_counted (state_after (counting mode told) s b.0) (Y n)
              (subst (λ t. Reached SpendSame (moment_at wrapping t) (Y n)) (sym (counted_after b.0 s)) b.2),
        );
  }

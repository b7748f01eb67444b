-- Counting changes no state.
use Rattle.std.proofs.Common.{ℕ, zero, suc, ◌≡◌, refl, Option, Some, None, ap, ◌∙◌}
use Rattle.run_laws.specs.Runs.{Ending}
use Rattle.run_laws.specs.Reductions.{Reduction, state_after, unless_ended}
use Rattle.cast_modes.specs.Counting.{Counted, counted}

module _ {S A V : Type 0} (reduction : Reduction S A V) (words wraps frames : S → ℕ) where
  same_step : (o : Option (Ending V)) (s : Counted S)
      → (unless_ended o (counted words wraps frames reduction).step s).state
      ≡ unless_ended o reduction.step s.state
  same_step (Some e) s = refl
  same_step None s = refl

  pub counting_changes_no_state : (n : ℕ) (s : Counted S)
      → (state_after (counted words wraps frames reduction) s n).state ≡ state_after reduction s.state n
  counting_changes_no_state zero s = refl
  counting_changes_no_state (suc n) s =
      let o : Option (Ending V) = reduction.ending s.state in
      counting_changes_no_state n (unless_ended o (counted words wraps frames reduction).step s)
      ∙ ap (λ t. state_after reduction t n) (same_step o s)

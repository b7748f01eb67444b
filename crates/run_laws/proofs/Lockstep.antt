-- Lockstep at the same cost: two reductions of which the second makes each step of the first, some of them after free
-- steps of its own.
use Rattle.std.proofs.Common.{◌≡◌, ◌⊎◌, inl, inr, ℕ, ◌+◌, ◌<◌, Some, None, refl, ap, ◌∙◌, arith}
use Rattle.run_laws.specs.Runs.{Ending, NeverWrong, FollowsBy, Any}
use Rattle.run_laws.specs.Reductions.{Reduction, reduction_run}
use Rattle.run_laws.specs.Meters.{Metered, unspent, metered_reduction, SpendSame}
use Rattle.run_laws.proofs.ShowingLockstep.{OnItsOwn, Together, AtEnd, ShowingLockstep, showing_lockstep_follows}

module _ {S T A B V : Type 0} (M : Reduction S A V) (N : Reduction T B V) (work : S → ℕ) (cost : T → ℕ)
    (R : S → T → Type 0) (size : T → ℕ) where
  -- the second makes a step of its own, which is free, and by which its size falls
  pub record Alone (s : S) (t : T) : Type 0 where
    pub running : N.ending t ≡ None
    pub free : cost t ≡ 0
    pub next : R s (N.step t)
    pub less : size (N.step t) < size t

  -- both make a step
  pub record Both (s : S) (t : T) : Type 0 where
    pub first : M.ending s ≡ None
    pub second : N.ending t ≡ None
    pub same : cost t ≡ work s
    pub next : R (M.step s) (N.step t)

  -- both have ended, in the same way
  pub record Over (s : S) (t : T) : Type 0 where
    pub ending : Ending V
    pub first : M.ending s ≡ Some ending
    pub second : N.ending t ≡ Some ending

  -- from related states the two print the same, and the second makes a step alone, both make one, or both have ended
  pub record Lockstep : Type 0 where
    pub alike : (s : S) (t : T) → R s t → N.output t ≡ M.output s
    pub does : (s : S) (t : T) → R s t → Alone s t ⊎ (Both s t ⊎ Over s t)

  -- both with a meter
  abbrev pub paid : Reduction (Metered S) (Metered A) V
  paid = metered_reduction work M

  abbrev pub charged : Reduction (Metered T) (Metered B) V
  charged = metered_reduction cost N

  module _ (l : Lockstep) where
    -- related, with as much spent
    abbrev R1 : Metered S → Metered T → Type 0
    R1 s t = R s.rest t.rest × (t.spent ≡ s.spent)

    abbrev size1 : Metered T → ℕ
    size1 t = size t.rest

    plus_none : (x : ℕ) → x + 0 ≡ x
    plus_none x = omega arith

    does_spending : (s : Metered S) (t : Metered T) → R1 s t → Alone s.rest t.rest
        ⊎ (Both s.rest t.rest ⊎ Over s.rest t.rest)
        → OnItsOwn paid charged SpendSame Any R1 size1 s t
        ⊎ (Together paid charged SpendSame Any R1 size1 s t ⊎ AtEnd paid charged SpendSame Any R1 size1 s t)
    does_spending s t r (inl a) = inl (record {
      running = a.running;
      next = (a.next, ap (λ x. t.spent + x) a.free ∙ plus_none t.spent ∙ r.1);
      less = a.less;
    })
    does_spending s t r (inr (inl b)) = inr (inl (record {
      first = b.first;
      second = b.second;
      next = (b.next, ap (λ x. x + cost t.rest) r.1 ∙ ap (λ x. s.spent + x) b.same);
    }))
    does_spending s t r (inr (inr o)) =
        inr (inr (record { ending = o.ending; first = o.first; second = o.second }))

    spending : ShowingLockstep paid charged SpendSame Any R1 size1
    spending = record {
      alike = λ s t r. l.alike s.rest t.rest r.0;
      shown = λ s t r. r.1;
      allowed = λ s t r. tt;
      does = λ s t r. does_spending s t r (l.does s.rest t.rest r.0);
      still_allowed = λ b s e a. tt;
    }

    -- the second follows the first and spends the same
    pub lockstep_follows : (s : S) (t : T) → R s t → NeverWrong (reduction_run paid (unspent s))
        → FollowsBy SpendSame Any (reduction_run charged (unspent t)) (reduction_run paid (unspent s))
    lockstep_follows s t r nw =
        showing_lockstep_follows paid charged SpendSame Any R1 size1 spending (unspent s) (unspent t) (r, refl) nw

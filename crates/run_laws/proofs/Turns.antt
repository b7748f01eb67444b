-- How many turns a machine needs: a bound on its spending, at one for each step, is a bound on its steps.
use Rattle.std.proofs.Common.{◌≡◌, ◌⊎◌, inl, inr, ℕ, zero, suc, ◌+◌, ◌*◌, ◌≤◌, Option, Some, None, refl, sym, ap, ◌∙◌}
use Rattle.std.proofs.Common.{subst, arith}
use Rattle.run_laws.specs.Runs.{Ending, Verdict, Exhausted, Wrong, Run, IsPrefix, IsExhausted, HasVerdictOf, Reached}
use Rattle.run_laws.specs.Runs.{FollowsBy, Any}
use Rattle.run_laws.specs.Accounts.{FollowsWithin, ComesWithin, KeepsBudget}
use Rattle.run_laws.specs.Machines.{Next, Go, Stop, Machine, run, landing, OnlyAddsOutput}
use Rattle.run_laws.specs.Meters.{Metered, unspent, charge, metered, SameButMeter, each_one, Spends, EndsInTime}
use Rattle.run_laws.specs.Meters.{ComesInTime}
use Rattle.run_laws.proofs.Following.{has_verdict_of_some}
use Rattle.run_laws.proofs.Metering.{meter_changes_nothing_else-machines}
use Rattle.run_laws.proofs.Within.{within_of}
use Rattle.run_laws.proofs.Running.{run_go, run_stop, what_has_ended_stays-machines, output_only_grows-machines}

-- a machine whose steps cost one each has spent as much as it has made steps, of which there may be fewer than the
-- bound
module _ {T B V : Type 0} (N : Machine T B V) where
  abbrev SpendsSteps : ℕ → Metered T → Type 0
  SpendsSteps n m =
      (j : ℕ) × ((run (metered each_one N) m n).shown.spent ≡ m.spent + j)
      × (run (metered each_one N) m j ≡ run (metered each_one N) m n)

  steps_spent_on : (n : ℕ) (m : Metered T) → ((m1 : Metered T) → SpendsSteps n m1) → (x : Next T V)
      → N.step m.rest ≡ x → SpendsSteps (suc n) m
  steps_spent_on n m ih (Go t) e =
      let m1 : Metered T = record { spent = m.spent + 1; rest = t } in
      let go : (metered each_one N).step m ≡ Go m1 = ap (charge (m.spent + 1)) e in
      let a = ih m1 in
      let more = run_go (metered each_one N) m m1 n go in (
        suc a.0,
        ap (λ x. x.shown.spent) more ∙ a.1 ∙ omega arith,
        run_go (metered each_one N) m m1 a.0 go ∙ a.2
            ∙ sym more,
      )
  steps_spent_on n m ih (Stop o t) e =
      let m1 : Metered T = record { spent = m.spent + 1; rest = t } in
      let stop : (metered each_one N).step m ≡ Stop o m1 = ap (charge (m.spent + 1)) e in
      let more = run_stop (metered each_one N) m m1 o n stop in
      (1, ap (λ x. x.shown.spent) more, run_stop (metered each_one N) m m1 o 0 stop ∙ sym more)

  pub steps_spent : (n : ℕ) (m : Metered T) → SpendsSteps n m
  steps_spent zero m = (0, omega arith, refl)
  steps_spent (suc n) m = steps_spent_on n m (λ m1. steps_spent n m1) (N.step m.rest) refl

  -- a meter takes no output back
  metered_adds : (work : T → ℕ) → OnlyAddsOutput N → OnlyAddsOutput (metered work N)
  metered_adds work adds m = adds_at (N.step m.rest) (adds m.rest)
    where
      adds_at : (x : Next T V) → IsPrefix (N.output m.rest) (N.output (landing x))
          → IsPrefix (N.output m.rest) (N.output (landing (charge (m.spent + work m.rest) x)).rest)
      adds_at (Go t) p = p
      adds_at (Stop e t) p = p

  module _ {A : Type 0} (K : Metered B → A → Type 0) (budget : A → ℕ) (t : T) (Y : Run A V)
      (f : FollowsWithin K (KeepsBudget budget) (run (metered each_one N) (unspent t)) Y) where
    abbrev turns : Run (Metered B) V
    turns = run (metered each_one N) (unspent t)

    -- a bound that is enough for the turns up to a moment
    enough : (m k : ℕ) → (turns m).shown.spent ≤ k → (j : ℕ) × (j ≤ k) × (turns j ≡ turns m)
    enough m k le = let a = steps_spent m (unspent t) in (a.0, let e = a.1 in omega (arith, e, le), a.2)

    ended_by : (m k : ℕ) (e : Ending V) → (turns m).shown.spent ≤ k → (turns m).ending ≡ Some e
        → (turns k).ending ≡ Some e
    ended_by m k e le h =
        let a = enough m k le in
        ap (λ x. x.ending) (what_has_ended_stays-machines (metered each_one N) (unspent t) a.0 k e a.1
        (ap (λ x. x.ending) a.2 ∙ h) ∙ a.2) ∙ h

    -- the machine without a meter does what it does with one
    as_run : (k : ℕ) → SameButMeter (turns k) (run N t k)
    as_run k = meter_changes_nothing_else-machines N each_one k (unspent t)

    exhausted_by : (m k : ℕ) → (turns m).shown.spent ≤ k → IsExhausted (turns m) → IsExhausted (run N t k)
    exhausted_by m k le x = sym (as_run k).1 ∙ ended_by m k Exhausted le x

    ended_in : (n k m : ℕ) (e : Ending V) → (turns m).shown.spent ≤ k → (Y n).ending ≡ Some e
        → Reached Any (turns m) (Y n) → IsExhausted (run N t k) ⊎ ((run N t k).ending ≡ Some e)
    ended_in n k m e le h (inl x) = inl (exhausted_by m k le x)
    ended_in n k m e le h (inr a) =
        inr (sym (as_run k).1 ∙ ended_by m k e le
        (has_verdict_of_some (turns m).ending e (subst (λ o. HasVerdictOf (turns m).ending o) h a.1)))

    verdict_later : (m k : ℕ) (o : Option (Ending V)) → (turns m).shown.spent ≤ k → HasVerdictOf (turns m).ending o
        → HasVerdictOf (run N t k).ending o
    verdict_later m k None le h = tt
    verdict_later m k (Some (Verdict v)) le h = sym (as_run k).1 ∙ ended_by m k (Verdict v) le h
    verdict_later m k (Some Exhausted) le h = absurd h
    verdict_later m k (Some Wrong) le h = absurd h

    comes_in : OnlyAddsOutput N → (n k m : ℕ) → (turns m).shown.spent ≤ k → Reached Any (turns m) (Y n)
        → IsExhausted (run N t k)
        ⊎ (IsPrefix (Y n).output (run N t k).output × HasVerdictOf (run N t k).ending (Y n).ending)
    comes_in adds n k m le (inl x) = inl (exhausted_by m k le x)
    comes_in adds n k m le (inr q) =
        let a = enough m k le in
        let more = output_only_grows-machines (metered each_one N) (metered_adds each_one adds) (unspent t) a.0 k a.1 in
        let printed = subst (λ o. IsPrefix (turns a.0).output o) (as_run k).0 more in
        inr (
          subst (λ o. IsPrefix o (run N t k).output) (ap (λ z. z.output) a.2 ∙ q.0.output) printed,
          verdict_later m k (Y n).ending le q.1,
        )

    -- where the other run has ended, the machine ends so or is exhausted in as many turns as the account says
    ends_within : (n k : ℕ) (e : Ending V) → (Y n).ending ≡ Some e → budget (Y n).shown ≤ k
        → IsExhausted (run N t k) ⊎ ((run N t k).ending ≡ Some e)
    ends_within n k e h le = let a = f.forth n in let s = a.1 in ended_in n k a.0 e (omega (arith, s, le)) h a.2

    comes_within : OnlyAddsOutput N → ComesWithin budget (run N t) Y
    comes_within adds n k le = let a = f.forth n in let s = a.1 in comes_in adds n k a.0 (omega (arith, s, le)) a.2

-- a machine that follows within an account, which bounds what it spends, and takes no output back, comes in time
pub an_account_bounds_turns : {T A B V : Type 0} {K : Metered B → A → Type 0} {Y : Run A V} (N : Machine T B V) (t : T)
    (budget : A → ℕ) → OnlyAddsOutput N
    → FollowsWithin K (KeepsBudget budget) (run (metered each_one N) (unspent t)) Y → ComesWithin budget (run N t) Y
an_account_bounds_turns {K = K} {Y = Y} N t budget adds f = comes_within N K budget t Y f adds

-- so does one that spends at most c times what the source spends, at one for each step, whose account that is
pub bounded_spending_bounds_turns-ends : {T A B V : Type 0} {K : Metered B → Metered A → Type 0}
    {Y : Run (Metered A) V} (N : Machine T B V) (t : T) (c : ℕ)
    → FollowsBy K (Spends c) (run (metered each_one N) (unspent t)) Y → EndsInTime c (run N t) Y
bounded_spending_bounds_turns-ends {K = K} {Y = Y} N t c f =
    ends_within N K (λ a. c * a.spent) t Y (within_of f)

pub bounded_spending_bounds_turns-comes : {T A B V : Type 0} {K : Metered B → Metered A → Type 0}
    {Y : Run (Metered A) V} (N : Machine T B V) (t : T) (c : ℕ) → OnlyAddsOutput N
    → FollowsBy K (Spends c) (run (metered each_one N) (unspent t)) Y → ComesInTime c (run N t) Y
bounded_spending_bounds_turns-comes {K = K} {Y = Y} N t c adds f =
    comes_within N K (λ a. c * a.spent) t Y (within_of f) adds

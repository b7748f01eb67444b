-- A run with a meter that has begun higher shows as much more, and following within accounts with a meter on each side.
use Rattle.std.proofs.Common.{◌≡◌, ◌≢◌, ◌⊎◌, inl, inr, ℕ, zero, suc, ◌+◌, ◌≤◌, Option, Some, None, refl, sym}
use Rattle.std.proofs.Common.{subst, arith}
use Rattle.run_laws.specs.Accounts.{FollowsWithin, ComesWithin}
use Rattle.run_laws.specs.Runs.{Ending, Verdict, Exhausted, Wrong, Moment, Run, NeverWrong, Any, EndsAs, HasVerdictOf}
use Rattle.run_laws.specs.Runs.{FollowsBy}
use Rattle.run_laws.specs.Machines.{Next, Go, Stop, Machine, and_then, steps, seen, run, OnlyAddsOutput}
use Rattle.run_laws.specs.Meters.{Metered, unspent, charge, metered, each_one, Spends, OfRest}
use Rattle.run_laws.proofs.Public.{within_of, within_trans, within_weaken, an_account_bounds_turns, metered_never_wrong}

ends_so : {V : Type 0} (a b : Option (Ending V)) → a ≢ Some Wrong → a ≡ b → EndsAs a b
ends_so None b never e = tt
ends_so (Some (Verdict v)) b never e = sym e
ends_so (Some Exhausted) b never e = tt
ends_so (Some Wrong) b never e = absurd (never refl)

reached_so : {V : Type 0} (a b : Option (Ending V)) → a ≢ Some Wrong → a ≡ b → (a ≡ Some Exhausted) ⊎ HasVerdictOf a b
reached_so a None never e = inr tt
reached_so a (Some (Verdict v)) never e = inr e
reached_so a (Some Exhausted) never e = inl e
reached_so a (Some Wrong) never e = absurd (never e)

module _ {S A V : Type 0} (work : S → ℕ) (M : Machine S A V) (extra : ℕ) where
  abbrev pub raised : {X : Type 0} → Metered X → Metered X
  raised m = record { spent = extra + m.spent; rest = m.rest }

  -- the same moment, but for what had been spent before
  record Raised (x y : Moment (Metered A) V) : Type 0 where
    pub output : x.output ≡ y.output
    pub ending : x.ending ≡ y.ending
    pub rest : x.shown.rest ≡ y.shown.rest
    pub spent : x.shown.spent ≡ extra + y.shown.spent

  raised_at : (n : ℕ) (m : Metered S) → Raised (run (metered work M) (raised m) n) (run (metered work M) m n)
  raised_at zero m = record { output = refl; ending = refl; rest = refl; spent = refl }
  raised_at (suc n) m = by (λ k. raised_at n k) (M.step m.rest)
    where
      so : extra + m.spent + work m.rest ≡ extra + (m.spent + work m.rest)
      so = omega arith

      by : ((k : Metered S) → Raised (run (metered work M) (raised k) n) (run (metered work M) k n)) → (x : Next S V)
          → Raised
          (seen (metered work M) (and_then (charge (extra + m.spent + work m.rest) x)
          (λ t. steps (metered work M) t n)))
          (seen (metered work M) (and_then (charge (m.spent + work m.rest) x) (λ t. steps (metered work M) t n)))
      by ih (Go s) =
          subst (λ k. Raised (seen (metered work M) (steps (metered work M) (record { spent = k; rest = s }) n))
          (seen (metered work M) (steps (metered work M) (record { spent = m.spent + work m.rest; rest = s }) n)))
          (sym so) (ih (record { spent = m.spent + work m.rest; rest = s }))
      by ih (Stop e s) = record { output = refl; ending = refl; rest = refl; spent = so }

  -- so it follows the run whose meter has begun lower
  pub raised_follows : (m : Metered S) → NeverWrong (run M m.rest)
      → FollowsWithin (λ a b. a.rest ≡ b.rest) (λ a b. a.spent ≡ extra + b.spent)
      (run (metered work M) (raised m)) (run (metered work M) m)
  raised_follows m never = record {
    back = λ n. let a = raised_at n m in (
      n,
      (
        record { output = a.output; shown = a.rest },
        ends_so _ _ (metered_never_wrong M work (raised m) never n)
            a.ending,
      ),
    );
    forth = λ n. let a = raised_at n m in (
      n,
      a.spent,
      meets n a (reached_so _ _
          (metered_never_wrong M work (raised m) never n) a.ending),
    );
  }
    where
      meets : (n : ℕ) → Raised (run (metered work M) (raised m) n) (run (metered work M) m n)
          → ((run (metered work M) (raised m) n).ending ≡ Some Exhausted)
          ⊎ HasVerdictOf (run (metered work M) (raised m) n).ending (run (metered work M) m n).ending
          → Rattle.run_laws.specs.Runs.Reached Any (run (metered work M) (raised m) n) (run (metered work M) m n)
      meets n a (inl e) = inl e
      meets n a (inr h) = inr (record { output = a.output; shown = tt }, h)

-- A machine follows a run that is told prices, which follows another run within an account; so it comes in time to what
-- that run comes to.
module _ {T S A B C V : Type 0} (M : Machine T A V) (t : T) (N : Machine S B V) (price : S → ℕ) (s : S) (extra : ℕ)
    (Y : Run C V) where
  abbrev lower_run : Run (Metered B) V
  lower_run = run (metered price N) (unspent s)

  pub comes_in_time : (K : A → B → Type 0) {K' L : Metered B → C → Type 0} (budget : C → ℕ) → OnlyAddsOutput M
      → NeverWrong (run N s)
      → FollowsBy (OfRest K) (Spends 1) (run (metered each_one M) (unspent t))
      (run (metered price N) (record { spent = extra; rest = s }))
      → FollowsWithin K' L lower_run Y → ((b : Metered B) (c : C) → L b c → extra + b.spent ≤ budget c)
      → ComesWithin budget (run M t) Y
  comes_in_time K {L = L} budget adds never f g enough =
      an_account_bounds_turns {K = Any} M t budget adds
      (within_weaken (λ a c k. tt)
      (λ a c l.
      let spends = l.1 in
      let more = l.2.1 in
      let last = enough l.2.0 c l.2.2 in
      omega (arith, spends, more, last))
      (within_trans (within_of (start_at f)) (within_trans (raised_follows price N extra (unspent s) never) g)))
    where
      none : extra + 0 ≡ extra
      none = omega arith

      start_at : FollowsBy (OfRest K) (Spends 1) (run (metered each_one M) (unspent t))
          (run (metered price N) (record { spent = extra; rest = s }))
          → FollowsBy (OfRest K) (Spends 1) (run (metered each_one M) (unspent t))
          (run (metered price N) (record { spent = extra + 0; rest = s }))
      start_at f =
          subst (λ k. FollowsBy (OfRest K) (Spends 1) (run (metered each_one M) (unspent t))
          (run (metered price N) (record { spent = k; rest = s }))) (sym none) f

-- Machines and reductions that count what their steps cost.
use Rattle.std.specs.Prelude.{◌≡◌, ◌⊎◌, ℕ, ◌+◌, ◌*◌, ◌<◌, ◌≤◌, Option, Some, None}
use Rattle.run_laws.specs.Runs.{Ending, Moment, Run, IsPrefix, IsExhausted, HasVerdictOf}
use Rattle.run_laws.specs.Machines.{Next, Go, Stop, Machine, Alike, Reaches, UnlessWrong}
use Rattle.run_laws.specs.Reductions.{Reduction}

-- a state or what is shown of it, and what was spent so far
pub record Metered (A : Type 0) : Type 0 where
  pub spent : ℕ
  pub rest : A

-- nothing was spent yet
abbrev pub unspent : {A : Type 0} → A → Metered A
unspent a = record { spent = 0; rest = a }

-- where a step leads, with the meter at n
abbrev pub charge : {S V : Type 0} → ℕ → Next S V → Next (Metered S) V
charge n (Go s) = Go (record { spent = n; rest = s })
charge n (Stop e s) = Stop e (record { spent = n; rest = s })

-- the machine with a meter, which it shows; a step that stops is charged too
abbrev pub metered : {S A V : Type 0} → (S → ℕ) → Machine S A V → Machine (Metered S) (Metered A) V
metered work M = record {
  step = λ m. charge (m.spent + work m.rest) (M.step m.rest);
  output = λ m. M.output m.rest;
  shown = λ m. record { spent = m.spent; rest = M.shown m.rest };
}

-- the reduction with a meter, which it shows
abbrev pub metered_reduction : {S A V : Type 0} → (S → ℕ) → Reduction S A V → Reduction (Metered S) (Metered A) V
metered_reduction work M = record {
  step = λ m. record { spent = m.spent + work m.rest; rest = M.step m.rest };
  ending = λ m. M.ending m.rest;
  output = λ m. M.output m.rest;
  shown = λ m. record { spent = m.spent; rest = M.shown m.rest };
}

-- a cost, or nothing where there is an ending
abbrev pub none_once_ended : {V : Type 0} → Option (Ending V) → ℕ → ℕ
none_once_ended None n = n
none_once_ended (Some e) n = 0

-- the work of a reduction's machine: that of the reduction, and nothing for the step that only stops
abbrev pub machine_work : {S A V : Type 0} → Reduction S A V → (S → ℕ) → S → ℕ
machine_work M work s = none_once_ended (M.ending s) (work s)

-- two moments are the same but for the meter
abbrev pub SameButMeter : {A V : Type 0} → Moment (Metered A) V → Moment A V → Type 0
SameButMeter x y = (x.output ≡ y.output) × (x.ending ≡ y.ending) × (x.shown.rest ≡ y.shown)

-- each step costs one
abbrev pub each_one : {S : Type 0} → S → ℕ
each_one s = 1

-- at most c times as much was spent
abbrev pub Spends : {A B : Type 0} → ℕ → Metered A → Metered B → Type 0
Spends c a b = a.spent ≤ c * b.spent

-- as much was spent
abbrev pub SpendSame : {A B : Type 0} → Metered A → Metered B → Type 0
SpendSame a b = a.spent ≡ b.spent

-- where Y has ended, X has ended so or is exhausted within c turns for each unit that Y has spent
abbrev pub EndsInTime : {A B V : Type 0} → ℕ → Run B V → Run (Metered A) V → Type 0
EndsInTime {V = V} c X Y =
    (n k : ℕ) (e : Ending V) → (Y n).ending ≡ Some e → c * (Y n).shown.spent ≤ k → IsExhausted (X k)
    ⊎ ((X k).ending ≡ Some e)

-- whatever Y has come to, X is exhausted or has come to within c turns for each unit that Y has spent: to output that
-- begins with Y's, with the same verdict where Y has ended
abbrev pub ComesInTime : {A B V : Type 0} → ℕ → Run B V → Run (Metered A) V → Type 0
ComesInTime c X Y =
    (n k : ℕ) → c * (Y n).shown.spent ≤ k → IsExhausted (X k)
    ⊎ (IsPrefix (Y n).output (X k).output × HasVerdictOf (X k).ending (Y n).ending)

-- a relation of the rest, whatever was spent
abbrev pub OfRest : {A B : Type 0} → (A → B → Type 0) → Metered A → Metered B → Type 0
OfRest K a b = K a.rest b.rest

-- the target is seen as the source's state or the next, with at most b spent
abbrev pub OnBudget : {S T A B V : Type 0} → (K : B → A → Type 0) → Machine S A V → Machine T B V → S → S → ℕ
    → Metered T → Type 0
OnBudget K M N s s' b t = (Alike K M N s t.rest ⊎ Alike K M N s' t.rest) × (t.spent ≤ b)

-- the step stops, with at most b spent when it has
abbrev pub StopsOnBudget : {S T A B V : Type 0} → (K : B → A → Type 0) → Machine S A V → Machine T B V → (T → ℕ) → S
    → S → Ending V → ℕ → Metered T → Type 0
StopsOnBudget {T = T} K M N cost s s' e b t =
    OnBudget K M N s s' b t × ((t' : T) × (N.step t.rest ≡ Stop e t') × Alike K M N s' t' × (t.spent + cost t.rest ≤ b))

-- what the target does from t for a step of the source from s, as in a simulation, at a cost of at most b
abbrev pub DoesOnBudget : {S T A B V : Type 0} → (K : B → A → Type 0) → Machine S A V → Machine T B V → (T → ℕ)
    → (S → T → Type 0) → (S → ℕ) → ℕ → S → T → Next S V → Type 0
DoesOnBudget K M N cost R size b s t (Go s') =
    (k : ℕ) × (0 < k ⊎ size s' < size s) × Reaches (metered cost N) (OnBudget K M N s s' b)
    (λ t'. R s' t'.rest × (t'.spent ≤ b)) k (unspent t)
DoesOnBudget K M N cost R size b s t (Stop e s') =
    UnlessWrong e ((k : ℕ) × Reaches (metered cost N) (OnBudget K M N s s' b) (StopsOnBudget K M N cost s s' e b) k
    (unspent t))

-- the target N simulates the source M, at no more than c times its work
pub record CostSimulation {S T A B V : Type 0} (K : B → A → Type 0) (c : ℕ) (M : Machine S A V) (N : Machine T B V)
    (work : S → ℕ) (cost : T → ℕ) (R : S → T → Type 0) (size : S → ℕ) : Type 0 where
  pub alike : (s : S) (t : T) → R s t → Alike K M N s t
  pub does : (s : S) (t : T) → R s t → DoesOnBudget K M N cost R size (c * work s) s t (M.step s)

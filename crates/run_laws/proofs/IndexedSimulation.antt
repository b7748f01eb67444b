-- A machine that simulates another follows it, also where no measure of the source's states falls but one of how the
-- states are related: the relation has an index.
use Rattle.std.proofs.Common.{◌≡◌, ◌≢◌, ◌⊎◌, ℕ, suc, ◌<◌, subst}
use Rattle.run_laws.specs.Runs.{Ending, Wrong, NeverWrong, FollowsBy}
use Rattle.run_laws.specs.Machines.{Next, Go, Stop, Machine, run, landing, Reaches, Alike, OnTheWay, StopsAt}
use Rattle.run_laws.specs.Machines.{UnlessWrong}
use Rattle.run_laws.proofs.Simulation.{GoesOn, unless_wrong, simulates_at_index}

-- what the target does from t for a step of the source from s: some steps, or none where the index falls; a step that
-- goes wrong is left open
abbrev pub DoesAt : {S T A B V : Type 0} → (K L : B → A → Type 0) → Machine S A V → Machine T B V
    → (ℕ → S → T → Type 0) → ℕ → S → T → Next S V → Type 0
DoesAt K L M N R i s t (Go s') =
    ((j : ℕ) × (j < i) × R j s' t) ⊎ ((k : ℕ) × Reaches N (OnTheWay K L M N s s') (λ t'. (j : ℕ) × R j s' t') (suc k) t)
DoesAt K L M N R i s t (Stop e s') =
    UnlessWrong e ((k : ℕ) × Reaches N (OnTheWay K L M N s s') (StopsAt K L M N s s' e) k t)

-- the target N simulates the source M: from states that R relates at an index it does each step of the source
pub record IndexedSimulation {S T A B V : Type 0} (K L : B → A → Type 0) (M : Machine S A V) (N : Machine T B V)
    (R : ℕ → S → T → Type 0) : Type 0 where
  pub alike : (i : ℕ) (s : S) (t : T) → R i s t → Alike K M N s t × L (N.shown t) (M.shown s)
  pub does : (i : ℕ) (s : S) (t : T) → R i s t → DoesAt K L M N R i s t (M.step s)
  -- what L allows stays allowed as the source goes on
  pub still_allowed : (b : B) (s : S) → L b (M.shown s) → L b (M.shown (landing (M.step s)))

-- from a start of the target, which in some steps comes to a state that is related to the source's first
pub follows_by_index : {S T A B V : Type 0} {K L : B → A → Type 0} {M : Machine S A V} {N : Machine T B V}
    {R : ℕ → S → T → Type 0} → IndexedSimulation K L M N R → (s : S) (k : ℕ) (t : T)
    → Reaches N (λ t'. Alike K M N s t' × L (N.shown t') (M.shown s)) (λ t'. (i : ℕ) × R i s t') k t
    → NeverWrong (run M s) → FollowsBy K L (run N t) (run M s)
follows_by_index {S = S} {T = T} {V = V} {K = K} {L = L} {M = M} {N = N} {R = R} b s k t r nw =
    simulates_at_index K L M N R b.alike goes stops b.still_allowed s k t r nw
  where
    goes : (i : ℕ) (s s' : S) (t : T) → R i s t → M.step s ≡ Go s' → GoesOn K L M N R i s s' t
    goes i s s' t r e = subst (DoesAt K L M N R i s t) e (b.does i s t r)

    stops : (i : ℕ) (s s' : S) (t : T) (e : Ending V) → R i s t → M.step s ≡ Stop e s' → e ≢ Wrong
        → (k : ℕ) × Reaches N (OnTheWay K L M N s s') (StopsAt K L M N s s' e) k t
    stops i s s' t e r h ne = unless_wrong e ne (subst (DoesAt K L M N R i s t) h (b.does i s t r))

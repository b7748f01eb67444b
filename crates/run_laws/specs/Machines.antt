-- Machines that go by steps, their runs, and what it is for one machine to simulate another.
use Rattle.std.specs.Prelude.{◌≡◌, ◌⊎◌, ℕ, zero, suc, ◌<◌, List, Option, Some, None}
use Rattle.run_laws.specs.Runs.{Ending, Verdict, Exhausted, Wrong, Moment, Run, IsPrefix}

-- where a step leads: to a state to go on from, or to an ending and the state at the end
pub data Next (S V : Type 0) : Type 0 where
  Go : S → Next S V
  Stop : Ending V → S → Next S V

-- a machine: its step, and of each state the output so far and what is shown
pub record Machine (S A V : Type 0) : Type 0 where
  pub step : S → Next S V
  pub output : S → List ℕ
  pub shown : S → A

-- what is seen of a state
abbrev pub moment : {S A V : Type 0} → Machine S A V → S → Option (Ending V) → Moment A V
moment M s e = record { shown = M.shown s; output = M.output s; ending = e }

-- goes on from where a step leads, unless it stops
abbrev pub and_then : {S V : Type 0} → Next S V → (S → Next S V) → Next S V
and_then (Go s) go = go s
and_then (Stop e s) go = Stop e s

-- what at most n steps come to
abbrev pub steps : {S A V : Type 0} → Machine S A V → S → ℕ → Next S V
steps M s zero = Go s
steps M s (suc n) = and_then (M.step s) (λ s'. steps M s' n)

-- what is seen of where steps lead
abbrev pub seen : {S A V : Type 0} → Machine S A V → Next S V → Moment A V
seen M (Go s) = moment M s None
seen M (Stop e s) = moment M s (Some e)

-- the run from a state: what is seen after at most n steps
abbrev pub run : {S A V : Type 0} → Machine S A V → S → Run A V
run M s n = seen M (steps M s n)

-- the state that a step leads to
abbrev pub landing : {S V : Type 0} → Next S V → S
landing (Go s) = s
landing (Stop e s) = s

-- no step takes output back
abbrev pub OnlyAddsOutput : {S A V : Type 0} → Machine S A V → Type 0
OnlyAddsOutput {S = S} M = (s : S) → IsPrefix (M.output s) (M.output (landing (M.step s)))

-- the step goes on to where Q holds, or the machine is exhausted where P holds
abbrev pub Onward : {T V : Type 0} → Next T V → (T → Type 0) → (T → Type 0) → Type 0
Onward (Go t) P Q = Q t
Onward (Stop (Verdict v) t) P Q = ⊥
Onward (Stop Exhausted t) P Q = P t
Onward (Stop Wrong t) P Q = ⊥

-- in k steps the machine comes to where Q holds, or is exhausted before; P holds at each state that it leaves, and
-- where it is exhausted
abbrev pub Reaches : {T B V : Type 0} → Machine T B V → (T → Type 0) → (T → Type 0) → ℕ → T → Type 0
Reaches N P Q zero t = Q t
Reaches N P Q (suc k) t = P t × Onward (N.step t) P (Reaches N P Q k)

-- the target's state is seen as the source's
pub record Alike {S T A B V : Type 0} (K : B → A → Type 0) (M : Machine S A V) (N : Machine T B V) (s : S)
    (t : T) : Type 0 where
  pub output : N.output t ≡ M.output s
  pub shown : K (N.shown t) (M.shown s)

-- on the way from s to s' the target's state is seen as one of both, and shows what L allows at s'
abbrev pub OnTheWay : {S T A B V : Type 0} → (K L : B → A → Type 0) → Machine S A V → Machine T B V → S → S → T → Type 0
OnTheWay K L M N s s' t = (Alike K M N s t ⊎ Alike K M N s' t) × L (N.shown t) (M.shown s')

-- the target is on the way from s to s', and its step stops with this ending, seen as the source is at s'
abbrev pub StopsAt : {S T A B V : Type 0} → (K L : B → A → Type 0) → Machine S A V → Machine T B V → S → S → Ending V
    → T → Type 0
StopsAt {T = T} K L M N s s' e t =
    OnTheWay K L M N s s' t × ((t' : T) × (N.step t ≡ Stop e t') × Alike K M N s' t' × L (N.shown t') (M.shown s'))

-- a claim of every ending but Wrong
abbrev pub UnlessWrong : {V : Type 0} → Ending V → Type 0 → Type 0
UnlessWrong (Verdict v) P = P
UnlessWrong Exhausted P = P
UnlessWrong Wrong P = Unit {0}

-- what the target does from t for a step of the source from s: some steps, or none where a measure of the source's
-- state falls; a step that goes wrong is left open
abbrev pub Does : {S T A B V : Type 0} → (K L : B → A → Type 0) → Machine S A V → Machine T B V → (S → T → Type 0)
    → (S → ℕ) → S → T → Next S V → Type 0
Does K L M N R size s t (Go s') = (k : ℕ) × (0 < k ⊎ size s' < size s) × Reaches N (OnTheWay K L M N s s') (R s') k t
Does K L M N R size s t (Stop e s') =
    UnlessWrong e ((k : ℕ) × Reaches N (OnTheWay K L M N s s') (StopsAt K L M N s s' e) k t)

-- the target N simulates the source M: from states that R relates it does each step of the source
pub record Simulation {S T A B V : Type 0} (K L : B → A → Type 0) (M : Machine S A V) (N : Machine T B V)
    (R : S → T → Type 0) (size : S → ℕ) : Type 0 where
  pub alike : (s : S) (t : T) → R s t → Alike K M N s t × L (N.shown t) (M.shown s)
  pub does : (s : S) (t : T) → R s t → Does K L M N R size s t (M.step s)
  -- what L allows stays allowed as the source goes on
  pub still_allowed : (b : B) (s : S) → L b (M.shown s) → L b (M.shown (landing (M.step s)))

-- What the run of a machine does.
use Rattle.std.proofs.Common.{◌≡◌, ◌≢◌, ℕ, zero, suc, ◌+◌, ◌≤◌, Some, None, refl, ap, ◌∙◌, arith}
use Rattle.run_laws.specs.Runs.{Ending, Verdict, Exhausted, Wrong, IsPrefix, IsExhausted, NeverWrong, StaysEnded}
use Rattle.run_laws.specs.Runs.{OutputGrows}
use Rattle.run_laws.specs.Machines.{Next, Go, Stop, Machine, moment, and_then, steps, seen, run, landing}
use Rattle.run_laws.specs.Machines.{OnlyAddsOutput}
use Rattle.run_laws.proofs.Following.{prefix_trans, prefix_refl}

module _ {S A V : Type 0} (M : Machine S A V) where
  -- one step of a run
  pub run_go : (s s' : S) (n : ℕ) → M.step s ≡ Go s' → run M s (suc n) ≡ run M s' n
  run_go s s' n e = ap (λ x. seen M (and_then x (λ s1. steps M s1 n))) e

  pub run_stop : (s s' : S) (e : Ending V) (n : ℕ) → M.step s ≡ Stop e s' → run M s (suc n) ≡ moment M s' (Some e)
  run_stop s s' e n h = ap (λ x. seen M (and_then x (λ s1. steps M s1 n))) h

  -- more steps lead where they lead from the state after the first ones
  sum_on : (n m : ℕ) → ((s : S) → steps M s (n + m) ≡ and_then (steps M s n) (λ s1. steps M s1 m)) → (x : Next S V)
      → and_then x (λ s. steps M s (n + m)) ≡ and_then (and_then x (λ s. steps M s n)) (λ s. steps M s m)
  sum_on n m ih (Go s) = ih s
  sum_on n m ih (Stop e s) = refl

  pub later_steps_go_on_from_earlier_ones-machines : (n m : ℕ) (s : S)
      → steps M s (n + m) ≡ and_then (steps M s n) (λ s1. steps M s1 m)
  later_steps_go_on_from_earlier_ones-machines zero m s = let e : 0 + m ≡ m = omega arith in ap (steps M s) e
  later_steps_go_on_from_earlier_ones-machines (suc n) m s =
      let e : suc n + m ≡ suc (n + m) = omega arith in
      ap (steps M s) e ∙ sum_on n m (λ s1. later_steps_go_on_from_earlier_ones-machines n m s1) (M.step s)

  -- a run has not ended at bound 0
  not_at_once : (s : S) (e : Ending V) → (run M s 0).ending ≡ Some e → ⊥
  not_at_once s e h = absurd (none_is_not_some h)
    where
      none_is_not_some : None ≡ Some e → ⊥
      none_is_not_some h = cc

  -- what has ended stays as it is
  stays_on : (n m : ℕ) (e : Ending V) → ((s : S) → (run M s n).ending ≡ Some e → run M s m ≡ run M s n)
      → (x : Next S V) → (seen M (and_then x (λ s. steps M s n))).ending ≡ Some e
      → seen M (and_then x (λ s. steps M s m)) ≡ seen M (and_then x (λ s. steps M s n))
  stays_on n m e ih (Go s) h = ih s h
  stays_on n m e ih (Stop o s) h = refl

  ended_from : (n m : ℕ) (s : S) (e : Ending V) → n ≤ m → (run M s n).ending ≡ Some e → run M s m ≡ run M s n
  ended_from zero m s e le h = absurd (not_at_once s e h)
  ended_from (suc n) zero s e le h = absurd (omega arith)
  ended_from (suc n) (suc m) s e le h = stays_on n m e (λ s1 h1. ended_from n m s1 e (omega arith) h1) (M.step s) h

  pub what_has_ended_stays-machines : (s : S) → StaysEnded (run M s)
  what_has_ended_stays-machines s n m e le h = ended_from n m s e le h

  -- where no step takes output back, the output only grows along the run
  start_on : (m : ℕ) (s : S) → ((s1 : S) → IsPrefix (M.output s1) (run M s1 m).output) → (x : Next S V)
      → IsPrefix (M.output s) (M.output (landing x))
      → IsPrefix (M.output s) (seen M (and_then x (λ s1. steps M s1 m))).output
  start_on m s ih (Go s1) g = prefix_trans (M.output s) (M.output s1) (run M s1 m).output g (ih s1)
  start_on m s ih (Stop o s1) g = g

  start_grows : OnlyAddsOutput M → (m : ℕ) (s : S) → IsPrefix (M.output s) (run M s m).output
  start_grows g zero s = prefix_refl (M.output s) (M.output s) refl
  start_grows g (suc m) s = start_on m s (λ s1. start_grows g m s1) (M.step s) (g s)

  grows_from : OnlyAddsOutput M → (n m : ℕ) (s : S) → n ≤ m → IsPrefix (run M s n).output (run M s m).output
  grows_from g zero m s le = start_grows g m s
  grows_from g (suc n) zero s le = absurd (omega arith)
  grows_from g (suc n) (suc m) s le = grows_step n m (λ s1. grows_from g n m s1 (omega arith)) (M.step s)
    where
      grows_step : (n m : ℕ) → ((s1 : S) → IsPrefix (run M s1 n).output (run M s1 m).output) → (x : Next S V)
          → IsPrefix (seen M (and_then x (λ s1. steps M s1 n))).output (seen M (and_then x (λ s1. steps M s1 m))).output
      grows_step n m ih (Go s1) = ih s1
      grows_step n m ih (Stop o s1) = prefix_refl (M.output s1) (M.output s1) refl

  pub output_only_grows-machines : OnlyAddsOutput M → (s : S) → OutputGrows (run M s)
  output_only_grows-machines g s n m le = grows_from g n m s le

  -- the step leads to where the invariant holds, or ends other than wrong
  abbrev pub Safely : (S → Type 0) → Next S V → Type 0
  Safely I (Go s) = I s
  Safely I (Stop (Verdict v) s) = Unit {0}
  Safely I (Stop Exhausted s) = Unit {0}
  Safely I (Stop Wrong s) = ⊥

  safe_on : (I : S → Type 0) (n : ℕ) → ((s : S) → I s → (run M s n).ending ≢ Some Wrong) → (x : Next S V) → Safely I x
      → (seen M (and_then x (λ s. steps M s n))).ending ≢ Some Wrong
  safe_on I n ih (Go s) i = ih s i
  safe_on I n ih (Stop (Verdict v) s) i = λ e. cc
  safe_on I n ih (Stop Exhausted s) i = λ e. cc
  safe_on I n ih (Stop Wrong s) i = absurd i

  safe_along : (I : S → Type 0) → ((s : S) → I s → Safely I (M.step s)) → (n : ℕ) (s : S) → I s
      → (run M s n).ending ≢ Some Wrong
  safe_along I safe zero s i = λ e. cc
  safe_along I safe (suc n) s i = safe_on I n (λ s1 i1. safe_along I safe n s1 i1) (M.step s) (safe s i)

  -- a run from where an invariant holds under which each step goes safely never goes wrong
  pub never_wrong : (I : S → Type 0) → ((s : S) → I s → Safely I (M.step s)) → (s : S) → I s → NeverWrong (run M s)
  never_wrong I safe s i n = safe_along I safe n s i

  -- E holds of what is shown where the step stops exhausted
  abbrev pub RunsOut : (A → Type 0) → Next S V → Type 0
  RunsOut E (Go s) = Unit {0}
  RunsOut E (Stop (Verdict v) s) = Unit {0}
  RunsOut E (Stop Exhausted s) = E (M.shown s)
  RunsOut E (Stop Wrong s) = Unit {0}

  out_on : (E : A → Type 0) (n : ℕ) → ((s : S) → IsExhausted (run M s n) → E (run M s n).shown) → (x : Next S V)
      → RunsOut E x → IsExhausted (seen M (and_then x (λ s. steps M s n)))
      → E (seen M (and_then x (λ s. steps M s n))).shown
  out_on E n ih (Go s) o h = ih s h
  out_on E n ih (Stop (Verdict v) s) o h = cc
  out_on E n ih (Stop Exhausted s) o h = o
  out_on E n ih (Stop Wrong s) o h = cc

  -- where each step that stops exhausted has E, a run that is exhausted has E
  pub runs_out : (E : A → Type 0) → ((s : S) → RunsOut E (M.step s)) → (n : ℕ) (s : S) → IsExhausted (run M s n)
      → E (run M s n).shown
  runs_out E o zero s h = cc
  runs_out E o (suc n) s h = out_on E n (λ s1 h1. runs_out E o n s1 h1) (M.step s) (o s) h

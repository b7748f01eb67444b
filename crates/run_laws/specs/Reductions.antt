-- Reductions, whose states say themselves whether they have ended: so a run may have ended after no step.
use Rattle.std.specs.Prelude.{◌≡◌, ℕ, zero, suc, List, Option, Some, None}
use Rattle.run_laws.specs.Runs.{Ending, Moment, Run, IsPrefix}
use Rattle.run_laws.specs.Machines.{Next, Go, Stop, Machine}

-- a reduction: its step, and of each state the ending, if it has ended, the output so far and what is shown
pub record Reduction (S A V : Type 0) : Type 0 where
  pub step : S → S
  pub ending : S → Option (Ending V)
  pub output : S → List ℕ
  pub shown : S → A

-- makes the step unless there is an ending
abbrev pub unless_ended : {S V : Type 0} → Option (Ending V) → (S → S) → S → S
unless_ended None step s = step s
unless_ended (Some e) step s = s

-- the state after at most n steps; one that has ended stays as it is
abbrev pub state_after : {S A V : Type 0} → Reduction S A V → S → ℕ → S
state_after M s zero = s
state_after M s (suc n) = state_after M (unless_ended (M.ending s) M.step s) n

-- what is seen of a state
abbrev pub moment_at : {S A V : Type 0} → Reduction S A V → S → Moment A V
moment_at M s = record { shown = M.shown s; output = M.output s; ending = M.ending s }

-- the run from a state: what is seen after at most n steps
abbrev pub reduction_run : {S A V : Type 0} → Reduction S A V → S → Run A V
reduction_run M s n = moment_at M (state_after M s n)

-- no step takes output back
abbrev pub ReductionOnlyAddsOutput : {S A V : Type 0} → Reduction S A V → Type 0
ReductionOnlyAddsOutput {S = S} M = (s : S) → M.ending s ≡ None → IsPrefix (M.output s) (M.output (M.step s))

-- stops where there is an ending, and else goes on
abbrev pub go_or_stop : {S V : Type 0} → Option (Ending V) → (S → S) → S → Next S V
go_or_stop None step s = Go (step s)
go_or_stop (Some e) step s = Stop e s

-- the machine of a reduction: its step stops where the state has ended, and goes on to the next state elsewhere
abbrev pub machine_of : {S A V : Type 0} → Reduction S A V → Machine S A V
machine_of M = record { step = λ s. go_or_stop (M.ending s) M.step s; output = M.output; shown = M.shown }

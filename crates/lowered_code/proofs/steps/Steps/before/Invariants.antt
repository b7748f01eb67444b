use Rattle.std.proofs.Common.{◌≡◌, vec_len}
use Rattle.std.specs.Prelude.{IfOk, IsOkAnd}
use Rattle.low_ir.specs.Views.{code_of}
use Rattle.lowered_code.specs.Steps.{ahead}
use Rattle.lowered_code.proofs.steps.Steps.before.Given as goal

-- the steps that are left, and behind them what was made, come to the whole
abbrev pub invariant-loop-step : goal.invariant-loop-step
invariant-loop-step l =
    IfOk l.code (λ made. IsOkAnd l.fn.end (λ end.
    ahead l.self.steps.items (code_of made.value) ≡ ahead l.fn.self.steps.items (code_of end.value)))

abbrev pub decreases-loop-step : goal.decreases-loop-step
decreases-loop-step l = vec_len l.self.steps

use Rattle.std.proofs.Common.{◌≡◌, ◌+◌, ℕ, List}
use Rattle.run_laws.specs.Reductions.{state_after}
use Rattle.grift_base.specs.declared.places.Pos.{Pos}
use Rattle.core_calc.specs.Calculus.{calculus}
use Rattle.core_calc.specs.States.{state_view}
use Rattle.calc_stepper.proofs.runs.run.Given as goal

-- how many steps are made by now, and where they have led
abbrev pub invariant-loop-left : goal.invariant-loop-left
invariant-loop-left l =
    (made : ℕ) × (made + l.left ≡ l.fn.steps) × ((labels : List Pos) →
    state_view l.state ≡ state_after (calculus l.types labels) (state_view l.fn.state) made)

abbrev pub decreases-loop-left : goal.decreases-loop-left
decreases-loop-left l = l.left

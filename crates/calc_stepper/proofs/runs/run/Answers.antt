use Rattle.std.proofs.Common.{◌≡◌, ◌+◌, ◌-◌, arith}
use Rattle.core_calc.specs.States.{state_view}
use Rattle.calc_stepper.proofs.Running.{then_step, run_ended, run_spent, some_end}
use Rattle.calc_stepper.proofs.runs.run.Goals as goal
use Rattle.calc_stepper.proofs.runs.run.Goals.{then-loop-left-test+else-is_none, else-loop-left-test}

pub loop-left-preserved : goal.loop-left-preserved
loop-left-preserved c =
    let k : (c.loop-left.invariant.0 + 1) + (c.loop-left.left - 1)
    ≡ c.args.steps = omega (arith, c.loop-left.invariant.1) in (
      c.loop-left.invariant.0 + 1,
      k,
      λ labels.
          then_step c.args.types.now labels (state_view c.args.state.now) (state_view c.loop-left.state)
          (state_view c.step.new.state) c.loop-left.invariant.0 (c.loop-left.invariant.2 labels)
          (c.in_ok-step.ensures.moves labels),
    )

pub returns-clause-moves : goal.returns-clause-moves
returns-clause-moves c = λ labels.
    elim c.loop-left-test.branch [
      | then-loop-left-test+else-is_none w ↦
          run_ended c.args.types.now labels (state_view c.args.state.now) (state_view c.loop-left.state)
          c.loop-left.invariant.0 c.loop-left.left c.args.steps (c.loop-left.invariant.2 labels) c.loop-left.invariant.1
          (some_end c.loop-left.state.ended w.if-is_none.ensures)
      | else-loop-left-test w ↦
          run_spent c.args.types.now labels (state_view c.args.state.now) (state_view c.loop-left.state)
          c.loop-left.invariant.0 c.loop-left.left c.args.steps (c.loop-left.invariant.2 labels) c.loop-left.invariant.1
          (omega arith)
    ]

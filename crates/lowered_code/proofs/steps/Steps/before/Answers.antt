use Rattle.lowered_code.proofs.Gathering.{made_popped}
use Rattle.lowered_code.proofs.steps.Steps.before.Goals as goal

pub loop-step-preserved : goal.loop-step-preserved
loop-step-preserved c =
    made_popped c.args.end c.loop-step.code c.before-code.result _ _ _ c.in-Some.step c.in-Some.ensures.items
    c.loop-step.invariant c.before-code.ensures

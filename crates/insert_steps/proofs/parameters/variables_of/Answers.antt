use Rattle.std.proofs.Common.{arith}
use Rattle.insert_steps.proofs.Scoping.{variables_more}
use Rattle.insert_steps.proofs.parameters.variables_of.Goals as goal

pub loop-named-preserved : goal.loop-named-preserved
loop-named-preserved c =
    variables_more c.args.names.now c.loop-named.named-index c.named-item.result c.loop-named.ids c.push.new.self
    (omega arith) c.named-item.is c.loop-named.invariant c.in_ok-push.ensures.ok

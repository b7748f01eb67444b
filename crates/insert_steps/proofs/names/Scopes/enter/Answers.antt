use Rattle.std.proofs.Common.{arith}
use Rattle.insert_steps.proofs.Scoping.{enter_more}
use Rattle.insert_steps.proofs.names.Scopes.enter.Goals as goal

pub loop-named-preserved : goal.loop-named-preserved
loop-named-preserved c =
    enter_more c.args.names.now c.loop-named.named-index c.named-item.result c.args.self.now c.loop-named.self
    c.bind.new.self (omega arith) c.named-item.is c.loop-named.invariant c.in_ok-bind.ensures

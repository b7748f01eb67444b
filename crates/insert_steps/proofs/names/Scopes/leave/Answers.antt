use Rattle.insert_steps.proofs.Scoping.{leave_more}
use Rattle.insert_steps.proofs.names.Scopes.leave.Goals as goal

pub loop-taken-preserved : goal.loop-taken-preserved
loop-taken-preserved c =
    leave_more c.loop-taken._taken c.args.self.now c.loop-taken.self c.leave_one.new.self c.loop-taken.invariant
    c.in_ok-leave_one.ensures

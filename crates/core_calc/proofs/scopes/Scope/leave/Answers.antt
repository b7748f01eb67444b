use Rattle.core_calc.proofs.Chains.{scope_taken}
use Rattle.core_calc.proofs.scopes.Scope.leave.Goals as goal

pub returns : goal.returns
returns c =
    rw (← c.self.view_is, c.truncate.ensures.entries) (scope_taken c.args.outside c.self.inside.names.entries)

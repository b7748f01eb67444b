use Rattle.std.proofs.Common.{sym, ◌∙◌}
use Rattle.core_calc.proofs.Chains.{bound_already, bound_last}
use Rattle.core_calc.proofs.scopes.Scope.bind.Goals as goal

pub returns-then-contains_key : goal.returns-then-contains_key
returns-then-contains_key c =
    rw (← c.self.view_is) (bound_already c.args.name.0 c.args.ty.0 c.self.inside.names.entries
    (sym c.contains_key.ensures ∙ c.if-contains_key.true))

pub returns : goal.returns
returns c =
    rw (← c.self.view_is, c.in_ok-insert.ensures.entries) (bound_last c.args.name.0 c.args.ty
    c.self.inside.names.entries (sym c.contains_key.ensures ∙ c.if-contains_key.false))

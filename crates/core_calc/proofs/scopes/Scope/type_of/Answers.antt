use Rattle.std.proofs.Common.{sym, ap, ◌∙◌, option_map}
use Rattle.core_calc.proofs.Chains.{entry_lookup}
use Rattle.core_calc.proofs.scopes.Scope.type_of.Goals as goal

pub returns : goal.returns
returns c =
    rw (← c.self.view_is) (ap (option_map (λ t. t.0)) (c.copied.ensures ∙ c.get.ensures.value)
    ∙ sym (entry_lookup c.args.name.0 c.self.inside.names.entries))

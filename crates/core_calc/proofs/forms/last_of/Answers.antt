use Rattle.std.proofs.Common.{ap, ◌∙◌, option_map}
use Rattle.core_calc.proofs.Chains.{last_is}
use Rattle.core_calc.proofs.forms.last_of.Goals as goal

pub returns : goal.returns
returns c = ap (option_map (λ t. t.0)) (c.copied.ensures ∙ c.last.ensures.value) ∙ last_is c.args.given.now

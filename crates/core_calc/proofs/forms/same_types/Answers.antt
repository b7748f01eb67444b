use Rattle.std.proofs.Common.{◌∙◌}
use Rattle.core_calc.proofs.Chains.{ids_by_numbers}
use Rattle.core_calc.proofs.forms.same_types.Goals as goal

pub returns : goal.returns
returns c = c.eq.ensures ∙ ids_by_numbers c.args.given.now c.args.wanted.now

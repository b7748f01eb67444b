use Rattle.std.proofs.Common.{ap}
use Rattle.core_calc.specs.Terms.{TermThen}
use Rattle.core_calc.specs.Views.{term_of, terms_of}
use Rattle.core_calc.specs.declared.terms.CoreList.{CoreList}
use Rattle.insert_steps.proofs.joining.terms_first.Goals as goal

pub returns : goal.returns
returns c = ap (λ (terms : CoreList). TermThen (term_of c.args.e.core.value) (terms_of terms)) c.in_ok-rest.ensures

use Rattle.std.proofs.Common.{◌∙◌, Some, ap, sym}
use Rattle.core_calc.specs.Terms.{as_value}
use Rattle.core_calc.specs.Views.{term_of}
use Rattle.core_terms.proofs.copies.copy_as_value.Goals as goal

pub returns-in-Bool : goal.returns-in-Bool
returns-in-Bool c = sym (ap (λ x. as_value (term_of x)) c.in-Bool.is)

pub returns-in-Unit : goal.returns-in-Unit
returns-in-Unit c = sym (ap (λ x. as_value (term_of x)) c.in-Unit.is)

pub returns-in_ok-v-in-Value : goal.returns-in_ok-v-in-Value
returns-in_ok-v-in-Value c =
    ap Some c.in_ok-v-in-Value.ensures ∙ sym (ap (λ x. as_value (term_of x)) c.in-Value.is)

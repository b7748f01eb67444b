use Rattle.std.proofs.Common.{ap₂}
use Rattle.core_calc.specs.Terms.{BindingThen}
use Rattle.core_calc.specs.Views.{bindings_of, term_of}
use Rattle.core_calc.specs.declared.terms.CoreBinding.{out-CoreBinding}
use Rattle.core_terms.proofs.lists.binding_then.Goals as goal

pub returns : goal.returns
returns c =
    ap₂ (λ x y. BindingThen (out-CoreBinding x).name.0 (term_of (out-CoreBinding x).value) (bindings_of y))
    c.in_ok-first.ensures.first c.in_ok-first.ensures.second

use Rattle.std.proofs.Common.{ap}
use Rattle.core_calc.specs.Terms.{binding_names}
use Rattle.core_calc.specs.Views.{bindings_of}
use Rattle.core_calc.specs.declared.terms.CoreBinding.{out-CoreBinding}
use Rattle.core_terms.proofs.Gathering.{name_pushed}
use Rattle.core_terms.proofs.substitution.names_of_bindings.Goals as goal

pub loop-left-preserved : goal.loop-left-preserved
loop-left-preserved c =
    name_pushed _ _ _ _ _ _ _ c.in_ok-push_name.ensures (ap (λ x. binding_names (bindings_of x)) c.deref-left.ensures)
    (ap (λ x. (out-CoreBinding x).name.0) c.deref.ensures) (rw c.in-Cons.is at c.loop-left.invariant)

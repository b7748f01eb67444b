use Rattle.std.proofs.Common.{◌≡◌}
use Rattle.coer_core.specs.Terms.{NoRowBindings}
use Rattle.coer_core.specs.TermLists.{bindings_onto}
use Rattle.coer_core.specs.Views.{row_bindings_of}
use Rattle.coer_core.proofs.terms.CoerBindings.reversed.Given as goal

abbrev pub invariant-loop-self : goal.invariant-loop-self
invariant-loop-self l =
    bindings_onto (row_bindings_of l.self) (row_bindings_of l.turned) ≡ bindings_onto (row_bindings_of l.fn.self)
    NoRowBindings

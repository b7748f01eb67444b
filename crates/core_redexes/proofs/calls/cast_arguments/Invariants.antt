use Rattle.std.proofs.Common.{◌≡◌}
use Rattle.type_graph.specs.Rows.{places_of}
use Rattle.core_calc.specs.Views.{terms_of}
use Rattle.core_terms.specs.Lists.{terms_onto}
use Rattle.core_redexes.specs.Taken.{casts}
use Rattle.core_redexes.proofs.calls.cast_arguments.Given as goal

abbrev pub invariant-loop-left : goal.invariant-loop-left
invariant-loop-left l =
    terms_onto (terms_of l.done) (casts (terms_of l.left) (places_of l.froms) (places_of l.tos) l.label.0)
    ≡ casts (terms_of l.arguments) (places_of l.fn.froms) (places_of l.fn.tos) l.label.0

use Rattle.std.proofs.Common.{◌≡◌, take, Some}
use Rattle.type_graph.specs.Rows.{places_of}
use Rattle.core_calc.specs.Views.{names_of}
use Rattle.core_calc.specs.Substitution.{bind}
use Rattle.core_calc.specs.TypeOf.{context_of}
use Rattle.core_calc.proofs.typing.bound_to.Given as goal

-- the names so far are bound to the types so far
abbrev pub invariant-loop-i : goal.invariant-loop-i
invariant-loop-i l =
    bind (names_of (take l.i l.names)) (places_of (take l.i l.types)) ≡ Some (context_of l.done.items)

use Rattle.std.proofs.Common.{◌≡◌, ◌+◌, ◌≤◌, length, min}
use Rattle.core_calc.specs.Terms.{binding_list}
use Rattle.core_calc.specs.Views.{bindings_of}
use Rattle.core_calc.proofs.terms.CoreBindings.len.Given as goal

abbrev pub invariant-loop-left : goal.invariant-loop-left
invariant-loop-left l =
    (l.count ≤ 18446744073709551615) × (min 18446744073709551615
    (l.count + length (binding_list (bindings_of l.left))) ≡
    min 18446744073709551615 (length (binding_list (bindings_of l.fn.self))))

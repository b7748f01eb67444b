use Rattle.std.proofs.Common.{◌≡◌, ◌+◌, ◌≤◌, length, min}
use Rattle.core_calc.specs.Terms.{value_list}
use Rattle.core_calc.specs.Views.{values_of}
use Rattle.core_calc.proofs.terms.Values.len.Given as goal

abbrev pub invariant-loop-left : goal.invariant-loop-left
invariant-loop-left l =
    (l.count ≤ 18446744073709551615) × (min 18446744073709551615 (l.count + length (value_list (values_of l.left))) ≡
    min 18446744073709551615 (length (value_list (values_of l.fn.self))))

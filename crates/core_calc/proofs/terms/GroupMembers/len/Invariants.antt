use Rattle.std.proofs.Common.{◌≡◌, ◌+◌, ◌≤◌, length, min}
use Rattle.core_calc.specs.Terms.{member_list}
use Rattle.core_calc.specs.Views.{members_of}
use Rattle.core_calc.proofs.terms.GroupMembers.len.Given as goal

abbrev pub invariant-loop-left : goal.invariant-loop-left
invariant-loop-left l =
    (l.count ≤ 18446744073709551615) × (min 18446744073709551615 (l.count + length (member_list (members_of l.left))) ≡
    min 18446744073709551615 (length (member_list (members_of l.fn.self))))

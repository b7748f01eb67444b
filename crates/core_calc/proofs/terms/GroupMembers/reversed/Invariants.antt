use Rattle.std.proofs.Common.{◌≡◌, ◌++◌, reverse}
use Rattle.core_calc.specs.Terms.{member_list}
use Rattle.core_calc.specs.Views.{members_of}
use Rattle.core_calc.proofs.terms.GroupMembers.reversed.Given as goal

abbrev pub invariant-loop-self : goal.invariant-loop-self
invariant-loop-self l =
    reverse (member_list (members_of l.self)) ++ member_list (members_of l.turned) ≡
    reverse (member_list (members_of l.fn.self))

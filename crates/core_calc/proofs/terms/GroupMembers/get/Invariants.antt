use Rattle.std.proofs.Common.{◌≡◌, slice_get}
use Rattle.core_calc.specs.Terms.{member_list}
use Rattle.core_calc.specs.Views.{members_of}
use Rattle.core_calc.proofs.terms.GroupMembers.get.Given as goal

abbrev pub invariant-loop-left : goal.invariant-loop-left
invariant-loop-left l =
    slice_get (member_list (members_of l.left)) l.place ≡ slice_get (member_list (members_of l.fn.self)) l.fn.i

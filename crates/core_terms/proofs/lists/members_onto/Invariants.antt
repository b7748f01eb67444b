use Rattle.std.proofs.Common.{◌≡◌}
use Rattle.core_calc.specs.declared.terms.GroupMembers.{size-GroupMembers}
use Rattle.core_calc.specs.Views.{members_of}
use Rattle.core_terms.specs.Lists.{members_onto}
use Rattle.core_terms.proofs.lists.members_onto.Given as goal

abbrev pub invariant-loop-done : goal.invariant-loop-done
invariant-loop-done l =
    members_onto (members_of l.done) (members_of l.made) ≡ members_onto (members_of l.fn.done) (members_of l.fn.rest)

abbrev pub decreases-loop-done : goal.decreases-loop-done
decreases-loop-done l = size-GroupMembers l.done

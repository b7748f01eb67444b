use Rattle.std.proofs.Common.{◌≡◌, ◌++◌}
use Rattle.core_calc.specs.Views.{names_of}
use Rattle.coer_core.specs.Counts.{row_member_names}
use Rattle.coer_core.specs.Views.{row_members_of}
use Rattle.coer_core.specs.declared.terms.CoerMembers.{size-CoerMembers}
use Rattle.closure_convert.proofs.conversion.member_names.Given as goal

-- the names so far, and those that are left, are all
abbrev pub invariant-loop-left : goal.invariant-loop-left
invariant-loop-left l =
    names_of l.names ++ row_member_names (row_members_of l.left) ≡ row_member_names (row_members_of l.members)

abbrev pub decreases-loop-left : goal.decreases-loop-left
decreases-loop-left l = size-CoerMembers l.left

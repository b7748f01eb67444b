use Rattle.std.proofs.Common.{◌≡◌, ◌++◌}
use Rattle.core_calc.specs.Terms.{member_names}
use Rattle.core_calc.specs.Views.{names_of, members_of}
use Rattle.core_terms.proofs.substitution.names_of_members.Given as goal

abbrev pub invariant-loop-left : goal.invariant-loop-left
invariant-loop-left l = names_of l.names ++ member_names (members_of l.left) ≡ member_names (members_of l.members)

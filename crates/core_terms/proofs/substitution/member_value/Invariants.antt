use Rattle.std.proofs.Common.{◌≡◌}
use Rattle.core_calc.specs.Substitution.{entry_of, members_from, group_values}
use Rattle.core_calc.specs.Views.{members_of}
use Rattle.core_terms.proofs.substitution.member_value.Given as goal

abbrev pub invariant-loop-left : goal.invariant-loop-left
invariant-loop-left l =
    entry_of l.name.0 (members_from (members_of l.members) (members_of l.left) l.place)
    ≡ entry_of l.name.0 (group_values (members_of l.members))

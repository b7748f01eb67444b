use Rattle.std.proofs.Common.{◌≡◌, ◌++◌}
use Rattle.core_calc.specs.Substitution.{without, members_from, group_values}
use Rattle.core_calc.specs.Views.{names_of, members_of}
use Rattle.core_terms.specs.Entries.{entries_of}
use Rattle.core_terms.proofs.substitution.push_others.Given as goal

abbrev pub invariant-loop-left : goal.invariant-loop-left
invariant-loop-left l =
    entries_of l.entries.items
    ++ without (names_of l.names) (members_from (members_of l.members) (members_of l.left) l.place)
    ≡ entries_of l.fn.entries.items ++ without (names_of l.names) (group_values (members_of l.members))

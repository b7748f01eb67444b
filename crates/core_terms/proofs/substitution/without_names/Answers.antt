use Rattle.core_calc.specs.Substitution.{group_values}
use Rattle.core_calc.specs.Views.{members_of, names_of}
use Rattle.core_terms.specs.Entries.{entries_of}
use Rattle.core_terms.proofs.Hiding.{none_hidden, some_hidden}
use Rattle.core_terms.proofs.substitution.without_names.Goals as goal

pub returns-then-not-members_clash : goal.returns-then-not-members_clash
returns-then-not-members_clash c =
    none_hidden (names_of c.args.names.now) (entries_of c.args.entries.now)
    (group_values (members_of c.args.members.now)) (c.clashes.ensures c.if-not-clashes.true)
    (c.members_clash.ensures c.if-not-members_clash.true (members_of c.args.members.now) 0)

pub returns : goal.returns
returns c =
    some_hidden (names_of c.args.names.now) (entries_of c.args.entries.now)
    (group_values (members_of c.args.members.now)) (entries_of c.in_ok-left.left.items)
    (entries_of c.push_others.new.entries.items) c.in_ok-left.ensures c.in_ok-push_others.ensures

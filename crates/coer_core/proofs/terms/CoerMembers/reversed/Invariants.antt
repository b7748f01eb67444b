use Rattle.std.proofs.Common.{◌≡◌}
use Rattle.coer_core.specs.Terms.{NoRowMembers}
use Rattle.coer_core.specs.TermLists.{members_onto}
use Rattle.coer_core.specs.Views.{row_members_of}
use Rattle.coer_core.proofs.terms.CoerMembers.reversed.Given as goal

abbrev pub invariant-loop-self : goal.invariant-loop-self
invariant-loop-self l =
    members_onto (row_members_of l.self) (row_members_of l.turned) ≡ members_onto (row_members_of l.fn.self)
    NoRowMembers

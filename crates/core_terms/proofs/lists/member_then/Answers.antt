use Rattle.std.proofs.Common.{ap₂}
use Rattle.core_calc.specs.Terms.{MemberThen}
use Rattle.core_calc.specs.Views.{members_of, names_of, term_of}
use Rattle.core_calc.specs.declared.terms.GroupMember.{out-GroupMember}
use Rattle.core_terms.proofs.lists.member_then.Goals as goal

pub returns : goal.returns
returns c =
    ap₂ (λ x y. MemberThen (out-GroupMember x).name.0 (names_of (out-GroupMember x).params)
    (term_of (out-GroupMember x).body) (out-GroupMember x).ty.0 (members_of y))
    c.in_ok-first.ensures.first c.in_ok-first.ensures.second

use Rattle.std.proofs.Common.{◌≡◌, ℕ}
use Rattle.core_calc.specs.Terms.{Members}
use Rattle.core_calc.specs.Substitution.{without, members_from}
use Rattle.core_calc.specs.Views.{names_of, members_of}
use Rattle.core_terms.proofs.substitution.members_clash.Given as goal

-- where nothing is left out of what is left, nothing is left out of the whole
abbrev pub invariant-loop-left : goal.invariant-loop-left
invariant-loop-left l =
    ((group : Members) (place : ℕ) → without (names_of l.names) (members_from group (members_of l.left) place)
    ≡ members_from group (members_of l.left) place) →
    (group : Members) (place : ℕ) → without (names_of l.names) (members_from group (members_of l.members) place)
    ≡ members_from group (members_of l.members) place

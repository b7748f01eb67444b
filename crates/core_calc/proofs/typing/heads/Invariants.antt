use Rattle.std.proofs.Common.{◌≡◌, ◌++◌}
use Rattle.core_calc.specs.Views.{members_of}
use Rattle.core_calc.specs.Typing.{member_types}
use Rattle.core_calc.specs.TypeOf.{context_of}
use Rattle.core_calc.proofs.typing.heads.Given as goal

-- the heads that are done stand in front of those that are left
abbrev pub invariant-loop-left : goal.invariant-loop-left
invariant-loop-left l =
    context_of l.done.items ++ member_types (members_of l.left) ≡ member_types (members_of l.members)

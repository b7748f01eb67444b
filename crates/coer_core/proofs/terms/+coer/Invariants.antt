use Rattle.std.proofs.Common.{◌≤◌}
use Rattle.coer_core.specs.declared.terms.CoerList.{size-CoerList}
use Rattle.coer_core.specs.declared.terms.CoerMembers.{size-CoerMembers}
use Rattle.coer_core.specs.declared.terms.CoerBindings.{size-CoerBindings}
use Rattle.coer_core.proofs.terms.+coer.Given as goal

abbrev pub invariant-CoerList::drop-loop-of-drop_along : goal.invariant-CoerList::drop-loop-of-drop_along
invariant-CoerList::drop-loop-of-drop_along l = size-CoerList l.self ≤ size-CoerList l.fn.self

abbrev pub invariant-CoerMembers::drop-loop-of-drop_along : goal.invariant-CoerMembers::drop-loop-of-drop_along
invariant-CoerMembers::drop-loop-of-drop_along l = size-CoerMembers l.self ≤ size-CoerMembers l.fn.self

abbrev pub invariant-CoerBindings::drop-loop-of-drop_along : goal.invariant-CoerBindings::drop-loop-of-drop_along
invariant-CoerBindings::drop-loop-of-drop_along l = size-CoerBindings l.self ≤ size-CoerBindings l.fn.self

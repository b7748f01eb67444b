use Rattle.std.proofs.Common.{◌≤◌}
use Rattle.core_calc.specs.declared.terms.CoreList.{size-CoreList}
use Rattle.core_calc.specs.declared.terms.GroupMembers.{size-GroupMembers}
use Rattle.core_calc.specs.declared.terms.CoreBindings.{size-CoreBindings}
use Rattle.core_calc.specs.declared.terms.Values.{size-Values}
use Rattle.core_calc.proofs.terms.+core.Given as goal

abbrev pub invariant-CoreList::drop-loop-of-drop_along : goal.invariant-CoreList::drop-loop-of-drop_along
invariant-CoreList::drop-loop-of-drop_along l = size-CoreList l.self ≤ size-CoreList l.fn.self

abbrev pub invariant-GroupMembers::drop-loop-of-drop_along : goal.invariant-GroupMembers::drop-loop-of-drop_along
invariant-GroupMembers::drop-loop-of-drop_along l = size-GroupMembers l.self ≤ size-GroupMembers l.fn.self

abbrev pub invariant-CoreBindings::drop-loop-of-drop_along : goal.invariant-CoreBindings::drop-loop-of-drop_along
invariant-CoreBindings::drop-loop-of-drop_along l = size-CoreBindings l.self ≤ size-CoreBindings l.fn.self

abbrev pub invariant-Values::drop-loop-of-drop_along : goal.invariant-Values::drop-loop-of-drop_along
invariant-Values::drop-loop-of-drop_along l = size-Values l.self ≤ size-Values l.fn.self

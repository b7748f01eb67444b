use Rattle.core_calc.specs.declared.terms.CoreList.{size-CoreList}
use Rattle.core_calc.specs.declared.terms.GroupMembers.{size-GroupMembers}
use Rattle.core_calc.specs.declared.terms.CoreBindings.{size-CoreBindings}
use Rattle.core_calc.specs.Views.{terms_of, members_of, bindings_of}
use Rattle.core_terms.specs.Holes.{stack_of, filled_terms, filled_members, filled_bindings, behind_terms}
use Rattle.core_terms.specs.Holes.{behind_members, behind_bindings}
use Rattle.core_terms.specs.Lists.{terms_onto, members_onto, bindings_onto}
use Rattle.core_terms.proofs.Gathering.{Filling}
use Rattle.core_terms.proofs.substitution.+filling.Given as goal

abbrev pub invariant-fill_terms-loop-left : goal.invariant-fill_terms-loop-left
invariant-fill_terms-loop-left l =
    Filling terms_onto filled_terms behind_terms terms_of size-CoreList l.done l.left l.fn.terms
    (stack_of l.holes.items) (stack_of l.fn.holes.items)

abbrev pub decreases-fill_terms-loop-left : goal.decreases-fill_terms-loop-left
decreases-fill_terms-loop-left l = size-CoreList l.left

abbrev pub invariant-fill_members-loop-left : goal.invariant-fill_members-loop-left
invariant-fill_members-loop-left l =
    Filling members_onto filled_members behind_members members_of size-GroupMembers l.done l.left l.fn.members
    (stack_of l.holes.items) (stack_of l.fn.holes.items)

abbrev pub decreases-fill_members-loop-left : goal.decreases-fill_members-loop-left
decreases-fill_members-loop-left l = size-GroupMembers l.left

abbrev pub invariant-fill_bindings-loop-left : goal.invariant-fill_bindings-loop-left
invariant-fill_bindings-loop-left l =
    Filling bindings_onto filled_bindings behind_bindings bindings_of size-CoreBindings l.done l.left l.fn.bindings
    (stack_of l.holes.items) (stack_of l.fn.holes.items)

abbrev pub decreases-fill_bindings-loop-left : goal.decreases-fill_bindings-loop-left
decreases-fill_bindings-loop-left l = size-CoreBindings l.left

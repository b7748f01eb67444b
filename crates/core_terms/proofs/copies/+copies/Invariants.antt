use Rattle.core_calc.specs.declared.terms.CoreList.{size-CoreList}
use Rattle.core_calc.specs.declared.terms.GroupMembers.{size-GroupMembers}
use Rattle.core_calc.specs.declared.terms.CoreBindings.{size-CoreBindings}
use Rattle.core_calc.specs.declared.terms.Values.{size-Values}
use Rattle.core_calc.specs.Views.{terms_of, members_of, bindings_of, values_of}
use Rattle.core_terms.specs.Lists.{terms_onto, members_onto, bindings_onto, values_onto}
use Rattle.core_terms.proofs.Gathering.{Copying}
use Rattle.core_terms.proofs.copies.+copies.Given as goal

abbrev pub invariant-copy_terms-loop-left : goal.invariant-copy_terms-loop-left
invariant-copy_terms-loop-left l = Copying terms_onto terms_of size-CoreList l.done l.left l.fn.terms

abbrev pub invariant-copy_members-loop-left : goal.invariant-copy_members-loop-left
invariant-copy_members-loop-left l = Copying members_onto members_of size-GroupMembers l.done l.left l.fn.members

abbrev pub invariant-copy_bindings-loop-left : goal.invariant-copy_bindings-loop-left
invariant-copy_bindings-loop-left l = Copying bindings_onto bindings_of size-CoreBindings l.done l.left l.fn.bindings

abbrev pub invariant-copy_values-loop-left : goal.invariant-copy_values-loop-left
invariant-copy_values-loop-left l = Copying values_onto values_of size-Values l.done l.left l.fn.values

use Rattle.std.proofs.Common.{◌≡◌, ◌≤◌}
use Rattle.core_calc.specs.declared.terms.CoreList.{size-CoreList}
use Rattle.core_calc.specs.declared.terms.GroupMembers.{size-GroupMembers}
use Rattle.core_calc.specs.declared.terms.CoreBindings.{size-CoreBindings}
use Rattle.core_calc.specs.Views.{terms_of, members_of, bindings_of}
use Rattle.core_calc.specs.Typing.{all_binders, member_binders, binding_binders}
use Rattle.core_calc.specs.TypeOf.{with_names}
use Rattle.core_calc.proofs.binders.+binders.Given as goal

-- the binders of what is left are still to be added

abbrev pub invariant-add_all_binders-loop-left : goal.invariant-add_all_binders-loop-left
invariant-add_all_binders-loop-left l = record {
  left_is : with_names l.seen (all_binders (terms_of l.left)) ≡ with_names l.fn.seen (all_binders (terms_of l.terms));
  smaller : size-CoreList l.left ≤ size-CoreList l.fn.terms;
}

abbrev pub invariant-add_member_binders-loop-left : goal.invariant-add_member_binders-loop-left
invariant-add_member_binders-loop-left l = record {
  left_is : with_names l.seen (member_binders (members_of l.left))
      ≡ with_names l.fn.seen (member_binders (members_of l.members));
  smaller : size-GroupMembers l.left ≤ size-GroupMembers l.fn.members;
}

abbrev pub invariant-add_binding_binders-loop-left : goal.invariant-add_binding_binders-loop-left
invariant-add_binding_binders-loop-left l = record {
  left_is : with_names l.seen (binding_binders (bindings_of l.left))
      ≡ with_names l.fn.seen (binding_binders (bindings_of l.bindings));
  smaller : size-CoreBindings l.left ≤ size-CoreBindings l.fn.bindings;
}

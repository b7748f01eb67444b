use Rattle.std.proofs.Common.{◌≡◌, ◌≤◌}
use Rattle.type_graph.specs.Rows.{places_of}
use Rattle.core_calc.specs.declared.terms.CoreList.{size-CoreList}
use Rattle.core_calc.specs.declared.terms.GroupMembers.{size-GroupMembers}
use Rattle.core_calc.specs.declared.terms.CoreBindings.{size-CoreBindings}
use Rattle.core_calc.specs.Views.{terms_of, members_of, bindings_of}
use Rattle.core_calc.specs.TypeOf.{context_of, types_of, members_fit, types_of_bindings}
use Rattle.core_calc.proofs.Chains.{in_front}
use Rattle.core_calc.proofs.typing.+typing.Given as goal

-- the scope is as at first, and what is done in front of what is left makes the whole

abbrev pub invariant-types_of-loop-left : goal.invariant-types_of-loop-left
invariant-types_of-loop-left l = record {
  scope_is : l.scope ≡ l.fn.scope;
  left_is : in_front (places_of l.done.items) (types_of l.types l.fn.scope (terms_of l.left))
      ≡ types_of l.types l.fn.scope (terms_of l.terms);
  smaller : size-CoreList l.left ≤ size-CoreList l.fn.terms;
}

abbrev pub invariant-members_fit-loop-left : goal.invariant-members_fit-loop-left
invariant-members_fit-loop-left l = record {
  scope_is : l.scope ≡ l.fn.scope;
  left_is : members_fit l.types l.fn.scope (members_of l.left)
      ≡ members_fit l.types l.fn.scope (members_of l.members);
  smaller : size-GroupMembers l.left ≤ size-GroupMembers l.fn.members;
}

abbrev pub invariant-types_of_bindings-loop-left : goal.invariant-types_of_bindings-loop-left
invariant-types_of_bindings-loop-left l = record {
  scope_is : l.scope ≡ l.fn.scope;
  left_is : in_front (context_of l.done.items) (types_of_bindings l.types l.fn.scope (bindings_of l.left))
      ≡ types_of_bindings l.types l.fn.scope (bindings_of l.bindings);
  smaller : size-CoreBindings l.left ≤ size-CoreBindings l.fn.bindings;
}

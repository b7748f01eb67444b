use Rattle.std.proofs.Common.{◌≡◌, ◌≤◌}
use Rattle.core_calc.specs.declared.terms.CoreList.{size-CoreList}
use Rattle.core_calc.specs.declared.terms.GroupMembers.{size-GroupMembers}
use Rattle.core_calc.specs.declared.terms.CoreBindings.{size-CoreBindings}
use Rattle.core_calc.specs.Views.{terms_of, members_of, bindings_of}
use Rattle.core_terms.specs.Entries.{with_group}
use Rattle.core_terms.specs.Holes.{holes_of, found_in_terms, found_in_members, found_in_bindings}
use Rattle.core_terms.proofs.substitution.+finding.Given as goal

-- behind what is found by now stands what is left, and that is the whole

abbrev pub invariant-find_in_terms-loop-left : goal.invariant-find_in_terms-loop-left
invariant-find_in_terms-loop-left l = record {
  whole : found_in_terms (terms_of l.left) (with_group l.entries (members_of l.members)) (holes_of l.holes.items)
      ≡ found_in_terms (terms_of l.terms) (with_group l.entries (members_of l.members)) (holes_of l.fn.holes.items);
  smaller : size-CoreList l.left ≤ size-CoreList l.fn.terms;
}

abbrev pub invariant-find_in_members-loop-left : goal.invariant-find_in_members-loop-left
invariant-find_in_members-loop-left l = record {
  whole : found_in_members (members_of l.left) (with_group l.entries (members_of l.members)) (holes_of l.holes.items)
      ≡ found_in_members (members_of l.group) (with_group l.entries (members_of l.members)) (holes_of l.fn.holes.items);
  smaller : size-GroupMembers l.left ≤ size-GroupMembers l.fn.group;
}

abbrev pub invariant-find_in_bindings-loop-left : goal.invariant-find_in_bindings-loop-left
invariant-find_in_bindings-loop-left l = record {
  whole : found_in_bindings (bindings_of l.left) (with_group l.entries (members_of l.members))
      (holes_of l.holes.items)
      ≡ found_in_bindings (bindings_of l.bindings) (with_group l.entries (members_of l.members))
      (holes_of l.fn.holes.items);
  smaller : size-CoreBindings l.left ≤ size-CoreBindings l.fn.bindings;
}

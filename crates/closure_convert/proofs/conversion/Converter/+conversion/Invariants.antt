use Rattle.std.proofs.Common.{◌≡◌, ◌≤◌, ◌+◌, ◌++◌, List, [], ℕ, length}
use Rattle.core_calc.specs.Views.{names_of}
use Rattle.coer_core.specs.Counts.{free_names_of_all, free_names_of_bindings, free_names_of_members}
use Rattle.coer_core.specs.Counts.{row_binding_names, row_member_count}
use Rattle.coer_core.specs.Views.{row_terms_of, row_members_of, row_bindings_of}
use Rattle.coer_core.specs.declared.terms.CoerList.{size-CoerList}
use Rattle.coer_core.specs.declared.terms.CoerMembers.{size-CoerMembers}
use Rattle.coer_core.specs.declared.terms.CoerBindings.{size-CoerBindings}
use Rattle.flat_ir.specs.declared.code.Operand.{Operand}
use Rattle.flat_ir.specs.Bodies.{Body}
use Rattle.closure_convert.specs.Conversion.{Scope, gather, gather_let, made_by, made_for, made_in}
use Rattle.closure_convert.specs.Conversion.{procs_by, procs_for, procs_in, sequence}
use Rattle.closure_convert.specs.Converting.{AddsRest, bodies, parts_of, seen}
use Rattle.closure_convert.specs.Keeping.{Kept}
use Rattle.closure_convert.specs.Scopes.{Reaches, known}
use Rattle.closure_convert.specs.Waits.{ahead}
use Rattle.closure_convert.proofs.conversion.Converter.+conversion.Given as goal

-- what is left, behind what is done, comes to the whole

abbrev pub invariant-gather-loop-left : goal.invariant-gather-loop-left
invariant-gather-loop-left l = record {
  kept : Kept l.fn.self.names l.self.names;
  adds : AddsRest free_names_of_all procs_for made_for l.fn.self l.self (row_terms_of l.left)
      (row_terms_of l.terms);
  gathered : (outer : Scope) → Reaches l.self.names.captured outer → (front : List Operand)
      (finish : List Operand → Body)
      → ahead l.waits.waits.items (gather (row_terms_of l.left) (seen l.fn.self outer) l.waits.depth
      (length l.self.procs) (front ++ l.operands) finish)
      ≡ ahead l.fn.waits.waits.items (gather (row_terms_of l.terms) (seen l.fn.self outer) l.fn.waits.depth
      (length l.fn.self.procs) front finish);
  smaller : size-CoerList l.left ≤ size-CoerList l.fn.terms;
}

abbrev pub invariant-gather_bindings-loop-left : goal.invariant-gather_bindings-loop-left
invariant-gather_bindings-loop-left l = record {
  kept : Kept l.fn.self.names l.self.names;
  adds : AddsRest free_names_of_bindings procs_by made_by l.fn.self l.self (row_bindings_of l.left)
      (row_bindings_of l.bindings);
  gathered : (outer : Scope) → Reaches l.self.names.captured outer → (finish : List Operand → ℕ → Body)
      → ahead l.waits.waits.items (gather_let (row_bindings_of l.left) (seen l.fn.self outer) l.waits.depth
      (length l.self.procs) l.operands finish)
      ≡ ahead l.fn.waits.waits.items (gather_let (row_bindings_of l.bindings) (seen l.fn.self outer)
      l.fn.waits.depth (length l.fn.self.procs) [] finish);
  names : names_of l.names ++ row_binding_names (row_bindings_of l.left)
      ≡ row_binding_names (row_bindings_of l.bindings);
  same : length l.names ≡ length l.operands;
  smaller : size-CoerBindings l.left ≤ size-CoerBindings l.fn.bindings;
}

abbrev pub invariant-sequence-loop-left : goal.invariant-sequence-loop-left
invariant-sequence-loop-left l = record {
  kept : Kept l.fn.self.names l.self.names;
  adds : AddsRest free_names_of_all procs_for made_for l.fn.self l.self (row_terms_of l.left)
      (row_terms_of l.terms);
  body : (outer : Scope) → Reaches l.self.names.captured outer
      → ahead l.waits.waits.items (sequence (row_terms_of l.left) (seen l.fn.self outer) l.waits.depth
      (length l.self.procs))
      ≡ ahead l.fn.waits.waits.items (sequence (row_terms_of l.terms) (seen l.fn.self outer) l.fn.waits.depth
      (length l.fn.self.procs));
  smaller : size-CoerList l.left ≤ size-CoerList l.fn.terms;
}

abbrev pub invariant-functions-loop-left : goal.invariant-functions-loop-left
invariant-functions-loop-left l = record {
  kept : Kept l.fn.self.names l.self.names;
  adds : AddsRest free_names_of_members procs_in made_in l.fn.self l.self (row_members_of l.left)
      (row_members_of l.members);
  count : length l.functions.items + row_member_count (row_members_of l.left)
      ≡ row_member_count (row_members_of l.members);
  bodies : (outer : Scope) → Reaches l.self.names.captured outer
      → parts_of l.functions.items ++ bodies (seen l.fn.self outer) (row_members_of l.left) (length l.self.procs)
      ≡ bodies (seen l.fn.self outer) (row_members_of l.members) (length l.fn.self.procs);
  smaller : size-CoerMembers l.left ≤ size-CoerMembers l.fn.members;
}

use Rattle.std.proofs.Common.{◌≡◌, ◌≤◌, ℕ}
use Rattle.grift_base.specs.Types.{TypeRows}
use Rattle.core_calc.specs.Terms.{term_list, binding_list, member_list}
use Rattle.core_calc.specs.Views.{terms_of, bindings_of, members_of}
use Rattle.surface_trees.specs.Views.{exprs_of, lets_of, letrecs_of}
use Rattle.surface_trees.specs.declared.exprs.ExprList.{size-ExprList}
use Rattle.cast_rules.specs.Elaboration.{elaborate_sequence, elaborate_bindings, elaborate_members}
use Rattle.cast_rules.specs.Programs.{IsSourceBody, AreSourceBindings, AreSourceMembers}
use Rattle.cast_rules.specs.Environments.{Environment}
use Rattle.cast_rules.specs.Room.{Grows}
use Rattle.insert_steps.specs.Views.{work_of}
use Rattle.cast_insert.proofs.Loops.{sequence_behind, bound_behind, members_behind}
use Rattle.surface_trees.specs.declared.exprs.Bindings.{size-Bindings}
use Rattle.insert_steps.specs.Scoped.{env_of}
use Rattle.surface_trees.specs.declared.exprs.Members.{size-Members}
use Rattle.cast_insert.specs.Heads.{heads_seen}
use Rattle.cast_insert.proofs.elaboration.+elaborate.Given as goal

-- what is made so far and what is made behind it are all that is made, of less and less in the same scopes
abbrev OnTheWay : Type 0 → Environment → Environment → ℕ → ℕ → Type 0 → TypeRows → TypeRows → Type 0
OnTheWay made scopes first_scopes size first_size source first_types types = record {
  made : made;
  scopes : scopes ≡ first_scopes;
  smaller : size ≤ first_size;
  source : source;
  grows : Grows first_types types;
}

abbrev pub invariant-in_order-loop-left : goal.invariant-in_order-loop-left
invariant-in_order-loop-left l =
    OnTheWay (sequence_behind (term_list (terms_of l.terms))
    (elaborate_sequence (exprs_of l.left) l.fn.scopes (work_of l.progress))
    ≡ elaborate_sequence (exprs_of l.fn.list) l.fn.scopes (work_of l.fn.progress)) l.scopes l.fn.scopes
    (size-ExprList l.left) (size-ExprList l.fn.list) (IsSourceBody (exprs_of l.left)) l.fn.progress.types
    l.progress.types

abbrev pub invariant-bindings-loop-left : goal.invariant-bindings-loop-left
invariant-bindings-loop-left l =
    OnTheWay (bound_behind (binding_list (bindings_of l.done)) (env_of l.names.items)
    (elaborate_bindings (lets_of l.left) l.fn.scopes (work_of l.progress))
    ≡ elaborate_bindings (lets_of l.fn.list) l.fn.scopes (work_of l.fn.progress)) l.scopes l.fn.scopes
    (size-Bindings l.left) (size-Bindings l.fn.list) (AreSourceBindings (lets_of l.left)) l.fn.progress.types
    l.progress.types

abbrev pub invariant-members-loop-left : goal.invariant-members-loop-left
invariant-members-loop-left l =
    OnTheWay (members_behind (member_list (members_of l.done))
    (elaborate_members (letrecs_of l.left) (heads_seen l.heads_left) l.fn.scopes (work_of l.progress))
    ≡ elaborate_members (letrecs_of l.fn.list) (heads_seen l.fn.heads) l.fn.scopes (work_of l.fn.progress)) l.scopes
    l.fn.scopes (size-Members l.left) (size-Members l.fn.list) (AreSourceMembers (letrecs_of l.left))
    l.fn.progress.types l.progress.types

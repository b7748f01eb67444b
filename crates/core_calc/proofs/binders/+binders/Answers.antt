use Rattle.std.proofs.Common.{◌≡◌, ℕ, List, [], ◌∷◌, ◌++◌, Option, Some, ap, ◌∙◌, rules}
use Rattle.core_calc.specs.declared.terms.CoreList.{the_lemmas as terms}
use Rattle.core_calc.specs.declared.terms.GroupMember.{out-GroupMember}
use Rattle.core_calc.specs.declared.terms.GroupMembers.{the_lemmas as members}
use Rattle.core_calc.specs.declared.terms.CoreBinding.{CoreBinding, out-CoreBinding}
use Rattle.core_calc.specs.declared.terms.CoreBindings.{CoreBindings, the_lemmas as bindings}
use Rattle.core_calc.specs.Views.{term_of, terms_of, members_of, bindings_of, names_of}
use Rattle.core_calc.specs.Typing.{binders, all_binders, member_binders, binding_binders}
use Rattle.core_calc.specs.TypeOf.{with_names}
use Rattle.core_calc.proofs.Chains.{term_step, binding_step, member_step}
use Rattle.core_calc.proofs.binders.+binders.Goals as goal

pub add_all_binders-loop-left-preserved : goal.add_all_binders-loop-left-preserved
add_all_binders-loop-left-preserved t c = record {
  left_is =
      ap (λ l. with_names c.add_binders.new.seen (all_binders (terms_of l))) c.deref-left.ensures
      ∙ term_step c.loop-left.seen c.add_binders.new.seen (binders (term_of c.in-Cons.first.value))
      (all_binders (terms_of c.in-Cons.rest.value)) (rw c.deref.ensures at c.in_ok-add_binders.ensures)
      ∙ (rw c.in-Cons.is at c.loop-left.invariant.left_is);
  smaller = search (rules, terms);
}

-- a binding's name and the binders of its term were added: those of the others are left
bindings_left : (here first new : List ℕ) (whole : Option (List ℕ)) (binding : CoreBinding) (left rest : CoreBindings)
    → left ≡ rest → with_names here ((out-CoreBinding binding).name.0 ∷ []) ≡ Some first
    → with_names first (binders (term_of (out-CoreBinding binding).value)) ≡ Some new
    → with_names here (((out-CoreBinding binding).name.0 ∷ binders (term_of (out-CoreBinding binding).value))
    ++ binding_binders (bindings_of rest)) ≡ whole
    → with_names new (binding_binders (bindings_of left)) ≡ whole
bindings_left here first new whole binding left rest e f g h =
    ap (λ l. with_names new (binding_binders (bindings_of l))) e
    ∙ binding_step here first new (out-CoreBinding binding).name.0 (binders (term_of (out-CoreBinding binding).value))
    (binding_binders (bindings_of rest)) f g ∙ h

pub add_binding_binders-loop-left-preserved : goal.add_binding_binders-loop-left-preserved
add_binding_binders-loop-left-preserved t c = record {
  left_is =
      bindings_left c.loop-left.seen c.add.new.self c.add_binders.new.seen _ c.in-Cons.first.value _
      c.in-Cons.rest.value c.deref-left.ensures (rw c.deref.ensures at c.in_ok-add.ensures)
      (rw c.deref-in-Cons.ensures at c.in_ok-add_binders.ensures) (rw c.in-Cons.is at c.loop-left.invariant.left_is);
  smaller = search (rules, bindings);
}

pub add_member_binders-loop-left-preserved : goal.add_member_binders-loop-left-preserved
add_member_binders-loop-left-preserved t c =
    let first = out-GroupMember c.in-Cons.first.value in
    record {
      left_is =
          ap (λ l. with_names c.add_binders.new.seen (member_binders (members_of l))) c.deref-left.ensures
          ∙ member_step c.loop-left.seen c.add.new.self c.add_all.new.self c.add_binders.new.seen first.name.0
          (names_of first.params) (binders (term_of first.body)) (member_binders (members_of c.in-Cons.rest.value))
          (rw c.deref.ensures at c.in_ok-add.ensures)
          (rw (c.as_slice.ensures, c.deref-in-Cons.ensures) at c.in_ok-add_all.ensures)
          (rw c.deref-in-Cons-2.ensures at c.in_ok-add_binders.ensures)
          ∙ (rw c.in-Cons.is at c.loop-left.invariant.left_is);
      smaller = search (rules, members);
    }

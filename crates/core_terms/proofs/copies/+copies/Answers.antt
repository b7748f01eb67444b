use Rattle.std.proofs.Common.{◌≡◌, ◌∙◌, ℕ, List, ap, ap₂, rules, sym}
use Rattle.core_calc.specs.Terms.{BindingThen, MemberThen, Members}
use Rattle.core_calc.specs.Terms.{Term, Call, Cast, Enter, FunValue, Group, If, InjectValue, Lambda, Let, MemberValue}
use Rattle.core_calc.specs.Terms.{Prim, Seq, TermThen, Tuple, TupleValue, ValueTerm, ValueThen, WrapValue}
use Rattle.core_calc.specs.Views.{bindings_of, members_of, names_of, term_of, terms_of, value_of, values_of}
use Rattle.core_calc.specs.declared.terms.CoreBinding.{out-CoreBinding}
use Rattle.core_calc.specs.declared.terms.GroupMember.{out-GroupMember}
use Rattle.core_calc.specs.declared.terms.CoreBindings.{the_lemmas as bindings_lemmas}
use Rattle.core_calc.specs.declared.terms.CoreList.{the_lemmas as terms_lemmas}
use Rattle.core_calc.specs.declared.terms.GroupMembers.{the_lemmas as members_lemmas}
use Rattle.core_calc.specs.declared.terms.Values.{the_lemmas as values_lemmas}
use Rattle.core_terms.specs.Lists.{bindings_onto, members_onto, terms_onto, values_onto}
use Rattle.core_terms.proofs.Gathering.{term_boxed}
use Rattle.core_terms.proofs.copies.+copies.Goals as goal

-- each copy is of the form of what was copied, with copies of its parts

if_copied : {a b c d e f : Term} → a ≡ b → c ≡ d → e ≡ f → If a c e ≡ If b d f
if_copied p q r = λ i. If (p i) (q i) (r i)

member_copied : {a b e f : ℕ} {c d : List ℕ} {g h : Term} (rest : Members) → a ≡ b → c ≡ d → g ≡ h → e ≡ f →
    MemberThen a c g e rest ≡ MemberThen b d h f rest
member_copied rest p q r s = λ i. MemberThen (p i) (q i) (r i) (s i) rest

pub copy_term-returns-in_ok-params-in-Lambda : goal.copy_term-returns-in_ok-params-in-Lambda
copy_term-returns-in_ok-params-in-Lambda t c =
    term_boxed _ _ _ c.boxed-in-Lambda.ensures
    (ap₂ (λ names body. Lambda (names_of names) body c.in-Lambda.ty.0) c.in_ok-params-in-Lambda.ensures.0
    (c.in_ok-params-in-Lambda.ensures.1 ∙ ap term_of c.deref.ensures) ∙ sym (ap term_of c.in-Lambda.is))

pub copy_term-returns-in_ok-terms-in-Seq : goal.copy_term-returns-in_ok-terms-in-Seq
copy_term-returns-in_ok-terms-in-Seq t c =
    term_boxed _ _ _ c.boxed-in-Seq.ensures
    (ap Seq c.in_ok-terms-in-Seq.ensures ∙ sym (ap term_of c.in-Seq.is))

pub copy_term-returns-in_ok-term-in-Cast : goal.copy_term-returns-in_ok-term-in-Cast
copy_term-returns-in_ok-term-in-Cast t c =
    term_boxed _ _ _ c.boxed-in-Cast.ensures
    (ap (λ x. Cast x c.in-Cast.from.0 c.in-Cast.to.0 c.in-Cast.label.0)
    (c.in_ok-term-in-Cast.ensures ∙ ap term_of c.deref-in-Cast.ensures) ∙ sym (ap term_of c.in-Cast.is))

pub copy_term-returns-in_ok-parts-in-Tuple : goal.copy_term-returns-in_ok-parts-in-Tuple
copy_term-returns-in_ok-parts-in-Tuple t c =
    term_boxed _ _ _ c.boxed-in-Tuple.ensures
    (ap Tuple c.in_ok-parts-in-Tuple.ensures ∙ sym (ap term_of c.in-Tuple.is))

pub copy_term-returns-in_ok-operands-in-Prim : goal.copy_term-returns-in_ok-operands-in-Prim
copy_term-returns-in_ok-operands-in-Prim t c =
    term_boxed _ _ _ c.boxed-in-Prim.ensures
    (ap (Prim c.in-Prim.operator) c.in_ok-operands-in-Prim.ensures ∙ sym (ap term_of c.in-Prim.is))

pub copy_term-returns-in_ok-v-in-Value : goal.copy_term-returns-in_ok-v-in-Value
copy_term-returns-in_ok-v-in-Value t c =
    term_boxed _ _ _ c.boxed-in-Value.ensures
    (ap ValueTerm c.in_ok-v-in-Value.ensures ∙ sym (ap term_of c.in-Value.is))

pub copy_joined-returns-in_ok-body-in-Group : goal.copy_joined-returns-in_ok-body-in-Group
copy_joined-returns-in_ok-body-in-Group t c =
    term_boxed _ _ _ c.boxed.ensures
    (ap₂ Group c.in_ok-members-in-Group.ensures (c.in_ok-body-in-Group.ensures ∙ ap term_of c.deref.ensures)
    ∙ sym (ap term_of c.in-Group.is))

pub copy_joined-returns-in_ok-body-in-Let : goal.copy_joined-returns-in_ok-body-in-Let
copy_joined-returns-in_ok-body-in-Let t c =
    term_boxed _ _ _ c.boxed-in-Let.ensures
    (ap₂ Let c.in_ok-bindings-in-Let.ensures (c.in_ok-body-in-Let.ensures ∙ ap term_of c.deref-in-Let.ensures)
    ∙ sym (ap term_of c.in-Let.is))

pub copy_joined-returns-in_ok-arguments-in-Call : goal.copy_joined-returns-in_ok-arguments-in-Call
copy_joined-returns-in_ok-arguments-in-Call t c =
    term_boxed _ _ _ c.boxed-in-Call.ensures
    (ap₂ Call (c.in_ok-function-in-Call.ensures ∙ ap term_of c.deref-in-Call.ensures)
    c.in_ok-arguments-in-Call.ensures ∙ sym (ap term_of c.in-Call.is))

pub copy_joined-returns-in_ok-arguments-in-Enter : goal.copy_joined-returns-in_ok-arguments-in-Enter
copy_joined-returns-in_ok-arguments-in-Enter t c =
    term_boxed _ _ _ c.boxed-in-Enter.ensures
    (ap₂ Enter (c.in_ok-function-in-Enter.ensures ∙ ap term_of c.deref-in-Enter.ensures)
    c.in_ok-arguments-in-Enter.ensures ∙ sym (ap term_of c.in-Enter.is))

pub copy_joined-returns-in_ok-on_false-in-If : goal.copy_joined-returns-in_ok-on_false-in-If
copy_joined-returns-in_ok-on_false-in-If t c =
    term_boxed _ _ _ c.boxed-in-If.ensures
    (if_copied (c.in_ok-condition-in-If.ensures ∙ ap term_of c.deref-in-If.ensures)
    (c.in_ok-on_true-in-If.ensures ∙ ap term_of c.deref-in-If-2.ensures)
    (c.in_ok-on_false-in-If.ensures ∙ ap term_of c.deref-in-If-3.ensures) ∙ sym (ap term_of c.in-If.is))

pub copy_value-returns-in_ok-params-in-Fun : goal.copy_value-returns-in_ok-params-in-Fun
copy_value-returns-in_ok-params-in-Fun t c =
    ap₂ (λ names body. FunValue (names_of names) body c.in-Fun.ty.0) c.in_ok-params-in-Fun.ensures.0
    (c.in_ok-params-in-Fun.ensures.1 ∙ ap term_of c.deref.ensures) ∙ sym (ap value_of c.in-Fun.is)

pub copy_value-returns-in_ok-members-in-GroupMember : goal.copy_value-returns-in_ok-members-in-GroupMember
copy_value-returns-in_ok-members-in-GroupMember t c =
    ap (λ x. MemberValue x c.in-GroupMember.place) c.in_ok-members-in-GroupMember.ensures
    ∙ sym (ap value_of c.in-GroupMember.is)

pub copy_value-returns-in_ok-parts-in-Tuple : goal.copy_value-returns-in_ok-parts-in-Tuple
copy_value-returns-in_ok-parts-in-Tuple t c =
    ap TupleValue c.in_ok-parts-in-Tuple.ensures ∙ sym (ap value_of c.in-Tuple.is)

pub copy_value-returns-in_ok-v-in-Wrap : goal.copy_value-returns-in_ok-v-in-Wrap
copy_value-returns-in_ok-v-in-Wrap t c =
    ap (λ x. WrapValue x c.in-Wrap.from.0 c.in-Wrap.label.0 c.in-Wrap.to.0)
    (c.in_ok-v-in-Wrap.ensures ∙ ap value_of c.deref-in-Wrap.ensures) ∙ sym (ap value_of c.in-Wrap.is)

pub copy_value-returns-in_ok-v-in-Inject : goal.copy_value-returns-in_ok-v-in-Inject
copy_value-returns-in_ok-v-in-Inject t c =
    ap (λ x. InjectValue x c.in-Inject.kept.0) (c.in_ok-v-in-Inject.ensures ∙ ap value_of c.deref-in-Inject.ensures)
    ∙ sym (ap value_of c.in-Inject.is)

pub copy_term-returns-in-Bool : goal.copy_term-returns-in-Bool
copy_term-returns-in-Bool t c =
    term_boxed _ _ _ c.boxed-in-Bool.ensures
    (sym (ap term_of c.in-Bool.is))

pub copy_term-returns-in-Unit : goal.copy_term-returns-in-Unit
copy_term-returns-in-Unit t c =
    term_boxed _ _ _ c.boxed-in-Unit.ensures
    (sym (ap term_of c.in-Unit.is))

pub copy_term-returns-in-Var : goal.copy_term-returns-in-Var
copy_term-returns-in-Var t c =
    term_boxed _ _ _ c.boxed-in-Var.ensures
    (sym (ap term_of c.in-Var.is))

pub copy_value-returns-in-Bool : goal.copy_value-returns-in-Bool
copy_value-returns-in-Bool t c = sym (ap value_of c.in-Bool.is)

pub copy_value-returns-in-Unit : goal.copy_value-returns-in-Unit
copy_value-returns-in-Unit t c = sym (ap value_of c.in-Unit.is)

pub copy_value-returns-in-Loc : goal.copy_value-returns-in-Loc
copy_value-returns-in-Loc t c = sym (ap value_of c.in-Loc.is)

pub copy_terms-loop-left-preserved : goal.copy_terms-loop-left-preserved
copy_terms-loop-left-preserved t c = record {
  whole =
      ap₂ terms_onto (c.in_ok-done.ensures ∙ ap (λ x. TermThen x (terms_of c.loop-left.done))
      (c.in_ok-term.ensures ∙ ap term_of c.deref.ensures)) (ap terms_of c.deref-left.ensures)
      ∙ (rw c.in-Cons.is at c.loop-left.invariant.whole);
  smaller = search (rules, terms_lemmas);
}

pub copy_terms-loop-left-smaller : goal.copy_terms-loop-left-smaller
copy_terms-loop-left-smaller t c = search (rules, terms_lemmas)

pub copy_terms-returns : goal.copy_terms-returns
copy_terms-returns t c = c.terms_onto.ensures ∙ (rw c.in_default.is at c.loop-left.invariant.whole)

pub copy_values-loop-left-preserved : goal.copy_values-loop-left-preserved
copy_values-loop-left-preserved t c = record {
  whole =
      ap₂ values_onto (c.in_ok-done.ensures ∙ ap (λ x. ValueThen x (values_of c.loop-left.done))
      (c.in_ok-v.ensures ∙ ap value_of c.deref.ensures)) (ap values_of c.deref-left.ensures)
      ∙ (rw c.in-Cons.is at c.loop-left.invariant.whole);
  smaller = search (rules, values_lemmas);
}

pub copy_values-loop-left-smaller : goal.copy_values-loop-left-smaller
copy_values-loop-left-smaller t c = search (rules, values_lemmas)

pub copy_values-returns : goal.copy_values-returns
copy_values-returns t c = c.values_onto.ensures ∙ (rw c.in_default.is at c.loop-left.invariant.whole)

pub copy_members-loop-left-smaller : goal.copy_members-loop-left-smaller
copy_members-loop-left-smaller t c = search (rules, members_lemmas)

pub copy_members-returns : goal.copy_members-returns
copy_members-returns t c = c.members_onto.ensures ∙ (rw c.in_default.is at c.loop-left.invariant.whole)

pub copy_bindings-loop-left-smaller : goal.copy_bindings-loop-left-smaller
copy_bindings-loop-left-smaller t c = search (rules, bindings_lemmas)

pub copy_bindings-returns : goal.copy_bindings-returns
copy_bindings-returns t c = c.bindings_onto.ensures ∙ (rw c.in_default.is at c.loop-left.invariant.whole)

pub copy_members-loop-left-preserved : goal.copy_members-loop-left-preserved
copy_members-loop-left-preserved t c = record {
  whole =
      ap₂ members_onto (c.in_ok-done.ensures
      ∙ member_copied (members_of c.loop-left.done)
      (ap (λ x. (out-GroupMember x).name.0) c.deref-in-Cons-2.ensures)
      (ap names_of c.in_ok-params.ensures ∙ ap (λ x. names_of (out-GroupMember x).params) c.deref.ensures)
      (ap term_of c.into_inner.ensures ∙ c.in_ok-body.ensures
      ∙ ap (λ x. term_of (out-GroupMember x).body) c.deref-in-Cons.ensures)
      (ap (λ x. (out-GroupMember x).ty.0) c.deref-in-Cons-3.ensures)) (ap members_of c.deref-left.ensures)
      ∙ (rw c.in-Cons.is at c.loop-left.invariant.whole);
  smaller = search (rules, members_lemmas);
}

pub copy_bindings-loop-left-preserved : goal.copy_bindings-loop-left-preserved
copy_bindings-loop-left-preserved t c = record {
  whole =
      ap₂ bindings_onto (c.in_ok-done.ensures
      ∙ ap₂ (λ (n : ℕ) (x : Term). BindingThen n x (bindings_of c.loop-left.done))
      (ap (λ x. (out-CoreBinding x).name.0) c.deref-in-Cons.ensures)
      (ap term_of c.into_inner.ensures ∙ c.in_ok-value.ensures
      ∙ ap (λ x. term_of (out-CoreBinding x).value) c.deref.ensures))
      (ap bindings_of c.deref-left.ensures) ∙ (rw c.in-Cons.is at c.loop-left.invariant.whole);
  smaller = search (rules, bindings_lemmas);
}

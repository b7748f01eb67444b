use Rattle.std.proofs.Common.{◌≡◌, ◌≤◌, ℕ, List, true}
use Rattle.std.specs.List.{list_all}
use Rattle.coer_core.specs.Views.{row_bindings_of, row_members_of, row_term_of, row_terms_of}
use Rattle.coer_core.specs.declared.terms.CoerTerm.{size-CoerTerm}
use Rattle.coer_core.specs.declared.terms.CoerList.{size-CoerList}
use Rattle.coer_core.specs.declared.terms.CoerMembers.{size-CoerMembers}
use Rattle.coer_core.specs.declared.terms.CoerBindings.{size-CoerBindings}
use Rattle.closure_convert.specs.Uses.{Use, binding_uses, has_words, member_uses, term_uses, terms_uses}
use Rattle.closure_convert.proofs.dyn_parts.+dyn_parts.Given as goal

-- where it is so of what is left, it is so of the whole; and what is left is no larger
abbrev pub WordsLeft : {L : Type 0} → (L → List Use) → (L → ℕ) → L → L → Type 0
WordsLeft uses size left all = record {
  words : list_all has_words (uses left) ≡ true → list_all has_words (uses all) ≡ true;
  smaller : size left ≤ size all;
}

abbrev pub invariant-have_words-loop-left : goal.invariant-have_words-loop-left
invariant-have_words-loop-left l = WordsLeft (λ x. term_uses (row_term_of x)) size-CoerTerm l.left l.fn.term

abbrev pub invariant-all_have_words-loop-left : goal.invariant-all_have_words-loop-left
invariant-all_have_words-loop-left l = WordsLeft (λ x. terms_uses (row_terms_of x)) size-CoerList l.left l.fn.terms

abbrev pub invariant-members_have_words-loop-left : goal.invariant-members_have_words-loop-left
invariant-members_have_words-loop-left l =
    WordsLeft (λ x. member_uses (row_members_of x)) size-CoerMembers l.left l.fn.members

abbrev pub invariant-bindings_have_words-loop-left : goal.invariant-bindings_have_words-loop-left
invariant-bindings_have_words-loop-left l =
    WordsLeft (λ x. binding_uses (row_bindings_of x)) size-CoerBindings l.left l.fn.bindings

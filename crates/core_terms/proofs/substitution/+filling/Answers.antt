use Rattle.std.proofs.Common.{◌≡◌, ◌∙◌, ap, ap₂, sym}
use Rattle.core_calc.specs.Terms.{Call, Cast, Enter, Group, If, Lambda, Let, Prim, Proj, ProjDyn, Seq, Term, Tuple}
use Rattle.core_calc.specs.Views.{names_of, term_of}
use Rattle.core_terms.specs.Holes.{Holes, behind, filled}
use Rattle.core_terms.proofs.substitution.+filling.Goals as goal

-- the parts of a term are filled in order, each with what those before it leave

if_of : {a b c d e f : Term} → a ≡ b → c ≡ d → e ≡ f → If a c e ≡ If b d f
if_of p q r = λ i. If (p i) (q i) (r i)

if_filled : {term a b c one two three : Term} (first second third : Term) (holes : Holes) {after later last : Holes} →
    term ≡ If a b c → first ≡ a → second ≡ b → third ≡ c → one ≡ filled first holes → after ≡ behind first holes →
    two ≡ filled second after → later ≡ behind second after → three ≡ filled third later → last ≡ behind third later →
    (If one two three ≡ filled term holes) × (last ≡ behind term holes)
if_filled first second third holes is d e f g h i j k l =
    let whole = is ∙ if_of (sym d) (sym e) (sym f) in
    let left = j ∙ ap (behind second) h in (
      if_of g (i ∙ ap (filled second) h) (k ∙ ap (filled third) left) ∙ sym (ap (λ t. filled t holes) whole),
      l ∙ ap (behind third) left ∙ sym (ap (λ t. behind t holes) whole),
    )

pub fill-returns-in-If : goal.fill-returns-in-If
fill-returns-in-If t c =
    let done = if_filled _ _ _ _ (ap term_of c.in-If.is) (ap term_of c.deref_mut-in-If.ensures.value)
    (ap term_of c.deref_mut-in-If-2.ensures.value) (ap term_of c.deref_mut-in-If-3.ensures.value)
    c.fill-in-If.ensures.term c.fill-in-If.ensures.holes c.fill-in-If-2.ensures.term c.fill-in-If-2.ensures.holes
    c.fill-in-If-3.ensures.term c.fill-in-If-3.ensures.holes in
    record { term = done.0; holes = done.1 }

pub fill-returns-in-Lambda : goal.fill-returns-in-Lambda
fill-returns-in-Lambda t c = record {
  term = rw (ap term_of c.in-Lambda.is, ← c.deref_mut.ensures.value)
      (ap (λ x. Lambda (names_of c.in-Lambda.field-0) x c.in-Lambda.field-2.0) c.fill.ensures.term);
  holes = rw (ap term_of c.in-Lambda.is, ← c.deref_mut.ensures.value) c.fill.ensures.holes;
}

pub fill-returns-in-Group : goal.fill-returns-in-Group
fill-returns-in-Group t c = record {
  term = rw (ap term_of c.in-Group.is, ← c.fill_members.ensures.holes, ← c.deref_mut-in-Group.ensures.value)
      (ap₂ Group c.fill_members.ensures.members c.fill-in-Group.ensures.term);
  holes = rw (ap term_of c.in-Group.is, ← c.fill_members.ensures.holes, ← c.deref_mut-in-Group.ensures.value)
      c.fill-in-Group.ensures.holes;
}

pub fill-returns-in-Let : goal.fill-returns-in-Let
fill-returns-in-Let t c = record {
  term = rw (ap term_of c.in-Let.is, ← c.fill_bindings.ensures.holes, ← c.deref_mut-in-Let.ensures.value)
      (ap₂ Let c.fill_bindings.ensures.bindings c.fill-in-Let.ensures.term);
  holes = rw (ap term_of c.in-Let.is, ← c.fill_bindings.ensures.holes, ← c.deref_mut-in-Let.ensures.value)
      c.fill-in-Let.ensures.holes;
}

pub fill_terms-returns : goal.fill_terms-returns
fill_terms-returns t c = record {
  terms = c.terms_onto.ensures ∙ (rw c.in_default.is at c.loop-left.invariant.whole);
  holes = rw c.in_default.is at c.loop-left.invariant.rest;
}

pub fill_members-returns : goal.fill_members-returns
fill_members-returns t c = record {
  members = c.members_onto.ensures ∙ (rw c.in_default.is at c.loop-left.invariant.whole);
  holes = rw c.in_default.is at c.loop-left.invariant.rest;
}

pub fill_bindings-returns : goal.fill_bindings-returns
fill_bindings-returns t c = record {
  bindings = c.bindings_onto.ensures ∙ (rw c.in_default.is at c.loop-left.invariant.whole);
  holes = rw c.in_default.is at c.loop-left.invariant.rest;
}

pub fill-returns-in-Call : goal.fill-returns-in-Call
fill-returns-in-Call t c = record {
  term = rw (ap term_of c.in-Call.is, ← c.deref_mut-in-Call.ensures.value, ← c.fill-in-Call.ensures.holes)
      (ap₂ Call c.fill-in-Call.ensures.term c.fill_terms.ensures.terms);
  holes = rw (ap term_of c.in-Call.is, ← c.deref_mut-in-Call.ensures.value, ← c.fill-in-Call.ensures.holes)
      c.fill_terms.ensures.holes;
}

pub fill-returns-in-Enter : goal.fill-returns-in-Enter
fill-returns-in-Enter t c = record {
  term = rw (ap term_of c.in-Enter.is, ← c.deref_mut-in-Enter.ensures.value, ← c.fill-in-Enter.ensures.holes)
      (ap₂ Enter c.fill-in-Enter.ensures.term c.fill_terms-in-Enter.ensures.terms);
  holes = rw (ap term_of c.in-Enter.is, ← c.deref_mut-in-Enter.ensures.value, ← c.fill-in-Enter.ensures.holes)
      c.fill_terms-in-Enter.ensures.holes;
}

pub fill-returns-in-Seq : goal.fill-returns-in-Seq
fill-returns-in-Seq t c = record {
  term = rw (ap term_of c.in-Seq.is) (ap Seq c.fill_terms-in-Seq.ensures.terms);
  holes = rw (ap term_of c.in-Seq.is) c.fill_terms-in-Seq.ensures.holes;
}

pub fill-returns-in-Cast : goal.fill-returns-in-Cast
fill-returns-in-Cast t c = record {
  term = rw (ap term_of c.in-Cast.is, ← c.deref_mut-in-Cast.ensures.value)
      (ap (λ x. Cast x c.in-Cast.field-1.0 c.in-Cast.field-2.0 c.in-Cast.field-3.0) c.fill-in-Cast.ensures.term);
  holes = rw (ap term_of c.in-Cast.is, ← c.deref_mut-in-Cast.ensures.value) c.fill-in-Cast.ensures.holes;
}

pub fill-returns-in-Proj : goal.fill-returns-in-Proj
fill-returns-in-Proj t c = record {
  term = rw (ap term_of c.in-Proj.is, ← c.deref_mut-in-Proj.ensures.value)
      (ap (λ x. Proj x c.in-Proj.field-1) c.fill-in-Proj.ensures.term);
  holes = rw (ap term_of c.in-Proj.is, ← c.deref_mut-in-Proj.ensures.value) c.fill-in-Proj.ensures.holes;
}

pub fill-returns-in-ProjDyn : goal.fill-returns-in-ProjDyn
fill-returns-in-ProjDyn t c = record {
  term = rw (ap term_of c.in-ProjDyn.is, ← c.deref_mut-in-ProjDyn.ensures.value)
      (ap (λ x. ProjDyn x c.in-ProjDyn.field-1 c.in-ProjDyn.field-2.0) c.fill-in-ProjDyn.ensures.term);
  holes = rw (ap term_of c.in-ProjDyn.is, ← c.deref_mut-in-ProjDyn.ensures.value) c.fill-in-ProjDyn.ensures.holes;
}

pub fill-returns-in-Tuple : goal.fill-returns-in-Tuple
fill-returns-in-Tuple t c = record {
  term = rw (ap term_of c.in-Tuple.is) (ap Tuple c.fill_terms-in-Tuple.ensures.terms);
  holes = rw (ap term_of c.in-Tuple.is) c.fill_terms-in-Tuple.ensures.holes;
}

pub fill-returns-in-Prim : goal.fill-returns-in-Prim
fill-returns-in-Prim t c = record {
  term = rw (ap term_of c.in-Prim.is) (ap (Prim c.in-Prim.field-0) c.fill_terms-in-Prim.ensures.terms);
  holes = rw (ap term_of c.in-Prim.is) c.fill_terms-in-Prim.ensures.holes;
}

-- Each text has one outcome.
use Rattle.std.proofs.Common.{◌≡◌, ◌⊎◌, inl, inr, ℕ, List, refl, sym, ◌∙◌, ap, subst}
use Rattle.grift_base.specs.declared.refusals.Refusal.{Refusal}
use Rattle.sexpr_reader.specs.Datum.{Datums}
use Rattle.sexpr_reader.specs.Grammar.{Reads}
use Rattle.sexpr_reader.specs.Refused.{IsRefused as HasRefusedTokens}
use Rattle.sexpr_reader.proofs.Public.{a_text_reads_or_is_refused, what_reads_is_not_refused, a_text_has_one_reading}
use Rattle.sexpr_reader.proofs.Public.{a_text_has_one_refusal}
use Rattle.form_table.specs.Marked.{all_marked}
use Rattle.surface_trees.specs.Trees.{Expr}
use Rattle.derived_forms.specs.Written.{Top}
use Rattle.derived_forms.specs.Expansion.{expand_program}
use Rattle.form_table.specs.Walking.{Walked, Reads as WalkReads, Refuses}
use Rattle.form_table.specs.TopWalk.{walk_program}
use Rattle.form_table.specs.Programs.{AreExpr}
use Rattle.form_table.proofs.Public.{the_walk_reads_the_table_of_programs-alone}
use Rattle.form_table.proofs.Public.{the_walk_reads_the_table_of_programs-each}
use Rattle.form_table.proofs.Public.{the_walk_reads_the_table_of_programs-one}
use Rattle.cast_rules.specs.Elaboration.{elaborate_program}
use Rattle.cast_insert.specs.Outcomes.{Outcome, Elaborates, IsRefused, outcome_of}
use Rattle.front_end.specs.Texts.{ReadsAs, ElaboratesTo, HasRefusedForms, refusal_at, HasOutcome}

-- the three ways in which a text comes to its outcome
abbrev OfTokens : List ℕ → Outcome → Type 0
OfTokens text outcome = (r : Refusal) × HasRefusedTokens text r × (outcome ≡ IsRefused r.kind r.pos)

abbrev OfForms : List ℕ → Outcome → Type 0
OfForms text outcome = (r : Refusal) × HasRefusedForms text r × (outcome ≡ IsRefused r.kind r.pos)

abbrev Way : List ℕ → Outcome → Type 0
Way text outcome = OfTokens text outcome ⊎ (OfForms text outcome ⊎ ElaboratesTo text outcome)

way : (text : List ℕ) (outcome : Outcome) → HasOutcome text outcome → Way text outcome
way text (Elaborates term type types labels casts) h = inr (inr h)
way text (IsRefused kind place) (inl h) = inl (refusal_at kind place, h, refl)
way text (IsRefused kind place) (inr (inl h)) = inr (inl (refusal_at kind place, h, refl))
way text (IsRefused kind place) (inr (inr h)) = inr (inr h)

elaborated_outcome : (text : List ℕ) (outcome : Outcome) → ElaboratesTo text outcome → HasOutcome text outcome
elaborated_outcome text (Elaborates term type types labels casts) h = h
elaborated_outcome text (IsRefused kind place) h = inr (inr h)

-- ---- there is one

walked : (text : List ℕ) (datums : Datums) → Reads text datums → (w : Walked (List Top))
    → walk_program (all_marked datums) ≡ w → (outcome : Outcome) × HasOutcome text outcome
walked text datums reads (WalkReads tops) e =
    let program = the_walk_reads_the_table_of_programs-alone (all_marked datums) tops e in
    let outcome = outcome_of (elaborate_program (expand_program tops)) in (
      outcome,
      elaborated_outcome text outcome (record {
        program = expand_program tops;
        reads = record { datums = datums; reads = reads; forms = (tops, program, refl) };
        outcome_is = refl;
      }),
    )
walked text datums reads (Refuses kind place) e = (
  IsRefused kind place,
  inr (inl (record {
    datums = datums;
    reads = reads;
    none = λ tops h.
        let read = the_walk_reads_the_table_of_programs-each (all_marked datums) tops h in let z : ⊥ = cc in z;
    first = e;
  })),
)

pub a_text_has_one_outcome-some : (text : List ℕ) → (outcome : Outcome) × HasOutcome text outcome
a_text_has_one_outcome-some text = by (a_text_reads_or_is_refused text)
  where
    by : ((datums : Datums) × Reads text datums) ⊎ ((r : Refusal) × HasRefusedTokens text r) →
        (outcome : Outcome) × HasOutcome text outcome
    by (inl h) = walked text h.0 h.1 (walk_program (all_marked h.0)) refl
    by (inr h) = (IsRefused h.0.kind h.0.pos, inl h.1)

-- ---- there are no two

same_datums : (text : List ℕ) (a b : Datums) → Reads text a → Reads text b → a ≡ b
same_datums text a b h k = a_text_has_one_reading text a b h.forms k.forms

same_program : (text : List ℕ) (a b : Expr) → ReadsAs text a → ReadsAs text b → a ≡ b
same_program text a b h k =
    let same : k.datums ≡ h.datums = same_datums text k.datums h.datums k.reads h.reads in
    let other : AreExpr (all_marked h.datums) b = subst (λ ds. AreExpr (all_marked ds) b) same k.forms in
    let tops = the_walk_reads_the_table_of_programs-one (all_marked h.datums) h.forms.0 other.0 h.forms.1 other.1 in
    h.forms.2 ∙ ap expand_program tops ∙ sym other.2

no_tokens_and_reading : (text : List ℕ) (r : Refusal) (datums : Datums) → HasRefusedTokens text r → Reads text datums
    → ⊥
no_tokens_and_reading text r datums h k = what_reads_is_not_refused text datums r k h

no_forms_and_program : (text : List ℕ) (r : Refusal) (program : Expr) → HasRefusedForms text r → ReadsAs text program
    → ⊥
no_forms_and_program text r program h k =
    let same : k.datums ≡ h.datums = same_datums text k.datums h.datums k.reads h.reads in
    let other : AreExpr (all_marked h.datums) program =
    subst (λ ds. AreExpr (all_marked ds) program) same k.forms in
    h.none other.0 other.1

same_refused_forms : (text : List ℕ) (r s : Refusal) → HasRefusedForms text r → HasRefusedForms text s
    → IsRefused r.kind r.pos ≡ IsRefused s.kind s.pos
same_refused_forms text r s h k =
    let same : k.datums ≡ h.datums = same_datums text k.datums h.datums k.reads h.reads in
    let other : walk_program (all_marked h.datums) ≡ Refuses s.kind s.pos =
    subst (λ ds. walk_program (all_marked ds) ≡ Refuses s.kind s.pos) same k.first in
    one_refusal (sym h.first ∙ other)
  where
    one_refusal : ◌≡◌ {A = Walked (List Top)} (Refuses r.kind r.pos) (Refuses s.kind s.pos) →
        IsRefused r.kind r.pos ≡ IsRefused s.kind s.pos
    one_refusal e = let kinds : r.kind ≡ s.kind = cc in let places : r.pos ≡ s.pos = cc in
        ap (λ k. IsRefused k r.pos) kinds ∙ ap (IsRefused s.kind) places

ways : (text : List ℕ) (first second : Outcome) → Way text first → Way text second → first ≡ second
ways text first second (inl h) (inl k) =
    h.2 ∙ ap (λ r. IsRefused r.kind r.pos) (a_text_has_one_refusal text h.0 k.0 h.1 k.1) ∙ sym k.2
ways text first second (inl h) (inr (inl k)) = absurd (no_tokens_and_reading text h.0 k.1.datums h.1 k.1.reads)
ways text first second (inl h) (inr (inr k)) =
    absurd (no_tokens_and_reading text h.0 k.reads.datums h.1 k.reads.reads)
ways text first second (inr (inl h)) (inl k) = absurd (no_tokens_and_reading text k.0 h.1.datums k.1 h.1.reads)
ways text first second (inr (inl h)) (inr (inl k)) = h.2 ∙ same_refused_forms text h.0 k.0 h.1 k.1 ∙ sym k.2
ways text first second (inr (inl h)) (inr (inr k)) = absurd (no_forms_and_program text h.0 k.program h.1 k.reads)
ways text first second (inr (inr h)) (inl k) =
    absurd (no_tokens_and_reading text k.0 h.reads.datums k.1 h.reads.reads)
ways text first second (inr (inr h)) (inr (inl k)) = absurd (no_forms_and_program text k.0 h.program k.1 h.reads)
ways text first second (inr (inr h)) (inr (inr k)) =
    sym h.outcome_is ∙ ap (λ e. outcome_of (elaborate_program e)) (same_program text h.program k.program h.reads
    k.reads)
    ∙ k.outcome_is

pub a_text_has_one_outcome-one : (text : List ℕ) (first second : Outcome) → HasOutcome text first
    → HasOutcome text second → first ≡ second
a_text_has_one_outcome-one text first second h k = ways text first second (way text first h) (way text second k)

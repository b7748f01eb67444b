use Rattle.std.proofs.Common.{◌≡◌, ◌<◌, ◌∙◌, ℕ, List, [], ◌∷◌, length, refl, ap, sym, arith}
use Rattle.grift_base.specs.declared.places.TypeId.{TypeId}
use Rattle.type_graph.specs.Rows.{places_of}
use Rattle.core_calc.specs.Terms.{NoTerms, Term, TermThen, Terms}
use Rattle.core_calc.specs.Views.{term_of, terms_of}
use Rattle.core_terms.specs.Lists.{terms_onto}
use Rattle.core_redexes.specs.Taken.{casts}
use Rattle.core_redexes.proofs.calls.cast_arguments.Goals as goal

-- without types of either kind there are no more casts

no_froms : (froms : List TypeId) (tos : List ℕ) (term : Term) (rest : Terms) (label : ℕ) → length froms < 1 →
    casts (TermThen term rest) (places_of froms) tos label ≡ NoTerms
no_froms [] tos term rest label l = refl
no_froms (from ∷ froms) tos term rest label l = absurd (omega arith)

no_tos : (froms : List ℕ) (tos : List TypeId) (term : Term) (rest : Terms) (label : ℕ) → length tos < 1 →
    casts (TermThen term rest) froms (places_of tos) label ≡ NoTerms
no_tos [] tos term rest label l = refl
no_tos (from ∷ froms) [] term rest label l = refl
no_tos (from ∷ froms) (to ∷ tos) term rest label l = absurd (omega arith)

pub returns-in_default-froms : goal.returns-in_default-froms
returns-in_default-froms c =
    c.terms_onto.ensures
    ∙ ap (terms_onto (terms_of c.loop-left.done))
    (sym (no_froms c.loop-left.froms.now (places_of c.loop-left.tos.now) (term_of c.in-Cons.first.value)
    (terms_of c.in-Cons.rest.value) c.args.label.0 c.in_default-froms.len_below))
    ∙ ap (λ x. terms_onto (terms_of c.loop-left.done) (casts (terms_of x) (places_of c.loop-left.froms.now)
    (places_of c.loop-left.tos.now) c.args.label.0)) (sym c.in-Cons.is) ∙ c.loop-left.invariant

pub returns-in_default-tos : goal.returns-in_default-tos
returns-in_default-tos c =
    c.terms_onto-in_default-tos.ensures
    ∙ ap (terms_onto (terms_of c.loop-left.done))
    (sym (no_tos (places_of c.loop-left.froms.now) c.loop-left.tos.now (term_of c.in-Cons.first.value)
    (terms_of c.in-Cons.rest.value) c.args.label.0 c.in_default-tos.len_below))
    ∙ ap (λ x. terms_onto (terms_of c.loop-left.done) (casts (terms_of x) (places_of c.loop-left.froms.now)
    (places_of c.loop-left.tos.now) c.args.label.0)) (sym c.in-Cons.is) ∙ c.loop-left.invariant

pub returns : goal.returns
returns c =
    c.terms_onto-2.ensures
    ∙ ap (λ x. terms_onto (terms_of c.loop-left.done) (casts (terms_of x) (places_of c.loop-left.froms.now)
    (places_of c.loop-left.tos.now) c.args.label.0)) (sym c.in_default.is) ∙ c.loop-left.invariant

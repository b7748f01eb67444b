use Rattle.std.proofs.Common.{◌≡◌, ◌<◌, ◌≤◌, ◌∙◌, List, [], ◌∷◌, length, refl, ap, sym, arith}
use Rattle.std.specs.Prelude.{false}
use Rattle.core_calc.specs.Terms.{NoTerms, Term, TermThen, Terms}
use Rattle.core_calc.specs.Views.{term_of, terms_of}
use Rattle.core_redexes.specs.Taken.{as_many}
use Rattle.core_redexes.proofs.calls.as_many.Goals as goal

items_left : {A : Type 0} (items : List A) → 1 ≤ length items → as_many items NoTerms ≡ false
items_left [] l = absurd (omega arith)
items_left (item ∷ items) l = refl

pub returns-in_default-matches : goal.returns-in_default-matches
returns-in_default-matches g c =
    sym (items_left c.loop-left.items.now c.in_default-matches.len_at_least)
    ∙ ap (λ x. as_many c.loop-left.items.now (terms_of x)) (sym c.in_default.is) ∙ c.loop-left.invariant

no_items : {A : Type 0} (items : List A) (term : Term) (rest : Terms) → length items < 1 →
    as_many items (TermThen term rest) ≡ false
no_items [] term rest l = refl
no_items (item ∷ items) term rest l = absurd (omega arith)

pub returns-in_default-items : goal.returns-in_default-items
returns-in_default-items g c =
    sym (no_items c.loop-left.items.now (term_of c.in-Cons.field-0.value) (terms_of c.in-Cons.rest.value)
    c.in_default-items.len_below)
    ∙ ap (λ x. as_many c.loop-left.items.now (terms_of x)) (sym c.in-Cons.is) ∙ c.loop-left.invariant

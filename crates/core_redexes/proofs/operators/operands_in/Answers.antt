use Rattle.std.proofs.Common.{◌≡◌, ◌∙◌, List, [], ◌∷◌, Option, Some, ap, ap₂, sym}
use Rattle.std.specs.Prelude.{option_map}
use Rattle.core_calc.specs.Terms.{Term, Terms, TermThen, Value, all_values, as_value, both_in_front}
use Rattle.core_calc.specs.Views.{term_of, terms_of, value_of}
use Rattle.core_redexes.specs.Turns.{few}
use Rattle.core_redexes.proofs.operators.operands_in.Goals as goal

-- terms of which the first is this value are all values where the others are
front : (terms : Terms) (first : Term) (rest : Terms) (v : Value) (values : Option (List Value)) →
    terms ≡ TermThen first rest → Some v ≡ as_value first → values ≡ all_values rest →
    both_in_front (Some v) values ≡ all_values terms
front terms first rest v values e f g =
    ap₂ (λ (o : Option Value) (vs : Option (List Value)). both_in_front o vs) f g ∙ sym (ap all_values e)

pub returns-in_default-deref : goal.returns-in_default-deref
returns-in_default-deref c =
    ap few (front (terms_of c.args.operands.now) (term_of c.in-Cons.first.value) (terms_of c.in-Cons.rest.value)
    (value_of c.in-Some.first) (Some []) (ap terms_of c.in-Cons.is)
    (ap (option_map value_of) (sym c.in-Some.is) ∙ c.in_ok-first.ensures
    ∙ ap (λ x. as_value (term_of x)) c.deref.ensures)
    (ap (λ x. all_values (terms_of x)) (sym c.in_default-deref.is ∙ c.deref-2.ensures)))

pub returns-in_default-deref-2 : goal.returns-in_default-deref-2
returns-in_default-deref-2 c =
    ap few (front (terms_of c.args.operands.now) (term_of c.in-Cons.first.value) (terms_of c.in-Cons.rest.value)
    (value_of c.in-Some.first) (Some (value_of c.in-Some-2.second ∷ [])) (ap terms_of c.in-Cons.is)
    (ap (option_map value_of) (sym c.in-Some.is) ∙ c.in_ok-first.ensures
    ∙ ap (λ x. as_value (term_of x)) c.deref.ensures)
    (front (terms_of c.in-Cons.rest.value) (term_of c.in-Cons-deref.second.value)
    (terms_of c.in-Cons-deref.rest.value) (value_of c.in-Some-2.second) (Some [])
    (ap terms_of (sym c.deref-2.ensures ∙ c.in-Cons-deref.is))
    (ap (option_map value_of) (sym c.in-Some-2.is) ∙ c.in_ok-second.ensures
    ∙ ap (λ x. as_value (term_of x)) c.deref-3.ensures)
    (ap (λ x. all_values (terms_of x)) (sym c.in_default-deref-2.is ∙ c.deref-4.ensures))))

pub returns-in-Nil : goal.returns-in-Nil
returns-in-Nil c =
    ap few (front (terms_of c.args.operands.now) (term_of c.in-Cons.first.value) (terms_of c.in-Cons.rest.value)
    (value_of c.in-Some.first) (Some (value_of c.in-Some-2.second ∷ value_of c.in-Some-3.third ∷ []))
    (ap terms_of c.in-Cons.is)
    (ap (option_map value_of) (sym c.in-Some.is) ∙ c.in_ok-first.ensures
    ∙ ap (λ x. as_value (term_of x)) c.deref.ensures)
    (front (terms_of c.in-Cons.rest.value) (term_of c.in-Cons-deref.second.value)
    (terms_of c.in-Cons-deref.rest.value) (value_of c.in-Some-2.second) (Some (value_of c.in-Some-3.third ∷ []))
    (ap terms_of (sym c.deref-2.ensures ∙ c.in-Cons-deref.is))
    (ap (option_map value_of) (sym c.in-Some-2.is) ∙ c.in_ok-second.ensures
    ∙ ap (λ x. as_value (term_of x)) c.deref-3.ensures)
    (front (terms_of c.in-Cons-deref.rest.value) (term_of c.in-Cons-deref-2.third.value)
    (terms_of c.in-Cons-deref-2.rest.value) (value_of c.in-Some-3.third) (Some [])
    (ap terms_of (sym c.deref-4.ensures ∙ c.in-Cons-deref-2.is))
    (ap (option_map value_of) (sym c.in-Some-3.is) ∙ c.in_ok-third.ensures
    ∙ ap (λ x. as_value (term_of x)) c.deref-5.ensures)
    (ap (λ x. all_values (terms_of x)) (sym c.in-Nil.is ∙ c.deref-6.ensures)))))

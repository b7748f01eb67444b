use Rattle.std.proofs.Common.{◌∙◌, ap, refl, sym}
use Rattle.std.specs.Global.{Box}
use Rattle.std.specs.Prelude.{Some, option_map}
use Rattle.core_calc.specs.declared.terms.Core.{Core}
use Rattle.core_calc.specs.Terms.{as_value}
use Rattle.core_calc.specs.Views.{term_of, terms_of}
use Rattle.core_redexes.specs.Entered.{entered}
use Rattle.core_redexes.specs.Values.{wrapper_in}
use Rattle.core_redexes.proofs.Entering.{entered_becomes, not_entered, wrapped_becomes}
use Rattle.core_redexes.proofs.calls.enter_redex.Goals as goal

pub returns-in-Some-3-clause-moves : goal.returns-in-Some-3-clause-moves
returns-in-Some-3-clause-moves c = λ store world.
    entered_becomes c.args.types.now store world (term_of c.args.term.now) (term_of c.in-Enter.function.value)
    (terms_of c.in-Enter.arguments) (term_of c.into_inner.result) (ap term_of c.in-Enter.is)
    (sym (c.in_default-wrapper_of.ensures ∙ ap (λ x. wrapper_in (as_value (term_of x))) c.deref.ensures))
    (sym c.are_values.ensures ∙ c.if-not-are_values.false)
    (sym (c.in_ok-body.ensures.body
    ∙ ap (λ x. entered (as_value (term_of x)) (terms_of c.in-Enter.arguments)) c.deref_mut-2.ensures.value)
    ∙ ap (option_map (λ (b : Box Core). term_of b.value)) c.in-Some-3.is
    ∙ ap (λ x. Some (term_of x)) (sym c.into_inner.ensures))

pub returns-in-None-clause-moves : goal.returns-in-None-clause-moves
returns-in-None-clause-moves c = λ store world.
    not_entered c.args.types.now store world (term_of c.args.term.now) (term_of c.in-Enter.function.value)
    (terms_of c.in-Enter.arguments) (term_of c.entered.new.function) (ap term_of c.in-Enter.is)
    (sym (c.in_default-wrapper_of.ensures ∙ ap (λ x. wrapper_in (as_value (term_of x))) c.deref.ensures))
    (sym c.are_values.ensures ∙ c.if-not-are_values.false)
    (sym (c.in_ok-body.ensures.body
    ∙ ap (λ x. entered (as_value (term_of x)) (terms_of c.in-Enter.arguments)) c.deref_mut-2.ensures.value)
    ∙ ap (option_map (λ (b : Box Core). term_of b.value)) c.in-None.is)
    (let same = rw c.in-None.is at c.in_ok-body.ensures.same in same ∙ ap term_of c.deref_mut-2.ensures.value)

pub returns-in-Some-clause-moves : goal.returns-in-Some-clause-moves
returns-in-Some-clause-moves c = λ store world.
    wrapped_becomes c.args.types.now store world (term_of c.args.term.now) (term_of c.in-Enter.function.value)
    (term_of c.unwrap_value.new.term) (term_of c.replace.result) (terms_of c.in-Enter.arguments)
    (terms_of c.in-Some-2.casts) c.in-Some.wrapper.from.0 c.in-Some.wrapper.label.0 c.in-Some.wrapper.to.0
    c.in-Some-2.answer.0 c.in-Some-2.wanted.0 (ap term_of c.in-Enter.is)
    (sym (c.in-Some.ensures ∙ ap (λ x. wrapper_in (as_value (term_of x))) c.deref.ensures))
    (rw c.deref_mut.ensures.value at (c.if-not-unwrap_value.ensures.done refl))
    (sym c.in_ok-casts.ensures
    ∙ ap (option_map (λ made. (terms_of made.0, made.1.0, made.2.0))) c.in-Some-2.is)
    (ap term_of c.replace.ensures.value)

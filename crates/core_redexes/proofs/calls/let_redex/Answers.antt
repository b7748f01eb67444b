use Rattle.std.proofs.Common.{◌∙◌, ap, sym}
use Rattle.core_calc.specs.Substitution.{substitute}
use Rattle.core_calc.specs.Terms.{NoMembers}
use Rattle.core_calc.specs.Views.{bindings_of, term_of}
use Rattle.core_terms.specs.Entries.{entries_of, with_group}
use Rattle.core_redexes.proofs.Taking.{let_becomes, let_seen}
use Rattle.core_redexes.proofs.calls.let_redex.Goals as goal

pub returns-clause-moves : goal.returns-clause-moves
returns-clause-moves c = λ types store world.
    let_becomes types store world (term_of c.args.term.now) (bindings_of c.in-Let.bindings)
    (term_of c.in-Let-term.body.value) (term_of c.replace-body.result) (entries_of c.in_ok-entries.entries.items)
    (let_seen (term_of c.args.term.now) _ _ _ _ (ap term_of c.in-Let.is) (ap term_of c.in-Let-term.is))
    (sym c.are_bound.ensures ∙ c.if-not-are_bound.false) c.in_ok-entries.ensures
    (ap term_of c.replace-body.ensures.value ∙ ap term_of c.deref_mut-2.ensures.value
    ∙ c.in_ok-substitute.ensures.put
    ∙ ap (λ x. substitute (term_of x) (with_group c.as_slice.result.now NoMembers)) c.deref_mut.ensures.value
    ∙ ap (λ x. substitute (term_of c.in-Let-term.body.value) (with_group x NoMembers)) c.as_slice.ensures.value)

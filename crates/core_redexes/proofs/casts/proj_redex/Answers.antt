use Rattle.std.proofs.Common.{◌∙◌, Some, ap, refl, rules, sym}
use Rattle.std.specs.Int.{w64}
use Rattle.std.specs.Int.RustNames.{FitsSigned}
use Rattle.std.proofs.lemmas.Int.{to_z-of_z}
use Rattle.core_calc.specs.Terms.{as_value}
use Rattle.core_calc.specs.Views.{term_of}
use Rattle.core_redexes.specs.Values.{wrapper_in}
use Rattle.core_redexes.proofs.Projecting.{projected_becomes, same_projected}
use Rattle.core_redexes.proofs.casts.proj_redex.Goals as goal

pub returns-clause-moves : goal.returns-clause-moves
returns-clause-moves c =
    let f : FitsSigned w64 c.in-Some.k = search rules in
    λ store world. projected_becomes c.args.types.now store world (term_of c.args.term.now)
    (term_of c.in-Proj-term.inner.value) (term_of c.unwrap_value.new.term) (term_of c.replace.result) _ _
    c.in-Some-wrapper_of.wrapper.from.0 c.in-Some-wrapper_of.wrapper.label.0 c.in-Some-wrapper_of.wrapper.to.0
    c.in-Some-part_of.from.0 c.in-Some-part_of-2.to.0 (ap term_of c.in-Proj-term.is)
    (sym c.in-Some.ensures ∙ ap (λ k. Some k) (sym (to_z-of_z w64 c.in-Some.k f)))
    (sym (c.in-Some-wrapper_of.ensures ∙ ap (λ x. wrapper_in (as_value (term_of x))) c.deref-2.ensures
    ∙ ap (λ t. wrapper_in (as_value t))
    (same_projected (term_of c.args.term.now) _ _ _ _ (ap term_of c.in-Proj.is) (ap term_of c.in-Proj-term.is))))
    (rw c.deref_mut.ensures.value at (c.if-not-unwrap_value.ensures.done refl))
    (sym c.in-Some-part_of.ensures) (sym c.in-Some-part_of-2.ensures) (ap term_of c.replace.ensures.value)

use Rattle.std.proofs.Common.{◌≡◌, ◌∙◌, ℕ, Some, ap, rules, sym}
use Rattle.std.specs.Int.{w64}
use Rattle.std.specs.Int.RustNames.{FitsSigned}
use Rattle.std.specs.Prelude.{option_map}
use Rattle.std.proofs.lemmas.Int.{to_z-of_z}
use Rattle.core_calc.specs.Terms.{Value, as_value}
use Rattle.core_calc.specs.Views.{term_of, value_of}
use Rattle.core_redexes.specs.Values.{held_of}
use Rattle.core_redexes.proofs.Projecting.{projected_dyn_becomes, same_projected_dyn}
use Rattle.core_redexes.proofs.casts.proj_dyn_redex.Goals as goal

pub returns-clause-moves : goal.returns-clause-moves
returns-clause-moves c =
    let f : FitsSigned w64 c.in-Some.k = search rules in
    let kept : option_map (λ (h : Value × ℕ). h.1) (held_of (as_value (term_of c.in-ProjDyn.inner.value)))
    ≡ Some c.in-Value-Inject.kept.0 = search rules in
    let same = same_projected_dyn (term_of c.args.term.now) _ _ _ _ _ _ (ap term_of c.in-ProjDyn-term.is)
    (ap term_of c.in-ProjDyn.is) in
    let held = rw c.deref_mut.ensures.value at c.in-Some-take_injected.ensures.taken in
    λ store world. projected_dyn_becomes c.args.types.now store world (term_of c.args.term.now)
    (term_of c.in-ProjDyn.inner.value) (value_of c.in-Some-take_injected.held) _ _ _ c.in-Some.label.0
    c.in-Value-Inject.kept.0 c.in-Some-part_of.part.0 c.in-Some-dyn_type.to.0 (ap term_of c.in-ProjDyn.is)
    (sym c.in-Some.ensures ∙ ap (λ k. Some (k, c.in-Some.label.0)) (sym (to_z-of_z w64 c.in-Some.k f)))
    (ap (λ t. option_map (λ (h : Value × ℕ). h.0) (held_of (as_value t))) (sym same)
    ∙ ap (option_map (λ h. h.0)) (sym held)) kept
    (sym c.in-Some-part_of.ensures) (sym c.in-Some-dyn_type.ensures)

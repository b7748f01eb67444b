use Rattle.std.proofs.Common.{ap, ◌∙◌}
use Rattle.surface_trees.specs.Views.{expr_of, written_of}
use Rattle.surface_trees.specs.Views.{type_of_binding, value_of_binding}
use Rattle.derived_forms.specs.Expansion.{type_or_dyn}
use Rattle.derived_forms.proofs.loops.sum_of.Goals as goal

pub returns-clause-written : goal.returns-clause-written
returns-clause-written c =
    c.type_or_dyn.ensures ∙ ap (λ parts. type_or_dyn c.args.pos (written_of parts.1)) c.parts-ty.ensures
    ∙ ap (λ b. type_or_dyn c.args.pos (type_of_binding b)) (c.into_inner.ensures
    ∙ ap (λ b. b.value) c.in_ok-start.ensures.value)

pub returns-clause-value : goal.returns-clause-value
returns-clause-value c =
    ap expr_of c.in_ok-value.ensures ∙ ap (λ parts. expr_of parts.2) c.parts-ty.ensures
    ∙ ap value_of_binding (c.into_inner.ensures ∙ ap (λ b. b.value) c.in_ok-start.ensures.value)

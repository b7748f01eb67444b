use Rattle.std.proofs.Common.{List, length, suc, ap, sym, ◌∙◌, rules}
use Rattle.grift_base.specs.declared.places.TypeId.{TypeId}
use Rattle.surface_trees.specs.declared.types.Param.{Param}
use Rattle.surface_trees.specs.Views.{params_of}
use Rattle.type_graph.specs.Rows.{places_of}
use Rattle.cast_rules.specs.Environments.{parameter_types}
use Rattle.cast_rules.specs.Making.{Makes}
use Rattle.insert_steps.specs.Views.{work_of}
use Rattle.insert_steps.proofs.Made.{failed_first, first_split, made_first, made_then}
use Rattle.insert_steps.proofs.parameters.+parameter_types.Goals as goal

pub returns-in_err-ty-clause-answer : goal.returns-in_err-ty-clause-answer
returns-in_err-ty-clause-answer t c =
    rw (ap (λ (ps : List Param). parameter_types (params_of ps) (work_of c.args.progress.now))
    (first_split c.args.params.now c.first-item.result c.in-len1-up.len_at_least c.first-item.is))
    (failed_first c.in_err-ty.field-0.0 (λ (ty : TypeId). ty.0) _ _ _ _ _ (search rules) c.in_err-ty.ensures.answer)

pub returns-in_err-types-clause-answer : goal.returns-in_err-types-clause-answer
returns-in_err-types-clause-answer t c =
    rw (ap (λ (ps : List Param). parameter_types (params_of ps) (work_of c.args.progress.now))
    (first_split c.args.params.now c.first-item.result c.in-len1-up.len_at_least c.first-item.is))
    (made_first _ _ _ _ _ _ _ c.in_ok-ty.ensures.answer
    (failed_first c.in_err-types.field-0.0 _ _ _ _ _ _ (search rules) c.in_err-types.ensures.answer))

pub returns-clause-answer : goal.returns-clause-answer
returns-clause-answer t c =
    ap (λ (ps : List Param). parameter_types (params_of ps) (work_of c.args.progress.now))
    (first_split c.args.params.now c.first-item.result c.in-len1-up.len_at_least c.first-item.is)
    ∙ made_then _ _ _ _ _ c.in_ok-ty.ensures.answer (made_then _ _ _ _ _ c.in_ok-types.ensures.answer
    (ap (λ (ids : List TypeId). Makes (places_of ids) (work_of c.parameter_types.new.progress))
    (sym c.in_ok-put_first.ensures)))

pub returns-clause-count : goal.returns-clause-count
returns-clause-count t c =
    ap (λ (ids : List TypeId). length (places_of ids)) c.in_ok-put_first.ensures ∙ ap suc c.in_ok-types.ensures.count
    ∙ sym (ap (λ (ps : List Param). length (params_of ps))
    (first_split c.args.params.now c.first-item.result c.in-len1-up.len_at_least c.first-item.is))

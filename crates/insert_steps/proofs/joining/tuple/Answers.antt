use Rattle.std.proofs.Common.{List, ap, sym, ◌∙◌}
use Rattle.grift_base.specs.Types.{TupleRow}
use Rattle.grift_base.specs.declared.places.TypeId.{TypeId}
use Rattle.type_graph.specs.Forming.{intern}
use Rattle.type_graph.specs.Rows.{places_of}
use Rattle.cast_rules.specs.Making.{Makes, Typed, form}
use Rattle.insert_steps.specs.Views.{work_of}
use Rattle.cast_rules.proofs.Public.{tuple_fits}
use Rattle.insert_steps.proofs.Made.{made_then}
use Rattle.insert_steps.proofs.joining.tuple.Goals as goal

pub form-requires : goal.form-requires
form-requires c =
    rw (c.in_ok-parts.ensures, c.as_slice.ensures.value)
    (tuple_fits _ _ c.requires.parts c.requires.least c.requires.most)

pub returns-clause-answer : goal.returns-clause-answer
returns-clause-answer c =
    made_then _ _ _ _ _
    (ap (λ (ids : List TypeId). form (intern (TupleRow (places_of ids))) (work_of c.args.progress.now))
    (sym (c.in_ok-parts.ensures ∙ c.as_slice.ensures.value)) ∙ c.in_ok-ty.ensures.made)
    (ap (λ (e : Typed). Makes e (work_of c.form.new.self)) (sym c.in_ok-plain.ensures))

pub returns-clause-grows : goal.returns-clause-grows
returns-clause-grows c = c.in_ok-ty.ensures.grows

use Rattle.std.proofs.Common.{List, ap, refl, sym, ◌∙◌}
use Rattle.grift_base.specs.Types.{FunRow}
use Rattle.grift_base.specs.declared.places.TypeId.{TypeId}
use Rattle.type_graph.specs.Forming.{intern}
use Rattle.type_graph.specs.Rows.{places_of}
use Rattle.cast_rules.specs.Making.{Makes, Typed, form}
use Rattle.insert_steps.specs.Views.{work_of}
use Rattle.cast_rules.proofs.Public.{fun_fits, grows_on, parts_later}
use Rattle.insert_steps.proofs.Made.{made_then}
use Rattle.insert_steps.proofs.joining.called_dyn.Goals as goal

pub form-requires-2 : goal.form-requires-2
form-requires-2 c =
    rw (c.in_ok-parameters.ensures, c.as_slice.ensures.value) (fun_fits _ _ _
    (parts_later _ _ _ c.in_ok-dyn_type.ensures.grows c.requires.parts) (c.in_ok-dyn_type.ensures.leaf refl)
    c.requires.few)

pub returns-clause-answer : goal.returns-clause-answer
returns-clause-answer c =
    made_then _ _ _ _ _ c.in_ok-dyn_type.ensures.made (made_then _ _ _ _ _
    (ap (λ (ids : List TypeId). form (intern (FunRow (places_of ids) c.in_ok-dyn_type.dyn_type.0))
    (work_of c.form.new.self)) (sym (c.in_ok-parameters.ensures ∙ c.as_slice.ensures.value))
    ∙ c.in_ok-whole.ensures.made) (made_then _ _ _ _ _ c.in_ok-called.ensures.made
    (ap (λ (e : Typed). Makes e (work_of c.cast_at.new.self)) (sym c.in_ok-plain.ensures))))

pub returns-clause-grows : goal.returns-clause-grows
returns-clause-grows c =
    grows_on _ _ _ c.in_ok-dyn_type.ensures.grows
    (grows_on _ _ _ c.in_ok-whole.ensures.grows c.in_ok-called.ensures.grows)

use Rattle.std.proofs.Common.{List, ap, sym, ◌∙◌}
use Rattle.grift_base.specs.Types.{FunRow}
use Rattle.grift_base.specs.declared.places.TypeId.{TypeId}
use Rattle.type_graph.specs.Forming.{intern}
use Rattle.type_graph.specs.Rows.{places_of}
use Rattle.surface_trees.specs.declared.names.Ident.{Ident}
use Rattle.cast_rules.specs.Environments.{Head}
use Rattle.cast_insert.specs.Heads.{place_in}
use Rattle.cast_rules.specs.Making.{Made, Makes, form}
use Rattle.insert_steps.specs.Views.{place_if, work_of}
use Rattle.cast_rules.proofs.Public.{fun_fits, grows_on}
use Rattle.insert_steps.proofs.Public.{made_then}
use Rattle.cast_insert.proofs.heads.head_of_types.Goals as goal

pub form-requires : goal.form-requires
form-requires c =
    rw (c.in_ok-types.ensures, c.as_slice.ensures.value)
    (fun_fits _ _ _ c.requires.parameters c.requires.answer c.requires.few)

pub returns-clause-grows : goal.returns-clause-grows
returns-clause-grows c = grows_on _ _ _ c.in_ok-ty.ensures.grows c.in_ok-variable.ensures.grows

pub returns-clause-answer : goal.returns-clause-answer
returns-clause-answer c =
    let head : Ident → Made Head = λ name. Makes (record {
      name = name;
      meaning = record {
        variable = c.in_ok-variable.variable.0;
        type = c.in_ok-ty.ty.0;
        written = place_if c.args.written;
        place = place_in c.args.member.now;
      };
      parameters = places_of c.args.parameters.items;
      answer = c.args.answer.0;
    }) (work_of c.fresh.new.self) in
    made_then _ _ _ _ _
    (ap (λ (ids : List TypeId). form (intern (FunRow (places_of ids) c.args.answer.0)) (work_of c.args.progress.now))
    (sym (c.in_ok-types.ensures ∙ c.as_slice.ensures.value)) ∙ c.in_ok-ty.ensures.made)
    (made_then _ _ _ _ _ c.in_ok-not_too_large.ensures.answer (made_then _ _ _ _ _ c.in_ok-agrees.ensures
    (made_then _ _ _ _ _ c.in_ok-variable.ensures.made (ap head (sym c.in_ok-name.ensures)))))

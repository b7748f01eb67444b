use Rattle.std.proofs.Common.{ℕ, List, length, ap, ◌∙◌}
use Rattle.std.specs.Prelude.{slice_index}
use Rattle.coercion_norm.specs.Objects.{words_of_all}
use Rattle.coercion_norm.specs.ObjectsOfRows.{type_objects}
use Rattle.coercion_norm.proofs.TypeObjects.{types_said}
use Rattle.coercion_norm.proofs.TypePlacing.{types_placed}
use Rattle.coercion_norm.proofs.placing.place_types.Goals as goal

pub returns : goal.returns
returns c =
    let types = c.args.types.now in
    let written = c.in_ok-write_types.ensures
    ∙ ap (λ (told : List ℕ). words_of_all (type_objects types (λ type. slice_index told type) (length types)))
    c.as_slice.ensures in
    record {
      placed =
          types_placed types c.len.ensures.table c.args.start c.in_ok-type_at.type_at c.in_ok-type_at.ensures
          c.write_types.new.words written;
      said =
          types_said types c.len.ensures.table c.args.start c.in_ok-type_at.type_at c.in_ok-type_at.ensures
          c.write_types.new.words written;
    }

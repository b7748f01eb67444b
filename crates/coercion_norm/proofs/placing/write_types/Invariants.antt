use Rattle.std.proofs.Common.{◌≡◌}
use Rattle.std.specs.Prelude.{slice_index}
use Rattle.coercion_norm.specs.Objects.{words_of_all}
use Rattle.coercion_norm.specs.ObjectsOfRows.{type_objects}
use Rattle.coercion_norm.proofs.placing.write_types.Given as goal

abbrev pub invariant-loop-t : goal.invariant-loop-t
invariant-loop-t l = l.words ≡ words_of_all (type_objects l.types (λ type. slice_index l.type_at type) l.t)

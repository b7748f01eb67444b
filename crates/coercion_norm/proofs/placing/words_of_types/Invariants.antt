use Rattle.std.proofs.Common.{◌≡◌, take}
use Rattle.type_graph.specs.Rows.{places_of}
use Rattle.coercion_norm.specs.StaticObjects.{words_at}
use Rattle.coercion_norm.proofs.placing.words_of_types.Given as goal

abbrev pub invariant-loop-part : goal.invariant-loop-part
invariant-loop-part l = l.words.items ≡ words_at l.type_at (places_of (take l.part-index l.parts))

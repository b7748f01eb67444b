use Rattle.std.proofs.Common.{◌≡◌, take}
use Rattle.coercion_norm.specs.Nodes.{coercion_places}
use Rattle.coercion_norm.specs.StaticObjects.{words_at}
use Rattle.coercion_norm.proofs.placing.words_of_coercions.Given as goal

abbrev pub invariant-loop-part : goal.invariant-loop-part
invariant-loop-part l = l.words.items ≡ words_at l.coercion_at (coercion_places (take l.part-index l.parts))

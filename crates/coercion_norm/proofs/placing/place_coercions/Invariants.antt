use Rattle.coercion_norm.specs.Placed.{ArePlaced, SayCoercions}
use Rattle.coercion_norm.proofs.placing.place_coercions.Given as goal

abbrev pub invariant-loop-c : goal.invariant-loop-c
invariant-loop-c l =
    ArePlaced l.types l.table.nodes l.start l.words l.type_at l.coercion_at l.c
    × SayCoercions l.types l.table.nodes l.start l.words l.type_at l.coercion_at l.c

-- The rules that the functions of a file are proved by: steps of the work, and room in the table of types.
use Rattle.cast_rules.proofs.Public.{room_steps, steps}

pub ruleset rules = (steps, room_steps)

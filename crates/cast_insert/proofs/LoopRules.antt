-- The rules that loops over heads and over expressions are proved by: with what is done, room in the table of types.
use Rattle.cast_rules.proofs.Public.{room_steps}
use Rattle.cast_insert.proofs.Loops.{head_steps, loop_steps}

pub ruleset head_rules = (head_steps, room_steps)

pub ruleset loop_rules = (loop_steps, room_steps)

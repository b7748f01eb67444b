use Rattle.std.proofs.Common.{◌≡◌}
use Rattle.surface_trees.specs.Views.{exprs_of}
use Rattle.cast_rules.specs.Sources.{last_place}
use Rattle.cast_insert.proofs.elaboration.last_pos.Given as goal

-- the last place is that of what is left
abbrev pub invariant-loop-left : goal.invariant-loop-left
invariant-loop-left l = last_place l.last (exprs_of l.left) ≡ last_place l.fn.pos (exprs_of l.fn.list)

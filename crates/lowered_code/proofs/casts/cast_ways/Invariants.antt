use Rattle.std.proofs.Common.{◌≡◌, ◌++◌, length}
use Rattle.coercion_norm.specs.CastRows.{row_casts}
use Rattle.lowered_code.specs.CastWays.{cast_ways}
use Rattle.lowered_code.proofs.casts.cast_ways.Given as goal

-- the ways so far, and those of what is left, are those of all
abbrev pub invariant-loop-left : goal.invariant-loop-left
invariant-loop-left l =
    l.ways ++ cast_ways l.types (row_casts l.left) ≡ cast_ways l.types (row_casts l.casts)

abbrev pub decreases-loop-left : goal.decreases-loop-left
decreases-loop-left l = length l.left

use Rattle.std.proofs.Common.{◌≡◌, ◌++◌, length, map}
use Rattle.coercion_norm.specs.CastRows.{row_casts}
use Rattle.piled_scheme.specs.Piling.{word_of}
use Rattle.piled_scheme.proofs.words.words_of.Given as goal

-- the words so far, and those of what is left, are those of all
abbrev pub invariant-loop-left : goal.invariant-loop-left
invariant-loop-left l =
    l.words ++ map (word_of l.types) (row_casts l.left) ≡ map (word_of l.types) (row_casts l.casts)

abbrev pub decreases-loop-left : goal.decreases-loop-left
decreases-loop-left l = length l.left

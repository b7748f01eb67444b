use Rattle.std.proofs.Common.{◌<◌, ◌^◌, length}
use Rattle.std.specs.Prelude.{All}
use Rattle.machine_words.proofs.words.are_words.Given as goal

-- where what is left is below, so is the whole
abbrev pub invariant-loop-left : goal.invariant-loop-left
invariant-loop-left l = All (λ w. w < 2 ^ 64) l.left → All (λ w. w < 2 ^ 64) l.fn.words

abbrev pub decreases-loop-left : goal.decreases-loop-left
decreases-loop-left l = length l.left

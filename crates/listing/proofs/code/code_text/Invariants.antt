use Rattle.std.proofs.Common.{◌≡◌, take}
use Rattle.listing.specs.CodeLines.{code_lines}
use Rattle.listing.proofs.code.code_text.Given as goal

abbrev pub invariant-loop-k : goal.invariant-loop-k
invariant-loop-k l = l.text ≡ code_lines l.first (take l.k l.word-items)

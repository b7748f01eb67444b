use Rattle.std.proofs.Common.{◌≡◌}
use Rattle.listing.specs.CodeLines.{words_from}
use Rattle.listing.proofs.code.code_words.Given as goal

abbrev pub invariant-loop-k : goal.invariant-loop-k
invariant-loop-k l = l.words ≡ words_from l.bytes l.start l.k

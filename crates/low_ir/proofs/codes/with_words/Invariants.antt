use Rattle.std.proofs.Common.{◌≡◌, ◌∷◌}
use Rattle.low_ir.specs.Codes.{words_from}
use Rattle.low_ir.proofs.codes.with_words.Given as goal

abbrev pub invariant-loop-k : goal.invariant-loop-k
invariant-loop-k l = l.sources.items ≡ l.fn.source ∷ words_from l.k l.fn.from

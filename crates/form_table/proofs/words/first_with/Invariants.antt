use Rattle.std.proofs.Common.{◌≡◌, drop}
use Rattle.form_table.specs.Words.{first_with}
use Rattle.form_table.proofs.words.first_with.Given as goal

abbrev pub invariant-loop-word : goal.invariant-loop-word
invariant-loop-word g l =
    first_with g.W.Spelled.spelling l.text (drop l.word-index l.words) ≡ first_with g.W.Spelled.spelling l.text l.words

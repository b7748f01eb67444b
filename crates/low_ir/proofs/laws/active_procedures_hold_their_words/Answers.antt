use Rattle.low_ir.proofs.CountedWords.{active_procedures_hold_their_words}
use Rattle.low_ir.proofs.laws.active_procedures_hold_their_words.Goals as goal

pub returns : goal.returns
returns g c = λ reading setting most entry p memory world n few is.
    active_procedures_hold_their_words reading setting most entry p memory world n few is

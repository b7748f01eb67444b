use Rattle.rv_select.proofs.StackSizes.{frames_fill_no_more_than_the_largest-bytes}
use Rattle.rv_select.proofs.laws.frames_fill_no_more_than_the_largest.Goals as goal

pub returns-clause-bytes : goal.returns-clause-bytes
returns-clause-bytes g c = λ reading setting most entry p memory world n few is.
    frames_fill_no_more_than_the_largest-bytes reading setting most entry p memory world n few is

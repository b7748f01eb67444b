use Rattle.assembler.proofs.Faults.{judged}
use Rattle.assembler.proofs.image.bytes_are_an_image_or_have_one_fault.Goals as goal

pub returns-clause-some : goal.returns-clause-some
returns-clause-some c bytes = judged bytes

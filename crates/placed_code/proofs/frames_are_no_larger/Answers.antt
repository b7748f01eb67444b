use Rattle.placed_code.proofs.FrameSizes.{frames_no_larger}
use Rattle.placed_code.proofs.frames_are_no_larger.Goals as goal

pub returns : goal.returns
returns c = λ place found fs. frames_no_larger place found fs

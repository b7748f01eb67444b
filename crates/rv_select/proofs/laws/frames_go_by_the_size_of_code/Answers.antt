use Rattle.rv_select.proofs.WordCounts.{frames_go_by_the_size_of_code}
use Rattle.rv_select.proofs.laws.frames_go_by_the_size_of_code.Goals as goal

pub returns : goal.returns
returns c = frames_go_by_the_size_of_code

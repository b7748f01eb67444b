use Rattle.lower.proofs.merging.Serving.{words_follow_procedures-storage, words_follow_procedures-rows}
use Rattle.lower.proofs.laws.words_follow_procedures.Goals as goal

pub returns-clause-storage : goal.returns-clause-storage
returns-clause-storage c = words_follow_procedures-storage

pub returns-clause-rows : goal.returns-clause-rows
returns-clause-rows c = words_follow_procedures-rows

use Rattle.std.proofs.Common.{rules}
use Rattle.blame_audit.proofs.audits.mark.Goals as goal

-- (an edit turns this function: with the answer here its refusal takes one run of the prover, and not two)

pub returns-in-Part-clause-marks : goal.returns-in-Part-clause-marks
returns-in-Part-clause-marks c = search rules

pub returns-then-not-branch-clause-marks : goal.returns-then-not-branch-clause-marks
returns-then-not-branch-clause-marks c = search rules

pub returns-else-not-branch-clause-marks : goal.returns-else-not-branch-clause-marks
returns-else-not-branch-clause-marks c = search rules

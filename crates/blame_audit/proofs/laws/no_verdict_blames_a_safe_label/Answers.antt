use Rattle.blame_audit.proofs.NoVerdicts as proofs
use Rattle.blame_audit.proofs.laws.no_verdict_blames_a_safe_label.Goals as goal

pub returns : goal.returns
returns c = λ program entries p place listed safe distinct is_there.
    proofs.no_verdict_blames_a_safe_label program entries p place listed safe distinct is_there

use Rattle.grift_cli.proofs.Putting.{line_not_put}
use Rattle.grift_cli.proofs.top.put_line.Goals as goal

pub returns-in-Err : goal.returns-in-Err
returns-in-Err g c = rw c.status_of_fault.ensures (line_not_put _ _ _ c.in-Err.fault c.in-Err.ensures)

use Rattle.std.proofs.Common.{rules, refl}
use Rattle.grift_cli.proofs.top.report_of_call.Goals as goal

pub returns-in-Exec : goal.returns-in-Exec
returns-in-Exec g c = c.report_of_exec.ensures _ _ (search rules) (record { written = refl; faults = refl })

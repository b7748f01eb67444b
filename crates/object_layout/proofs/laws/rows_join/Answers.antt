use Rattle.object_layout.proofs.Rows.{fills_append, fills_sooner}
use Rattle.object_layout.proofs.laws.rows_join.Goals as goal

pub returns : goal.returns
returns c = λ memory area from mid to headers more before row others.
    fills_append memory area to from mid to headers more
    (fills_sooner memory area mid to from headers mid before row) others

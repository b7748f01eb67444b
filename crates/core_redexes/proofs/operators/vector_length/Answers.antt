use Rattle.core_redexes.proofs.OperatorTurns.{onward}
use Rattle.core_redexes.proofs.operators.vector_length.Goals as goal

pub returns-in-Loc-default-true : goal.returns-in-Loc-default-true
returns-in-Loc-default-true c =
    rw c.in-Loc-default-true.is (rw c.in-Loc-default-true.field-1-test (onward c.cell_length.result
    c.cell_length.ensures (λ turn h types world. h types world)))

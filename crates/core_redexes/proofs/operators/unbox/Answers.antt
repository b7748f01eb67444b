use Rattle.core_redexes.proofs.OperatorTurns.{onward}
use Rattle.core_redexes.proofs.operators.unbox.Goals as goal

pub returns-in-Loc-default-false : goal.returns-in-Loc-default-false
returns-in-Loc-default-false c =
    rw c.in-Loc-default-false.is (rw c.in-Loc-default-false.field-1-test (onward c.read_box.result c.read_box.ensures
    (λ turn h world. h c.args.types.now world)))

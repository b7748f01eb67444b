use Rattle.core_redexes.proofs.OperatorTurns.{onward}
use Rattle.core_redexes.proofs.operators.on_two.Goals as goal

pub returns-in-MakeVector-clause-ok : goal.returns-in-MakeVector-clause-ok
returns-in-MakeVector-clause-ok c =
    rw c.in-MakeVector.is (onward c.make_vector.result c.make_vector.ensures.ok
    (λ turn h world. h c.args.types.now world))

use Rattle.std.proofs.Common.{ap}
use Rattle.core_calc.specs.Views.{term_of}
use Rattle.core_redexes.proofs.OperatorTurns.{operator_taken}
use Rattle.core_redexes.proofs.operators.prim_redex.Goals as goal

pub returns-in-Becomes-clause-moves : goal.returns-in-Becomes-clause-moves
returns-in-Becomes-clause-moves c =
    operator_taken _ _ _ _ _ _ _ _ _ _ _ (ap term_of c.in-Prim.is) c.in_ok-operands.ensures c.in_ok-next.ensures.ok
    c.in-Becomes.is

pub returns-in-Traps-clause-moves : goal.returns-in-Traps-clause-moves
returns-in-Traps-clause-moves c =
    operator_taken _ _ _ _ _ _ _ _ _ _ _ (ap term_of c.in-Prim.is) c.in_ok-operands.ensures c.in_ok-next.ensures.ok
    c.in-Traps.is

pub returns-in-Stuck-clause-moves : goal.returns-in-Stuck-clause-moves
returns-in-Stuck-clause-moves c =
    operator_taken _ _ _ _ _ _ _ _ _ _ _ (ap term_of c.in-Prim.is) c.in_ok-operands.ensures c.in_ok-next.ensures.ok
    c.in-Stuck.is

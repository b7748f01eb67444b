use Rattle.std.proofs.Common.{◌≡◌}
use Rattle.core_calc.specs.Views.{value_of}
use Rattle.core_redexes.specs.Turns.{vector_cell}
use Rattle.core_redexes.proofs.operators.vector_cell.Given as goal

abbrev pub invariant-loop-left : goal.invariant-loop-left
invariant-loop-left l = vector_cell (value_of l.left) ≡ vector_cell (value_of l.v)

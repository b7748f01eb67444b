use Rattle.std.proofs.Common.{◌≡◌, map, replicate}
use Rattle.core_calc.specs.Views.{value_of}
use Rattle.core_redexes.proofs.operators.copies_of.Given as goal

abbrev pub invariant-loop-i : goal.invariant-loop-i
invariant-loop-i l = map value_of l.cell.items ≡ replicate l._i (value_of l.v)

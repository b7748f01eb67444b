use Rattle.std.proofs.Common.{◌≡◌, ◌++◌}
use Rattle.closure_convert.specs.Numbers.{counted, operand_of}
use Rattle.closure_convert.proofs.numbers.Kind.operands.Given as goal

-- the operands so far, and those that are left, are all
abbrev pub invariant-loop-left : goal.invariant-loop-left
invariant-loop-left l =
    l.operands ++ counted (operand_of l.self) l.left l.number ≡ counted (operand_of l.self) l.count l.first

abbrev pub decreases-loop-left : goal.decreases-loop-left
decreases-loop-left l = l.left

use Rattle.std.proofs.Common.{◌≡◌, drop}
use Rattle.flat_ir.specs.Closed.{operands_bound}
use Rattle.flat_ir.proofs.closing.Known.operands_bound.Given as goal

-- the operands that are left are bound where all are
abbrev pub invariant-loop-operand : goal.invariant-loop-operand
invariant-loop-operand l =
    operands_bound l.self.captured l.self.group l.depth (drop l.operand-index l.operand-items)
    ≡ operands_bound l.self.captured l.self.group l.depth l.fn.operands

use Rattle.std.proofs.Common.{◌≡◌, ◌+◌, ◌++◌, drop}
use Rattle.low_ir.specs.Views.{procs_of}
use Rattle.rv_select.specs.Select.{procs_items, select_items, registers_of}
use Rattle.rv_select.specs.Sizes.{AreSmall}
use Rattle.rv_select.proofs.selection.select.Given as goal

-- what is done, and what the procedures left give, are all
abbrev pub invariant-loop-number : goal.invariant-loop-number
invariant-loop-number l =
    (l.items ++ procs_items l.number l.registers l.marks (procs_of (drop l.number l.fn.low.procs))
    ≡ select_items l.fn.low.entry (procs_of l.fn.low.procs))
    × (l.registers + registers_of (procs_of (drop l.number l.fn.low.procs)) ≡ registers_of (procs_of l.fn.low.procs))
    × AreSmall (procs_of (drop l.number l.fn.low.procs))

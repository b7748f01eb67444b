use Rattle.std.proofs.Common.{◌≡◌, ◌+◌, ◌++◌, ◌≤◌}
use Rattle.low_ir.specs.declared.code.LowCode.{size-LowCode}
use Rattle.low_ir.specs.Views.{code_of}
use Rattle.rv_select.specs.Sizes.{HasSmallNumbers}
use Rattle.rv_select.specs.Select.{code_items, marks_in}
use Rattle.rv_select.proofs.selection.+put_code.Given as goal

-- what is done, and what the rest gives, are all
abbrev pub invariant-loop-left : goal.invariant-loop-left
invariant-loop-left l =
    (l.items ++ code_items l.first l.out l.marks (code_of l.left)
    ≡ l.fn.items ++ code_items l.first l.out l.fn.marks (code_of l.fn.code))
    × (l.marks + marks_in (code_of l.left) ≡ l.fn.marks + marks_in (code_of l.fn.code))
    × HasSmallNumbers (code_of l.left)
    × (size-LowCode l.left ≤ size-LowCode l.fn.code)

abbrev pub decreases-loop-left : goal.decreases-loop-left
decreases-loop-left l = size-LowCode l.left

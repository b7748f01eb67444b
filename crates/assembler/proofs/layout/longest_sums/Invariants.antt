use Rattle.std.proofs.Common.{◌≡◌, ◌≤◌, ◌*◌, take}
use Rattle.std.specs.Prelude.{sum}
use Rattle.assembler.specs.Layout.{longest_widths}
use Rattle.assembler.specs.Tables.{HoldsSums}
use Rattle.assembler.proofs.layout.longest_sums.Given as goal

-- the sums for the items before this one
abbrev pub invariant-loop-item : goal.invariant-loop-item
invariant-loop-item l =
    HoldsSums l.sums (longest_widths (take l.item-index l.items))
    × (l.before ≡ sum (longest_widths (take l.item-index l.items)))
    × (l.before ≤ 11 * l.item-index)

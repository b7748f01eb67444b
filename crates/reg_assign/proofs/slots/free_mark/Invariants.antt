use Rattle.std.proofs.Common.{◌≡◌, drop}
use Rattle.rv_select.specs.Marks.{marks}
use Rattle.placed_code.specs.Slotted.{above}
use Rattle.reg_assign.proofs.slots.free_mark.Given as goal

-- above the marks that are left is above all
abbrev pub invariant-loop-item : goal.invariant-loop-item
invariant-loop-item l = above l.least (marks (drop l.item-index l.items)) ≡ above 0 (marks l.items)

use Rattle.std.proofs.Common.{◌≡◌, ◌++◌, true, drop}
use Rattle.rv_select.specs.Fitting.{each_fits}
use Rattle.placed_code.specs.Slots.{expand_all}
use Rattle.placed_code.specs.Slotted.{EachHasFew}
use Rattle.reg_assign.proofs.slots.put_items.Given as goal

-- what is done, and what the items left become, are all; each procedure before has few registers
abbrev pub invariant-loop-item : goal.invariant-loop-item
invariant-loop-item l =
    (l.real ++ expand_all l.out l.first l.count (drop l.item-index l.items)
    ≡ l.fn.real ++ expand_all l.out 0 0 l.items)
    × (each_fits (drop l.item-index l.items) ≡ true)
    × (EachHasFew (drop l.item-index l.items) → EachHasFew l.items)

use Rattle.std.proofs.Common.{◌≡◌, ◌≤◌, ◌*◌, take}
use Rattle.std.specs.Prelude.{sum}
use Rattle.assembler.specs.Layout.{longest_widths, widths_from}
use Rattle.assembler.specs.Tables.{HoldsSums}
use Rattle.assembler.proofs.layout.chosen_sums.Given as goal

-- the sums for the items before this place
abbrev pub invariant-loop-place : goal.invariant-loop-place
invariant-loop-place l =
    HoldsSums l.sums (widths_from (longest_widths l.items) l.items l.reach.start 0 (take l.place l.items))
    × (l.before ≡ sum (widths_from (longest_widths l.items) l.items l.reach.start 0 (take l.place l.items)))
    × (l.before ≤ 11 * l.place)

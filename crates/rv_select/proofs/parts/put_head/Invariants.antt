use Rattle.std.proofs.Common.{◌≡◌, ◌++◌}
use Rattle.rv_select.specs.Select.{params_items}
use Rattle.rv_select.proofs.parts.put_head.Given as goal

-- the items of the parameters so far
abbrev pub invariant-loop-i : goal.invariant-loop-i
invariant-loop-i l = l.items ≡ l.initial.items ++ params_items l.first 0 l.i

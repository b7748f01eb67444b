use Rattle.std.proofs.Common.{◌≡◌, ◌++◌, take}
use Rattle.rv_select.specs.Select.{args_items}
use Rattle.rv_select.proofs.parts.put_args.Given as goal

-- the items of the words so far
abbrev pub invariant-loop-i : goal.invariant-loop-i
invariant-loop-i l = l.items ≡ l.fn.items ++ args_items l.first 0 (take l.i l.fn.args)

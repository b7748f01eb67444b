use Rattle.std.proofs.Common.{◌≡◌, ◌++◌}
use Rattle.grift_gen.specs.Family.{calls_line, lines_below}
use Rattle.grift_gen.proofs.write_calls.Given as goal

abbrev pub invariant-loop-i : goal.invariant-loop-i
invariant-loop-i l = l.text ≡ l.initial.text ++ lines_below calls_line l.i

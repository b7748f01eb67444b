use Rattle.std.proofs.Common.{◌≡◌, ◌++◌}
use Rattle.grift_gen.specs.Family.{function_line, lines_below}
use Rattle.grift_gen.proofs.write_functions.Given as goal

abbrev pub invariant-loop-i : goal.invariant-loop-i
invariant-loop-i l = l.text ≡ l.initial.text ++ lines_below function_line l.i

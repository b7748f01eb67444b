use Rattle.std.proofs.Common.{◌≡◌, ◌++◌, replicate}
use Rattle.machine_tests.proofs.Across.{filler}
use Rattle.machine_tests.proofs.tests.assembled.put_fillers.Given as goal

abbrev pub invariant-loop : goal.invariant-loop
invariant-loop l = l.items ≡ l.fn.items ++ replicate l.counter filler

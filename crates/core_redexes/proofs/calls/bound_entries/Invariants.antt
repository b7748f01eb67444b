use Rattle.std.proofs.Common.{◌≡◌, ◌++◌}
use Rattle.core_calc.specs.Views.{bindings_of}
use Rattle.core_terms.specs.Entries.{entries_of}
use Rattle.core_redexes.specs.Taken.{taken_bindings}
use Rattle.core_redexes.proofs.calls.bound_entries.Given as goal

abbrev pub invariant-loop-left : goal.invariant-loop-left
invariant-loop-left l =
    entries_of l.entries.items ++ taken_bindings (bindings_of l.left) ≡ taken_bindings (bindings_of l.bindings)

use Rattle.std.proofs.Common.{◌≡◌, ◌++◌}
use Rattle.core_calc.specs.Views.{names_of, terms_of}
use Rattle.core_terms.specs.Entries.{entries_of}
use Rattle.core_redexes.specs.Taken.{taken_arguments}
use Rattle.core_redexes.proofs.calls.argument_entries.Given as goal

abbrev pub invariant-loop-left : goal.invariant-loop-left
invariant-loop-left l =
    entries_of l.entries.items ++ taken_arguments (names_of l.names) (terms_of l.left)
    ≡ taken_arguments (names_of l.fn.names) (terms_of l.arguments)

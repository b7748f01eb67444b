use Rattle.std.proofs.Common.{◌≡◌, drop}
use Rattle.core_calc.specs.Views.{names_of}
use Rattle.core_calc.specs.TypeOf.{with_names}
use Rattle.core_calc.proofs.scopes.Names.add_all.Given as goal

-- the names that are left are still to be added
abbrev pub invariant-loop-name : goal.invariant-loop-name
invariant-loop-name l =
    with_names l.self (names_of (drop l.name-index l.names)) ≡ with_names l.fn.self (names_of l.names)

use Rattle.std.proofs.Common.{◌≡◌, drop}
use Rattle.core_calc.specs.TypeOf.{context_of, with_bound}
use Rattle.core_calc.proofs.scopes.Scope.bind_all.Given as goal

-- the names that are left are still to be bound
abbrev pub invariant-loop-name : goal.invariant-loop-name
invariant-loop-name l =
    with_bound l.self (context_of (drop l.name-index l.bound)) ≡ with_bound l.fn.self (context_of l.bound)

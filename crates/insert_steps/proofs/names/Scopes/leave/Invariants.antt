use Rattle.std.proofs.Common.{◌≡◌}
use Rattle.std.specs.Prelude.{drop}
use Rattle.insert_steps.proofs.names.Scopes.leave.Given as goal

-- so many names are off
abbrev pub invariant-loop-taken : goal.invariant-loop-taken
invariant-loop-taken l = l.self ≡ drop l._taken l.fn.self

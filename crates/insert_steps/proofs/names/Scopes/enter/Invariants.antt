use Rattle.std.proofs.Common.{◌≡◌}
use Rattle.std.specs.Prelude.{take}
use Rattle.cast_rules.specs.Environments.{with_names}
use Rattle.insert_steps.specs.Scoped.{env_of}
use Rattle.insert_steps.proofs.names.Scopes.enter.Given as goal

-- the names so far stand in front
abbrev pub invariant-loop-named : goal.invariant-loop-named
invariant-loop-named l = l.self ≡ with_names (env_of (take l.named-index l.names)) l.fn.self

use Rattle.std.proofs.Common.{◌≡◌}
use Rattle.std.specs.Prelude.{take}
use Rattle.core_calc.specs.Views.{names_of}
use Rattle.cast_rules.specs.Environments.{variables}
use Rattle.insert_steps.specs.Scoped.{env_of}
use Rattle.insert_steps.proofs.parameters.variables_of.Given as goal

-- the variables of the names so far
abbrev pub invariant-loop-named : goal.invariant-loop-named
invariant-loop-named l = names_of l.ids ≡ variables (env_of (take l.named-index l.names))

use Rattle.std.proofs.Common.{length}
use Rattle.insert_steps.proofs.parameters.+bind_names.Given as goal

abbrev pub decreases-bind_names : goal.decreases-bind_names
decreases-bind_names l = length l.params.now

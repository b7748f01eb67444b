use Rattle.rv_machine.specs.Start.{start_of, fresh_world}
use Rattle.rv_machine.proofs.Runs.{run_is_its_turns-states}
use Rattle.rv_machine.proofs.run_is_its_turns.Goals as goal

pub returns-clause-states : goal.returns-clause-states
returns-clause-states c s n = run_is_its_turns-states n s

pub returns-clause-images : goal.returns-clause-images
returns-clause-images c bytes region stack input n =
    run_is_its_turns-states n (start_of bytes region stack (fresh_world input))

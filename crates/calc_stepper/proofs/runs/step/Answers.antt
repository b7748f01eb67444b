use Rattle.std.proofs.Common.{ap}
use Rattle.std.specs.Prelude.{option_map}
use Rattle.core_calc.specs.States.{end_of, store_of}
use Rattle.core_calc.specs.Views.{term_of}
use Rattle.calc_stepper.proofs.Running.{step_made}
use Rattle.calc_stepper.proofs.runs.step.Goals as goal

pub returns-clause-moves : goal.returns-clause-moves
returns-clause-moves c = λ labels.
    step_made c.args.types.now labels (term_of c.args.state.now.term) (store_of c.args.state.now.store)
    c.args.state.now.world (option_map end_of c.args.state.now.ended)
    (record {
      moved = c.in_ok-moved.moved;
      item = term_of c.step_term.new.term;
      store = store_of c.step_term.new.store;
      world = c.step_term.new.world;
    })
    (option_map end_of c.end_after-state.result) (ap (option_map end_of) c.in_default.is) c.in_ok-moved.ensures.moves
    c.end_after-state.ensures

use Rattle.insert_steps.proofs.Onto.{turned_onto}
use Rattle.core_calc.specs.Views.{terms_of}
use Rattle.insert_steps.proofs.joining.turned.Goals as goal

pub returns : goal.returns
returns c = turned_onto (terms_of c.args.terms) (terms_of c.reversed.result) c.reversed.ensures

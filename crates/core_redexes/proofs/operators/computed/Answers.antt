use Rattle.std.proofs.Common.{ap}
use Rattle.std.specs.Int.{w64}
use Rattle.std.specs.Int.RustNames.{FitsSigned}
use Rattle.std.proofs.lemmas.Int.{to_z-of_z}
use Rattle.std.proofs.Common.{rules}
use Rattle.core_calc.specs.Views.{value_of}
use Rattle.core_redexes.proofs.OperatorTurns.{values_passed}
use Rattle.core_redexes.proofs.operators.computed.Goals as goal

pub returns : goal.returns
returns c =
    let f : FitsSigned w64 c.in-Int.a = search rules in
    let g : FitsSigned w64 c.in-Int-second.b = search rules in
    values_passed c.args.operator (value_of c.args.first.now) (value_of c.args.second.now) c.in-Int.a _
    c.in-Int-second.b _ c.on_integers.result (ap value_of c.in-Int.is) (ap value_of c.in-Int-second.is)
    (to_z-of_z w64 c.in-Int.a f) (to_z-of_z w64 c.in-Int-second.b g) c.on_integers.ensures

use Rattle.std.proofs.Common.{ap, rules}
use Rattle.std.specs.Int.{w64}
use Rattle.std.specs.Int.RustNames.{FitsSigned}
use Rattle.std.proofs.lemmas.Int.{to_z-of_z}
use Rattle.core_calc.specs.States.{store_of}
use Rattle.core_calc.specs.Views.{value_of}
use Rattle.core_redexes.proofs.OperatorCells.{vector_made}
use Rattle.core_redexes.proofs.OperatorTurns.{leads_too, onward}
use Rattle.core_redexes.proofs.operators.make_vector.Goals as goal

pub returns-clause-ok : goal.returns-clause-ok
returns-clause-ok c =
    let f : FitsSigned w64 c.in-Int.n = search rules in
    onward c.new_cell.result c.new_cell.ensures.ok (λ turn h types world. leads_too _ _ _ world turn _ world
    (vector_made types (store_of c.args.store.now) world (value_of c.args.size.now) (value_of c.args.v.now) c.in-Int.n _
    _ (ap value_of c.in-Int.is) (to_z-of_z w64 c.in-Int.n f) c.if-n-lt0.false c.in_ok-cell.ensures) (h types world))

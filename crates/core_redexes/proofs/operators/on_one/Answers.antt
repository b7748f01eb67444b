use Rattle.std.proofs.Common.{List, false, ap, sym}
use Rattle.core_calc.specs.Operators.{new_cell}
use Rattle.core_calc.specs.States.{store_of}
use Rattle.core_calc.specs.Terms.{Value}
use Rattle.core_redexes.proofs.OperatorTurns.{leads_too, onward}
use Rattle.core_redexes.proofs.operators.on_one.Goals as goal

pub returns-in-Not-clause-ok : goal.returns-in-Not-clause-ok
returns-in-Not-clause-ok c = λ old.
    rw c.in-Not.is (c.negated.ensures c.args.types.now (store_of c.args.store.now) c.args.world.now old)

pub returns-in-PrintInt-clause-ok : goal.returns-in-PrintInt-clause-ok
returns-in-PrintInt-clause-ok c =
    rw c.in-PrintInt.is (onward c.print_int.result c.print_int.ensures.ok
    (λ turn h. h c.args.types.now (store_of c.args.store.now)))

pub returns-in_ok-cell-in-MakeBox-clause-ok : goal.returns-in_ok-cell-in-MakeBox-clause-ok
returns-in_ok-cell-in-MakeBox-clause-ok c =
    let types = c.args.types.now in let store = store_of c.args.store.now in let world = c.args.world.now in
    rw c.in-MakeBox.is (onward c.new_cell.result c.new_cell.ensures.ok (λ turn h.
    leads_too _ _ store world turn (store_of c.new_cell.new.store) world
    (ap (λ (values : List Value). new_cell types store world values false) (sym c.in_ok-cell-in-MakeBox.ensures))
    (h types world)))

pub returns-in-VectorLength-clause-ok : goal.returns-in-VectorLength-clause-ok
returns-in-VectorLength-clause-ok c =
    rw c.in-VectorLength.is (onward c.vector_length.result c.vector_length.ensures
    (λ turn h. h c.args.types.now c.args.world.now))

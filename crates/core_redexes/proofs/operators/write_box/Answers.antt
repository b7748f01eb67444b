use Rattle.std.proofs.Common.{map, arith}
use Rattle.core_calc.specs.States.{store_of}
use Rattle.core_calc.specs.Views.{value_of}
use Rattle.core_redexes.proofs.OperatorCells.{box_written, written_cell}
use Rattle.core_redexes.proofs.operators.write_box.Goals as goal

pub returns-clause-ok : goal.returns-clause-ok
returns-clause-ok c = λ types world old.
    box_written types (store_of c.args.store.now) world old c.args.cell _ _ (omega (arith, c.len.ensures))
    (written_cell (λ cell. map value_of cell.items) c.args.store.now.cells.items c.args.cell c.in_ok-values.values _
    c.in_ok-values.ensures)

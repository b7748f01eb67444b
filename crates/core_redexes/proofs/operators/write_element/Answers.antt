use Rattle.std.proofs.Common.{map}
use Rattle.std.proofs.lemmas.List.{map-set}
use Rattle.core_calc.specs.Views.{value_of}
use Rattle.core_redexes.proofs.OperatorCells.{written_place}
use Rattle.core_redexes.proofs.operators.write_element.Goals as goal

pub returns : goal.returns
returns c =
    written_place (λ cell. map value_of cell.items) c.args.store.now.cells.items c.args.cell
    c.index_mut-elements.result.now _ c.args.place (value_of c.args.v) c.requires.cell_in
    c.index_mut-elements.ensures.value
    (map-set value_of c.index_mut-elements.result.now.items c.args.place c.args.v)

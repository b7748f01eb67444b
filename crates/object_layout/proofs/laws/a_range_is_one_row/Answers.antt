use Rattle.object_layout.proofs.Rows.{a_range_is_one_row}
use Rattle.object_layout.proofs.laws.a_range_is_one_row.Goals as goal

pub returns : goal.returns
returns c = λ memory area from to headers others row other.
    a_range_is_one_row memory area to to from to headers others row other

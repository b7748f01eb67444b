use Rattle.object_layout.proofs.Changes.{a_row_stays_past_its_end}
use Rattle.object_layout.proofs.laws.a_row_stays_past_its_end.Goals as goal

pub returns : goal.returns
returns c = λ memory other area from to headers same row.
    a_row_stays_past_its_end memory other area to same from headers row

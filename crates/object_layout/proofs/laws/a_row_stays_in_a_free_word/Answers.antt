use Rattle.object_layout.proofs.Changes.{a_row_stays_in_a_free_word-row, a_row_stays_in_a_free_word-points}
use Rattle.object_layout.proofs.laws.a_row_stays_in_a_free_word.Goals as goal

pub returns-clause-row : goal.returns-clause-row
returns-clause-row c = λ memory other area from to word headers free same points row.
    a_row_stays_in_a_free_word-row memory other area from headers to word free same points row

pub returns-clause-points : goal.returns-clause-points
returns-clause-points c = λ memory other area from to word headers free same points row.
    a_row_stays_in_a_free_word-points memory other area from headers to word free same points row

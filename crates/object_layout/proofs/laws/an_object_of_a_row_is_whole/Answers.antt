use Rattle.object_layout.proofs.Changes.{an_object_of_a_row_is_whole}
use Rattle.object_layout.proofs.laws.an_object_of_a_row_is_whole.Goals as goal

pub returns : goal.returns
returns c = λ memory area from to place at headers header row there.
    an_object_of_a_row_is_whole memory area to from headers to place at header row there

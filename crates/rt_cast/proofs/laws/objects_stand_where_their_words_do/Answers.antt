use Rattle.rt_cast.proofs.Objects.{objects_stand_where_their_words_do}
use Rattle.rt_cast.proofs.laws.objects_stand_where_their_words_do.Goals as goal

pub returns : goal.returns
returns c = λ m at objects h. objects_stand_where_their_words_do m at objects h

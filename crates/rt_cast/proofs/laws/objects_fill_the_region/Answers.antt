use Rattle.rt_cast.proofs.WholeRows.{objects_fill_the_region}
use Rattle.rt_cast.proofs.laws.objects_fill_the_region.Goals as goal

pub returns : goal.returns
returns c = λ setting l objects h placed types low filled.
    objects_fill_the_region setting l objects h placed types low filled

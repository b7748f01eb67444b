use Rattle.rt_cast.proofs.ProjectReaching.{parts_in_dyn_are_answered}
use Rattle.rt_cast.proofs.laws.parts_in_dyn_are_answered.Goals as goal

pub returns : goal.returns
returns g c = λ reading setting l first s exhausts ready low objects filled head parts have u r wv k label e some hv.
    parts_in_dyn_are_answered reading setting l first s exhausts ready low objects filled head parts have u r wv k label
    e some hv

use Rattle.rt_cast.proofs.ClosedForms.{bounds_have_closed_forms-words, bounds_have_closed_forms-prices}
use Rattle.rt_cast.proofs.laws.bounds_have_closed_forms.Goals as goal

pub returns-clause-words : goal.returns-clause-words
returns-clause-words c = λ w h le. bounds_have_closed_forms-words w h le

pub returns-clause-prices : goal.returns-clause-prices
returns-clause-prices c = λ w h le. bounds_have_closed_forms-prices w h le

use Rattle.consistency.proofs.FormedBlends.{blend_forms}
use Rattle.consistency.proofs.laws.blends_are_formed.Goals as goal

pub returns : goal.returns
returns c = λ types a b table one two h. blend_forms types a b table one two h

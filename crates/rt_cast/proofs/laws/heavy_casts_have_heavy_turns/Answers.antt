use Rattle.rt_cast.proofs.HeavyTurns.{heavy_unless_light}
use Rattle.rt_cast.proofs.laws.heavy_casts_have_heavy_turns.Goals as goal

pub returns : goal.returns
returns c = λ head types d normal u some heavy. heavy_unless_light head types d normal u some heavy

use Rattle.core_redexes.proofs.DynPlace.{dyn_looked_up}
use Rattle.core_redexes.proofs.forms.dyn_type.Goals as goal

pub returns : goal.returns
returns c = dyn_looked_up c.args.types.now c.place_of.result c.len.ensures.table c.place_of.ensures.found
    c.place_of.ensures.absent

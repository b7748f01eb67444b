use Rattle.assembler.proofs.Distances.{item_fits}
use Rattle.assembler.proofs.assembly.put_at.Goals as goal

pub put_item-requires-clause-fits : goal.put_item-requires-clause-fits
put_item-requires-clause-fits c =
    rw (c.is_near-near.ensures, c.address_of-here.ensures.value, c.target_of-target.ensures.value)
    (item_fits c.args.items.now c.args.layout.now.reach.start c.args.place c.args.item.now)

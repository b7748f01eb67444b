use Rattle.coer_core.proofs.FreshRows.{goes_last}
use Rattle.coer_core.proofs.rows.add.Goals as goal

pub returns : goal.returns
returns c =
    goes_last c.args.rows.now c.args.row c.intern.new.self c.requires (c.in_ok-intern.ensures.interned)

use Rattle.std.proofs.Common.{◌∙◌, ap, length}
use Rattle.std.specs.Prelude.{unwrap_or}
use Rattle.placed_code.proofs.Public.{place_is}
use Rattle.reg_assign.proofs.apply.index_in.Goals as goal

pub returns-in-Some : goal.returns-in-Some
returns-in-Some c =
    ap (λ o. unwrap_or o (length c.args.slots.now.keys)) c.in-Some.ensures.index
    ∙ place_is c.args.slot c.args.slots.now.keys

pub returns-in-None : goal.returns-in-None
returns-in-None c =
    c.len.ensures.len
    ∙ (ap (λ o. unwrap_or o (length c.args.slots.now.keys)) c.in-None.ensures.index
    ∙ place_is c.args.slot c.args.slots.now.keys)

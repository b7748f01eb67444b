use Rattle.std.proofs.Common.{rules, ◌≡◌}
use Rattle.placed_code.specs.Slots.{slots_items}
use Rattle.placed_code.specs.Slotted.{free_mark, EachHasFew}
use Rattle.placed_code.proofs.Public.{is_slots}
use Rattle.reg_assign.proofs.slots.slots.Goals as goal

pub returns : goal.returns
returns c =
    let few : EachHasFew c.args.code.now.items = search rules in
    let out = free_mark c.args.code.now.items in
    let same : c.put_final.new.items ≡ slots_items out c.args.code.now.items = search rules in
    is_slots c.args.code.now.items c.put_final.new.items few same

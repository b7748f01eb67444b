use Rattle.std.proofs.Common.{subst, ◌++◌}
use Rattle.std.specs.Prelude.{option_to_list, bit_or}
use Rattle.rv_select.specs.declared.code.Place.TheVariants.{InReg}
use Rattle.rv_select.specs.Holding.{NoneAt}
use Rattle.placed_code.specs.Places.{place_in}
use Rattle.reg_assign.specs.Room.{Tells}
use Rattle.reg_assign.proofs.Masks.{tells_same, tells_both, none_both, none_parts}
use Rattle.reg_assign.proofs.assign.written_bits.Goals as goal

pub returns : goal.returns
returns c =
    let place = place_in c.args.places.now in
    let first = option_to_list c.writes-written.result.first in
    let second = option_to_list c.writes-written.result.second in
    let bits = bit_or c.bit_of.result c.bit_of-2.result in
    subst (λ xs. Tells (λ r. NoneAt place (InReg r) xs) bits) c.writes-written.ensures
    (tells_same (λ r. NoneAt place (InReg r) first × NoneAt place (InReg r) second)
    (λ r. NoneAt place (InReg r) (first ++ second)) bits (λ r h. none_both place (InReg r) first second h)
    (λ r h. none_parts place (InReg r) first second h)
    (tells_both (λ r. NoneAt place (InReg r) first) (λ r. NoneAt place (InReg r) second) c.bit_of.result
    c.bit_of-2.result c.bit_of.ensures c.bit_of-2.ensures))
